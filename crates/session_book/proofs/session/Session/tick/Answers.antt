use Rattle.std.proofs.Common.{◌≡◌, true, sym, ◌∙◌, subst}
use Rattle.std.specs.Prelude.{Result, Ok, Err, OnOk}
use Rattle.code_event.specs.declared.path.PathPair.{PathPair}
use Rattle.code_event.specs.Recording.{is_for}
use Rattle.code_event.specs.declared.tick.Tick.{Tick}
use Rattle.session_book.specs.Counter.{keeps, counted}
use Rattle.session_book.specs.Session.{path_in, Keeps, TakesTick}
use Rattle.session_book.specs.declared.session.Session.{Session}
use Rattle.session_book.proofs.Recorded.{passes_by, counts_only, keeps_too}
use Rattle.session_book.proofs.session.Session.tick.Goals as goal

pub returns-then-not-is_for-clause-taken : goal.returns-then-not-is_for-clause-taken
returns-then-not-is_for-clause-taken c = passes_by c.args.tick.now c.args.paths.now c.args.self.now (sym c.is_for.ensures ∙ c.if-not-is_for.true)

pub returns-then-not-count-clause-taken : goal.returns-then-not-count-clause-taken
returns-then-not-count-clause-taken c =
    subst (λ counter. TakesTick c.args.tick.now c.args.paths.now c.args.self.now (record c.args.self.now { counter = counter })) (sym c.count.ensures.counted)
    (counts_only c.args.tick.now c.args.paths.now c.args.self.now (sym c.is_for.ensures ∙ c.if-not-is_for.false) (sym c.count.ensures.kept ∙ c.if-not-count.true))

-- where the tick is kept and added, it is taken
on_ok : {T E : Type 0} (r : Result T E) (tick : Tick) (paths : PathPair) (old new : Session) → is_for old.id.0 tick.only ≡ true → keeps old.counter.left tick.interval ≡ true
    → OnOk r (Keeps tick (path_in old.options.mode paths) paths.leaf_line (record old { counter = counted old.counter tick.interval }) new) → OnOk r (TakesTick tick paths old new)
on_ok (Ok value) tick paths old new own kept k = keeps_too tick paths old new own kept k
on_ok (Err fault) tick paths old new own kept k = tt

pub returns-clause-taken : goal.returns-clause-taken
returns-clause-taken c =
    on_ok c.keep.result c.args.tick.now c.args.paths.now c.args.self.now c.keep.new.self (sym c.is_for.ensures ∙ c.if-not-is_for.false) (sym c.count.ensures.kept ∙ c.if-not-count.false)
    (subst (λ counter. OnOk c.keep.result (Keeps c.args.tick.now (path_in c.args.self.now.options.mode c.args.paths.now) c.args.paths.now.leaf_line (record c.args.self.now { counter = counter }) c.keep.new.self))
    c.count.ensures.counted
    (subst (λ path. OnOk c.keep.result (Keeps c.args.tick.now path c.args.paths.now.leaf_line (record c.args.self.now { counter = c.count.new.self }) c.keep.new.self)) c.path_in-path.ensures c.keep.ensures.kept))
