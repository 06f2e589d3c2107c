-- That a step raises events of code alone: each change creates, moves or frees code, or says why it is not optimised.
use Rattle.std.proofs.Common.{ℕ, List, [], ◌∷◌, ◌++◌, map, sym, subst}
use Rattle.std.specs.Prelude.{Bool, true, false, not, ◌&&◌, ◌||◌, Option, Some, None, option_to_list, nat_lt, reverse, codes}
use Rattle.std.specs.List.{AllByRecursion}
use Rattle.prof_base.specs.declared.ids.FuncId.{FuncId}
use Rattle.guest_program.specs.declared.instr.Op.{Op}
use Rattle.guest_program.specs.declared.instr.Op.TheVariants as op
use Rattle.code_event.specs.declared.event.CodeEvent.{CodeEvent}
use Rattle.code_event.specs.declared.event.CodeEvent.TheVariants.{Create, Move, NoOpt, Deopt, Delete, Start, Stop, Finish}
use Rattle.code_event.specs.declared.layout.TheConstants.Layout.{MAX_SLOTS}
use Rattle.code_objects.specs.Changes.{IsCreation, MakesSure, move_event}
use Rattle.code_objects.specs.CodeObjects.{CodeParts, optimised_name, plain_name}
use Rattle.code_objects.specs.declared.name.CodeName.{CodeName}
use Rattle.code_space.specs.declared.range.CodeMove.{CodeMove}
use Rattle.code_space.specs.Compaction.{compacted, moves_between}
use Rattle.code_space.specs.declared.range.TheConstants.{FIRST_ADDRESS}
use Rattle.plain_machine.specs.PlainMachine.{Code, State, code_at, is_js, step}
use Rattle.guest_stack.specs.Stack.{all_given_up}
use Rattle.guest_stack.specs.declared.stack.CodeFrame.{CodeFrame}
use Rattle.guest_machine.specs.Rules.{AreSure, Becomes, Calls, Change, Choice, Deopts, Disables, Does, Drops, EndsOrDoes, GivesUp, IsCompacted, IsCreated, IsFreed, IsGivenUp, IsNotOptimised, IsSure, KeepsRules, Opens, Optimises, Then, Unchanged, WaitsOrActs, code_called, gone_to, has_code, is_any_in}
use Rattle.guest_machine.specs.declared.machine.Machine.{Machine}
use Rattle.raised_so_far.specs.ItemsSoFar.{IsCodeEvent}

-- all events are of code
abbrev AreOfCode : List CodeEvent → Type 0
AreOfCode events = AllByRecursion IsCodeEvent events

-- a change raises events of code alone
abbrev RaisesCode : Change → Type 0
RaisesCode change = (old new : CodeParts) (events : List CodeEvent) → change old new events → AreOfCode events

-- ---- lists of events

both_of_code : (events more : List CodeEvent) → AreOfCode events → AreOfCode more → AreOfCode (events ++ more)
both_of_code [] more all all_more = all_more
both_of_code (event ∷ events) more all all_more = (all.0, both_of_code events more all.1 all_more)

-- an event is of code where it is impossible that it is not
one_by_contradiction : (event : CodeEvent) → ((IsCodeEvent event → ⊥) → ⊥) → IsCodeEvent event
one_by_contradiction (Create start layout) never = tt
one_by_contradiction (Move from to) never = tt
one_by_contradiction (NoOpt start reason) never = tt
one_by_contradiction (Deopt start reason) never = tt
one_by_contradiction (Delete start) never = tt
one_by_contradiction (Start session options time) never = absurd (never (λ is. is))
one_by_contradiction (Stop session time) never = absurd (never (λ is. is))
one_by_contradiction (Finish time files) never = absurd (never (λ is. is))

all_by_contradiction : (events : List CodeEvent) → ((AreOfCode events → ⊥) → ⊥) → AreOfCode events
all_by_contradiction [] never = tt
all_by_contradiction (event ∷ events) never =
    (one_by_contradiction event (λ no. never (λ all. no all.0)), all_by_contradiction events (λ no. never (λ all. no all.1)))

moves_of_code : (moves : List CodeMove) → AreOfCode (map move_event moves)
moves_of_code [] = tt
moves_of_code (move ∷ moves) = (tt, moves_of_code moves)

-- ---- the parts of an operation

unchanged_of_code : RaisesCode Unchanged
unchanged_of_code old new events is = subst AreOfCode (sym is.1) tt

then_of_code : (one other : Change) → RaisesCode one → RaisesCode other → RaisesCode (Then one other)
then_of_code one other first after old new events is =
    subst AreOfCode (sym is.raised)
    (both_of_code is.raised_first is.raised_then (first old is.between is.raised_first is.first) (after is.between new is.raised_then is.after))

choice_of_code : (b : Bool) (one other : Change) → RaisesCode one → RaisesCode other → RaisesCode (Choice b one other)
choice_of_code true one other first second = first
choice_of_code false one other first second = second

creation_of_code : (old new : CodeParts) (name : CodeName) (event : CodeEvent) → IsCreation old new name event → IsCodeEvent event
creation_of_code old new name event creation = subst IsCodeEvent (sym creation.event_is) tt

made_of_code : (old new : CodeParts) (name : CodeName) (event : Option CodeEvent) → MakesSure old new name event → AreOfCode (option_to_list event)
made_of_code old new name None sure = tt
made_of_code old new name (Some event) creation = (creation_of_code old new name event creation, tt)

sure_of_code : (name : CodeName) → RaisesCode (IsSure name)
sure_of_code name old new events is = subst AreOfCode (sym is.raised) (made_of_code old new name is.event is.sure)

are_sure_of_code : (names : List CodeName) → RaisesCode (AreSure names)
are_sure_of_code [] = unchanged_of_code
are_sure_of_code (name ∷ names) = then_of_code (IsSure name) (AreSure names) (sure_of_code name) (are_sure_of_code names)

created_of_code : (name : CodeName) → RaisesCode (IsCreated name)
created_of_code name old new events is = subst AreOfCode (sym is.raised) (creation_of_code old new name is.event is.creation, tt)

freed_of_code : (name : CodeName) → RaisesCode (IsFreed name)
freed_of_code name old new events is = subst AreOfCode (sym is.raised) (subst IsCodeEvent (sym is.deletion.event_is) tt, tt)

compacted_of_code : RaisesCode IsCompacted
compacted_of_code old new events is = subst AreOfCode (sym is.raised) (moves_of_code (moves_between old.space (compacted FIRST_ADDRESS old.space)))

not_optimised_of_code : (func : FuncId) (reason : List ℕ) → RaisesCode (IsNotOptimised func reason)
not_optimised_of_code func reason old new events is = subst AreOfCode (sym is.raised) (tt, tt)

given_up_of_code : (func : FuncId) (reason : List ℕ) → RaisesCode (IsGivenUp func reason)
given_up_of_code func reason old new events is = subst AreOfCode (sym is.raised) (tt, tt)

-- ---- the operations

disables_of_code : (func : FuncId) (reason : List ℕ) → RaisesCode (Disables func reason)
disables_of_code func reason =
    then_of_code (IsSure (plain_name func)) (IsNotOptimised func reason) (sure_of_code (plain_name func)) (not_optimised_of_code func reason)

optimises_of_code : (func : FuncId) (code : Code) (size : ℕ) → RaisesCode (Optimises func code size)
optimises_of_code func code size =
    let barred : Change = Disables func (codes "too large") in
    let made : Change = Then (IsSure (plain_name func)) (IsCreated (optimised_name func)) in
    choice_of_code (code.optimised || code.disabled) Unchanged (Choice (nat_lt MAX_SLOTS size) barred made) unchanged_of_code
    (choice_of_code (nat_lt MAX_SLOTS size) barred made (disables_of_code func (codes "too large"))
    (then_of_code (IsSure (plain_name func)) (IsCreated (optimised_name func)) (sure_of_code (plain_name func)) (created_of_code (optimised_name func))))

gives_up_of_code : (func : FuncId) (reason : List ℕ) (frames : List CodeFrame) → RaisesCode (GivesUp func reason frames)
gives_up_of_code func reason frames =
    let names : List CodeName = map (λ (frame : CodeFrame). frame.code) (reverse frames) in
    then_of_code (IsGivenUp func reason) (Then (AreSure names) (IsFreed (optimised_name func))) (given_up_of_code func reason)
    (then_of_code (AreSure names) (IsFreed (optimised_name func)) (are_sure_of_code names) (freed_of_code (optimised_name func)))

drops_of_code : (func : FuncId) (frames : List CodeFrame) → RaisesCode (Drops func frames)
drops_of_code func frames old =
    choice_of_code (has_code old (plain_name func) && not (is_any_in frames (plain_name func))) (IsFreed (plain_name func)) Unchanged (freed_of_code (plain_name func)) unchanged_of_code old

-- ---- steps

becomes_of_code : (change : Change) (after : List CodeFrame) (old new : Machine) (events : List CodeEvent) → RaisesCode change → Becomes change after old new events → AreOfCode events
becomes_of_code change after old new events of_code is = of_code old.code new.code events is.code

-- a call raises events of code alone, whether or not the function was inlined
calls_of_code : (func : FuncId) (old new : Machine) (events : List CodeEvent) → Calls func old new events → AreOfCode events
calls_of_code func old new events calls =
    all_by_contradiction events (λ no.
    no (sure_of_code (code_called old.code func) old.code new.code events (calls.out (λ unit inlined. no (unchanged_of_code old.code new.code events (calls.within unit inlined).code))).code))

deopts_of_code : (b : Bool) (func : FuncId) (reason : List ℕ) (frames : List CodeFrame) (old new : Machine) (events : List CodeEvent) → Deopts b func reason frames old new events → AreOfCode events
deopts_of_code true func reason frames old new events is = gives_up_of_code func reason (all_given_up old.code.funcs func.0 frames) old.code new.code events is.code
deopts_of_code false func reason frames old new events is = unchanged_of_code old.code new.code events is.code

does_of_code : (state : State) (index : ℕ) (operation : Op) (old new : Machine) (events : List CodeEvent) → Does state index operation old new events → AreOfCode events
does_of_code state index (op.Call func) old new events is = calls_of_code func old new events is
does_of_code state index (op.Opt func) old new events is = optimises_of_code func (code_at state func.0) _ old.code new.code events is.code
does_of_code state index (op.NoOpt func reason) old new events is = disables_of_code func reason old.code new.code events is.code
does_of_code state index (op.Deopt func reason) old new events is = deopts_of_code (code_at state func.0).optimised func reason (gone_to index old) old new events is
does_of_code state index (op.Drop func) old new events is = drops_of_code func (gone_to index old) old.code new.code events is.code
does_of_code state index op.Gc old new events is = compacted_of_code old.code new.code events is.code
does_of_code state index other old new events is = unchanged_of_code old.code new.code events is.code

ends_or_does_of_code : (b : Bool) (before after : State) (operation : Op) (old new : Machine) (events : List CodeEvent) → EndsOrDoes b before after operation old new events → AreOfCode events
ends_or_does_of_code true before after operation old new events is = unchanged_of_code old.code new.code events is.code
ends_or_does_of_code false before after operation old new events is = does_of_code before _ operation old new events is

waits_or_acts_of_code : (b : Bool) (state : State) (old new : Machine) (events : List CodeEvent) → WaitsOrActs b state old new events → AreOfCode events
waits_or_acts_of_code true state old new events is = ends_or_does_of_code _ state (step old.code.funcs state) _ old new events is
waits_or_acts_of_code false state old new events is = unchanged_of_code old.code new.code events is.code

-- a step raises events of code alone
pub step_of_code : (state : State) (old new : Machine) (events : List CodeEvent) → KeepsRules state old new events → AllByRecursion IsCodeEvent events
step_of_code state old new events = waits_or_acts_of_code (is_js state.state) state old new events

-- so does a machine that opens
pub opens_of_code : (machine : Machine) (event : CodeEvent) → Opens machine event → IsCodeEvent event
opens_of_code machine event opens = (sure_of_code _ opens.before machine.code (event ∷ []) opens.code).0
