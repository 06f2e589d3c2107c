-- How a turn goes on: by which acts, and to which answer.
use Rattle.std.proofs.Common.{◌≡◌, ℕ, suc, ◌+◌, ◌<◌, List, [], ◌∷◌, ◌++◌, length, Bool, true, false, refl, ap, sym, subst, ◌∙◌, arith}
use Rattle.std.proofs.lemmas.Bool.Decides.{nat_tests}
use Rattle.std.proofs.lemmas.List.{append_assoc}
use Rattle.std.proofs.lemmas.List.Sums.{sum_by-append}
use Rattle.std.specs.Prelude.{Option, Some, None, is_none, not, ◌&&◌, ◌||◌, cond, if◌then◌else◌}
use Rattle.std.specs.List.{AllByRecursion}
use Rattle.prof_base.specs.Causes.{Rose}
use Rattle.code_event.specs.declared.event.CodeEvent.{CodeEvent}
use Rattle.code_event.specs.declared.event.CodeEvent.TheVariants as event
use Rattle.code_event.specs.declared.tick.Item.TheVariants as item
use Rattle.pipe_core.specs.Observed.{IsObserved}
use Rattle.plain_machine.specs.PlainMachine.{plain}
use Rattle.guest_machine.specs.declared.machine.Machine.{Machine}
use Rattle.run_schedule.specs.declared.schedule.EndCause.{EndCause}
use Rattle.run_schedule.specs.declared.schedule.EndCause.TheVariants as cause
use Rattle.run_schedule.specs.declared.schedule.ScheduleEntry.{ScheduleEntry}
use Rattle.run_schedule.specs.declared.schedule.What.TheVariants.{Sampled, Dropped}
use Rattle.raised_so_far.specs.ItemsSoFar.{IsCodeEvent}
use Rattle.isolate_acts.specs.Acts.{act_after, act_raises, after_short, asks, ends, ends_short, numbered, samples, steps}
use Rattle.isolate_acts.specs.Calls.{Call, asked, read, told, with_calls}
use Rattle.isolate_acts.specs.Phases.{Phase, HasRoom, IsStep, MayAct, NoneIsDue, after_end, after_ports, asking, at_port, closing, first_phase, must_end, over, sampling, stepping, unless_ended}
use Rattle.isolate_acts.specs.Progress.{Moment, Progress, entry_count, entry_now, entry_time, goes_on, is_filled, some_runs}
use Rattle.isolate_acts.specs.Sampling.{after_sample, raised_by_sample}
use Rattle.isolate_ends.proofs.Following.{acts_are_runs, runs_follow}
use Rattle.isolate_ends.proofs.Queued.{calls_twice, have_next, have_none, none_more}
use Rattle.isolate_ends.specs.Queues.{HaveMore, Shown}
use Rattle.isolate_ends.specs.Runs.{Adds, Does, DropsWhereFull, Goes, Runs, Whole, is_dropped, whole}
use Rattle.isolate_ends.specs.declared.turn.IsoTurn.{IsoTurn}
use Rattle.isolate_ends.specs.declared.turn.IsoTurn.TheVariants as turn
use Rattle.isolate_turns.proofs.CommandRuns.{no_act_runs}
use Rattle.isolate_turns.specs.Ready.{IsNow}

-- a run of acts, and the rest of the turn
pub goes_after : (before between after : Whole) (phase middle : Phase) (answer : IsoTurn) → Runs before between phase middle → Goes between after middle answer → Goes before after phase answer
goes_after before between after phase middle answer runs goes = record {
  last = goes.last;
  runs = runs_follow before between after phase middle goes.last runs goes.runs;
  over = goes.over;
  answer_is = goes.answer_is;
}

-- an end is the rest of a turn
pub goes_by_end : (before after : Whole) (phase : Phase) (why : EndCause) (now : ℕ) → MayAct before.moment before.progress phase (ends why now) over → Does before after (ends why now) → Goes before after phase (turn.Ended why)
goes_by_end before after phase why now may does =
    let ended : after.progress.ending ≡ Some why = ap (λ (p : Progress). p.ending) does.progress in
    record {
      last = over;
      runs = acts_are_runs before after (ends why now) phase over may does;
      over = λ going. cc (ended, going);
      answer_is = ended;
    }

-- after the end nothing more comes
pub goes_nowhere : (before : Whole) (why : EndCause) → before.progress.ending ≡ Some why → Goes before before over (turn.Ended why)
goes_nowhere before why ended = record {
  last = over;
  runs = no_act_runs before over over refl;
  over = λ going. cc (ended, going);
  answer_is = ended;
}

-- so it is after the ports
pub goes_ended : (before : Whole) (why : EndCause) → before.progress.ending ≡ Some why → Goes before before (after_ports before.progress) (turn.Ended why)
goes_ended before why ended =
    let p = before.progress in
    let phase_is : after_ports p ≡ over = ap (λ e. if not (is_none e) then over else if some_runs p then asking else stepping) ended in
    subst (λ phase. Goes before before phase (turn.Ended why)) (sym phase_is) (goes_nowhere before why ended)

-- where one place is left the end is the rest of a turn
pub goes_by_full : (before after : Whole) (later : Phase) (now : ℕ) → before.progress.ending ≡ None → entry_count before.progress < before.progress.schedule.limit → is_filled before.progress ≡ true → after_end later ≡ over
    → Does before after (ends cause.Full now) → Goes before after (if is_filled before.progress then must_end later else stepping) (turn.Ended cause.Full)
goes_by_full before after later now going place filled ends_there does =
    subst (λ b. Goes before after (if b then must_end later else stepping) (turn.Ended cause.Full)) (sym filled)
    (goes_by_end before after (must_end later) cause.Full now
    (record { going = going; place = place }, sym (ap (λ b. if b then cause.Full else cause.Memory) filled), sym ends_there) does)

-- where there is room for an entry before the end, more than one place is left
pub not_filled : (p : Progress) → HasRoom p → is_filled p ≡ false
not_filled p room = grind (arith, nat_tests)

-- a turn is over after a step where no end is due
pub goes_to_next : (before : Whole) → before.progress.ending ≡ None → HasRoom before.progress → NoneIsDue before.moment before.progress → Goes before before closing turn.Ran
goes_to_next before going room none = record {
  last = closing;
  runs = no_act_runs before closing closing refl;
  over = (none, not_filled before.progress room);
  answer_is = going;
}

-- after the end nothing is said of the guest
pub now_ended : (machine : Machine) (progress : Progress) (was printed : List ℕ) (moment : Moment) (why : EndCause)
    → progress.ending ≡ Some why → printed ≡ was → was ≡ (plain moment.funcs moment.steps).printed → IsNow machine progress printed moment
now_ended machine progress was printed moment why ended same was_is = record {
  at = λ going. absurd (cc (ended, going));
  printed_is = same ∙ was_is;
}

-- a step of the guest
pub step_run : (moment after : Moment) (p then_ : Progress) (calls : Option (List Call)) (one two : Shown) (events : List CodeEvent)
    → p.ending ≡ None → p.step < p.schedule.budget → IsStep moment after events → then_ ≡ act_after moment p (steps after events) → HaveMore one two (act_raises moment p (steps after events))
    → Runs (whole moment p calls one) (whole after then_ calls two) stepping closing
step_run moment after p then_ calls one two events going budget step is more =
    acts_are_runs (whole moment p calls one) (whole after then_ calls two) (steps after events) stepping closing (going, step, budget, refl)
    (record { moment = refl; progress = is; calls = none_more calls; queues = more })

-- what was printed at the next moment
pub printed_next : (moment after : Moment) (events : List CodeEvent) (printed : List ℕ) → IsStep moment after events
    → printed ≡ (plain moment.funcs (suc moment.steps)).printed → printed ≡ (plain after.funcs after.steps).printed
printed_next moment after events printed step is = is ∙ (λ i. (plain (sym step.funcs i) (sym step.steps i)).printed)

-- the end of an isolate whose step is cut short, after these events
does_short : (moment : Moment) (p after : Progress) (calls then_ last : Option (List Call)) (one two three : Shown) (events : List CodeEvent) (now : ℕ)
    → after ≡ after_short p events now → then_ ≡ with_calls calls (read p.step now ∷ []) → last ≡ with_calls then_ (told 0 ∷ [])
    → HaveMore one two (numbered p.events p.ticks events)
    → HaveMore two three (item.Event (record { number = suc (p.events + length events); ticks_before = p.ticks; event = event.Finish (entry_time p now) false }) ∷ [])
    → Does (whole moment p calls one) (whole moment after last three) (ends_short events now)
does_short moment p after calls then_ last one two three events now is read_is told_is had put = record {
  moment = refl;
  progress = is;
  calls = told_is ∙ ap (λ cs. with_calls cs (told 0 ∷ [])) read_is ∙ calls_twice calls (read p.step now ∷ []) (told 0 ∷ []);
  queues = have_next one two three p.events p.ticks events (event.Finish (entry_time p now) false) had put;
}

-- a step of the guest that is cut short is the rest of a turn
pub goes_short : (moment : Moment) (p between after : Progress) (calls then_ last : Option (List Call)) (one two three : Shown) (events : List CodeEvent) (raised now : ℕ)
    → between ≡ p → length events ≡ raised → p.ending ≡ None → entry_count p < p.schedule.limit → AllByRecursion IsCodeEvent events
    → after ≡ after_short between events now → then_ ≡ with_calls calls (read between.step now ∷ []) → last ≡ with_calls then_ (told 0 ∷ [])
    → HaveMore one two (numbered p.events p.ticks events)
    → HaveMore two three (item.Event (record { number = suc (between.events + raised); ticks_before = between.ticks; event = event.Finish (entry_time between now) false }) ∷ [])
    → Goes (whole moment p calls one) (whole moment after last three) stepping (turn.Ended cause.Memory)
goes_short moment p between after calls then_ last one two three events raised now same counted going place code is read_is told_is had put =
    let after_is : after ≡ after_short p events now = is ∙ ap (λ (q : Progress). after_short q events now) same in
    let ended : after.ending ≡ Some cause.Memory = ap (λ (q : Progress). q.ending) after_is in
    let of_p : HaveMore two three (item.Event (record { number = suc (p.events + raised); ticks_before = p.ticks; event = event.Finish (entry_time p now) false }) ∷ []) =
    subst (λ (q : Progress). HaveMore two three (item.Event (record { number = suc (q.events + raised); ticks_before = q.ticks; event = event.Finish (entry_time q now) false }) ∷ [])) same put in
    let finish : HaveMore two three (item.Event (record { number = suc (p.events + length events); ticks_before = p.ticks; event = event.Finish (entry_time p now) false }) ∷ []) =
    subst (λ (n : ℕ). HaveMore two three (item.Event (record { number = suc (p.events + n); ticks_before = p.ticks; event = event.Finish (entry_time p now) false }) ∷ [])) (sym counted) of_p in
    let does = does_short moment p after calls then_ last one two three events now after_is (read_is ∙ ap (λ (q : Progress). with_calls calls (read q.step now ∷ [])) same) told_is had finish in
    record {
      last = over;
      runs = acts_are_runs (whole moment p calls one) (whole moment after last three) (ends_short events now) stepping over (record { going = going; place = place }, code, refl) does;
      over = λ none. cc (ended, none);
      answer_is = ended;
    }

-- no sample is asked for
pub not_asked_run : (moment : Moment) (p : Progress) (calls then_ : Option (List Call)) (one : Shown) → p.ending ≡ None → some_runs p ≡ true → p.is_sampled ≡ false
    → then_ ≡ with_calls calls (asked p.step false ∷ []) → Runs (whole moment p calls one) (whole moment p then_ one) asking stepping
not_asked_run moment p calls then_ one going session once is =
    acts_are_runs (whole moment p calls one) (whole moment p then_ one) (asks false) asking stepping (going, session, once, refl)
    (record { moment = refl; progress = refl; calls = is; queues = have_none one one refl })

chosen : (b : Bool) (one other : Phase) → (if b || false then one else other) ≡ (if b then one else other)
chosen true one other = refl
chosen false one other = refl

-- where one place is left the end comes, else what came next
unless_filled : (p : Progress) (phase : Phase) → p.ending ≡ None → unless_ended p true phase ≡ (if is_filled p then must_end phase else phase)
unless_filled p phase going = ap (λ e. if is_none e && (is_filled p || false) then must_end phase else phase) going ∙ chosen (is_filled p) (must_end phase) phase

ending_sampled : (p : Progress) (now : ℕ) (is_in : Bool) → (after_sample p now is_in).ending ≡ p.ending
ending_sampled p now true = refl
ending_sampled p now false = refl

-- a sample is asked for and entered
pub sample_run : (moment : Moment) (p after : Progress) (calls then_ last : Option (List Call)) (one two : Shown) (now : ℕ) (is_in : Bool)
    → p.ending ≡ None → some_runs p ≡ true → p.is_sampled ≡ false → HasRoom p → after ≡ after_sample p now is_in
    → then_ ≡ with_calls calls (asked p.step true ∷ []) → last ≡ with_calls then_ (read p.step now ∷ [])
    → HaveMore one two (raised_by_sample moment p now is_in)
    → Runs (whole moment p calls one) (whole moment after last two) asking (if is_filled after then must_end stepping else stepping)
sample_run moment p after calls then_ last one two now is_in going session once room is asked_is read_is more =
    let before = whole moment p calls one in
    let between = whole moment p then_ one in
    let end = whole moment after last two in
    let still : after.ending ≡ None = ap (λ (q : Progress). q.ending) is ∙ ending_sampled p now is_in ∙ going in
    let asks_it = acts_are_runs before between (asks true) asking sampling (going, session, once, refl) (record { moment = refl; progress = refl; calls = asked_is; queues = have_none one one refl }) in
    let enters_it =
    acts_are_runs between end (samples now is_in) sampling (unless_ended after true stepping) (going, room, ap (λ (q : Progress). unless_ended q true stepping) is)
    (record { moment = refl; progress = is; calls = read_is; queues = more }) in
    subst (Runs before end asking) (unless_filled after stepping still) (runs_follow before between end asking sampling (unless_ended after true stepping) asks_it enters_it)

-- entries that were added, and more after them
pub adds_both : (a b c : List ScheduleEntry) (m n : ℕ) → Adds a b m → Adds b c n → Adds a c (m + n)
adds_both a b c m n one other = record {
  more = one.more ++ other.more;
  added = other.added ∙ ap (λ (es : List ScheduleEntry). es ++ other.more) one.added ∙ append_assoc a one.more other.more;
  dropped_are =
      sum_by-append (λ (e : ScheduleEntry). cond (is_dropped e.what) 1 0) one.more other.more
      ∙ (λ i. one.dropped_are i + other.dropped_are i);
}

sample_adds : (p : Progress) (now : ℕ) (is_in : Bool) → Adds p.schedule.entries (after_sample p now is_in).schedule.entries (if is_in then 0 else 1)
sample_adds p now true = record { more = entry_now p now Sampled ∷ []; added = refl; dropped_are = refl }
sample_adds p now false = record { more = entry_now p now Dropped ∷ []; added = refl; dropped_are = refl }

-- none is dropped
pub drops_none : {A : Type 0} (passed : Option A) (fulls after : ℕ) (before entries : List ScheduleEntry) → fulls ≡ after → Adds before entries 0 → DropsWhereFull passed fulls after before entries
drops_none passed fulls after before entries same adds = record {
  dropped = 0;
  adds = adds;
  rose = λ some. absurd (omega arith);
  counted = λ observed. omega arith;
}

-- entries without a drop, and more after them
pub drops_after : {A : Type 0} (passed : Option A) (fulls after : ℕ) (before between entries : List ScheduleEntry) → Adds before between 0 → DropsWhereFull passed fulls after between entries → DropsWhereFull passed fulls after before entries
drops_after passed fulls after before between entries adds drops =
    let sum : 0 + drops.dropped ≡ drops.dropped = omega arith in
    record {
      dropped = drops.dropped;
      adds = subst (Adds before entries) sum (adds_both before between entries 0 drops.dropped adds drops.adds);
      rose = drops.rose;
      counted = drops.counted;
    }

rose_where : (is_in : Bool) (fulls after : ℕ) → (is_in ≡ false → Rose fulls after) → 0 < (if is_in then 0 else 1) → Rose fulls after
rose_where true fulls after rose some = absurd (omega arith)
rose_where false fulls after rose some = rose refl

-- a sample is dropped where it was not in, and no other after it
pub drops_where_full : {A : Type 0} (passed : Option A) (fulls between after now : ℕ) (is_in : Bool) (p then_ : Progress) (entries : List ScheduleEntry)
    → then_ ≡ after_sample p now is_in → (is_in ≡ false → Rose fulls between) → (IsObserved passed → between ≡ fulls + (if is_in then 0 else 1))
    → after ≡ between → Adds then_.schedule.entries entries 0 → DropsWhereFull passed fulls after p.schedule.entries entries
drops_where_full passed fulls between after now is_in p then_ entries is rose counted same adds =
    let dropped : ℕ = if is_in then 0 else 1 in
    let first : Adds p.schedule.entries then_.schedule.entries dropped = subst (λ (q : Progress). Adds p.schedule.entries q.schedule.entries dropped) (sym is) (sample_adds p now is_in) in
    let sum : dropped + 0 ≡ dropped = omega arith in
    record {
      dropped = dropped;
      adds = subst (Adds p.schedule.entries entries) sum (adds_both p.schedule.entries then_.schedule.entries entries dropped 0 first adds);
      rose = λ some. subst (Rose fulls) (sym same) (rose_where is_in fulls between rose some);
      counted = λ observed. same ∙ counted observed;
    }

-- a turn begins with the guest's step, or with the end, where a sample was entered at this step
pub begins_sampled : (p : Progress) → (goes_on p && p.is_sampled) ≡ true → first_phase p ≡ (if is_filled p then must_end over else stepping)
begins_sampled p is = ap (λ b. if b then (if is_filled p then must_end over else stepping) else at_port 0 0) is

-- else it begins with the ports
pub begins_at_ports : (p : Progress) → (goes_on p && p.is_sampled) ≡ false → first_phase p ≡ at_port 0 0
begins_at_ports p is = ap (λ b. if b then (if is_filled p then must_end over else stepping) else at_port 0 0) is
