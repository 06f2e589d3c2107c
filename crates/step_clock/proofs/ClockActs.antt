-- Each act of a turn on the step clock stays on the clock.
use Rattle.std.proofs.Common.{◌≡◌, ℕ, suc, ◌^◌, ◌<◌, ◌≤◌, List, [], ◌∷◌, ◌++◌, length, refl, ap, sym, subst, ◌∙◌, arith}
use Rattle.std.proofs.lemmas.Bool.Decides.{nat_tests}
use Rattle.std.specs.Prelude.{Bool, true, false, not, ◌==◌, ◌&&◌, ◌||◌, Some, None, if◌then◌else◌}
use Rattle.code_event.specs.declared.event.Answer.{Answer}
use Rattle.code_event.specs.declared.event.Answer.TheVariants as answer
use Rattle.code_event.specs.declared.event.Command.{Command}
use Rattle.code_event.specs.declared.event.Command.TheVariants as command
use Rattle.code_event.specs.declared.event.Options.{Options}
use Rattle.run_schedule.specs.Schedule.{running_after}
use Rattle.run_schedule.specs.declared.limits.TheConstants.{MAX_PORT}
use Rattle.run_schedule.specs.declared.schedule.EndCause.{EndCause}
use Rattle.run_schedule.specs.declared.schedule.EndCause.TheVariants as cause
use Rattle.run_schedule.specs.declared.schedule.ScheduleEntry.{ScheduleEntry}
use Rattle.run_schedule.specs.declared.schedule.What.TheVariants.{Sampled, Start, End}
use Rattle.isolate.specs.RunLaws.{last_time}
use Rattle.raised_so_far.proofs.Entries.{last_time-push}
use Rattle.isolate_acts.proofs.SchedulePhases.{chosen}
use Rattle.isolate_acts.specs.Acts.{Act, passes, starts, stops, refuses, cuts_off, asks, samples, steps, ends, ends_short, act_after, act_calls, moment_after}
use Rattle.isolate_acts.specs.FitsSoFar.{FitsSoFar}
use Rattle.isolate_acts.specs.Phases.{Phase, at_port, asking, sampling, stepping, closing, must_end, MayAct, IsDue, IsRefused, after_command, after_ports, unless_ended}
use Rattle.isolate_acts.specs.Progress.{Moment, Progress, IsWithin, entry_count, entry_now, entry_time, is_filled, running_now}
use Rattle.isolate_acts.specs.Sampling.{after_sample}
use Rattle.isolate_ends.specs.Offered.{IsOffered}
use Rattle.step_clock.specs.ClockCalls.{begun_on}
use Rattle.step_clock.specs.ClockTurns.{IsClockEnd}
use Rattle.step_clock.specs.StepClock.{IsWholeRecording, entry_at, entries_before, is_asked, last_step}
use Rattle.step_clock.proofs.Clock.{last_pushed}
use Rattle.step_clock.proofs.ClockCalled.{EachByClock}
use Rattle.step_clock.proofs.ClockEnds.{due_within, ends_on_clock, full_on_clock}
use Rattle.step_clock.proofs.ClockEntries.{entry_is, last_before, same_next, sampled_next}
use Rattle.step_clock.proofs.ClockPhases.{Entered, IsAt, given_is, none_given, same_options, on_true, or_true, after_ports_on, after_command_on, unless_full}

zero_first : (n : ℕ) → 0 ≤ n
zero_first n = omega arith

not_begun : (r : Options) (p : Progress) (begun : Bool) → begun ≡ false → p.schedule.entries ≡ (if begun then entries_before r p.step else []) → p.schedule.entries ≡ []
not_begun r p begun is entries = subst (λ (b : Bool). p.schedule.entries ≡ (if b then entries_before r p.step else [])) is entries

has_room : (count limit size : ℕ) → (suc count == limit) ≡ false → count < limit → size ≡ count → suc size < limit
has_room count limit size room place same = grind (arith, nat_tests)

is_full_size : (count limit size : ℕ) → (suc count == limit) ≡ true → size ≡ count → suc size ≡ limit
is_full_size count limit size filled same = grind (arith, nat_tests)

same_le : (n : ℕ) → n ≤ n
same_le n = omega arith

-- an isolate has ended out of memory, at the step that is reached
short : (r : Options) (moment : Moment) (p q : Progress) (time : ℕ) → moment.steps ≡ p.step → q.ending ≡ Some cause.Memory → q.step ≡ p.step
    → q.schedule.entries ≡ p.schedule.entries ++ record { step = p.step; time = time; what = End cause.Memory } ∷ [] → IsClockEnd r.interval moment q
short r moment p q time at ending same entries = record {
  why = cause.Memory;
  ending = ending;
  steps = at ∙ sym same;
  before = p.schedule.entries;
  time = time;
  entries = entries ∙ ap (λ (n : ℕ). p.schedule.entries ++ record { step = n; time = time; what = End cause.Memory } ∷ []) (sym same);
  clock = λ other. absurd (other refl);
}

-- no command is refused while the isolate goes on
none_refused : (r : Options) (p : Progress) (port : ℕ) (given : Command) (why : Answer) → p.ending ≡ None → p.schedule.entries ≡ [] → given ≡ command.Start r → IsRefused p port given why → ⊥
none_refused r p port given why going entries is refused = by_why why (subst (λ (c : Command). IsRefused p port c why) is refused) where
  none_runs : length (running_now p) ≡ 0
  none_runs = ap (λ (es : List ScheduleEntry). length (running_after es)) entries

  by_why : (why : Answer) → IsRefused p port (command.Start r) why → ⊥
  by_why answer.Ended h = h going
  by_why answer.TooMany h = let many = h.2 in omega (arith, many, none_runs)
  by_why (answer.Started n) h = h
  by_why answer.Stopped h = h
  by_why answer.NoSession h = h

module _ (r : Options) (moment : Moment) (p : Progress) (whole : IsWholeRecording r.interval r) (within : IsWithin p) (small : p.step < 2 ^ 53) where
  -- a command is asked for and none is given
  pass_on : (begun : Bool) (port commands from : ℕ) (next : Phase) → from ≡ port → next ≡ (if port == MAX_PORT then after_ports p else at_port (suc port) commands)
      → None ≡ (if from == 0 && not begun then Some (command.Start r) else None) → IsAt r begun moment p (at_port port commands) → IsAt r (begun || (from == 0)) moment p next
  pass_on true port commands from next is next_is none at = record {
    going = λ going.
        let had = at.going going in
        subst (λ (q : Phase). Entered r q true p) (sym next_is)
        (chosen (λ (q : Phase). Entered r q true p) (port == MAX_PORT) (after_ports p) (at_port (suc port) commands)
        (λ last. after_ports_on r p going had.1 had.3) (λ more. (had.0, had.1, (λ not_yet. absurd (cc not_yet)), had.3)));
    below = λ going open_. at.below going (λ is_closing. absurd (cc is_closing));
    ended = at.ended;
  }
  pass_on false port commands from next is next_is none at = record {
    going = λ going. absurd (none_given false from r (is ∙ ((at.going going).2 refl).0) refl none);
    below = λ going open_. at.below going (λ is_closing. absurd (cc is_closing));
    ended = at.ended;
  }

  -- the recording starts
  start_on : (begun : Bool) (port commands : ℕ) (options : Options) (now : ℕ) (is_taken : Bool) (next : Phase)
      → (let after = act_after moment p (starts options now is_taken) in next ≡ unless_ended after is_taken (after_command after port (suc commands)))
      → p.ending ≡ None → EachByClock r begun (act_calls moment p (starts options now is_taken)) → IsAt r begun moment p (at_port port commands)
      → IsAt r (begun_on begun (act_calls moment p (starts options now is_taken))) moment (act_after moment p (starts options now is_taken)) next
  start_on begun port commands options now is_taken next next_is none by at =
      let after = act_after moment p (starts options now is_taken) in
      let given = given_is begun (options.port == 0) (command.Start options) r by.0 in
      let had = at.going none in
      let first : p.step ≡ 0 = (had.2 given.not_yet).1 in
      let empty : p.schedule.entries ≡ [] = not_begun r p begun given.not_yet had.3 in
      let before : last_time p.schedule.entries ≤ p.step = subst (λ (es : List ScheduleEntry). last_time es ≤ p.step) (sym empty) (zero_first p.step) in
      let entry : entry_now p now (Start options) ≡ entry_at p.step (Start r) =
      entry_is p now (Start options) by.1.0 before small ∙ ap (λ (o : Options). entry_at p.step (Start o)) (same_options options r given.start) in
      let one : after.schedule.entries ≡ entry_at p.step (Start r) ∷ [] = (λ i. empty i ++ entry i ∷ []) in
      let now_ : after.schedule.entries ≡ entries_before r p.step = one ∙ subst (λ (n : ℕ). entry_at n (Start r) ∷ [] ≡ entries_before r n) (sym first) refl in
      let later : after.schedule.entries ≡ entries_before r (suc p.step) = one ∙ subst (λ (n : ℕ). entry_at n (Start r) ∷ [] ≡ entries_before r (suc n)) (sym first) refl in
      let has_begun : begun_on begun (act_calls moment p (starts options now is_taken)) ≡ true =
      or_false3 (begun || (options.port == 0)) (on_true begun (options.port == 0) given.port) in
      record {
        going = λ going.
            subst (λ (q : Phase). Entered r q (begun_on begun (act_calls moment p (starts options now is_taken))) after) (sym next_is)
            (subst (λ (b : Bool). Entered r (unless_ended after is_taken (after_command after port (suc commands))) b after) (sym has_begun)
            (subst (λ (b : Bool). Entered r (unless_ended after b (after_command after port (suc commands))) true after) (sym by.1.1.1.0)
            (unless_full r after (after_command after port (suc commands)) true going later (ap last_step one) (subst (λ (es : List ScheduleEntry). last_time es ≤ p.step) (sym one) (same_le p.step))
            (λ room. after_command_on r after port (suc commands) going had.0 room now_))));
        below = λ going open_. at.below none (λ is_closing. absurd (cc is_closing));
        ended = λ over_. absurd (over_ none);
      } where
        or_false3 : (b : Bool) → b ≡ true → (((b || false) || false) || false) ≡ true
        or_false3 true is = refl
        or_false3 false is = absurd (cc is)

  -- a sample is asked for or not
  ask_on : (begun is_asked_ : Bool) (next : Phase) → next ≡ (if is_asked_ then sampling else stepping) → is_asked_ ≡ is_asked r.interval p.step → IsAt r begun moment p asking → IsAt r (begun || false) moment p next
  ask_on begun is_asked_ next next_is by at = record {
    going = λ going.
        let had = at.going going in
        let has_begun = or_true begun false had.0 in
        subst (λ (q : Phase). Entered r q (begun || false) p) (sym next_is)
        (chosen (λ (q : Phase). Entered r q (begun || false) p) is_asked_ sampling stepping
        (λ yes_. (has_begun, had.1, had.2, sym by ∙ yes_)) (λ no_. (has_begun, had.1, had.2 ∙ sym (same_next r p.step (sym by ∙ no_)))));
    below = λ going open_. at.below going (λ is_closing. absurd (cc is_closing));
    ended = at.ended;
  }

  -- a sample is taken
  sample_on : (begun : Bool) (now : ℕ) (next : Phase) → next ≡ unless_ended (after_sample p now true) true stepping → p.ending ≡ None → now ≡ p.step → IsAt r begun moment p sampling
      → IsAt r (begun || false) moment (after_sample p now true) next
  sample_on begun now next next_is none by at =
      let after = after_sample p now true in
      let had = at.going none in
      let entry = entry_is p now Sampled by (last_before r p had.2) small in
      let now_ : after.schedule.entries ≡ p.schedule.entries ++ entry_at p.step Sampled ∷ [] = ap (λ (e : ScheduleEntry). p.schedule.entries ++ e ∷ []) entry in
      let later : after.schedule.entries ≡ entries_before r (suc p.step) =
      now_ ∙ ap (λ (es : List ScheduleEntry). es ++ entry_at p.step Sampled ∷ []) had.2 ∙ sym (sampled_next r p.step had.3) in
      record {
        going = λ going.
            subst (λ (q : Phase). Entered r q (begun || false) after) (sym next_is)
            (unless_full r after stepping (begun || false) going later (ap last_step now_ ∙ last_pushed p.schedule.entries (entry_at p.step Sampled))
            (subst (λ (es : List ScheduleEntry). last_time es ≤ p.step) (sym now_) (subst (λ (n : ℕ). n ≤ p.step) (sym (last_time-push p.schedule.entries (entry_at p.step Sampled))) (same_le p.step)))
            (λ room. (or_true begun false had.0, room, later)));
        below = λ going open_. at.below none (λ is_closing. absurd (cc is_closing));
        ended = λ over_. absurd (over_ none);
      }

  -- the isolate ends for a cause that is due
  due_on : (now : ℕ) (why : EndCause) → FitsSoFar moment.funcs moment p closing → p.ending ≡ None → entry_count p < p.schedule.limit → IsDue moment p why → now ≡ p.step
      → is_filled p ≡ false → p.schedule.entries ≡ entries_before r p.step → IsClockEnd r.interval moment (act_after moment p (ends why now))
  due_on now why fits none place due by room entries =
      let at = fits.going none in
      let after = act_after moment p (ends why now) in
      let entry = entry_is p now (End why) by (last_before r p entries) small in
      let made : after.schedule.entries ≡ p.schedule.entries ++ entry_at p.step (End why) ∷ [] = ap (λ (e : ScheduleEntry). p.schedule.entries ++ e ∷ []) entry in
      let size : length (entries_before r p.step) ≡ entry_count p = ap length (sym entries) in
      record {
        why = why;
        ending = refl;
        steps = at.steps_are;
        before = p.schedule.entries;
        time = entry_time p now;
        entries = refl;
        clock = λ other.
            ends_on_clock moment.funcs r.interval p.schedule.budget p.schedule.limit r p.step why after.schedule.entries whole
            (due_within moment p at p.schedule.budget why refl within.step due) (has_room (entry_count p) p.schedule.limit (length (entries_before r p.step)) room place size)
            (made ∙ ap (λ (es : List ScheduleEntry). es ++ entry_at p.step (End why) ∷ []) entries);
      }

  -- the isolate ends where one place is left
  full_on : (now : ℕ) (why : EndCause) (later : Phase) → FitsSoFar moment.funcs moment p (must_end later) → p.ending ≡ None → p.step < p.schedule.budget
      → why ≡ (if is_filled p then cause.Full else cause.Memory) → now ≡ p.step → is_filled p ≡ true → p.schedule.entries ≡ entries_before r (suc p.step) → last_step p.schedule.entries ≡ p.step
      → last_time p.schedule.entries ≤ p.step → IsClockEnd r.interval moment (act_after moment p (ends why now))
  full_on now why later fits none below why_is by filled entries last time =
      let at = fits.going none in
      let after = act_after moment p (ends why now) in
      let is_full : why ≡ cause.Full = why_is ∙ ap (λ (b : Bool). if b then cause.Full else cause.Memory) filled in
      let entry = entry_is p now (End why) by time small ∙ ap (λ (c : EndCause). entry_at p.step (End c)) is_full in
      let made : after.schedule.entries ≡ p.schedule.entries ++ entry_at p.step (End cause.Full) ∷ [] = ap (λ (e : ScheduleEntry). p.schedule.entries ++ e ∷ []) entry in
      let size : length (entries_before r (suc p.step)) ≡ entry_count p = ap length (sym entries) in
      record {
        why = why;
        ending = refl;
        steps = at.steps_are;
        before = p.schedule.entries;
        time = entry_time p now;
        entries = refl;
        clock = λ other.
            full_on_clock moment.funcs r.interval p.schedule.budget p.schedule.limit r p.step after.schedule.entries whole at.machine below
            (is_full_size (entry_count p) p.schedule.limit (length (entries_before r (suc p.step))) filled size) (sym (ap last_step entries) ∙ last)
            (made ∙ ap (λ (es : List ScheduleEntry). es ++ entry_at p.step (End cause.Full) ∷ []) entries);
      }

-- an act that may come
pub act_on : (r : Options) (begun : Bool) (moment : Moment) (p : Progress) (phase next : Phase) (act : Act) → IsWholeRecording r.interval r → IsWithin p → p.step < 2 ^ 53
    → (p.ending ≡ None → FitsSoFar moment.funcs moment p phase) → MayAct moment p phase act next → EachByClock r begun (act_calls moment p act) → IsOffered false act → IsAt r begun moment p phase
    → IsAt r (begun_on begun (act_calls moment p act)) (moment_after moment act) (act_after moment p act) next
act_on r begun moment p (at_port port commands) next (passes from) whole within small fits may by taken at =
    pass_on r moment p whole within small begun port commands from next may.0 may.1 by.0 at
act_on r begun moment p (at_port port commands) next (starts options now is_taken) whole within small fits may by taken at =
    start_on r moment p whole within small begun port commands options now is_taken next may.4 may.1 by at
act_on r begun moment p (at_port port commands) next (stops from number now is_taken) whole within small fits may by taken at =
    absurd (cc ((given_is begun (from == 0) (command.Stop number) r by.0).start))
act_on r begun moment p (at_port port commands) next (refuses from given why is_taken) whole within small fits may by taken at =
    let begins = given_is begun (from == 0) given r by.0 in
    record {
      going = λ going. absurd (none_refused r p port given why going (not_begun r p begun begins.not_yet (at.going going).3) begins.start may.1);
      below = λ going open_. at.below going (λ is_closing. absurd (cc is_closing));
      ended = at.ended;
    }
act_on r begun moment p (at_port port commands) next (cuts_off from given is_marked now is_taken) whole within small fits may by taken at = record {
  going = λ going. absurd (cc going);
  below = λ going open_. absurd (cc going);
  ended = λ over_. short r moment p (act_after moment p (cuts_off from given is_marked now is_taken)) (entry_time p now) (((fits may.1).going may.1).steps_are) refl refl refl;
}
act_on r begun moment p asking next (asks is_asked_) whole within small fits may by taken at = ask_on r moment p whole within small begun is_asked_ next may.3 by.0 at
act_on r begun moment p sampling next (samples now true) whole within small fits may by taken at = sample_on r moment p whole within small begun now next may.2 may.0 by.0 at
act_on r begun moment p sampling next (samples now false) whole within small fits may by taken at = absurd (cc taken)
act_on r begun moment p stepping next (steps after events) whole within small fits may by taken at =
    let had = at.going may.0 in
    record {
      going = λ going. subst (λ (q : Phase). Entered r q begun (act_after moment p (steps after events))) (sym may.3) (had.0, had.1, refl, had.2);
      below = λ going open_. absurd (open_ may.3);
      ended = λ over_. absurd (over_ may.0);
    }
act_on r begun moment p stepping next (ends_short events now) whole within small fits may by taken at = record {
  going = λ going. absurd (cc going);
  below = λ going open_. absurd (cc going);
  ended = λ over_. short r moment p (act_after moment p (ends_short events now)) (entry_time p now) (((fits may.0.going).going may.0.going).steps_are) refl refl refl;
}
act_on r begun moment p closing next (ends why now) whole within small fits may by taken at =
    let had = at.going may.0.going in
    record {
      going = λ going. absurd (cc going);
      below = λ going open_. absurd (cc going);
      ended = λ over_. due_on r moment p whole within small now why (fits may.0.going) may.0.going may.0.place may.1 by.0 had.1 had.3;
    }
act_on r begun moment p (must_end later) next (ends why now) whole within small fits may by taken at =
    let had = at.going may.0.going in
    record {
      going = λ going. absurd (cc going);
      below = λ going open_. absurd (cc going);
      ended = λ over_.
          full_on r moment p whole within small now why later (fits may.0.going) may.0.going (at.below may.0.going (λ is_closing. absurd (cc is_closing))) may.1 by.0 had.0 had.1 had.2 had.3;
    }
act_on r begun moment p phase next act whole within small fits may by taken at = absurd may
