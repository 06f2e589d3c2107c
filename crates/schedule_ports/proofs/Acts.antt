-- Each act of a turn on a schedule stays on the schedule.
use Rattle.std.proofs.Common.{◌≡◌, ℕ, suc, ◌+◌, ◌<◌, ◌≤◌, List, [], ◌∷◌, ◌++◌, refl, ap, sym, subst, ◌∙◌, arith}
use Rattle.std.proofs.lemmas.List.{length-append}
use Rattle.std.specs.Prelude.{Bool, true, false, not, ◌==◌, ◌&&◌, Some, None, if◌then◌else◌}
use Rattle.guest_program.specs.declared.instr.Func.{Func}
use Rattle.code_event.specs.declared.event.Answer.{Answer}
use Rattle.code_event.specs.declared.event.Answer.TheVariants as answer
use Rattle.code_event.specs.declared.event.Command.{Command}
use Rattle.code_event.specs.declared.event.Command.TheVariants as command
use Rattle.run_schedule.specs.Schedule.{HasSession, is_end, is_sample}
use Rattle.run_schedule.specs.ScheduleParts.{ScheduleParts, port_of}
use Rattle.run_schedule.specs.declared.limits.TheConstants.{MAX_PORT}
use Rattle.run_schedule.specs.declared.schedule.EndCause.{EndCause}
use Rattle.run_schedule.specs.declared.schedule.EndCause.TheVariants as cause
use Rattle.run_schedule.specs.declared.schedule.ScheduleEntry.{ScheduleEntry}
use Rattle.run_schedule.specs.declared.schedule.What.{What}
use Rattle.run_schedule.specs.declared.schedule.What.TheVariants.{Sampled, Dropped, Start, Stop, End}
use Rattle.isolate.specs.Fits.{IsGoing}
use Rattle.isolate_acts.proofs.ScheduleMore.{last_is}
use Rattle.isolate_acts.proofs.SchedulePhases.{chosen}
use Rattle.isolate_acts.specs.Acts.{Act, passes, starts, stops, refuses, cuts_off, asks, samples, steps, ends, ends_short, act_after, act_calls, moment_after}
use Rattle.isolate_acts.specs.FitsSoFar.{FitsSoFar}
use Rattle.isolate_acts.specs.Phases.{Phase, at_port, asking, sampling, stepping, closing, must_end, IsRefused, MayAct, after_command, after_ports, unless_ended}
use Rattle.isolate_acts.specs.Progress.{Moment, Progress, IsWithin, entry_count, entry_now, entry_time, running_now, with_entry}
use Rattle.isolate_ends.specs.Runs.{is_dropped}
use Rattle.isolate_ends.specs.Offered.{IsOffered}
use Rattle.schedule_ports.specs.ScheduleCalls.{command_at, is_asked_at, is_dropped_at, left_on, next_of, time_next, without_next}
use Rattle.schedule_ports.specs.ScheduleTurns.{IsAhead, IsScheduleEnd, MayReplay, with_left}
use Rattle.schedule_ports.proofs.Calls.{EachBySchedule, commanded_by, given_is, number_same, same_number}
use Rattle.schedule_ports.proofs.Ends.{IsEndAt, due_is, full_is}
use Rattle.schedule_ports.proofs.Next.{NoSample, ahead_after, behind, entry_is, follows, no_command_after, no_sample_after, none_after, past_here}
use Rattle.schedule_ports.proofs.Phases.{GoesOn, IsAt, NoEarlier, Remains, after_command_on, after_ports_on, end_left, entered, from_here, none_left, passed, unless_full}

-- an isolate has ended out of memory, at the step that is reached
short : (schedule : ScheduleParts) (left : List ScheduleEntry) (moment : Moment) (p q : Progress) (time : ℕ) → moment.steps ≡ p.step → with_left p.schedule left ≡ schedule → q.ending ≡ Some cause.Memory → q.step ≡ p.step
    → q.schedule ≡ record p.schedule { entries = p.schedule.entries ++ record { step = p.step; time = time; what = End cause.Memory } ∷ [] } → IsScheduleEnd schedule moment q
short schedule left moment p q time at whole ending same made = record {
  why = cause.Memory;
  ending = ending;
  steps = at ∙ sym same;
  before = p.schedule.entries;
  time = time;
  entries = ap (λ (s : ScheduleParts). s.entries) made ∙ ap (λ (n : ℕ). p.schedule.entries ++ record { step = n; time = time; what = End cause.Memory } ∷ []) (sym same);
  rest = left;
  kept = ap (λ (s : ScheduleParts). record s { entries = p.schedule.entries ++ left }) made ∙ whole;
  same = λ other. absurd (other refl);
}

-- a command that the schedule has is not refused while the isolate goes on
none_refused : (p : Progress) (port : ℕ) (given : Command) (why : Answer) → p.ending ≡ None → HasSession (running_now p) (commanded_by port given) → IsRefused p port given why → ⊥
none_refused p port given answer.Ended going session refused = refused going
none_refused p port (command.Start options) answer.TooMany going session refused = let many = refused.2 in omega (arith, many, session)
none_refused p port (command.Stop number) answer.NoSession going session refused = refused.1 session
none_refused p port (command.Start options) answer.NoSession going session refused = refused
none_refused p port (command.Stop number) answer.TooMany going session refused = refused
none_refused p port (command.Start options) answer.Stopped going session refused = refused
none_refused p port (command.Stop number) answer.Stopped going session refused = refused
none_refused p port (command.Start options) (answer.Started n) going session refused = refused
none_refused p port (command.Stop number) (answer.Started n) going session refused = refused

-- the sample of this step is that of a later entry, after an entry that is no sample
dropped_later : (at is_in drops later : Bool) → at ≡ true → is_in ≡ false → (at && (if is_in then drops else later)) ≡ later
dropped_later true false drops later at other = refl
dropped_later true true drops later at other = absurd (cc other)
dropped_later false is_in drops later at other = absurd (cc at)

dropped_now : (at is_in drops later : Bool) → at ≡ true → is_in ≡ true → (at && (if is_in then drops else later)) ≡ drops
dropped_now true true drops later at is = refl
dropped_now true false drops later at is = absurd (cc is)
dropped_now false is_in drops later at is = absurd (cc at)

both_true : (a b : Bool) → (a && b) ≡ true → (a ≡ true) × (b ≡ true)
both_true true true both = (refl, refl)
both_true true false both = absurd (cc both)
both_true false b both = absurd (cc both)

-- what a sample is entered as
abbrev what_in : Bool → What
what_in true = Sampled
what_in false = Dropped

-- it is entered as the schedule says
taken_is : (w : What) (is_in : Bool) → is_sample w ≡ true → is_in ≡ not (is_dropped w) → w ≡ what_in is_in
taken_is Sampled is_in is taken = sym (ap what_in taken)
taken_is Dropped is_in is taken = sym (ap what_in taken)
taken_is (Start options) is_in is taken = absurd (cc is)
taken_is (Stop port number) is_in is taken = absurd (cc is)
taken_is (End why) is_in is taken = absurd (cc is)

same_port : (a b : ℕ) → Some a ≡ Some b → a ≡ b
same_port a b same = cc

module _ (funcs : List Func) (schedule : ScheduleParts) (may : MayReplay funcs schedule) (full : Bool) (moment : Moment) (p : Progress) where
  -- a command is asked for and none is given
  pass_on : (left : List ScheduleEntry) (port commands from : ℕ) (next : Phase) → from ≡ port → next ≡ (if port == MAX_PORT then after_ports p else at_port (suc port) commands)
      → None ≡ command_at from p.step (next_of left) → (p.ending ≡ None → IsGoing funcs p.step) → IsAt schedule full left moment p (at_port port commands) → IsAt schedule full left moment p next
  pass_on left port commands from next is next_is none machine at = record {
    going = λ going.
        let had = at.going going in
        let on = had.0 in
        let here = from_here funcs schedule left p may on.whole in
        let below = at.below going (λ is_closing. absurd (cc is_closing)) in
        let past = passed left port p.step (subst (λ (n : ℕ). None ≡ command_at n p.step (next_of left)) is none) had.1.2 in (
          on,
          subst (Remains full left p) (sym next_is)
              (chosen (Remains full left p) (port == MAX_PORT) (after_ports p) (at_port (suc port) commands)
              (λ last. after_ports_on funcs full left p here on.ahead (machine going) going had.1.0 below (none_left funcs p left port here (same_number port MAX_PORT last) past) had.1.3)
              (λ more. (had.1.0, had.1.1, past, had.1.3))),
        );
    below = λ going open_. at.below going (λ is_closing. absurd (cc is_closing));
    ended = at.ended;
  }

  -- what is left goes on after an entry that was entered as the schedule has it, and that is no end
  goes_next : (e : ScheduleEntry) (rest : List ScheduleEntry) (q : Progress) (now : ℕ) (w : What) → GoesOn schedule (e ∷ rest) p → e.step ≡ p.step → e.what ≡ w → now ≡ e.time → is_end w ≡ false
      → q.schedule ≡ record p.schedule { entries = p.schedule.entries ++ entry_now p now w ∷ [] } → q.step ≡ p.step → GoesOn schedule rest q
  goes_next e rest q now w on at what time other made same =
      let entry = entry_now p now w in
      let here = from_here funcs schedule (e ∷ rest) p may on.whole in
      let whole = entered schedule e entry rest p q made (entry_is funcs p e rest here now w time at what) on.whole in
      record {
        whole = whole;
        ended = end_left e rest (ap is_end what ∙ other) on.ended;
        ahead =
            subst (λ (n : ℕ). IsAhead n rest) (sym same)
            (ahead_after funcs q p.schedule.entries entry (ap (λ (s : ScheduleParts). s.entries) made) rest (from_here funcs schedule rest q may whole));
      }

  -- a command of the schedule is entered
  command_on : (left : List ScheduleEntry) (port commands : ℕ) (given : Command) (now events ticks : ℕ) (is_taken : Bool) (next : Phase)
      → (let q = record (with_entry p (entry_now p now (commanded_by port given))) { events = events; ticks = ticks } in
      port_of (commanded_by port given) ≡ Some port → is_end (commanded_by port given) ≡ false → is_sample (commanded_by port given) ≡ false
      → next ≡ unless_ended q is_taken (after_command q port (suc commands)) → p.ending ≡ None → IsGoing funcs p.step → IsWithin p → suc (entry_count p) < p.schedule.limit
      → Some given ≡ command_at port p.step (next_of left) → now ≡ time_next (next_of left) → is_taken ≡ true → IsAt schedule full left moment p (at_port port commands)
      → IsAt schedule full (without_next left) moment q next)
  command_on [] port commands given now events ticks is_taken next own no_end no_sample next_is none machine within place given_it time taken at = absurd (cc given_it)
  command_on (e ∷ rest) port commands given now events ticks is_taken next own no_end no_sample next_is none machine within place given_it time taken at =
      let w = commanded_by port given in
      let entry = entry_now p now w in
      let q = record (with_entry p entry) { events = events; ticks = ticks } in
      let had = at.going none in
      let is = given_is e port p.step given given_it in
      let on = goes_next e rest q now w had.0 is.at is.what time no_end refl refl in
      let here = from_here funcs schedule rest q may on.whole in
      let below = at.below none (λ is_closing. absurd (cc is_closing)) in
      let long : entry_count q ≡ entry_count p + 1 = length-append p.schedule.entries (entry ∷ []) in
      let few : commands ≤ entry_count p = had.1.1 in
      let drops : full ≡ is_dropped_at p.step rest =
      had.1.3 ∙ dropped_later (e.step == p.step) (is_sample e.what) (is_dropped e.what) (is_dropped_at p.step rest) (number_same e.step p.step is.at) (ap is_sample is.what ∙ no_sample) in
      record {
        going = λ going. (
          on,
          subst (Remains full rest q) (sym next_is)
              (subst (λ (b : Bool). Remains full rest q (unless_ended q b (after_command q port (suc commands)))) (sym taken)
              (unless_full full rest q (after_command q port (suc commands)) going (last_is p.schedule.entries entry p.step refl)
              (λ room. after_command_on full rest q port (suc commands) room (omega (arith, few, long)) (omega (arith, place, long)) within.schedule.limit_high
              (none_before rest q entry (refl) here own) drops))),
        );
        below = λ going open_. below;
        ended = λ over_. absurd (over_ none);
      } where
        none_before : (rest : List ScheduleEntry) (q : Progress) (entry : ScheduleEntry) → q.schedule.entries ≡ p.schedule.entries ++ entry ∷ [] → MayReplay funcs (with_left q.schedule rest) → port_of entry.what ≡ Some port → NoEarlier port entry.step rest
        none_before [] q entry ends_ here own = tt
        none_before (next ∷ rest) q entry ends_ here own = λ same from other. (behind funcs q p.schedule.entries entry ends_ next rest here).ports port from (sym same) own other

  -- no command is refused
  refused_on : (left : List ScheduleEntry) (port commands from : ℕ) (given : Command) (why : Answer) (next : Phase) (later : List ScheduleEntry) → from ≡ port → IsRefused p port given why
      → Some given ≡ command_at from p.step (next_of left) → IsAt schedule full left moment p (at_port port commands) → IsAt schedule full later moment p next
  refused_on left port commands from given why next later is refused given_it at = record {
    going = λ going. absurd (not_refused left (at.going going).0 (subst (λ (n : ℕ). Some given ≡ command_at n p.step (next_of left)) is given_it) going);
    below = λ going open_. at.below going (λ is_closing. absurd (cc is_closing));
    ended = at.ended;
  } where
    not_refused : (left : List ScheduleEntry) → GoesOn schedule left p → Some given ≡ command_at port p.step (next_of left) → p.ending ≡ None → ⊥
    not_refused [] on given_it going = cc given_it
    not_refused (e ∷ rest) on given_it going =
        let here = from_here funcs schedule (e ∷ rest) p may on.whole in
        none_refused p port given why going (subst (HasSession (running_now p)) (given_is e port p.step given given_it).what (follows funcs p e rest here).session) refused

  -- a sample is asked for or not
  ask_on : (left : List ScheduleEntry) (is_asked : Bool) (next : Phase) → next ≡ (if is_asked then sampling else stepping) → is_asked ≡ is_asked_at p.step (next_of left) → (p.ending ≡ None → IsGoing funcs p.step)
      → IsAt schedule full left moment p asking → IsAt schedule full left moment p next
  ask_on left is_asked next next_is by machine at = record {
    going = λ going.
        let had = at.going going in
        let here = from_here funcs schedule left p may had.0.whole in
        let below = at.below going (λ is_closing. absurd (cc is_closing)) in (
          had.0,
          subst (Remains full left p) (sym next_is)
              (chosen (Remains full left p) is_asked sampling stepping (λ yes_. (had.1.0, sym by ∙ yes_, had.1.2))
              (λ no_. (had.1.0, past_here funcs p left here had.0.ahead had.1.1 (not_asked left (sym by ∙ no_)) (machine going) had.1.0 below))),
        );
    below = λ going open_. at.below going (λ is_closing. absurd (cc is_closing));
    ended = at.ended;
  } where
    not_both : (a b : Bool) → a ≡ true → (a && b) ≡ false → b ≡ false
    not_both true b is neither = neither
    not_both false b is neither = absurd (cc is)

    not_asked : (left : List ScheduleEntry) → is_asked_at p.step (next_of left) ≡ false → NoSample p.step left
    not_asked [] none = tt
    not_asked (e ∷ rest) none = λ same. not_both (e.step == p.step) (is_sample e.what) (number_same e.step p.step same) none

  -- a sample of the schedule is taken or dropped, as the schedule says
  sample_on : (left : List ScheduleEntry) (now ticks : ℕ) (is_in : Bool) (next : Phase)
      → (let q = record (with_entry p (entry_now p now (what_in is_in))) { ticks = ticks; is_sampled = true } in
      is_end (what_in is_in) ≡ false → is_sample (what_in is_in) ≡ true → next ≡ unless_ended q true stepping → p.ending ≡ None → IsGoing funcs p.step → is_in ≡ not full
      → now ≡ time_next (next_of left) → IsAt schedule full left moment p sampling → IsAt schedule full (without_next left) moment q next)
  sample_on [] now ticks is_in next no_end sample next_is none machine offered time at = absurd (let had = (at.going none).1.1 in cc had)
  sample_on (e ∷ rest) now ticks is_in next no_end sample next_is none machine offered time at =
      let w = what_in is_in in
      let entry = entry_now p now w in
      let q = record (with_entry p entry) { ticks = ticks; is_sampled = true } in
      let had = at.going none in
      let both = both_true (e.step == p.step) (is_sample e.what) had.1.1 in
      let at_step : e.step ≡ p.step = same_number e.step p.step both.0 in
      let drops : full ≡ is_dropped e.what = had.1.2 ∙ dropped_now (e.step == p.step) (is_sample e.what) (is_dropped e.what) (is_dropped_at p.step rest) both.0 both.1 in
      let what : e.what ≡ w = taken_is e.what is_in both.1 (offered ∙ ap not drops) in
      let on = goes_next e rest q now w had.0 at_step what time no_end refl refl in
      let here = from_here funcs schedule rest q may on.whole in
      let below = at.below none (λ is_closing. absurd (cc is_closing)) in
      record {
        going = λ going. (
          on,
          subst (Remains full rest q) (sym next_is)
              (unless_full full rest q stepping going (last_is p.schedule.entries entry p.step refl)
              (λ room. (
                room,
                past_here funcs q rest here on.ahead (no_command_after funcs q p.schedule.entries entry refl rest here sample) (no_sample_after funcs q p.schedule.entries entry refl rest here sample) machine room below,
              ))),
        );
        below = λ going open_. below;
        ended = λ over_. absurd (over_ none);
      }

  -- an end of the schedule is entered
  ended_on : (left : List ScheduleEntry) (now : ℕ) (why : EndCause) → moment.steps ≡ p.step → GoesOn schedule left p → now ≡ time_next (next_of left)
      → ((e : ScheduleEntry) (rest : List ScheduleEntry) → left ≡ e ∷ rest → MayReplay funcs (with_left p.schedule (e ∷ rest)) → p.step ≤ e.step → IsEndAt e p.step why)
      → IsScheduleEnd schedule moment (act_after moment p (ends why now))
  ended_on [] now why steps_ on time is = absurd (let ended = on.ended in cc ended)
  ended_on (e ∷ rest) now why steps_ on time is =
      let here = from_here funcs schedule (e ∷ rest) p may on.whole in
      let end = is e rest refl here on.ahead in
      let same = entry_is funcs p e rest here now (End why) time end.at end.what in
      let none = none_after funcs p e rest here (ap is_end end.what) in
      record {
        why = why;
        ending = refl;
        steps = steps_;
        before = p.schedule.entries;
        time = entry_time p now;
        entries = refl;
        rest = e ∷ rest;
        kept = on.whole;
        same = λ other. (λ i. record p.schedule { entries = p.schedule.entries ++ same i ∷ sym none i }) ∙ on.whole;
      }

-- an act that may come
pub act_on : (funcs : List Func) (schedule : ScheduleParts) (full : Bool) (left : List ScheduleEntry) (moment : Moment) (p : Progress) (phase next : Phase) (act : Act) → MayReplay funcs schedule → IsWithin p
    → FitsSoFar funcs moment p phase → MayAct moment p phase act next → EachBySchedule left (act_calls moment p act) → IsOffered full act → IsAt schedule full left moment p phase
    → IsAt schedule full (left_on left (act_calls moment p act)) (moment_after moment act) (act_after moment p act) next
act_on funcs schedule full left moment p (at_port port commands) next (passes from) replay within fits may by offered at =
    pass_on funcs schedule replay full moment p left port commands from next may.0 may.1 by.0 (λ going. (fits.going going).machine) at
act_on funcs schedule full left moment p (at_port port commands) next (starts options now is_taken) replay within fits may by offered at =
    let own : options.port ≡ port = may.0.port_is in
    command_on funcs schedule replay full moment p left port commands (command.Start options) now (suc p.events) (suc p.ticks) is_taken next (ap (λ (n : ℕ). Some n) own) refl refl may.4 may.1 (fits.going may.1).machine within may.3
    (subst (λ (n : ℕ). Some (command.Start options) ≡ command_at n p.step (next_of left)) own by.0) by.1.0 by.1.1.1.0 at
act_on funcs schedule full left moment p (at_port port commands) next (stops from number now is_taken) replay within fits may by offered at =
    let own : port ≡ from = sym may.0.port_is in
    let q = act_after moment p (stops from number now is_taken) in
    command_on funcs schedule replay full moment p left from commands (command.Stop number) now (suc p.events) p.ticks is_taken next refl refl refl
    (subst (λ (n : ℕ). next ≡ unless_ended q is_taken (after_command q n (suc commands))) own may.4) may.1 (fits.going may.1).machine within may.3 by.0 by.1.0 by.1.1.1.0
    (subst (λ (n : ℕ). IsAt schedule full left moment p (at_port n commands)) own at)
act_on funcs schedule full left moment p (at_port port commands) next (refuses from given why is_taken) replay within fits may by offered at =
    refused_on funcs schedule replay full moment p left port commands from given why next (left_on left (act_calls moment p (refuses from given why is_taken))) may.0.port_is may.1 by.0 at
act_on funcs schedule full left moment p (at_port port commands) next (cuts_off from given is_marked now is_taken) replay within fits may by offered at = record {
  going = λ going. absurd (cc going);
  below = λ going open_. absurd (cc going);
  ended = λ over_.
      short schedule left moment p (act_after moment p (cuts_off from given is_marked now is_taken)) (entry_time p now) (fits.going may.1).steps_are (at.going may.1).0.whole refl refl refl;
}
act_on funcs schedule full left moment p asking next (asks is_asked) replay within fits may by offered at =
    ask_on funcs schedule replay full moment p left is_asked next may.3 by.0 (λ going. (fits.going going).machine) at
act_on funcs schedule full left moment p sampling next (samples now true) replay within fits may by offered at =
    sample_on funcs schedule replay full moment p left now (suc p.ticks) true next refl refl may.2 may.0 (fits.going may.0).machine offered by.0 at
act_on funcs schedule full left moment p sampling next (samples now false) replay within fits may by offered at =
    sample_on funcs schedule replay full moment p left now p.ticks false next refl refl may.2 may.0 (fits.going may.0).machine offered by.0 at
act_on funcs schedule full left moment p stepping next (steps after events) replay within fits may by offered at =
    let had = at.going may.0 in
    record {
      going = λ going. (
        record { whole = had.0.whole; ended = had.0.ended; ahead = had.1.1 },
        subst (Remains full left (act_after moment p (steps after events))) (sym may.3) (had.1.0, refl),
      );
      below = λ going open_. absurd (open_ may.3);
      ended = λ over_. absurd (over_ may.0);
    }
act_on funcs schedule full left moment p stepping next (ends_short events now) replay within fits may by offered at = record {
  going = λ going. absurd (cc going);
  below = λ going open_. absurd (cc going);
  ended = λ over_.
      short schedule left moment p (act_after moment p (ends_short events now)) (entry_time p now) (fits.going may.0.going).steps_are (at.going may.0.going).0.whole refl refl refl;
}
act_on funcs schedule full left moment p closing next (ends why now) replay within fits may by offered at =
    let had = at.going may.0.going in
    let step = fits.going may.0.going in
    record {
      going = λ going. absurd (cc going);
      below = λ going open_. absurd (cc going);
      ended = λ over_.
          ended_on funcs schedule replay full moment p left now why step.steps_are had.0 by.0
          (λ e rest is here ahead. due_is funcs p e rest here moment why step.funcs_are step.steps_are may.1 ahead had.1.0);
    }
act_on funcs schedule full left moment p (must_end later) next (ends why now) replay within fits may by offered at =
    let had = at.going may.0.going in
    let is_full : why ≡ cause.Full = may.1 ∙ ap (λ (b : Bool). if b then cause.Full else cause.Memory) had.1.0 in
    record {
      going = λ going. absurd (cc going);
      below = λ going open_. absurd (cc going);
      ended = λ over_.
          ended_on funcs schedule replay full moment p left now why (fits.going may.0.going).steps_are had.0 by.0
          (λ e rest is here ahead. subst (IsEndAt e p.step) (sym is_full) (full_is funcs p e rest here had.1.0 had.1.1));
    }
act_on funcs schedule full left moment p phase next act replay within fits may by offered at = absurd may
