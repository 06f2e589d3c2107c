-- Each turn on a schedule stays on the schedule.
use Rattle.std.proofs.Common.{◌≡◌, ℕ, suc, ◌<◌, ◌≤◌, List, [], ◌∷◌, ◌++◌, length, refl, ap, sym, subst, ◌∙◌, arith}
use Rattle.std.proofs.lemmas.Bool.Decides.{nat_tests}
use Rattle.std.specs.Prelude.{Bool, true, false, ◌&&◌, ◌==◌, if◌then◌else◌}
use Rattle.guest_program.specs.declared.instr.Func.{Func}
use Rattle.run_schedule.specs.ScheduleParts.{ScheduleParts}
use Rattle.run_schedule.specs.declared.schedule.ScheduleEntry.{ScheduleEntry}
use Rattle.isolate_acts.proofs.FitsKept.{acts_fit}
use Rattle.isolate_acts.proofs.Within.{acts_within}
use Rattle.isolate_acts.specs.Acts.{Act, act_after, act_calls, calls_on, moment_after, moment_on, progress_on}
use Rattle.isolate_acts.specs.FitsSoFar.{FitsSoFar}
use Rattle.isolate_acts.specs.Phases.{Phase, at_port, stepping, closing, must_end, over, LeadTo, IsOver, first_phase}
use Rattle.isolate_acts.specs.Progress.{Moment, Progress, IsWithin, entry_count, goes_on, is_filled}
use Rattle.port_calls.proofs.Answering.{first_calls, later_calls, state_on-append}
use Rattle.isolate_ends.specs.Offered.{AreOffered}
use Rattle.schedule_ports.specs.ScheduleCalls.{is_dropped_at, left_after, left_on}
use Rattle.schedule_ports.specs.ScheduleTurns.{IsAhead, IsOnSchedule, IsScheduleTurn, MayReplay, OpeningsAreOnSchedule, TurnsStayOnSchedule}
use Rattle.schedule_ports.proofs.Acts.{act_on}
use Rattle.schedule_ports.proofs.Calls.{EachBySchedule, IsBySchedule, each_by_schedule}
use Rattle.schedule_ports.proofs.Phases.{IsAt, NoEarlier}

pub run_on : (funcs : List Func) (schedule : ScheduleParts) (full : Bool) (left : List ScheduleEntry) (moment : Moment) (p : Progress) (phase last : Phase) (acts : List Act) → MayReplay funcs schedule → IsWithin p
    → FitsSoFar funcs moment p phase → LeadTo moment p phase acts last → EachBySchedule left (calls_on moment p acts) → AreOffered full acts → IsAt schedule full left moment p phase
    → IsAt schedule full (left_on left (calls_on moment p acts)) (moment_on moment acts) (progress_on moment p acts) last
run_on funcs schedule full left moment p phase last [] may within fits lead by offered at = subst (IsAt schedule full left moment p) (sym lead) at
run_on funcs schedule full left moment p phase last (act ∷ acts) may within fits lead by offered at =
    let then_ = moment_after moment act in
    let after = act_after moment p act in
    let calls = act_calls moment p act in
    let more = calls_on then_ after acts in
    let next = act_on funcs schedule full left moment p phase lead.0 act may within fits lead.1 (first_calls IsBySchedule left_after left calls more by) offered.0 at in
    subst (λ (l : List ScheduleEntry). IsAt schedule full l (moment_on then_ acts) (progress_on then_ after acts) last) (sym (state_on-append left_after left calls more))
    (run_on funcs schedule full (left_on left calls) then_ after lead.0 last acts may (acts_within moment p phase lead.0 act within lead.1) (acts_fit funcs moment p phase lead.0 act fits lead.1) lead.2
    (later_calls IsBySchedule left_after left calls more by) offered.1 next)

none_sampled : (p : Progress) → p.is_sampled ≡ false → first_phase p ≡ at_port 0 0
none_sampled p fresh = ap (λ (b : Bool). if b then (if is_filled p then must_end over else stepping) else at_port 0 0) (neither (goes_on p) p.is_sampled fresh) where
  neither : (a b : Bool) → b ≡ false → (a && b) ≡ false
  neither true b is = is
  neither false b is = refl

zero_first : (n : ℕ) → 0 ≤ n
zero_first n = omega arith

none_earlier : (step : ℕ) (left : List ScheduleEntry) → NoEarlier 0 step left
none_earlier step [] = tt
none_earlier step (e ∷ left) = λ same from own. zero_first from

-- where a turn begins
begins : (schedule : ScheduleParts) (left : List ScheduleEntry) (moment : Moment) (p : Progress) → IsOnSchedule schedule left p → IsAt schedule (is_dropped_at p.step left) left moment p (first_phase p)
begins schedule left moment p on =
    subst (IsAt schedule (is_dropped_at p.step left) left moment p) (sym (none_sampled p on.fresh))
    (record {
      going = λ going. (record { whole = on.whole; ended = on.ended; ahead = on.ahead }, (on.room, zero_first (entry_count p), none_earlier p.step left, refl));
      below = λ going open_. on.below;
      ended = λ over_. absurd (over_ on.going);
    })

-- where a turn is over
turned : (schedule : ScheduleParts) (full : Bool) (left : List ScheduleEntry) (moment : Moment) (p : Progress) (last : Phase) → IsOver moment p last → IsAt schedule full left moment p last
    → IsScheduleTurn schedule left moment p
turned schedule full left moment p closing is at = record {
  goes = λ going.
      let had = at.going going in
      record { going = going; fresh = had.1.1; room = had.1.0; below = is.0.budget; whole = had.0.whole; ended = had.0.ended; ahead = had.0.ahead };
  ends = at.ended;
}
turned schedule full left moment p over is at = record { goes = λ going. absurd (is going); ends = at.ended }
turned schedule full left moment p last is at = absurd is

pub turns_stay : TurnsStayOnSchedule
turns_stay schedule left moment p acts last turn =
    let full = is_dropped_at p.step left in
    turned schedule full (left_on left (calls_on moment p acts)) (moment_on moment acts) (progress_on moment p acts) last turn.over
    (run_on moment.funcs schedule full left moment p (first_phase p) last acts turn.may turn.within turn.fits turn.follow (each_by_schedule left (calls_on moment p acts) turn.by_schedule) turn.offered
    (begins schedule left moment p turn.on_schedule))

-- an isolate that opens is on the schedule
pub openings_on : OpeningsAreOnSchedule
openings_on funcs schedule p may opened first fresh going =
    let limit : 2 ≤ schedule.limit = may.in_range.limit_low in
    let budget : 1 ≤ schedule.budget = may.in_range.budget_low in
    record {
      going = going;
      fresh = fresh;
      room = ap (λ (s : ScheduleParts). suc (length s.entries) == s.limit) opened ∙ not_full schedule.limit limit;
      below = subst (λ (s : ScheduleParts). p.step < s.budget) (sym opened) (omega (arith, first, budget));
      whole = ap (λ (s : ScheduleParts). record s { entries = s.entries ++ schedule.entries }) opened;
      ended = may.legal.ended;
      ahead = subst (λ (n : ℕ). IsAhead n schedule.entries) (sym first) (all_ahead schedule.entries);
    } where
      not_full : (limit : ℕ) → 2 ≤ limit → (1 == limit) ≡ false
      not_full limit places = grind (arith, nat_tests)

      all_ahead : (entries : List ScheduleEntry) → IsAhead 0 entries
      all_ahead [] = tt
      all_ahead (e ∷ entries) = zero_first e.step
