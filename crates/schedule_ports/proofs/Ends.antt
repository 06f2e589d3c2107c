-- The end that is due, or that must come, is the entry that comes next.
use Rattle.std.proofs.Common.{◌≡◌, ℕ, suc, ◌-◌, ◌<◌, ◌≤◌, List, [], ◌∷◌, length, refl, ap, sym, subst, ◌∙◌, inl, inr, arith}
use Rattle.std.proofs.lemmas.Bool.Decides.{nat_tests}
use Rattle.std.specs.Prelude.{true, false, ◌==◌, Option, Some, None}
use Rattle.guest_program.specs.declared.instr.Func.{Func}
use Rattle.plain_machine.specs.PlainMachine.{plain}
use Rattle.plain_machine.specs.declared.ended.Ended.{Ended}
use Rattle.plain_machine.specs.declared.ended.Ended.TheVariants as ended
use Rattle.run_schedule.specs.Schedule.{IsAtLastStep, IsWithinLimits}
use Rattle.run_schedule.specs.declared.schedule.EndCause.{EndCause}
use Rattle.run_schedule.specs.declared.schedule.EndCause.TheVariants as cause
use Rattle.run_schedule.specs.declared.schedule.ScheduleEntry.{ScheduleEntry}
use Rattle.run_schedule.specs.declared.schedule.What.{What}
use Rattle.run_schedule.specs.declared.schedule.What.TheVariants.{Sampled, Dropped, Start, Stop, End}
use Rattle.isolate.proofs.Going.{going_before}
use Rattle.isolate.specs.Fits.{EndsAt, IsGoing, MayComeAbout}
use Rattle.isolate_acts.specs.Phases.{IsDue}
use Rattle.isolate_acts.specs.Progress.{Moment, Progress, is_filled}
use Rattle.schedule_ports.specs.ScheduleTurns.{MayReplay, with_left}
use Rattle.schedule_ports.proofs.Next.{comes, follows, not_short, within_or_past}

-- an entry is the end for a cause, at a step
pub record IsEndAt (e : ScheduleEntry) (step : ℕ) (why : EndCause) : Type 0 where
  pub at : e.step ≡ step
  pub what : e.what ≡ End why

-- the cause of an end with the machine
abbrev pub cause_of : Ended → EndCause
cause_of ended.Halt = cause.Halt
cause_of ended.Overflow = cause.Overflow
cause_of ended.OffEnd = cause.OffEnd

same_how : (how other : Ended) → Some how ≡ Some other → how ≡ other
same_how how other same = cc

-- the machine does not go on once it has ended
over_before : (funcs : List Func) (step later : ℕ) (how : Ended) → (plain funcs step).ended ≡ Some how → step ≤ later → IsGoing funcs later → ⊥
over_before funcs step later how over before going =
    let still : (plain funcs step).ended ≡ None = going_before funcs step later before going in
    let both : Some how ≡ None = sym over ∙ still in cc

-- where the machine has ended and an entry at this step or later may come about, it is the end for that
module _ (funcs : List Func) (e : ScheduleEntry) (step : ℕ) (how : Ended) (over : (plain funcs step).ended ≡ Some how) (ahead : step ≤ e.step) where
  itself : (other : Ended) → e.what ≡ End (cause_of other) → EndsAt funcs e.step other → IsEndAt e step (cause_of how)
  itself other is ends =
      elim (within_or_past e.step step) [
        | inl within ↦
            let at : e.step ≡ step = omega (arith, within, ahead) in
            let same : how ≡ other = same_how how other (sym over ∙ ap (λ (n : ℕ). (plain funcs n).ended) (sym at) ∙ ends.1) in
            record { at = at; what = is ∙ ap (λ (h : Ended). End (cause_of h)) (sym same) }
        | inr past ↦ absurd (over_before funcs step (e.step - 1) how over (omega (arith, past)) ends.0)
      ]

  going_not : IsGoing funcs e.step → ⊥
  going_not going = over_before funcs step e.step how over ahead going

  by_what : (w : What) → e.what ≡ w → MayComeAbout funcs e.step w → IsEndAt e step (cause_of how)
  by_what Sampled is comes_ = absurd (going_not comes_)
  by_what Dropped is comes_ = absurd (going_not comes_)
  by_what (Start options) is comes_ = absurd (going_not comes_)
  by_what (Stop port number) is comes_ = absurd (going_not comes_)
  by_what (End cause.Halt) is comes_ = itself ended.Halt is comes_
  by_what (End cause.Overflow) is comes_ = itself ended.Overflow is comes_
  by_what (End cause.OffEnd) is comes_ = itself ended.OffEnd is comes_
  by_what (End cause.Budget) is comes_ = absurd (going_not comes_)
  by_what (End cause.Full) is comes_ = absurd (going_not comes_)
  by_what (End cause.Memory) is comes_ = absurd (going_not comes_)

  pub ends_itself : MayComeAbout funcs e.step e.what → IsEndAt e step (cause_of how)
  ends_itself comes_ = by_what e.what refl comes_

full_not : (count limit : ℕ) → (suc count == limit) ≡ false → suc count ≡ limit → ⊥
full_not count limit room last = grind (arith, nat_tests)

filled_is : (count limit : ℕ) → (suc count == limit) ≡ true → suc count ≡ limit
filled_is count limit filled = grind (arith, nat_tests)

-- two steps at which the last of these entries is
same_last : (entries : List ScheduleEntry) (one other : ℕ) → 1 ≤ length entries → IsAtLastStep entries one → IsAtLastStep entries other → one ≡ other
same_last [] one other some at also = absurd (omega (arith, some))
same_last (e ∷ []) one other some at also = sym at ∙ also
same_last (e ∷ next ∷ entries) one other some at also = same_last (next ∷ entries) one other (omega arith) at also

module _ (funcs : List Func) (p : Progress) (e : ScheduleEntry) (rest : List ScheduleEntry) (may : MayReplay funcs (with_left p.schedule (e ∷ rest))) where
  -- where the steps are the budget and the machine goes on, it is the end for that
  spent : (plain funcs p.step).ended ≡ None → p.step ≡ p.schedule.budget → p.step ≤ e.step → is_filled p ≡ false → IsEndAt e p.step cause.Budget
  spent going budget ahead room = by_what e.what refl (comes funcs p e rest may) (follows funcs p e rest may).limit where
    below_not : e.step < p.schedule.budget → ⊥
    below_not below = omega (arith, below, budget, ahead)

    itself_not : (how : Ended) → e.step ≤ p.schedule.budget → (plain funcs e.step).ended ≡ Some how → ⊥
    itself_not how within over =
        let at : e.step ≡ p.step = omega (arith, within, budget, ahead) in
        let both : Some how ≡ None = sym over ∙ ap (λ (n : ℕ). (plain funcs n).ended) at ∙ going in cc

    by_what : (w : What) → e.what ≡ w → MayComeAbout funcs e.step w → IsWithinLimits (with_left p.schedule (e ∷ rest)) p.schedule.entries e.step w → IsEndAt e p.step cause.Budget
    by_what Sampled is comes_ limit = absurd (below_not limit.1)
    by_what Dropped is comes_ limit = absurd (below_not limit.0.1)
    by_what (Start options) is comes_ limit = absurd (below_not limit.1)
    by_what (Stop port number) is comes_ limit = absurd (below_not limit.1)
    by_what (End cause.Halt) is comes_ limit = absurd (itself_not ended.Halt limit.1 comes_.1)
    by_what (End cause.Overflow) is comes_ limit = absurd (itself_not ended.Overflow limit.1 comes_.1)
    by_what (End cause.OffEnd) is comes_ limit = absurd (itself_not ended.OffEnd limit.1 comes_.1)
    by_what (End cause.Budget) is comes_ limit = record { at = limit.1 ∙ sym budget; what = is }
    by_what (End cause.Full) is comes_ limit = absurd (full_not (length p.schedule.entries) p.schedule.limit room limit.0)
    by_what (End cause.Memory) is comes_ limit = absurd (not_short funcs p e rest may is)

  -- an end that is due
  pub due_is : (moment : Moment) (why : EndCause) → moment.funcs ≡ funcs → moment.steps ≡ p.step → IsDue moment p why → p.step ≤ e.step → is_filled p ≡ false → IsEndAt e p.step why
  due_is moment why same steps due ahead room = by_why why due where
    here : (how : Option Ended) → (plain moment.funcs moment.steps).ended ≡ how → (plain funcs p.step).ended ≡ how
    here how is = subst (λ (f : List Func). (plain f p.step).ended ≡ how) same (subst (λ (n : ℕ). (plain moment.funcs n).ended ≡ how) steps is)

    by_why : (why : EndCause) → IsDue moment p why → IsEndAt e p.step why
    by_why cause.Halt due = ends_itself funcs e p.step ended.Halt (here (Some ended.Halt) due) ahead (comes funcs p e rest may)
    by_why cause.Overflow due = ends_itself funcs e p.step ended.Overflow (here (Some ended.Overflow) due) ahead (comes funcs p e rest may)
    by_why cause.OffEnd due = ends_itself funcs e p.step ended.OffEnd (here (Some ended.OffEnd) due) ahead (comes funcs p e rest may)
    by_why cause.Budget due = spent (here None due.0) due.1 ahead room
    by_why cause.Full due = absurd due
    by_why cause.Memory due = absurd due

  -- the end where one place is left
  pub full_is : is_filled p ≡ true → IsAtLastStep p.schedule.entries p.step → IsEndAt e p.step cause.Full
  full_is filled last = by_what e.what refl (follows funcs p e rest may).limit where
    count_is : suc (length p.schedule.entries) ≡ p.schedule.limit
    count_is = filled_is (length p.schedule.entries) p.schedule.limit filled

    no_place : suc (length p.schedule.entries) < p.schedule.limit → ⊥
    no_place place = omega (arith, place, count_is)

    some : 1 ≤ length p.schedule.entries
    some = let low : 2 ≤ p.schedule.limit = may.in_range.limit_low in omega (arith, low, count_is)

    by_what : (w : What) → e.what ≡ w → IsWithinLimits (with_left p.schedule (e ∷ rest)) p.schedule.entries e.step w → IsEndAt e p.step cause.Full
    by_what Sampled is limit = absurd (no_place limit.0)
    by_what Dropped is limit = absurd (no_place limit.0.0)
    by_what (Start options) is limit = absurd (no_place limit.0)
    by_what (Stop port number) is limit = absurd (no_place limit.0)
    by_what (End cause.Halt) is limit = absurd (no_place limit.0)
    by_what (End cause.Overflow) is limit = absurd (no_place limit.0)
    by_what (End cause.OffEnd) is limit = absurd (no_place limit.0)
    by_what (End cause.Budget) is limit = absurd (no_place limit.0)
    by_what (End cause.Full) is limit = record { at = same_last p.schedule.entries e.step p.step some limit.1 last; what = is }
    by_what (End cause.Memory) is limit = absurd (no_place limit.0)
