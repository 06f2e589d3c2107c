-- That a run has exactly one schedule under the step clock.
use Rattle.std.proofs.Common.{◌≡◌, ℕ, zero, suc, ◌-◌, ◌≤◌, List, refl, ap, sym, subst, ◌∙◌, ◌⊎◌, inl, inr, arith}
use Rattle.std.proofs.Math.Bridge.{le_prop}
use Rattle.std.specs.Prelude.{Option, Some, None}
use Rattle.guest_program.specs.declared.instr.Func.{Func}
use Rattle.code_event.specs.declared.event.Mode.TheVariants.{Leaf}
use Rattle.code_event.specs.declared.event.Options.{Options}
use Rattle.plain_machine.specs.PlainMachine.{plain}
use Rattle.plain_machine.specs.declared.ended.Ended.{Ended}
use Rattle.plain_machine.specs.declared.ended.Ended.TheVariants as ended
use Rattle.isolate.proofs.Going.{going_before}
use Rattle.isolate.specs.Fits.{IsGoing, EndsAt}
use Rattle.run_schedule.specs.declared.schedule.EndCause.{EndCause}
use Rattle.run_schedule.specs.declared.schedule.EndCause.TheVariants as cause
use Rattle.run_schedule.specs.declared.schedule.What.TheVariants.{End}
use Rattle.step_clock.proofs.Clock.{within_or_past}
use Rattle.step_clock.specs.ClockLaws.{ClocksRun, ClocksAgree}
use Rattle.step_clock.specs.StepClock.{entry_at, entries_before, with_end, IsWholeRecording, EndsWithin}

-- the cause for which a run ends where its machine ends in this way
abbrev cause_of : Ended → EndCause
cause_of ended.Halt = cause.Halt
cause_of ended.Overflow = cause.Overflow
cause_of ended.OffEnd = cause.OffEnd

-- a run that ends with its machine
pub record EndsItself (funcs : List Func) (budget step : ℕ) (why : EndCause) : Type 0 where
  pub how : Ended
  pub cause_is : why ≡ cause_of how
  pub within : step ≤ budget
  pub at : EndsAt funcs step how

-- a run that is ended by its budget
pub record IsStopped (funcs : List Func) (budget step : ℕ) (why : EndCause) : Type 0 where
  pub cause_is : why ≡ cause.Budget
  pub spent : step ≡ budget
  pub going : IsGoing funcs step

pub either_end : (funcs : List Func) (budget step : ℕ) (why : EndCause) → EndsWithin funcs budget step why → EndsItself funcs budget step why ⊎ IsStopped funcs budget step why
either_end funcs budget step cause.Halt ends = inl (record { how = ended.Halt; cause_is = refl; within = ends.0; at = ends.1 })
either_end funcs budget step cause.Overflow ends = inl (record { how = ended.Overflow; cause_is = refl; within = ends.0; at = ends.1 })
either_end funcs budget step cause.OffEnd ends = inl (record { how = ended.OffEnd; cause_is = refl; within = ends.0; at = ends.1 })
either_end funcs budget step cause.Budget ends = inr (record { cause_is = refl; spent = ends.0; going = ends.1 })
either_end funcs budget step cause.Full ends = absurd ends
either_end funcs budget step cause.Memory ends = absurd ends

-- the machine does not go on once it has ended
pub over_before : (funcs : List Func) (step later : ℕ) (how : Ended) → (plain funcs step).ended ≡ Some how → step ≤ later → IsGoing funcs later → ⊥
over_before funcs step later how over before going =
    let still : (plain funcs step).ended ≡ None = going_before funcs step later before going in
    let both : Some how ≡ None = sym over ∙ still in cc

-- two ends at one step and for one cause
record AreSame (step other : ℕ) (why because : EndCause) : Type 0 where
  pub steps : step ≡ other
  pub causes : why ≡ because

same_how : (how other : Ended) → Some how ≡ Some other → how ≡ other
same_how how other same = cc

itself_twice : (funcs : List Func) (budget step other : ℕ) (why because : EndCause) → EndsItself funcs budget step why → EndsItself funcs budget other because → AreSame step other why because
itself_twice funcs budget step other why because one two =
    elim (within_or_past other step) [
      | inr before ↦ absurd (over_before funcs step (other - 1) one.how one.at.1 (omega (arith, before)) two.at.0)
      | inl reached ↦ elim (within_or_past step other) [
        | inr before ↦ absurd (over_before funcs other (step - 1) two.how two.at.1 (omega (arith, before)) one.at.0)
        | inl within ↦
            let steps : step ≡ other = omega (arith, reached, within) in
            let hows : one.how ≡ two.how = same_how one.how two.how (sym one.at.1 ∙ (ap (λ n. (plain funcs n).ended) steps ∙ two.at.1)) in
            record { steps = steps; causes = one.cause_is ∙ (ap cause_of hows ∙ sym two.cause_is) }
      ]
    ]

ends_once : (funcs : List Func) (budget step other : ℕ) (why because : EndCause) → EndsWithin funcs budget step why → EndsWithin funcs budget other because → AreSame step other why because
ends_once funcs budget step other why because one two =
    elim (either_end funcs budget step why one) [
      | inl itself ↦ elim (either_end funcs budget other because two) [
        | inl again ↦ itself_twice funcs budget step other why because itself again
        | inr stopped ↦ absurd (over_before funcs step other itself.how itself.at.1 (omega (arith, itself.within, stopped.spent)) stopped.going)
      ]
      | inr stopped ↦ elim (either_end funcs budget other because two) [
        | inl itself ↦ absurd (over_before funcs other step itself.how itself.at.1 (omega (arith, itself.within, stopped.spent)) stopped.going)
        | inr again ↦ record { steps = stopped.spent ∙ sym again.spent; causes = stopped.cause_is ∙ sym again.cause_is }
      ]
    ]

-- the options of a whole recording
abbrev whole : (every : ℕ) → 1 ≤ every → every ≤ 1000000000 → Options
whole every low high = record { port = 0; interval = every; mode = Leaf; max_samples = None; low = low; high = high }

-- two options of whole recordings are the same
pub one_whole : (every : ℕ) (low : 1 ≤ every) (high : every ≤ 1000000000) (options : Options) → IsWholeRecording every options → options ≡ whole every low high
one_whole every low high options is =
    let Same : ℕ → Type 0 = λ interval. (l : 1 ≤ interval) (h : interval ≤ 1000000000)
    → record { port = options.port; interval = interval; mode = options.mode; max_samples = options.max_samples; low = l; high = h } ≡ whole every low high in
    let own : Same every = λ l h k. record { port = is.port k; interval = every; mode = is.mode k; max_samples = is.all k; low = le_prop l low k; high = le_prop h high k } in
    subst Same (sym is.interval) own options.low options.high

pub clocks_agree : ClocksAgree
clocks_agree funcs every budget limit entries others one two =
    let low : 1 ≤ every = subst (λ n. 1 ≤ n) one.recording.interval one.options.low in
    let high : every ≤ 1000000000 = subst (λ n. n ≤ 1000000000) one.recording.interval one.options.high in
    let options : one.options ≡ two.options = one_whole every low high one.options one.recording ∙ sym (one_whole every low high two.options two.recording) in
    let ends = ends_once funcs budget one.step two.step one.cause two.cause one.ends two.ends in
    one.made ∙ ((λ k. with_end limit (entries_before (options k) (ends.steps k)) (entry_at (ends.steps k) (End (ends.causes k)))) ∙ sym two.made)

-- an end of a run
pub record HasEnd (funcs : List Func) (budget : ℕ) : Type 0 where
  pub step : ℕ
  pub why : EndCause
  pub ends : EndsWithin funcs budget step why

itself : (funcs : List Func) (budget step : ℕ) (how : Ended) → step ≤ budget → EndsAt funcs step how → HasEnd funcs budget
itself funcs budget step ended.Halt within at = record { step = step; why = cause.Halt; ends = (within, at) }
itself funcs budget step ended.Overflow within at = record { step = step; why = cause.Overflow; ends = (within, at) }
itself funcs budget step ended.OffEnd within at = record { step = step; why = cause.OffEnd; ends = (within, at) }

-- a budget of one more step
more_budget : (funcs : List Func) (budget : ℕ) → IsGoing funcs budget → (found : Option Ended) → (plain funcs (suc budget)).ended ≡ found → HasEnd funcs (suc budget)
more_budget funcs budget going None found = record { step = suc budget; why = cause.Budget; ends = (refl, found) }
more_budget funcs budget going (Some how) found =
    let same : budget ≡ suc budget - 1 = omega arith in
    itself funcs (suc budget) (suc budget) how (omega arith) (subst (IsGoing funcs) same going, found)

pub has_end : (funcs : List Func) (budget : ℕ) → HasEnd funcs budget
has_end funcs zero = record { step = 0; why = cause.Budget; ends = (refl, refl) }
has_end funcs (suc budget) =
    let before = has_end funcs budget in
    elim (either_end funcs budget before.step before.why before.ends) [
      | inl ends ↦ itself funcs (suc budget) before.step ends.how (omega (arith, ends.within)) ends.at
      | inr stopped ↦ more_budget funcs budget (subst (IsGoing funcs) stopped.spent stopped.going) (plain funcs (suc budget)).ended refl
    ]

pub clocks_run : ClocksRun
clocks_run funcs every budget limit low high =
    let options = whole every low high in
    let end = has_end funcs budget in
    let entries = with_end limit (entries_before options end.step) (entry_at end.step (End end.why)) in (
      entries,
      record {
        options = options;
        recording = record { port = refl; interval = refl; mode = refl; all = refl };
        step = end.step;
        cause = end.why;
        ends = end.ends;
        made = refl;
      },
    )
