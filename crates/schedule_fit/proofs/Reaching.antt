-- Which entries fit, for a machine that has reached their steps or has ended before.
use Rattle.std.proofs.Common.{◌≡◌, ◌↔◌, ℕ, ◌<◌, ◌≤◌, ◌-◌, ◌^◌, List, inl, inr, ap, sym, subst, ◌∙◌, arith}
use Rattle.std.proofs.lemmas.Bool.{cases_lt, eqb-true}
use Rattle.std.specs.Prelude.{◌≢◌, true, false, Option, Some, None, is_some, nat_eq, min, IsTrue}
use Rattle.guest_machine.specs.Machine.{program_of}
use Rattle.guest_machine.specs.declared.machine.Machine.{Machine}
use Rattle.guest_program.specs.declared.instr.Func.{Func}
use Rattle.isolate.proofs.Going.{going_before}
use Rattle.isolate.specs.Fits.{IsGoing, MayComeAbout}
use Rattle.plain_machine.specs.PlainMachine.{plain}
use Rattle.plain_machine.specs.declared.ended.Ended.{Ended}
use Rattle.run_schedule.specs.declared.schedule.EndCause.TheVariants as cause
use Rattle.run_schedule.specs.declared.schedule.What.{What}
use Rattle.run_schedule.specs.declared.schedule.What.TheVariants.{Sampled, Dropped, Start, Stop, End}
use Rattle.schedule_fit.specs.Reached.{HasReached, Runs, end_wanted}

-- after this many steps the program has ended in this way, or has not ended
abbrev Wanted : List Func → ℕ → Option Ended → Type 0
Wanted funcs step None = IsGoing funcs step
Wanted funcs step (Some how) = IsGoing funcs (step - 1) × ((plain funcs step).ended ≡ Some how)

same : {A : Type 0} → A ↔ A
same = (λ a. a, λ a. a)

wanted : (funcs : List Func) (step : ℕ) (what : What) → MayComeAbout funcs step what ↔ Wanted funcs step (end_wanted what)
wanted funcs step Sampled = same
wanted funcs step Dropped = same
wanted funcs step (Start options) = same
wanted funcs step (Stop port session) = same
wanted funcs step (End cause.Halt) = same
wanted funcs step (End cause.Overflow) = same
wanted funcs step (End cause.OffEnd) = same
wanted funcs step (End cause.Budget) = same
wanted funcs step (End cause.Full) = same
wanted funcs step (End cause.Memory) = same

ended_so : (machine : Machine) (how : Option Ended) → Runs machine → machine.ended ≡ how → Wanted (program_of machine) machine.steps how
ended_so machine None runs is = sym runs.reflects.state.ended ∙ is
ended_so machine (Some how) runs is = (runs.going, sym runs.reflects.state.ended ∙ is)

-- where the machine is at the step, and has ended as is wanted
pub fits_there : (machine : Machine) (step : ℕ) (what : What) → Runs machine → machine.steps ≡ step → machine.ended ≡ end_wanted what → MayComeAbout (program_of machine) step what
fits_there machine step what runs at ended =
    subst (λ n. MayComeAbout (program_of machine) n what) at
    ((wanted (program_of machine) machine.steps what).1 (ended_so machine (end_wanted what) runs ended))

-- where the program goes on to this step or a later one, the machine has not ended
goes_on : (machine : Machine) (later : ℕ) → Runs machine → machine.steps ≤ later → IsGoing (program_of machine) later → is_some machine.ended ≡ false
goes_on machine later runs before going =
    ap (λ e. is_some e) (runs.reflects.state.ended ∙ going_before (program_of machine) machine.steps later before going)

no_end : (machine : Machine) (later : ℕ) → Runs machine → machine.steps ≤ later → IsGoing (program_of machine) later → is_some machine.ended ≡ true → ⊥
no_end machine later runs before going ended =
    let goes : is_some machine.ended ≡ false = goes_on machine later runs before going in cc (goes, ended)

at_step : (machine : Machine) (step : ℕ) → HasReached machine step → (machine.steps < step → is_some machine.ended ≡ true → ⊥) → machine.steps ≡ step
at_step machine step reached never = elim (cases_lt machine.steps step) [
  | inl early ↦ absurd (never early (reached.there early))
  | inr late ↦ omega (arith, late, reached.up_to)
]

wanted_at : (machine : Machine) (step : ℕ) (how : Option Ended) → Runs machine → HasReached machine step → Wanted (program_of machine) step how → machine.steps ≡ step
wanted_at machine step None runs reached going = at_step machine step reached (λ early. no_end machine step runs reached.up_to going)
wanted_at machine step (Some how) runs reached ends =
    at_step machine step reached (λ early. no_end machine (step - 1) runs (omega (arith, early)) ends.0)

wanted_end : (machine : Machine) (how : Option Ended) → Runs machine → Wanted (program_of machine) machine.steps how → machine.ended ≡ how
wanted_end machine None runs going = runs.reflects.state.ended ∙ going
wanted_end machine (Some how) runs ends = runs.reflects.state.ended ∙ ends.1

-- what fits is at its step
pub fits_at : (machine : Machine) (step : ℕ) (what : What) → Runs machine → HasReached machine step → MayComeAbout (program_of machine) step what → machine.steps ≡ step
fits_at machine step what runs reached fits =
    wanted_at machine step (end_wanted what) runs reached ((wanted (program_of machine) step what).0 fits)

-- what fits has ended as is wanted
pub fits_ended : (machine : Machine) (step : ℕ) (what : What) → Runs machine → HasReached machine step → MayComeAbout (program_of machine) step what → machine.ended ≡ end_wanted what
fits_ended machine step what runs reached fits =
    wanted_end machine (end_wanted what) runs
    (subst (λ n. Wanted (program_of machine) n (end_wanted what)) (sym (fits_at machine step what runs reached fits)) ((wanted (program_of machine) step what).0 fits))

-- Where the machine counts another number of steps than the entry's, the entry does not fit.
pub fits_only_there : (old machine : Machine) (counted step : ℕ) (what : What) → program_of machine ≡ program_of old → Runs machine → HasReached machine step → counted ≡ min machine.steps (2 ^ 64 - 1)
    → counted ≢ step → IsTrue (nat_eq counted step) ↔ MayComeAbout (program_of old) step what
fits_only_there old machine counted step what program runs reached count apart = (
  λ is. absurd (apart (eqb-true counted step is)),
  λ fits. absurd (apart (count ∙ (sym runs.reflects.counted ∙ fits_at machine step what runs reached (subst (λ funcs. MayComeAbout funcs step what) (sym program) fits)))),
)
