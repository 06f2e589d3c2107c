-- A machine that runs alone: before its first step, and step by step.
use Rattle.std.proofs.Common.{◌≡◌, ℕ, suc, ◌<◌, ◌≤◌, ◌-◌, ◌^◌, List, [], ◌∷◌, ◌++◌, refl, sym, subst, ◌∙◌, arith}
use Rattle.std.proofs.Math.Nat.{min-eq_left}
use Rattle.std.specs.Prelude.{None}
use Rattle.code_event.specs.declared.event.CodeEvent.{CodeEvent}
use Rattle.guest_machine.specs.Machine.{IsMachine, Reflects, program_of}
use Rattle.guest_machine.specs.declared.machine.Machine.{Machine}
use Rattle.isolate.specs.Fits.{IsGoing}
use Rattle.schedule_fit.specs.Reached.{Runs}

-- a machine has counted the steps that it reflects, as far as 64 bits count
counts : (machine : Machine) (steps : ℕ) (events : List CodeEvent) → Reflects machine steps events → steps ≤ 2 ^ 64 - 1 → machine.steps ≡ steps
counts machine steps events reflects few = reflects.counted ∙ min-eq_left few

runs_at : (machine : Machine) (steps : ℕ) (events : List CodeEvent) → IsMachine machine → Reflects machine steps events → steps ≤ 2 ^ 64 - 1 → IsGoing (program_of machine) (steps - 1) → Runs machine
runs_at machine steps events whole reflects few going =
    let counted : steps ≡ machine.steps = sym (counts machine steps events reflects few) in record {
      whole = whole;
      events = events;
      reflects = subst (λ n. Reflects machine n events) counted reflects;
      going = subst (λ n. IsGoing (program_of machine) (n - 1)) counted going;
    }

-- before the first step
pub begins : (machine : Machine) (event : CodeEvent) → IsMachine machine → Reflects machine 0 (event ∷ []) → Runs machine
begins machine event whole reflects = runs_at machine 0 (event ∷ []) whole reflects (omega arith) refl

pub begins_at_0 : (machine : Machine) (event : CodeEvent) → Reflects machine 0 (event ∷ []) → machine.steps ≡ 0
begins_at_0 machine event reflects = counts machine 0 (event ∷ []) reflects (omega arith)

abbrev pub Follows : Machine → Machine → List CodeEvent → Type 0
Follows old new more = (steps : ℕ) (events : List CodeEvent) → Reflects old steps events → Reflects new (suc steps) (events ++ more)

-- a step from a machine that has not ended
pub steps_on : (old new : Machine) (more : List CodeEvent) → Runs old → old.ended ≡ None → old.steps < 2 ^ 64 - 1 → IsMachine new → program_of new ≡ program_of old → Follows old new more → Runs new
steps_on old new more runs ended few whole program follows =
    let going : IsGoing (program_of old) old.steps = sym runs.reflects.state.ended ∙ ended in
    let before : old.steps ≡ suc old.steps - 1 = omega arith in
    runs_at new (suc old.steps) (runs.events ++ more) whole (follows old.steps runs.events runs.reflects) (omega (arith, few))
    (subst (λ funcs. IsGoing funcs (suc old.steps - 1)) (sym program) (subst (λ n. IsGoing (program_of old) n) before going))

pub steps_by_1 : (old new : Machine) (more : List CodeEvent) → Runs old → old.steps < 2 ^ 64 - 1 → Follows old new more → new.steps ≡ suc old.steps
steps_by_1 old new more runs few follows =
    counts new (suc old.steps) (runs.events ++ more) (follows old.steps runs.events runs.reflects) (omega (arith, few))
