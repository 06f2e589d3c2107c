-- That the machine says of the functions' code what the plain machine says of it.
use Rattle.std.proofs.Common.{◌≡◌, ℕ, List, length, refl, ap, ◌∙◌, sym}
use Rattle.std.specs.Prelude.{Bool, true, false, ◌&&◌, ◌==◌, None, is_some}
use Rattle.std.specs.List.{slice_get}
use Rattle.std.specs.Option.{option_map_or}
use Rattle.prof_base.specs.declared.ids.FuncId.{FuncId}
use Rattle.code_objects.specs.Changes.{OthersStay, same_name}
use Rattle.code_objects.specs.CodeObjects.{CodeParts, optimised_name, plain_name}
use Rattle.plain_machine.specs.PlainMachine.{Code, State, code_at}
use Rattle.guest_machine.specs.Machine.{AreSaid, flag_at, program_of}
use Rattle.guest_machine.specs.Rules.{has_code}
use Rattle.guest_machine.specs.declared.machine.Machine.{Machine}

-- the same functions have optimised code
abbrev pub SameOptimised : CodeParts → CodeParts → Type 0
SameOptimised old new = (func : FuncId) → has_code new (optimised_name func) ≡ has_code old (optimised_name func)

-- where the plain machine says the same, and the same functions have optimised code and flags
pub said_still : (old new : Machine) (before after : State) → program_of new ≡ program_of old → SameOptimised old.code new.code → new.disabled ≡ old.disabled → after.code ≡ before.code → AreSaid old before → AreSaid new after
said_still old new before after program code disabled same said =
    let codes_at : (func : ℕ) → code_at before func ≡ code_at after func = λ func. ap (λ codes. option_map_or (λ (code : Code). code) (slice_get codes func) (record { optimised = false; disabled = false; reason = None })) (sym same) in
    record {
      count = ap (λ (codes : List Code). length codes) same ∙ said.count ∙ sym (ap length program);
      optimised = λ func. code func ∙ said.optimised func ∙ ap (λ (c : Code). c.optimised) (codes_at func.0);
      disabled = λ func. ap (λ flags. flag_at flags func.0) disabled ∙ said.disabled func ∙ ap (λ (c : Code). c.disabled) (codes_at func.0);
    }

-- where the machine's code and flags are as they were
pub said_kept : (old new : Machine) (before after : State) → new.code ≡ old.code → new.disabled ≡ old.disabled → after.code ≡ before.code → AreSaid old before → AreSaid new after
said_kept old new before after code = said_still old new before after (ap (λ c. c.funcs) code) (λ func. ap (λ c. has_code c (optimised_name func)) code)

-- other plain code leaves it to the same functions to have optimised code
pub plain_apart : (func other : FuncId) → same_name (plain_name func) (optimised_name other) ≡ false
plain_apart func other = never (func.0 == other.0)
  where
    never : (b : Bool) → (b && false) ≡ false
    never true = refl
    never false = refl

pub plain_alone : (old new : CodeParts) (func : FuncId) → OthersStay old new (plain_name func) → SameOptimised old new
plain_alone old new func others other = ap is_some (others (optimised_name other) (plain_apart func other))
