-- What the status of a call says of how it ended.
use Rattle.std.proofs.Common.{◌≡◌, ℕ, List, arith}
use Rattle.prof_top.specs.Asked.{Kind, guest_program, item_list, AsksFor, AsksForKind, LacksFile, HoldsUnreadable}
use Rattle.prof_top.specs.Causes.{Outside, IsEndedAs}
use Rattle.prof_top.specs.Ending.{status_of}
use Rattle.prof_top.specs.Status.{refusal_of}
use Rattle.prof_top.specs.declared.ending.Ending.{Ending}
use Rattle.prof_top.specs.declared.ending.Ending.TheVariants.{ProgramRefused, Missing, ItemsRefused}

-- a text of this kind cannot be read
pub refused_so : (words : List (List ℕ)) (before now : Outside) (ending : Ending) (kind : Kind) → IsEndedAs words before now ending → status_of ending ≡ refusal_of kind
    → AsksForKind words kind (HoldsUnreadable before.held)
refused_so words before now (ProgramRefused name line cause) guest_program is status = is
refused_so words before now (ItemsRefused line cause) item_list is status = is
refused_so words before now ending guest_program is status = absurd (omega (arith, status))
refused_so words before now ending item_list is status = absurd (omega (arith, status))

-- there is no file under a name that the words ask for
pub absent_so : (words : List (List ℕ)) (before now : Outside) (ending : Ending) → IsEndedAs words before now ending → status_of ending ≡ 3
    → AsksFor words (λ text. LacksFile before.held text.name)
absent_so words before now (Missing name) is status = is.0
absent_so words before now ending is status = absurd (omega (arith, status))
