-- What holds of every tree.
use Rattle.std.specs.Prelude.{◌≡◌, List, IsTrue}
use Rattle.std.specs.List.{Contains}
use Rattle.prof_base.specs.Prefix.{IsPrefix}
use Rattle.code_event.specs.Tree.{is_below}
use Rattle.code_event.specs.declared.path.PathStep.{PathStep}
use Rattle.code_event.specs.declared.visit.Visit.{Visit}

-- the path of one of the ticks begins with this one
abbrev pub BeginsSome : List PathStep → List Visit → Type 0
BeginsSome node visits = (visit : Visit) × Contains visits visit × IsPrefix node visit.path

-- exactly one node is directly above this one
pub record HasOneParent (nodes : List (List PathStep)) (node : List PathStep) : Type 0 where
  pub parent : List PathStep
  pub stands : Contains nodes parent
  pub above : IsTrue (is_below parent node)
  pub alone : (other : List PathStep) → IsTrue (is_below other node) → other ≡ parent
