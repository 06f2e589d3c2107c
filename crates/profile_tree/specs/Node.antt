-- Nodes of a linked tree.
use Rattle.std.specs.Prelude.{ℕ, ◌+◌, List, [], ◌∷◌, Option, Some, None, nat_lt, cond, codes}
use Rattle.std.specs.declared.cmp.Ordering.{Ordering}
use Rattle.std.specs.declared.cmp.Ordering.TheVariants.{Less, Equal, Greater}
use Rattle.std.specs.Ordering.{nat_cmp}
use Rattle.code_event.specs.Tree.{path_step_cmp}
use Rattle.code_event.specs.Symbolizer.{special}
use Rattle.code_event.specs.declared.entry.Entry.{Entry}
use Rattle.code_event.specs.declared.path.PathStep.{PathStep}
use Rattle.code_event.specs.declared.profile.LineTicks.{LineTicks}

-- a node: its last step, none of the root; the keys of its parent and its children, and of the child of the last visit;
-- its hits, and the same by rising line
pub record LinkedNode : Type 0 where
  pub step : Option PathStep
  pub parent : ℕ
  pub children : List ℕ
  pub last : Option ℕ
  pub hits : ℕ
  pub lines : List LineTicks

-- a node with nothing below it and no hits
abbrev pub fresh : ℕ → Option PathStep → LinkedNode
fresh parent step = record { step = step; parent = parent; children = []; last = None; hits = 0; lines = [] }

-- one more hit at a line, by how it compares with the first line
abbrev pub put_before : Ordering → ℕ → LineTicks → List LineTicks → List LineTicks → List LineTicks
put_before Less line first rest later = record { line = line; ticks = 1 } ∷ first ∷ rest
put_before Equal line first rest later = record { line = first.line; ticks = first.ticks + 1 } ∷ rest
put_before Greater line first rest later = first ∷ later

-- one more hit at a line
abbrev pub put_line : ℕ → List LineTicks → List LineTicks
put_line line [] = record { line = line; ticks = 1 } ∷ []
put_line line (first ∷ rest) = put_before (nat_cmp line first.line) line first rest (put_line line rest)

-- line 0 stands for none
abbrev pub with_line : ℕ → List LineTicks → List LineTicks
with_line line lines = cond (nat_lt 0 line) (put_line line lines) lines

-- the node after one more hit
abbrev pub counted : LinkedNode → ℕ → LinkedNode
counted node line = record node { hits = node.hits + 1; lines = with_line line node.lines }

-- how a step compares with a node's; the root has none
abbrev pub step_order : PathStep → Option PathStep → Ordering
step_order step None = Greater
step_order step (Some other) = path_step_cmp step other

-- what a node is named by
abbrev pub step_entry : Option PathStep → Entry
step_entry None = special (codes "(root)")
step_entry (Some step) = step.entry
