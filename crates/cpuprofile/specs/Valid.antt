-- Which profiles are valid.
use Rattle.std.specs.Prelude.{◌≡◌, ◌≢◌, ℕ, suc, ◌^◌, ◌<◌, ℤ, pos, negsuc, List, [], ◌∷◌, length, map, ◌==◌, Option, Some, option_and_then, if◌then◌else◌}
use Rattle.std.specs.List.{AllByRecursion, Contains, slice_get}
use Rattle.cpuprofile.specs.declared.profile.FileNode.{FileNode}
use Rattle.cpuprofile.specs.declared.profile.FileTicks.{FileTicks}
use Rattle.cpuprofile.specs.declared.profile.Profile.{Profile}

-- a number that every JSON reader holds exactly (RFC 8259, section 6)
abbrev pub IsExact : ℕ → Type 0
IsExact n = n < 2 ^ 53

-- from -1 to 2^53 - 1
abbrev pub IsLineNumber : ℤ → Type 0
IsLineNumber (pos n) = IsExact n
IsLineNumber (negsuc n) = n ≡ 0

-- between -2^53 and 2^53, both left out
abbrev pub IsDelta : ℤ → Type 0
IsDelta (pos n) = IsExact n
IsDelta (negsuc n) = IsExact (suc n)

pub record HasExactTicks (at : FileTicks) : Type 0 where
  pub line : IsExact at.line
  pub ticks : IsExact at.ticks

-- the numbers of a node are in their ranges
pub record HasExactNumbers (node : FileNode) : Type 0 where
  pub id : IsExact node.id
  pub line : IsLineNumber node.line
  pub column : IsLineNumber node.column
  pub hits : IsExact node.hits
  pub ticks : AllByRecursion HasExactTicks node.ticks

abbrev pub ids : List FileNode → List ℕ
ids nodes = map (λ node. node.id) nodes

-- each is different from all after it
abbrev pub AreDifferent : List ℕ → Type 0
AreDifferent [] = Unit {0}
AreDifferent (id ∷ rest) = AllByRecursion (λ other. other ≢ id) rest × AreDifferent rest

-- the children of the node with this id; none where no node has it
abbrev pub children_of : List FileNode → ℕ → List ℕ
children_of [] id = []
children_of (node ∷ nodes) id = if node.id == id then node.children else children_of nodes id

-- the id of the node at which a walk along children ends that begins at the node with the id first; none where it leaves the nodes
-- A walk is the list of its steps, the last one first. A step is the place of a child among the children of the node before it, from 0.
abbrev pub walk_end : List FileNode → ℕ → List ℕ → Option ℕ
walk_end nodes first [] = Some first
walk_end nodes first (place ∷ before) = option_and_then (λ id. slice_get (children_of nodes id) place) (walk_end nodes first before)

-- exactly one walk from the first of these two ends at the second
pub record IsReachedOnce (nodes : List FileNode) (first id : ℕ) : Type 0 where
  pub walk : List ℕ
  pub ends : walk_end nodes first walk ≡ Some id
  pub alone : (other : List ℕ) → walk_end nodes first other ≡ Some id → other ≡ walk

-- there is a first node, and from it each node is reached by exactly one walk along children
abbrev pub IsTree : List FileNode → Type 0
IsTree [] = ⊥
IsTree (first ∷ rest) = AllByRecursion (λ node. IsReachedOnce (first ∷ rest) first.id node.id) (first ∷ rest)

-- the rules of the format
pub record IsValid (profile : Profile) : Type 0 where
  pub numbers : AllByRecursion HasExactNumbers profile.nodes
  pub different : AreDifferent (ids profile.nodes)
  pub children : AllByRecursion (λ node. AllByRecursion (Contains (ids profile.nodes)) node.children) profile.nodes
  pub tree : IsTree profile.nodes
  pub start : IsExact profile.start
  pub end : IsExact profile.end
  pub samples : AllByRecursion (Contains (ids profile.nodes)) profile.samples
  pub as_many : length profile.deltas ≡ length profile.samples
  pub deltas : AllByRecursion IsDelta profile.deltas
