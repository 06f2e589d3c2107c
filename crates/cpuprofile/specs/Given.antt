-- Which finished profiles the definitions give.
use Rattle.std.specs.Prelude.{◌≡◌, ℕ, ◌<◌, ◌^◌, List, length, Option, Some}
use Rattle.std.specs.List.{AllByRecursion}
use Rattle.code_event.specs.DeoptReasons.{DeoptReasons}
use Rattle.prof_base.specs.declared.ids.SessionId.{SessionId}
use Rattle.code_event.specs.Seen.{Seen, started, stopped, finished, ticked}
use Rattle.code_event.specs.Profile.{cut, samples, deltas, finished_of}
use Rattle.code_event.specs.Tree.{fin_nodes}
use Rattle.code_event.specs.declared.visit.Visit.{Visit}
use Rattle.code_event.specs.declared.profile.Finished.{Finished}
use Rattle.cpuprofile.specs.declared.profile.FileNode.{FileNode}
use Rattle.cpuprofile.specs.Valid.{IsExact, IsLineNumber}

-- each delta is one of 64 bits with a sign
abbrev pub DeltasFit : Finished → Type 0
DeltasFit profile = AllByRecursion (λ delta. delta < 2 ^ 63) profile.deltas

-- The nodes, samples and deltas are those of some ticks and their times, with any reasons; the times and the counts of hits are exact numbers.
pub record IsGiven (profile : Finished) : Type 0 where
  pub visits : List Visit
  pub reasons : DeoptReasons
  pub times : List ℕ
  pub most : Option ℕ
  pub nodes : profile.nodes ≡ fin_nodes visits reasons
  pub samples : profile.samples ≡ cut most (samples visits)
  pub deltas : profile.deltas ≡ deltas profile.start (cut most times)
  pub one_each : length times ≡ length visits
  pub exact_times : AllByRecursion IsExact times
  pub exact_hits : AllByRecursion (λ node. IsExact node.hits) profile.nodes

-- what holds of the numbers of a node whatever its finished node is, since those are of 32 bits
pub record HasSmallNumbers (node : FileNode) : Type 0 where
  pub line : IsLineNumber node.line
  pub column : IsLineNumber node.column
  pub children : AllByRecursion (λ id. id < 2 ^ 32) node.children
  pub ticks : AllByRecursion (λ at. IsExact at.line) node.ticks

-- the time of a tick that is seen is an exact number
abbrev pub HasExactTime : Seen → Type 0
HasExactTime (ticked tick) = IsExact tick.time
HasExactTime (started session options time) = Unit {0}
HasExactTime (stopped session time reasons) = Unit {0}
HasExactTime (finished time files reasons) = Unit {0}

-- What a session has finished in what is seen is given by ticks, where times and counts of hits are exact numbers.
abbrev pub SeenGives : Type 0
SeenGives =
    (base : ℕ) (session : SessionId) (seen : List Seen) (profile : Finished) → finished_of base session seen ≡ Some profile → AllByRecursion HasExactTime seen
    → AllByRecursion (λ node. IsExact node.hits) profile.nodes → IsGiven profile
