-- The profile that a finished one becomes.
use Rattle.std.specs.Prelude.{ℕ, zero, suc, ◌^◌, ◌-◌, min, ℤ, pos, negsuc, List, [], ◌∷◌, map, decimal, Option, Some, None}
use Rattle.code_event.specs.declared.profile.FinNode.{FinNode}
use Rattle.code_event.specs.declared.profile.LineTicks.{LineTicks}
use Rattle.code_event.specs.declared.profile.Finished.{Finished}
use Rattle.cpuprofile.specs.declared.profile.FileNode.{FileNode}
use Rattle.cpuprofile.specs.declared.profile.FileTicks.{FileTicks}
use Rattle.cpuprofile.specs.declared.profile.Profile.{Profile}

-- a number that counts from 1, counted from 0; -1 for 0
abbrev pub less_one : ℕ → ℤ
less_one zero = negsuc 0
less_one (suc n) = pos n

-- none for an empty one
abbrev pub some_reason : Option (List ℕ) → Option (List ℕ)
some_reason None = None
some_reason (Some []) = None
some_reason (Some (b ∷ bytes)) = Some (b ∷ bytes)

abbrev pub file_ticks : LineTicks → FileTicks
file_ticks ticks = record { line = ticks.line; ticks = ticks.ticks }

abbrev pub file_node : ℕ → FinNode → FileNode
file_node id node =
    record {
      id = id;
      name = node.entry.name;
      script = decimal node.entry.script;
      url = node.entry.url;
      line = less_one node.entry.line;
      column = less_one node.entry.column;
      hits = node.hits;
      children = node.children;
      ticks = map file_ticks node.lines;
      reason = some_reason node.reason;
    }

-- the nodes, of which the first has this id
abbrev pub file_nodes : ℕ → List FinNode → List FileNode
file_nodes id [] = []
file_nodes id (node ∷ nodes) = file_node id node ∷ file_nodes (suc id) nodes

-- a delta, or the greatest number of 64 bits with a sign where it is greater
abbrev pub file_delta : ℕ → ℤ
file_delta delta = pos (min delta (2 ^ 63 - 1))

abbrev pub file_profile : Finished → Profile
file_profile finished =
    record {
      nodes = file_nodes 1 finished.nodes;
      start = finished.start;
      end = finished.end;
      samples = finished.samples;
      deltas = map file_delta finished.deltas;
    }
