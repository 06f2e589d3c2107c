-- What a tree with references to the nodes of samples consists of.
use Rattle.std.specs.Prelude.{List}
use Rattle.profile_tree.specs.Grown.{Grown}
use Rattle.profile_tree.specs.declared.node_ref.NodeRef.{NodeRef}

pub record SampledParts : Type 0 where
  pub tree : Grown
  pub samples : List NodeRef
