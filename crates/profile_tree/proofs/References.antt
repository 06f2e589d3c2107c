-- References to the nodes of a tree, for callers that keep a list of them.
use Rattle.std.proofs.Common.{◌≡◌, List, [], ◌∷◌, sym, ◌∙◌}
use Rattle.std.specs.Prelude.{Some}
use Rattle.std.specs.List.{All, AllZip}
use Rattle.std.proofs.lemmas.List.Elements.{All-nil, All-cons}
use Rattle.code_event.specs.declared.path.PathStep.{PathStep}
use Rattle.profile_tree.specs.Grown.{Grown, Names, NamesSome}
use Rattle.profile_tree.specs.declared.node_ref.NodeRef.{NodeRef}

-- a reference names one path
pub names_one : (tree : Grown) (reference : NodeRef) (one other : List PathStep) → Names tree reference one → Names tree reference other → one ≡ other
unfolding Names
names_one tree reference one other first second = let same : Some one ≡ Some other = sym first ∙ second in cc

pub all_named : (tree : Grown) (references : List NodeRef) (paths : List (List PathStep)) → AllZip (Names tree) references paths → All (NamesSome tree) references
all_named tree [] [] all = All-nil (NamesSome tree)
all_named tree [] (path ∷ paths) all = absurd all
all_named tree (reference ∷ references) [] all = absurd all
all_named tree (reference ∷ references) (path ∷ paths) all = All-cons (NamesSome tree) reference references (path, all.0) (all_named tree references paths all.1)

-- a tree that keeps names keeps those of a list
pub all_kept : (old new : Grown) → ((reference : NodeRef) (named : List PathStep) → Names old reference named → Names new reference named)
    → (references : List NodeRef) (paths : List (List PathStep)) → AllZip (Names old) references paths → AllZip (Names new) references paths
all_kept old new kept [] [] all = tt
all_kept old new kept [] (path ∷ paths) all = all
all_kept old new kept (reference ∷ references) [] all = all
all_kept old new kept (reference ∷ references) (path ∷ paths) all = (kept reference path all.0, all_kept old new kept references paths all.1)
