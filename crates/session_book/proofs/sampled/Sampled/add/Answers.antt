use Rattle.std.proofs.Common.{List, [], ◌∷◌, ◌++◌, sym, subst}
use Rattle.std.specs.Prelude.{if◌then◌else◌}
use Rattle.std.specs.List.{All, AllZip}
use Rattle.code_event.specs.declared.path.PathStep.{PathStep}
use Rattle.profile_tree.specs.Grown.{Names, NamesSome}
use Rattle.session_book.proofs.Samples.{named_still, named_more, listed_still, listed_more}
use Rattle.session_book.proofs.sampled.Sampled.add.Goals as goal

pub invariant_of-self : goal.invariant_of-self
invariant_of-self c =
    subst (All (NamesSome c.add.new.self)) (sym c.in_ok-push-in-Ok.ensures.ok)
    (named_more c.self.inside.tree c.add.new.self c.self.inside.samples c.in-Ok.reference c.args.path.now c.in-Ok.ensures.kept c.in-Ok.ensures.names c.self.invariant)

pub invariant_of-self-in_err-push-in-Ok : goal.invariant_of-self-in_err-push-in-Ok
invariant_of-self-in_err-push-in-Ok c =
    subst (All (NamesSome c.add.new.self)) (sym c.in_err-push-in-Ok.ensures.err)
    (named_still c.self.inside.tree c.add.new.self c.self.inside.samples c.in-Ok.ensures.kept c.self.invariant)

pub invariant_of-self-else-listed : goal.invariant_of-self-else-listed
invariant_of-self-else-listed c = named_still c.self.inside.tree c.add.new.self c.self.inside.samples c.in-Ok.ensures.kept c.self.invariant

pub returns-in_ok-push-in-Ok-clause-samples : goal.returns-in_ok-push-in-Ok-clause-samples
returns-in_ok-push-in-Ok-clause-samples c =
    subst (λ old. (paths : List (List PathStep)) → AllZip (Names old.tree) old.samples paths
    → AllZip (Names c.add.new.self) c.push.new.self (if c.args.listed then paths ++ c.args.path.now ∷ [] else paths)) c.self.view_is
    (subst (λ references. (paths : List (List PathStep)) → AllZip (Names c.self.inside.tree) c.self.inside.samples paths
    → AllZip (Names c.add.new.self) references (if c.args.listed then paths ++ c.args.path.now ∷ [] else paths)) (sym c.in_ok-push-in-Ok.ensures.ok)
    (listed_more c.self.inside.tree c.add.new.self c.self.inside.samples c.in-Ok.reference c.args.path.now c.args.listed c.if-listed.true c.in-Ok.ensures.kept c.in-Ok.ensures.names))

pub returns-else-listed-clause-samples : goal.returns-else-listed-clause-samples
returns-else-listed-clause-samples c =
    subst (λ old. (paths : List (List PathStep)) → AllZip (Names old.tree) old.samples paths
    → AllZip (Names c.add.new.self) c.self.inside.samples (if c.args.listed then paths ++ c.args.path.now ∷ [] else paths)) c.self.view_is
    (listed_still c.self.inside.tree c.add.new.self c.self.inside.samples c.args.path.now c.args.listed c.if-listed.false c.in-Ok.ensures.kept)
