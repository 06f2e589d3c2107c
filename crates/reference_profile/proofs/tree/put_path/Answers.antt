use Rattle.std.proofs.Common.{[], ◌∷◌, ◌++◌, ◌∙◌, ap, sym}
use Rattle.std.specs.List.{position, insert}
use Rattle.prof_base.specs.Ordered.{stops}
use Rattle.prof_base.proofs.Ordered.{insert_sorted-last, insert_sorted-insert, insert_sorted-same}
use Rattle.code_event.specs.Tree.{path_cmp, same_path}
use Rattle.reference_profile.proofs.tree.put_path.Goals as goal

pub returns-in_ok-push-in-None : goal.returns-in_ok-push-in-None
returns-in_ok-push-in-None c =
    c.in_ok-push-in-None.ensures.items ∙ ap (λ path. c.args.set.now.items ++ path ∷ []) c.in_ok-copy_path-in-None.ensures
    ∙ sym (insert_sorted-last path_cmp c.args.path.now c.args.set.now.items []
    (ap (λ set. position (stops path_cmp c.args.path.now) set) (sym c.as_slice.ensures.value) ∙ sym c.path_place.ensures ∙ c.in-None.is))

pub returns-in_ok-insert-in-Some : goal.returns-in_ok-insert-in-Some
returns-in_ok-insert-in-Some c =
    c.in_ok-insert-in-Some.ensures.items ∙ ap (λ path. insert c.args.set.now.items c.in-Some.at path) c.in_ok-copy_path-in-Some.ensures
    ∙ sym (insert_sorted-insert path_cmp c.args.path.now c.args.set.now.items c.in-Some.at c.index.result.now
    (ap (λ set. position (stops path_cmp c.args.path.now) set) (sym c.as_slice.ensures.value) ∙ sym c.path_place.ensures ∙ c.in-Some.is)
    (ap (same_path c.args.path.now) (sym c.index.ensures) ∙ sym (c.same_path.ensures ∙ ap (same_path c.args.path.now) c.as_slice-in-Some.ensures) ∙ c.if-not-same_path.true))

pub returns-else-not-same_path : goal.returns-else-not-same_path
returns-else-not-same_path c = sym (insert_sorted-same path_cmp c.args.path.now c.args.set.now.items c.in-Some.at c.index.result.now
    (ap (λ set. position (stops path_cmp c.args.path.now) set) (sym c.as_slice.ensures.value) ∙ sym c.path_place.ensures ∙ c.in-Some.is)
    (ap (same_path c.args.path.now) (sym c.index.ensures) ∙ sym (c.same_path.ensures ∙ ap (same_path c.args.path.now) c.as_slice-in-Some.ensures) ∙ c.if-not-same_path.false))
