-- The profile of what the definitions give is valid.
use Rattle.std.proofs.Common.{◌≡◌, ℕ, ◌<◌, ◌≤◌, ◌^◌, List, [], ◌∷◌, map, length, suc, refl, sym, ap, subst, ◌∙◌, arith}
use Rattle.std.specs.List.{AllByRecursion, Contains}
use Rattle.std.proofs.lemmas.List.{length-map}
use Rattle.std.proofs.lemmas.List.Elements.{recursion_from_All}
use Rattle.code_event.specs.Profile.{cut, samples, deltas}
use Rattle.code_event.specs.Tree.{nodes, fin_nodes}
use Rattle.code_event.specs.declared.profile.Finished.{Finished}
use Rattle.code_event.proofs.TreeNodes.{samples_within}
use Rattle.cpuprofile.specs.declared.profile.Profile.{Profile}
use Rattle.cpuprofile.specs.Converted.{file_nodes, file_delta, file_profile}
use Rattle.cpuprofile.specs.Given.{IsGiven, HasSmallNumbers}
use Rattle.cpuprofile.specs.Valid.{IsExact, IsDelta, ids, IsValid}
use Rattle.cpuprofile.proofs.Each.{each_has, each_from, each_cut, cut_alike}
use Rattle.cpuprofile.proofs.Trees.{made_differ, is_id, children_are_ids, made_tree, made_numbers}

length_deltas : (before : ℕ) (times : List ℕ) → length (deltas before times) ≡ length times
length_deltas before [] = refl
length_deltas before (time ∷ times) = ap (λ n. suc n) (length_deltas time times)

exact_deltas : (before : ℕ) (times : List ℕ) → AllByRecursion IsExact times → AllByRecursion IsDelta (map file_delta (deltas before times))
exact_deltas before [] all = tt
exact_deltas before (time ∷ times) all = let exact = all.0 in (omega (arith, exact), exact_deltas time times all.1)

pub is_valid : (finished : Finished) → IsGiven finished → finished.start < 2 ^ 53 → finished.end < 2 ^ 53 → AllByRecursion HasSmallNumbers (file_nodes 1 finished.nodes) → IsValid (file_profile finished)
is_valid finished g start end small =
    let made = file_nodes 1 (fin_nodes g.visits g.reasons) in
    let times = cut g.most g.times in
    let listed = samples g.visits in
    let profile : Profile = record { nodes = made; start = finished.start; end = finished.end; samples = cut g.most listed; deltas = map file_delta (deltas finished.start times) } in
    let whole : IsValid profile = record {
      numbers = made_numbers g.visits g.reasons (subst (λ fins. AllByRecursion HasSmallNumbers (file_nodes 1 fins)) g.nodes small) (subst (λ fins. AllByRecursion (λ node. IsExact node.hits) fins) g.nodes g.exact_hits);
      different = made_differ g.visits g.reasons;
      children = children_are_ids g.visits g.reasons;
      tree = made_tree g.visits g.reasons;
      start = start;
      end = end;
      samples =
          each_cut (Contains (ids made)) g.most listed
          (each_from (Contains (ids made)) listed
          (λ id h.
          let within = each_has (λ n. (1 ≤ n) × (n ≤ length (nodes g.visits))) listed id (recursion_from_All (λ n. (1 ≤ n) × (n ≤ length (nodes g.visits))) listed (samples_within g.visits)) h in
          is_id g.visits g.reasons id within.0 within.1));
      as_many =
          length-map (deltas finished.start times) file_delta ∙ length_deltas finished.start times
          ∙ cut_alike g.most g.times listed (g.one_each ∙ sym (length-map g.visits _));
      deltas = exact_deltas finished.start times (each_cut IsExact g.most g.times g.exact_times);
    } in
    subst IsValid
    (λ i. record {
      nodes = file_nodes 1 (sym g.nodes i);
      start = finished.start;
      end = finished.end;
      samples = sym g.samples i;
      deltas = map file_delta (sym g.deltas i);
    }) whole
