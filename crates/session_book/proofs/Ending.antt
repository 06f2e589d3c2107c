-- A session at its start and at its end.
use Rattle.std.proofs.Common.{◌≡◌, ℕ, zero, suc, List, [], ◌∷◌, map, take, refl, sym, ap, ap₂, ◌∙◌, subst, arith}
use Rattle.std.specs.Prelude.{Option, Some, None}
use Rattle.std.specs.List.{AllZip}
use Rattle.std.proofs.lemmas.List.{take_all}
use Rattle.prof_base.specs.Interval.{rounded_of}
use Rattle.code_event.specs.DeoptReasons.{DeoptReasons, no_reasons}
use Rattle.code_event.specs.Profile.{visits_of, cut, deltas, samples}
use Rattle.code_event.specs.Subsample.{kept}
use Rattle.code_event.specs.Tree.{nodes, id_of, fin_node, fin_nodes}
use Rattle.code_event.specs.declared.path.PathStep.{PathStep}
use Rattle.code_event.specs.declared.profile.FinNode.{FinNode}
use Rattle.code_event.specs.declared.profile.Finished.{Finished}
use Rattle.code_event.specs.declared.visit.Visit.{Visit}
use Rattle.profile_tree.specs.Grown.{StandsFor as IsTreeOf, Names}
use Rattle.session_book.specs.Begun.{fresh}
use Rattle.session_book.specs.Session.{paths_kept, times_of, last_time, HasBegun, IsProfile}
use Rattle.session_book.specs.declared.session.Session.{Session}

cut-nil : {A : Type 0} (most : Option ℕ) → cut {A = A} most [] ≡ []
cut-nil None = refl
cut-nil (Some most) = take_all most [] (omega arith)

pub starts_fresh : (base : ℕ) (s : Session) → s.counter ≡ record { rounded = rounded_of base s.options.interval; left = 0 } → IsTreeOf s.sampled.tree [] → s.sampled.samples ≡ [] → s.deltas ≡ []
    → s.last ≡ s.start → HasBegun base s (fresh s.options s.start)
starts_fresh base s counter tree none no_deltas last =
    let most = s.options.max_samples in
    record {
      options = refl;
      start = refl;
      rounded = ap (λ c. c.rounded) counter;
      left = ap (λ c. c.left) counter;
      kept = record {
        tree = tree;
        samples = subst (AllZip (Names s.sampled.tree) s.sampled.samples) (sym (cut-nil most)) (subst (λ references. AllZip (Names s.sampled.tree) references []) (sym none) tt);
        deltas = no_deltas ∙ ap (deltas s.start) (sym (cut-nil most));
        last = last ∙ ap (last_time s.start) (sym (cut-nil most));
      };
    }

map_map : {A B C : Type 0} (f : B → C) (g : A → B) (xs : List A) → map f (map g xs) ≡ map (λ x. f (g x)) xs
map_map f g [] = refl
map_map f g (x ∷ xs) = ap (λ l. f (g x) ∷ l) (map_map f g xs)

take_map : {A B : Type 0} (f : A → B) (n : ℕ) (xs : List A) → take n (map f xs) ≡ map f (take n xs)
take_map f zero xs = refl
take_map f (suc n) [] = refl
take_map f (suc n) (x ∷ xs) = ap (λ l. f x ∷ l) (take_map f n xs)

cut_map : {A B : Type 0} (most : Option ℕ) (f : A → B) (xs : List A) → cut most (map f xs) ≡ map f (cut most xs)
cut_map None f xs = refl
cut_map (Some most) f xs = take_map f most xs

-- the nodes without their reasons are those where there are no reasons
no_node_reasons : (visits : List Visit) (reasons : DeoptReasons) → map (λ (node : FinNode). record node { reason = None }) (fin_nodes visits reasons) ≡ fin_nodes visits no_reasons
no_node_reasons visits reasons = map_map (λ (node : FinNode). record node { reason = None }) (fin_node (nodes visits) visits reasons) (nodes visits)

listed_ids : (most : Option ℕ) (visits : List Visit) → map (id_of (nodes visits)) (cut most (map (λ (visit : Visit). visit.path) visits)) ≡ cut most (samples visits)
listed_ids most visits =
    sym (cut_map most (id_of (nodes visits)) (map (λ (visit : Visit). visit.path) visits)) ∙ ap (cut most) (map_map (id_of (nodes visits)) (λ (visit : Visit). visit.path) visits)

pub is_profile : (s : Session) (end : ℕ) (finished : Finished) → finished.session ≡ s.id → finished.port ≡ s.options.port → finished.start ≡ s.start → finished.end ≡ end → finished.deltas ≡ s.deltas
    → ((visits : List Visit) → IsTreeOf s.sampled.tree visits → finished.nodes ≡ fin_nodes visits no_reasons)
    → ((visits : List Visit) (paths : List (List PathStep)) → IsTreeOf s.sampled.tree visits → AllZip (Names s.sampled.tree) s.sampled.samples paths → finished.samples ≡ map (id_of (nodes visits)) paths)
    → IsProfile s end finished
is_profile s end finished session port start ends all_deltas all_nodes all_samples base begun reasons h =
    let ticks = kept base begun in
    let visits = visits_of s.options.mode ticks in
    let nodes_are = all_nodes visits h.kept.tree ∙ sym (no_node_reasons visits reasons)
    ∙ ap (λ o. map (λ (node : FinNode). record node { reason = None }) (fin_nodes (visits_of o.mode ticks) reasons)) h.options in
    let samples_are = all_samples visits (cut s.options.max_samples (paths_kept s.options.mode ticks)) h.kept.tree h.kept.samples ∙ listed_ids s.options.max_samples visits
    ∙ ap (λ o. cut o.max_samples (samples (visits_of o.mode ticks))) h.options in
    let deltas_are = all_deltas ∙ h.kept.deltas ∙ ap₂ (λ t o. deltas t (cut o.max_samples (times_of ticks))) h.start h.options in
    let port_is = port ∙ ap (λ o. o.port) h.options in
    let start_is = start ∙ h.start in
    λ i. record {
      session = session i;
      port = port_is i;
      start = start_is i;
      end = ends i;
      nodes = nodes_are i;
      samples = samples_are i;
      deltas = deltas_are i;
    }
