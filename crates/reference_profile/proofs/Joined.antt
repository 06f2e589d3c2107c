-- One more item in a list with commas between.
use Rattle.std.proofs.Common.{◌≡◌, ℕ, suc, zero, ◌+◌, ◌<◌, ◌≤◌, List, [], ◌∷◌, ◌++◌, length, take, map, get_or, refl, ap, sym, subst, ◌∙◌, arith}
use Rattle.std.proofs.lemmas.List.{map_more, append_assoc, length-map, length-take-le}
use Rattle.std.specs.List.{join_with_byte}
use Rattle.code_event.specs.declared.profile.FinNode.{FinNode}
use Rattle.code_event.specs.FileText.{node_text, node_texts}
use Rattle.reference_profile.specs.TextParts.{comma_before}

pub join-more : (texts : List (List ℕ)) (text : List ℕ) → join_with_byte 44 (texts ++ text ∷ []) ≡ join_with_byte 44 texts ++ comma_before (length texts) ++ text
join-more [] text = refl
join-more (one ∷ []) text = sym (append_assoc one (44 ∷ []) text)
join-more (one ∷ other ∷ texts) text = rw (join-more (other ∷ texts) text) (simp append_assoc)

-- one more text after this many texts
pub join-at : (texts : List (List ℕ)) (at : ℕ) (text : List ℕ) → length texts ≡ at → join_with_byte 44 (texts ++ text ∷ []) ≡ join_with_byte 44 texts ++ comma_before at ++ text
join-at texts at text e = rw (← e) (join-more texts text)

-- a list in brackets that has become longer by a comma and a text
pub put_step : (before old commad new texts comma text texts_now : List ℕ) → old ≡ before ++ (91 ∷ texts) → commad ≡ old ++ comma → new ≡ commad ++ text → texts_now ≡ texts ++ comma ++ text → new ≡ before ++ (91 ∷ texts_now)
put_step before old commad new texts comma text texts_now e f g h = rw (g, f, e, h) (simp append_assoc)

pub join_map_more : {X : Type 0} (f : X → List ℕ) (xs : List X) (i : ℕ) (x d : X) → i < length xs → x ≡ get_or xs i d → join_with_byte 44 (map f (take (i + 1) xs)) ≡ join_with_byte 44 (map f (take i xs)) ++ comma_before i ++ f x
join_map_more f xs i x d h e =
    let few : i ≤ length xs = omega arith in
    rw (map_more f xs i d h, e) (join-at (map f (take i xs)) i (f (get_or xs i d)) (length-map (take i xs) f ∙ length-take-le i xs few))

pub length-node_texts : (id : ℕ) (nodes : List FinNode) → length (node_texts id nodes) ≡ length nodes
length-node_texts id [] = refl
length-node_texts id (node ∷ nodes) = ap suc (length-node_texts (suc id) nodes)

pub node_texts-more : (id : ℕ) (nodes : List FinNode) (i at : ℕ) (d : FinNode) → i < length nodes → at ≡ id + i → node_texts id (take (suc i) nodes) ≡ node_texts id (take i nodes) ++ node_text at (get_or nodes i d) ∷ []
node_texts-more id [] i at d h e = absurd (omega arith)
node_texts-more id (node ∷ nodes) zero at d h e =
    let same : id ≡ at = omega arith in
    ap (λ n. node_text n node ∷ []) same
node_texts-more id (node ∷ nodes) (suc i) at d h e =
    ap (λ texts. node_text id node ∷ texts) (node_texts-more (suc id) nodes i at d (omega arith) (omega arith))

pub join_nodes_more : (nodes : List FinNode) (i : ℕ) (node d : FinNode) → i < length nodes → node ≡ get_or nodes i d → join_with_byte 44 (node_texts 1 (take (i + 1) nodes)) ≡ join_with_byte 44 (node_texts 1 (take i nodes)) ++ comma_before i ++ node_text (i + 1) node
join_nodes_more nodes i node d h e =
    let few : i ≤ length nodes = omega arith in
    let next : suc i ≡ i + 1 = omega arith in
    let texts : List (List ℕ) = node_texts 1 (take i nodes) in
    let P : ℕ → Type 0 = λ n. join_with_byte 44 (node_texts 1 (take n nodes)) ≡ join_with_byte 44 texts ++ comma_before i ++ node_text (i + 1) node in
    let last : node_texts 1 (take (suc i) nodes) ≡ texts ++ node_text (i + 1) node ∷ [] =
    node_texts-more 1 nodes i (i + 1) d h (omega arith) ∙ ap (λ n. texts ++ node_text (i + 1) n ∷ []) (sym e) in
    subst P next (ap (join_with_byte 44) last ∙ join-at texts i (node_text (i + 1) node) (length-node_texts 1 (take i nodes) ∙ length-take-le i nodes few))
