-- One more item in a list with commas between.
use Rattle.std.proofs.Common.{◌≡◌, ℕ, ◌+◌, ◌<◌, ◌≤◌, List, [], ◌∷◌, ◌++◌, length, take, map, get_or, refl, sym, ◌∙◌, arith}
use Rattle.std.proofs.lemmas.List.{map_more, append_assoc, length-map, length-take-le}
use Rattle.std.specs.List.{join_with_byte}
use Rattle.cpuprofile.specs.ProfileText.{comma_before}

join-more : (texts : List (List ℕ)) (text : List ℕ) → join_with_byte 44 (texts ++ text ∷ []) ≡ join_with_byte 44 texts ++ comma_before (length texts) ++ text
join-more [] text = refl
join-more (one ∷ []) text = sym (append_assoc one (44 ∷ []) text)
join-more (one ∷ other ∷ texts) text = rw (join-more (other ∷ texts) text) (simp append_assoc)

-- one more text after this many texts
join-at : (texts : List (List ℕ)) (at : ℕ) (text : List ℕ) → length texts ≡ at → join_with_byte 44 (texts ++ text ∷ []) ≡ join_with_byte 44 texts ++ comma_before at ++ text
join-at texts at text e = rw (← e) (join-more texts text)

-- a list in brackets that has become longer by a comma and a text
pub put_step : (before old commad new texts comma text texts_now : List ℕ) → old ≡ before ++ (91 ∷ texts) → commad ≡ old ++ comma → new ≡ commad ++ text → texts_now ≡ texts ++ comma ++ text → new ≡ before ++ (91 ∷ texts_now)
put_step before old commad new texts comma text texts_now e f g h = rw (g, f, e, h) (simp append_assoc)

pub join_map_more : {X : Type 0} (f : X → List ℕ) (xs : List X) (i : ℕ) (x d : X) → i < length xs → x ≡ get_or xs i d → join_with_byte 44 (map f (take (i + 1) xs)) ≡ join_with_byte 44 (map f (take i xs)) ++ comma_before i ++ f x
join_map_more f xs i x d h e =
    let few : i ≤ length xs = omega arith in
    rw (map_more f xs i d h, e) (join-at (map f (take i xs)) i (f (get_or xs i d)) (length-map (take i xs) f ∙ length-take-le i xs few))
