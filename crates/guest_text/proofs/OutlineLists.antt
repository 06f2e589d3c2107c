-- The functions of a text while its lines are counted, and the numbers of their labels.
use Rattle.std.proofs.Common.{◌≡◌, ℕ, suc, ◌+◌, List, [], ◌∷◌, ◌++◌, length, map, Bor, Bool, true, false, cond, not, Option, Some, None, refl, ap, ◌∙◌, subst, arith, append_assoc, append-nil, length-append, bytes_eq}
use Rattle.std.specs.List.{position}
use Rattle.std.specs.Option.{is_some}
use Rattle.std.proofs.lemmas.List.Folds.{position_or_len_push}
use Rattle.std.proofs.lemmas.List.Sums.{prefix_len-le-length}
use Rattle.std.proofs.lemmas.Bool.Decides.{nat_tests}
use Rattle.std.proofs.lemmas.Slice.Eq.{bytes_eq-Decides}
use Rattle.guest_text.specs.Outline.{func_label, leading, functions_of}
use Rattle.guest_text.specs.OutlineDraft.{with_instr, with_more, functions_with, first_number}

-- the bytes of labels
abbrev pub bytes_of : List (Bor (List ℕ)) → List (List ℕ)
bytes_of labels = map (λ label. label.now) labels

-- one more instruction of the function whose size comes last
pub with_instr-push : (sizes : List ℕ) (size : ℕ) → with_instr (sizes ++ size ∷ []) ≡ sizes ++ suc size ∷ []
with_instr-push [] size = refl
with_instr-push (first ∷ []) size = refl
with_instr-push (first ∷ next ∷ sizes) size = ap (λ (z : List ℕ). first ∷ z) (with_instr-push (next ∷ sizes) size)

-- an instruction counted before further ones is one more of them
with_more-instr : (sizes : List ℕ) (instrs : ℕ) (more : List ℕ) → with_more (with_instr sizes) instrs more ≡ with_more sizes (suc instrs) more
with_more-instr [] instrs more = refl
with_more-instr (size ∷ []) instrs more = let e : suc size + instrs ≡ size + suc instrs = omega arith in ap (λ (z : ℕ). z ∷ more) e
with_more-instr (size ∷ next ∷ []) instrs more = ap (λ (z : List ℕ). size ∷ z) (with_more-instr (next ∷ []) instrs more)
with_more-instr (size ∷ next ∷ third ∷ sizes) instrs more = ap (λ (z : List ℕ). size ∷ z) (with_more-instr (next ∷ third ∷ sizes) instrs more)

-- a function begun without instructions gets those that follow
with_more-func : (sizes : List ℕ) (instrs : ℕ) (more : List ℕ) → with_more (sizes ++ 0 ∷ []) instrs more ≡ with_more sizes 0 (instrs ∷ more)
with_more-func [] instrs more = let e : 0 + instrs ≡ instrs = omega arith in ap (λ (z : ℕ). z ∷ more) e
with_more-func (size ∷ []) instrs more = let e : 0 + instrs ≡ instrs = omega arith in let f : size + 0 ≡ size = omega arith in rw (e, f) refl
with_more-func (size ∷ next ∷ sizes) instrs more = ap (λ (z : List ℕ). size ∷ z) (with_more-func (next ∷ sizes) instrs more)

-- no more instructions and functions leave the sizes
with_more-none : (sizes : List ℕ) → with_more sizes 0 [] ≡ sizes
with_more-none [] = refl
with_more-none (size ∷ []) = let e : size + 0 ≡ size = omega arith in rw e refl
with_more-none (size ∷ next ∷ sizes) = ap (λ (z : List ℕ). size ∷ z) (with_more-none (next ∷ sizes))

-- a function's line begins a function without instructions
pub func_counted : (labels : List (List ℕ)) (sizes label : List ℕ) (line : ℕ × List ℕ) (lines : List (ℕ × List ℕ)) → func_label line.1 ≡ Some label
    → functions_with (labels ++ label ∷ []) (sizes ++ 0 ∷ []) lines ≡ functions_with labels sizes (line ∷ lines)
func_counted labels sizes label line lines h =
    rw (h, append_assoc labels (label ∷ []) (functions_of lines).labels, with_more-func sizes (leading lines) (functions_of lines).sizes) refl

-- another line is one more instruction of the last function
pub instr_counted : (labels : List (List ℕ)) (sizes : List ℕ) (line : ℕ × List ℕ) (lines : List (ℕ × List ℕ)) → func_label line.1 ≡ None
    → functions_with labels (with_instr sizes) lines ≡ functions_with labels sizes (line ∷ lines)
instr_counted labels sizes line lines h = rw (h, with_more-instr sizes (leading lines) (functions_of lines).sizes) refl

-- after the last line the functions so far are all
pub all_counted : (labels : List (List ℕ)) (sizes : List ℕ) → functions_with labels sizes [] ≡ record { labels = labels; sizes = sizes }
all_counted labels sizes = rw (append-nil labels, with_more-none sizes) refl

-- the first place at which a test passes stays where one more element comes last
pub position-more : {X : Type 0} (p : X → Bool) (xs : List X) (y : X) (i : ℕ) → position p xs ≡ Some i → position p (xs ++ y ∷ []) ≡ Some i
position-more p xs y i h = grind (arith, nat_tests, position_or_len_push p xs y, length-append xs (y ∷ []))

-- where no element passes, the last one may
pub position-last : {X : Type 0} (p : X → Bool) (xs : List X) (y : X) → position p xs ≡ None → position p (xs ++ y ∷ []) ≡ cond (p y) (Some (length xs)) None
position-last p xs y h =
    grind (arith, nat_tests, position_or_len_push p xs y, length-append xs (y ∷ []), prefix_len-le-length (λ x. not (p x)) xs)

-- a word that is nowhere is no label that is there
kept_none : (labels : List (List ℕ)) (label word : List ℕ) → is_some (first_number labels label) ≡ true → first_number labels word ≡ None
    → (t : Bool) → bytes_eq label word ≡ t → cond {A = Option ℕ} t (Some (length labels)) None ≡ None
kept_none labels label word h e true same =
    let there : is_some (first_number labels word) ≡ true = subst (λ (z : List ℕ). is_some (first_number labels z) ≡ true) ((bytes_eq-Decides label word).0 same) h in
    absurd cc
kept_none labels label word h e false same = refl

-- a word that is there is no label that is not
put_other : (labels : List (List ℕ)) (label word : List ℕ) (number : ℕ) → is_some (first_number labels label) ≡ false → first_number labels word ≡ Some number
    → (t : Bool) → bytes_eq label word ≡ t → Some number ≡ cond t (Some (length labels)) (Some number)
put_other labels label word number h e true same =
    let gone : is_some (first_number labels word) ≡ false = subst (λ (z : List ℕ). is_some (first_number labels z) ≡ false) ((bytes_eq-Decides label word).0 same) h in
    absurd cc
put_other labels label word number h e false same = refl

-- `number_kept`, by the number of the word
kept_by : (labels : List (List ℕ)) (label word : List ℕ) → is_some (first_number labels label) ≡ true → (r : Option ℕ) → first_number labels word ≡ r
    → first_number (labels ++ label ∷ []) word ≡ r
kept_by labels label word h (Some number) e = position-more _ labels label number e
kept_by labels label word h None e = position-last _ labels label e ∙ kept_none labels label word h e (bytes_eq label word) refl

-- `number_put`, by the number of the word
put_by : (labels : List (List ℕ)) (label word : List ℕ) → is_some (first_number labels label) ≡ false → (r : Option ℕ) → first_number labels word ≡ r
    → first_number (labels ++ label ∷ []) word ≡ cond (bytes_eq label word) (Some (length labels)) r
put_by labels label word h (Some number) e = position-more _ labels label number e ∙ put_other labels label word number h e (bytes_eq label word) refl
put_by labels label word h None e = position-last _ labels label e

-- a label that is there already gets no further number
pub number_kept : (labels : List (List ℕ)) (label word : List ℕ) → is_some (first_number labels label) ≡ true → first_number (labels ++ label ∷ []) word ≡ first_number labels word
number_kept labels label word h = kept_by labels label word h (first_number labels word) refl

-- a label that is not there gets the number after the last
pub number_put : (labels : List (List ℕ)) (label word : List ℕ) (number : ℕ) → length labels ≡ number → is_some (first_number labels label) ≡ false
    → first_number (labels ++ label ∷ []) word ≡ cond (bytes_eq label word) (Some number) (first_number labels word)
number_put labels label word number e h =
    put_by labels label word h (first_number labels word) refl ∙ ap (λ (n : ℕ). cond {A = Option ℕ} (bytes_eq label word) (Some n) (first_number labels word)) e
