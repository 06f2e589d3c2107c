-- Sets of words, as the lists of their words.
use Rattle.std.proofs.Common.{◌≡◌, ℕ, List, [], ◌∷◌, map, Bool, true, false, ◌||◌, refl, sym, ap, ◌∙◌, bytes_eq}
use Rattle.std.specs.declared.cmp.Ordering.{Ordering}
use Rattle.std.specs.declared.cmp.Ordering.TheVariants.{Less, Equal, Greater}
use Rattle.std.specs.Ordering.{is_eq, nat_cmp, match_ordering}
use Rattle.std.specs.Cmp.Lexicographic.{slice_cmp}
use Rattle.std.specs.List.{list_any}
use Rattle.std.specs.BTreeMap.{is_at}
use Rattle.std.specs.BTreeSet.{insert_key}
use Rattle.std.proofs.lemmas.Cmp.{nat_list_eq_equiv}
use Rattle.std.proofs.lemmas.Map.Text.{is_eq-slice_cmp}
use Rattle.std.proofs.lemmas.Slice.Eq.{bytes_eq-Decides}
use Rattle.guest_text.specs.Draft.{is_among}

-- whether a key of a set is this word, as a set compares and as a list does
pub among_keys : {K : Type 0} (bytes : K → List ℕ) (keys : List K) (word : List ℕ) → list_any (is_at (λ key. slice_cmp nat_cmp word (bytes key))) keys ≡ is_among (map bytes keys) word
among_keys bytes [] word = refl
among_keys bytes (key ∷ keys) word =
    let here : is_eq (slice_cmp nat_cmp word (bytes key)) ≡ bytes_eq (bytes key) word = is_eq-slice_cmp word (bytes key) ∙ nat_list_eq_equiv.symm word (bytes key) in
    rw (here, among_keys bytes keys word) refl

or_twice : (a b : Bool) → (a || b) ≡ (a || (a || b))
or_twice true b = refl
or_twice false b = refl

or_swap : (a b c : Bool) → (a || (b || c)) ≡ (b || (a || c))
or_swap true true c = refl
or_swap true false c = refl
or_swap false b c = refl

-- words that compare equal are the same
same_words : (one other : List ℕ) → slice_cmp nat_cmp one other ≡ Equal → one ≡ other
same_words one other h = (bytes_eq-Decides one other).0 (sym (is_eq-slice_cmp one other) ∙ ap is_eq h)

-- one more key by how it compares to the first
inserted_by : {K : Type 0} (bytes : K → List ℕ) (key first : K) (keys more : List K) (word : List ℕ) (o : Ordering) → slice_cmp nat_cmp (bytes key) (bytes first) ≡ o
    → is_among (map bytes more) word ≡ (bytes_eq (bytes key) word || is_among (map bytes keys) word)
    → is_among (map bytes (match_ordering o (key ∷ first ∷ keys) (first ∷ keys) (first ∷ more))) word ≡ (bytes_eq (bytes key) word || is_among (map bytes (first ∷ keys)) word)
inserted_by bytes key first keys more word Less e h = refl
inserted_by bytes key first keys more word Equal e h = rw (same_words (bytes key) (bytes first) e) (or_twice (bytes_eq (bytes first) word) (is_among (map bytes keys) word))
inserted_by bytes key first keys more word Greater e h = rw h (or_swap (bytes_eq (bytes first) word) (bytes_eq (bytes key) word) (is_among (map bytes keys) word))

-- keys with one more at its place in the order are these and that one
pub among_inserted : {K : Type 0} (bytes : K → List ℕ) (key : K) (keys : List K) (word : List ℕ)
    → is_among (map bytes (insert_key (λ one other. slice_cmp nat_cmp (bytes one) (bytes other)) keys key)) word ≡ (bytes_eq (bytes key) word || is_among (map bytes keys) word)
among_inserted bytes key [] word = refl
among_inserted bytes key (first ∷ keys) word =
    let more = insert_key (λ one other. slice_cmp nat_cmp (bytes one) (bytes other)) keys key in
    inserted_by bytes key first keys more word (slice_cmp nat_cmp (bytes key) (bytes first)) refl (among_inserted bytes key keys word)
