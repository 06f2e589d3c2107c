-- A label that comes next is read, and what is read as one comes next.
use Rattle.std.proofs.Common.{◌≡◌, ℕ, ◌<◌, List, [], ◌∷◌, length, true, ◌&&◌, nat_le, Ok, refl, arith, subst}
use Rattle.std.specs.List.{list_all}
use Rattle.std.proofs.lemmas.Bool.{and_parts, le-leb, leb-true}
use Rattle.std.proofs.lemmas.Bool.Decides.{nat_tests}
use Rattle.prof_lines.specs.Answers.{Front}
use Rattle.prof_lines.specs.Words.{is_plain, begins_with_letter, is_label_byte, is_label, IsLabel, word_at, label_at}
use Rattle.prof_lines.specs.Spelled.{BeginsWith, IsWord}
use Rattle.prof_lines.specs.Forms.{IsPlace}
use Rattle.prof_lines.proofs.Steps.{bind_ok, ok_same, guard_ok}
use Rattle.prof_lines.proofs.PlainWords.{word_takes, word_again}

pub label_from : (label : List ℕ) → is_label label ≡ true → IsLabel label
label_from label h =
    let a = and_parts (begins_with_letter label && list_all is_label_byte label) (nat_le (length label) 32) h in
    let b = and_parts (begins_with_letter label) (list_all is_label_byte label) a.0 in
    record { begins = b.0; bytes = b.1; short = leb-true (length label) 32 a.1 }

pub label_is : (label : List ℕ) → IsLabel label → is_label label ≡ true
label_is label h = rw (h.begins, h.bytes, le-leb (length label) 32 h.short) refl

letter_plain : (b : ℕ) → is_label_byte b ≡ true → is_plain b ≡ true
letter_plain b h = grind (arith, nat_tests)

letters_plain : (bytes : List ℕ) → list_all is_label_byte bytes ≡ true → list_all is_plain bytes ≡ true
letters_plain [] h = refl
letters_plain (b ∷ bytes) h = let f = and_parts (is_label_byte b) (list_all is_label_byte bytes) h in rw (letter_plain b f.0, letters_plain bytes f.1) refl

begins_some : (label : List ℕ) → begins_with_letter label ≡ true → 0 < length label
begins_some [] h = absurd cc
begins_some (b ∷ label) h = omega arith

pub label_word : (label : List ℕ) → IsLabel label → IsWord label
label_word label h = record { some = begins_some label h.begins; plain = letters_plain label h.bytes }

label_takes : {C : Type 0} (bytes rest label : List ℕ) → label_at {C = C} bytes ≡ Ok (label, rest) → IsLabel label × BeginsWith label rest bytes
unfolding label_at
label_takes bytes rest label h =
    let a = bind_ok (word_at bytes) _ _ h in
    let w = word_takes bytes a.0 a.1 in
    let g = guard_ok (is_label a.0.0) _ _ _ a.2 in
    subst (λ (x : Front (List ℕ)). IsLabel x.0 × BeginsWith x.0 x.1 bytes) (ok_same _ _ g.1) (label_from a.0.0 g.0, w.1)

label_again : {C : Type 0} (bytes rest label : List ℕ) → IsLabel label → BeginsWith label rest bytes → label_at {C = C} bytes ≡ Ok (label, rest)
unfolding label_at
label_again bytes rest label h s = rw (word_again label rest bytes (label_word label h) s, label_is label h) refl

pub label_place : {C : Type 0} → IsPlace {C = C} label_at IsLabel (λ label. label)
label_place = record {
  takes = λ bytes rest label h. label_takes bytes rest label h;
  again = λ bytes rest label fits s. label_again bytes rest label fits s;
}
