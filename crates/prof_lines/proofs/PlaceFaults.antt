-- The faults of the places of a line.
use Rattle.std.proofs.Common.{ℕ, ◌^◌, ◌<◌, List, false, not, ◌&&◌, ◌||◌, ◌==◌, nat_le, refl, sym, take, drop, Option, Some, None, decimal, bytes_eq, inl, inr}
use Rattle.std.specs.List.{list_all}
use Rattle.prof_base.specs.Text.{IsText}
use Rattle.prof_lines.specs.declared.fault.Cause.{Cause}
use Rattle.prof_lines.specs.declared.fault.Cause.TheVariants.{Word, Number, Own}
use Rattle.prof_lines.specs.Answers.{Reader}
use Rattle.prof_lines.specs.Words.{after_spaces, len_before, is_plain, is_numeral, value_from, is_label, is_end, InRange, IsLabel, word_at, of_word, fixed_at, number_of, number_at, label_at, end_at}
use Rattle.prof_lines.specs.Quoted.{opened, unquoted, checked_text, is_stop, or_word, quoted_at}
use Rattle.prof_lines.specs.Spelled.{IsWord, quoted}
use Rattle.prof_lines.specs.Causes.{Faults, Refuses, WordFault, FixedFault, NamingFault, NumberFault, OfWordFault, EndFault}
use Rattle.prof_lines.proofs.Steps.{bind_err, guard_err, guard_found, err_same, not_both}
use Rattle.prof_lines.proofs.PlainWords.{word_place, word_takes, word_again, fixed_takes, fixed_again}
use Rattle.prof_lines.proofs.Ends.{end_takes, end_again}
use Rattle.prof_lines.proofs.Labels.{label_place}
use Rattle.prof_lines.proofs.QuotedForms.{quoted_place}
use Rattle.prof_lines.proofs.Numbers.{number_naming}
use Rattle.prof_lines.proofs.Causes.{OnlyCause, refused, refuses_place, refuses_naming}

pub word_only : {C : Type 0} (bytes : List ℕ) → OnlyCause {C = C} Word (word_at bytes)
unfolding word_at
word_only bytes cause h =
    let front = after_spaces bytes in
    let len = len_before 32 front in
    (guard_found (len == 0 || not (list_all is_plain (take len front))) (take len front, drop len front) Word cause h).1

pub word_refuses : {C : Type 0} → Refuses {C = C} word_at (WordFault IsWord (λ word. word))
word_refuses = refuses_place word_at IsWord (λ word. word) word_place word_only

fixed_only : {C : Type 0} (wanted bytes : List ℕ) → OnlyCause {C = C} Word (fixed_at wanted bytes)
unfolding fixed_at
fixed_only wanted bytes cause h = elim (bind_err (word_at bytes) _ cause h) [
  | inl e ↦ word_only bytes cause e
  | inr q ↦ (guard_err (bytes_eq q.0.0 wanted) q.0.1 Word cause q.2).1
]

pub fixed_refuses : {C : Type 0} (wanted : List ℕ) → IsWord wanted → Refuses {C = C} (fixed_at wanted) (FixedFault wanted)
fixed_refuses wanted w = record {
  says = λ bytes cause h. (fixed_only wanted bytes cause h, λ rest s. not_both (fixed_at wanted bytes) rest cause (fixed_again wanted bytes rest w s) h);
  again = λ bytes cause f. refused Word cause (fixed_at wanted bytes) (fixed_only wanted bytes) (λ rest h. f.1 rest (fixed_takes wanted bytes rest h)) f.0;
}

label_only : {C : Type 0} (bytes : List ℕ) → OnlyCause {C = C} Word (label_at bytes)
unfolding label_at
label_only bytes cause h = elim (bind_err (word_at bytes) _ cause h) [
  | inl e ↦ word_only bytes cause e
  | inr q ↦ (guard_err (is_label q.0.0) q.0 Word cause q.2).1
]

pub label_refuses : {C : Type 0} → Refuses {C = C} label_at (WordFault IsLabel (λ label. label))
label_refuses = refuses_place label_at IsLabel (λ label. label) label_place label_only

or_word_only : {A C : Type 0} (m : Option A) → OnlyCause {C = C} Word (or_word m)
or_word_only (Some x) cause h = absurd cc
or_word_only {A = A} None cause h = sym (err_same {B = A} Word cause h)

quoted_only : {C : Type 0} (bytes : List ℕ) → OnlyCause {C = C} Word (quoted_at bytes)
unfolding quoted_at
quoted_only bytes cause h = elim (bind_err (or_word (opened (after_spaces bytes))) _ cause h) [
  | inl e ↦ or_word_only (opened (after_spaces bytes)) cause e
  | inr inside ↦ elim (bind_err (or_word (unquoted false inside.0)) _ cause inside.2) [
    | inl e ↦ or_word_only (unquoted false inside.0) cause e
    | inr raw ↦ elim (bind_err (or_word (checked_text raw.0.0)) _ cause raw.2) [
      | inl e ↦ or_word_only (checked_text raw.0.0) cause e
      | inr text ↦ (guard_err (is_stop raw.0.1) (text.0, raw.0.1) Word cause text.2).1
    ]
  ]
]

pub quoted_refuses : {C : Type 0} → Refuses {C = C} quoted_at (WordFault IsText quoted)
quoted_refuses = refuses_place quoted_at IsText quoted quoted_place quoted_only

end_only : {C : Type 0} (bytes : List ℕ) → OnlyCause {C = C} Word (end_at bytes)
unfolding end_at
end_only bytes cause h = (guard_err (is_end bytes) tt Word cause h).1

pub end_refuses : {C : Type 0} → Refuses {C = C} end_at EndFault
end_refuses = record {
  says = λ bytes cause h. (end_only bytes cause h, λ none. not_both (end_at bytes) tt cause (end_again bytes none) h);
  again = λ bytes cause f. refused Word cause (end_at bytes) (end_only bytes) (λ u h. f.1 (end_takes bytes u h)) f.0;
}

number_only : {C : Type 0} (least most : ℕ) (word : List ℕ) → OnlyCause {C = C} Number (number_of least most word)
unfolding number_of
number_only least most word cause h = (guard_err (is_numeral word && nat_le least (value_from 0 word) && nat_le (value_from 0 word) most) (value_from 0 word) Number cause h).1

pub number_of_refuses : {C : Type 0} (least most : ℕ) → most < 2 ^ 64 → Refuses {C = C} (number_of least most) (NamingFault Number (InRange least most) decimal)
number_of_refuses least most small = refuses_naming Number (number_of least most) (InRange least most) decimal (number_naming least most small) (number_only least most)

-- the word that comes next, read further
pub of_word_refuses : {A C : Type 0} (read : Reader A C) (Fault : Faults C) → Refuses read Fault → Refuses (of_word read) (OfWordFault Fault)
of_word_refuses read Fault r = record {
  says = λ bytes cause h. elim (bind_err (word_at bytes) _ cause h) [
    | inl e ↦ inl (word_refuses.says bytes cause e)
    | inr q ↦ elim (bind_err (read q.0.0) _ cause q.2) [
      | inl e ↦ let t = word_takes bytes q.0 q.1 in inr (q.0.0, q.0.1, t.0, t.1, r.says q.0.0 cause e)
      | inr p ↦ absurd (let e = p.2 in cc)
    ]
  ];
  again = λ bytes cause f. elim f [
    | inl e ↦ rw (word_refuses.again bytes cause e) refl
    | inr q ↦ rw (word_again q.0 q.1 bytes q.2 q.3, r.again q.0 cause q.4) refl
  ];
}

abbrev IsNumeralFault : {C : Type 0} → ℕ → ℕ → List ℕ → Cause C → Type 0
IsNumeralFault least most bytes cause = OfWordFault (NamingFault Number (InRange least most) decimal) bytes cause

number_fault_from : {C : Type 0} (least most : ℕ) (bytes : List ℕ) (cause : Cause C) → IsNumeralFault least most bytes cause → NumberFault least most bytes cause
number_fault_from least most bytes Word (inl e) = e.1
number_fault_from least most bytes Word (inr q) = absurd (let e = q.4.0 in cc)
number_fault_from least most bytes Number (inl e) = absurd (let f = e.0 in cc)
number_fault_from least most bytes Number (inr q) = (q.0, q.1, q.2, q.3, q.4.1)
number_fault_from least most bytes (Own cause) (inl e) = absurd (let f = e.0 in cc)
number_fault_from least most bytes (Own cause) (inr q) = absurd (let e = q.4.0 in cc)

number_fault_again : {C : Type 0} (least most : ℕ) (bytes : List ℕ) (cause : Cause C) → NumberFault least most bytes cause → IsNumeralFault least most bytes cause
number_fault_again least most bytes Word f = inl (refl, f)
number_fault_again least most bytes Number f = inr (f.0, f.1, f.2, f.3, (refl, f.4))
number_fault_again least most bytes (Own cause) f = absurd f

pub number_refuses : {C : Type 0} (least most : ℕ) → most < 2 ^ 64 → Refuses {C = C} (number_at least most) (NumberFault least most)
unfolding number_at
number_refuses {C = C} least most small =
    let of : Refuses {C = C} (number_of least most) (NamingFault Number (InRange least most) decimal) = number_of_refuses least most small in
    let r = of_word_refuses (number_of least most) (NamingFault Number (InRange least most) decimal) of in
    record {
      says = λ bytes cause h. number_fault_from least most bytes cause (r.says bytes cause h);
      again = λ bytes cause f. r.again bytes cause (number_fault_again least most bytes cause f);
    }
