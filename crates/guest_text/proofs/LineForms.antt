-- The forms of the lines of programs: what is read is spelled so, and what is spelled so is read.
use Rattle.std.proofs.Common.{◌≡◌, ℕ, ◌^◌, ◌<◌, ◌≤◌, List, ◌∷◌, length, Bool, false, Option, Ok, Err, refl, sym, subst, arith, codes, decimal, bytes_eq, lit<}
use Rattle.prof_lines.specs.declared.fault.Cause.TheVariants.{Word}
use Rattle.prof_lines.specs.Answers.{◌>>=◌}
use Rattle.prof_lines.specs.Words.{InRange, IsLabel, fixed_at, label_at, optional_at}
use Rattle.prof_lines.specs.Spelled.{IsWord, BeginsWith, HasWords, optional_word}
use Rattle.prof_lines.specs.Forms.{IsPlace, Wording, IsForm}
use Rattle.prof_lines.proofs.Steps.{ok_same, bind_ok}
use Rattle.prof_lines.proofs.PlainWords.{word_place, word_again, fixed_takes, fixed_again}
use Rattle.prof_lines.proofs.Places.{place_step}
use Rattle.prof_lines.proofs.Numbers.{decimal_word, decimal_is_no}
use Rattle.prof_lines.proofs.Labels.{label_place}
use Rattle.prof_lines.proofs.EndForms.{optional_form}
use Rattle.guest_program.specs.declared.instr.Instr.{Instr}
use Rattle.guest_program.specs.declared.program.TheConstants.Program.{MAX_FUNCS}
use Rattle.guest_text.specs.declared.rule.Rule.{Rule}
use Rattle.guest_text.specs.declared.program_line.Head.{Head}
use Rattle.guest_text.specs.declared.program_line.ProgramLine.{ProgramLine}
use Rattle.guest_text.specs.declared.program_line.ProgramLine.TheVariants as line
use Rattle.guest_text.specs.Outline.{Read, Functions, size_after}
use Rattle.guest_text.specs.ProgramLine.{MILLION, entry_words, line_words, op_name, op_operands, IsLineOp, IsHead, IsLineIn}
use Rattle.guest_text.specs.LineForms.{op_of, instr_at, head_at, line_by, line_at}
use Rattle.guest_text.specs.ProgramRules.{heads, line_after, Fits}
use Rattle.guest_text.proofs.ProgramWords.{AreFew, script_place, million_place, text_place}
use Rattle.guest_text.proofs.OpForms.{op_takes, op_again, op_is_word}

name_place : IsPlace {C = Rule} label_at IsLabel (λ label. label)
name_place = label_place

inline_form : IsForm {C = Rule} (optional_at (codes "inline")) (λ there. Unit {0}) (optional_word (codes "inline"))
inline_form = optional_form (codes "inline") (record { some = lit< tt; plain = refl })

func_is_word : IsWord (codes "func")
func_is_word = record { some = lit< tt; plain = refl }

-- the words of a function's line after its first
abbrev pub head_words : Wording Head
head_words head = head.label ∷ entry_words head (optional_word (codes "inline") head.inline)

-- what is read is in its ranges and spelled so
head_takes : (bytes : List ℕ) (head : Head) → head_at bytes ≡ Ok head → IsHead head × HasWords (head_words head) bytes
unfolding head_at
head_takes bytes head h =
    let a = place_step _ _ _ name_place bytes _ head h in
    let b = place_step _ _ _ text_place a.0.1 _ head a.3 in
    let c = place_step _ _ _ text_place b.0.1 _ head b.3 in
    let d = place_step _ _ _ script_place c.0.1 _ head c.3 in
    let e = place_step _ _ _ million_place d.0.1 _ head d.3 in
    let made : ℕ → Bool → Head = λ column inline. record { label = a.0.0; name = b.0.0; url = c.0.0; script = d.0.0; line = e.0.0; column = column; inline = inline } in
    let f = place_step _ _ _ million_place e.0.1 (λ column. optional_at (codes "inline") column.1 >>= λ inline. Ok (made column.0 inline)) head e.3 in
    let g = bind_ok (optional_at (codes "inline") f.0.1) (λ inline. Ok (made f.0.0 inline)) head f.3 in
    let t = inline_form.takes f.0.1 g.0 g.1 in
    subst (λ (x : Head). IsHead x × HasWords (head_words x) bytes) {x = made f.0.0 g.0} {y = head} (ok_same (made f.0.0 g.0) head g.2) (
      record { label = a.1; name = b.1; url = c.1; script = d.1; begins = e.1; column = f.1 },
      (a.0.1, a.2, (b.0.1, b.2, (c.0.1, c.2, (d.0.1, d.2, (e.0.1, e.2, (f.0.1, f.2, t.1)))))),
    )

-- what is in its ranges and spelled so is read
head_again : (bytes : List ℕ) (head : Head) → IsHead head → HasWords (head_words head) bytes → head_at bytes ≡ Ok head
unfolding head_at
head_again bytes head fits s =
    rw (
      name_place.again bytes s.0 head.label fits.label s.1,
      text_place.again s.0 s.2.0 head.name fits.name s.2.1,
      text_place.again s.2.0 s.2.2.0 head.url fits.url s.2.2.1,
      script_place.again s.2.2.0 s.2.2.2.0 head.script fits.script s.2.2.2.1,
      million_place.again s.2.2.2.0 s.2.2.2.2.0 head.line fits.begins s.2.2.2.2.1,
      million_place.again s.2.2.2.2.0 s.2.2.2.2.2.0 head.column fits.column s.2.2.2.2.2.1,
      inline_form.again s.2.2.2.2.2.0 head.inline tt s.2.2.2.2.2.2,
    )
    refl

-- a function's line is read after its first word
pub head_form : IsForm {C = Rule} head_at IsHead head_words
head_form = record { takes = λ bytes head h. head_takes bytes head h; again = λ bytes head fits s. head_again bytes head fits s }

-- what is read as a function's line is in its ranges
pub head_fits : (bytes : List ℕ) (head : Head) → head_at bytes ≡ Ok head → IsHead head
head_fits bytes head h = (head_takes bytes head h).0

-- an instruction in its ranges, in a body of this size
abbrev IsInstrIn : List (List ℕ) → Option ℕ → Instr → Type 0
IsInstrIn labels size instr = InRange 1 MILLION instr.line × IsLineOp labels size instr.op

abbrev instr_words : List (List ℕ) → Wording Instr
instr_words labels instr = decimal instr.line ∷ op_name instr.op ∷ op_operands labels instr.op

-- an instruction that is read is in its ranges and spelled so
instr_takes : (labels : List (List ℕ)) (size : Option ℕ) → AreFew labels → (bytes : List ℕ) (instr : Instr) → instr_at labels size bytes ≡ Ok instr
    → IsInstrIn labels size instr × HasWords (instr_words labels instr) bytes
unfolding instr_at
instr_takes labels size few bytes instr h =
    let a = place_step _ _ _ million_place bytes _ instr h in
    let b = place_step _ _ _ (word_place {C = Rule}) a.0.1 _ instr a.3 in
    let c = bind_ok (op_of labels size b.0.0 b.0.1) _ instr b.3 in
    let t = op_takes labels size few b.0.0 b.0.1 c.0 c.1 in
    let name : BeginsWith (op_name c.0) b.0.1 a.0.1 = subst (λ (z : List ℕ). BeginsWith z b.0.1 a.0.1) (sym t.1) b.2 in
    subst (λ (x : Instr). IsInstrIn labels size x × HasWords (instr_words labels x) bytes) (ok_same _ _ c.2) ((a.1, t.0), (a.0.1, a.2, (b.0.1, name, t.2)))

-- an instruction in its ranges that is spelled so is read
instr_again : (labels : List (List ℕ)) (size : Option ℕ) → AreFew labels → (bytes : List ℕ) (instr : Instr) → IsInstrIn labels size instr
    → HasWords (instr_words labels instr) bytes → instr_at labels size bytes ≡ Ok instr
unfolding instr_at
instr_again labels size few bytes instr fits s =
    rw (
      million_place.again bytes s.0 instr.line fits.0 s.1,
      word_again {C = Rule} (op_name instr.op) s.2.0 s.0 (op_is_word instr.op) s.2.1,
      op_again labels size few s.2.0 instr.op fits.1 s.2.2,
    )
    refl

-- another word than the one that is wanted is at fault
other_word : (wanted word rest bytes : List ℕ) → IsWord word → bytes_eq word wanted ≡ false → BeginsWith word rest bytes → fixed_at {C = Rule} wanted bytes ≡ Err Word
unfolding fixed_at
other_word wanted word rest bytes is other s = rw (word_again {C = Rule} word rest bytes is s, other) refl

-- a line in its ranges, in a body of this size, and its words
abbrev IsSpelledIn : List (List ℕ) → Option ℕ → List ℕ → ProgramLine → Type 0
IsSpelledIn labels size bytes value = IsLineIn labels size value × HasWords (line_words labels value) bytes

-- a line that is read, whatever was found of the first word of a function's line, is in its ranges and spelled so
line_takes : (labels : List (List ℕ)) (size : Option ℕ) → AreFew labels → (bytes : List ℕ) (value : ProgramLine) (found : Read (List ℕ)) → fixed_at (codes "func") bytes ≡ found
    → line_by found labels size bytes ≡ Ok value → IsSpelledIn labels size bytes value
line_takes labels size few bytes value (Ok rest) e h =
    let a = bind_ok (head_at rest) _ value h in
    let t = head_takes rest a.0 a.1 in
    subst (IsSpelledIn labels size bytes) (ok_same _ _ a.2) (t.0, (rest, fixed_takes (codes "func") bytes rest e, t.1))
line_takes labels size few bytes value (Err cause) e h =
    let a = bind_ok (instr_at labels size bytes) _ value h in
    subst (IsSpelledIn labels size bytes) (ok_same _ _ a.2) (instr_takes labels size few bytes a.0 a.1)

-- a line in its ranges that is spelled so is read: the first word of an instruction's line, a number, is not that of a function's
line_again : (labels : List (List ℕ)) (size : Option ℕ) → AreFew labels → (bytes : List ℕ) (value : ProgramLine) → IsLineIn labels size value
    → HasWords (line_words labels value) bytes → line_at labels size bytes ≡ Ok value
line_again labels size few bytes (line.Func head) fits s = rw (fixed_again {C = Rule} (codes "func") bytes s.0 func_is_word s.1, head_again s.0 head fits s.2) refl
line_again labels size few bytes (line.Instr instr) fits s =
    let small : instr.line < 2 ^ 64 = omega (arith, fits.0.1) in
    let other = decimal_is_no instr.line (codes "func") small refl in
    rw (other_word (codes "func") (decimal instr.line) s.0 bytes (decimal_word instr.line small) other s.1, instr_again labels size few bytes instr fits s) refl

-- each line of a text has its form after those before it, where there are at most as many labels as a program may have functions
pub line_form : (functions : Functions) → length functions.labels ≤ MAX_FUNCS → (before : List ProgramLine)
    → IsForm (line_after functions before) (Fits functions before) (line_words functions.labels)
line_form functions few before =
    let size = size_after functions.sizes (length (heads before)) in
    record {
      takes = λ bytes value h. line_takes functions.labels size few bytes value (fixed_at (codes "func") bytes) refl h;
      again = λ bytes value fits s. line_again functions.labels size few bytes value fits s;
    }

-- what is read as a function's line, whatever was found of its first word, is in its ranges
line_head_by : (labels : List (List ℕ)) (size : Option ℕ) (bytes : List ℕ) (head : Head) (found : Read (List ℕ)) → line_by found labels size bytes ≡ Ok (line.Func head) → IsHead head
line_head_by labels size bytes head (Ok rest) h =
    let a = bind_ok (head_at rest) _ _ h in
    let same : a.0 ≡ head = cc in
    subst IsHead same (head_fits rest a.0 a.1)
line_head_by labels size bytes head (Err cause) h = let a = bind_ok (instr_at labels size bytes) _ _ h in absurd cc

-- what is read of a function's line is in its ranges, whatever the labels are
pub line_head_fits : (labels : List (List ℕ)) (size : Option ℕ) (bytes : List ℕ) (head : Head) → line_at labels size bytes ≡ Ok (line.Func head) → IsHead head
line_head_fits labels size bytes head h = line_head_by labels size bytes head (fixed_at (codes "func") bytes) h
