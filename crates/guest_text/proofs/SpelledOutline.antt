-- The functions of lines that spell a program, and of lines that are read.
use Rattle.std.proofs.Common.{◌≡◌, ℕ, suc, ◌+◌, ◌^◌, ◌<◌, List, [], ◌∷◌, ◌++◌, length, map, Ok, Err, Option, Some, None, refl, sym, ap, ◌∙◌, arith, codes, decimal, lit<}
use Rattle.std.specs.List.{AllByRecursion}
use Rattle.prof_lines.specs.Words.{IsLabel, fixed_at}
use Rattle.prof_lines.specs.Spelled.{BeginsWith, HasWords, IsWord}
use Rattle.prof_lines.specs.declared.fault.Cause.{Cause}
use Rattle.prof_lines.specs.Folds.{placed, read_lines}
use Rattle.prof_lines.specs.Values.{Rules, EachIsSpelled, Keeps, kept}
use Rattle.prof_lines.proofs.Steps.{bind_ok, ok_same}
use Rattle.prof_lines.proofs.Folds.{placed_ok}
use Rattle.prof_lines.proofs.PlainWords.{word_again, fixed_again}
use Rattle.prof_lines.proofs.Numbers.{decimal_word, decimal_is_no}
use Rattle.prof_lines.proofs.Labels.{label_word}
use Rattle.guest_program.specs.declared.instr.Func.{Func}
use Rattle.guest_program.specs.declared.instr.Instr.{Instr}
use Rattle.guest_program.specs.Program.{IsProgram, IsFunc, IsInstr}
use Rattle.guest_text.specs.declared.rule.Rule.{Rule}
use Rattle.guest_text.specs.declared.program_line.Head.{Head}
use Rattle.guest_text.specs.declared.program_line.ProgramLine.{ProgramLine}
use Rattle.guest_text.specs.declared.program_line.ProgramLine.TheVariants as form
use Rattle.guest_text.specs.Outline.{Read, Functions, func_label, leading, functions_of, size_after}
use Rattle.guest_text.specs.ProgramLine.{line_words}
use Rattle.guest_text.specs.LineForms.{head_at, instr_at, line_by}
use Rattle.guest_text.specs.ProgramText.{program_lines, labels_of}
use Rattle.guest_text.specs.ProgramRules.{heads, program_fault, line_after, Fits, program_next}

-- the label of a function's line
abbrev pub label_in : ProgramLine → Option (List ℕ)
label_in (form.Func head) = Some head.label
label_in (form.Instr instr) = None

-- how many instructions come before the next function's line
abbrev pub leading_in : List ProgramLine → ℕ
leading_in [] = 0
leading_in (form.Func head ∷ values) = 0
leading_in (form.Instr instr ∷ values) = suc (leading_in values)

-- the functions of these lines, as a text that spells them has them
abbrev pub functions_in : List ProgramLine → Functions
functions_in [] = record { labels = []; sizes = [] }
functions_in (form.Func head ∷ values) = record { labels = head.label ∷ (functions_in values).labels; sizes = leading_in values ∷ (functions_in values).sizes }
functions_in (form.Instr instr ∷ values) = functions_in values

-- the first words of a line can be spelled
abbrev pub IsSpellable : ProgramLine → Type 0
IsSpellable (form.Func head) = IsLabel head.label
IsSpellable (form.Instr instr) = instr.line < 2 ^ 64

-- `func` is a plain word
func_word : IsWord (codes "func")
func_word = record { some = lit< tt; plain = refl }

-- a line whose first word is a number is no function's
not_func : (n : ℕ) (rest bytes : List ℕ) → n < 2 ^ 64 → BeginsWith (decimal n) rest bytes → func_label bytes ≡ None
unfolding fixed_at
not_func n rest bytes h s = rw (word_again (decimal n) rest bytes (decimal_word n h) s, decimal_is_no n (codes "func") h refl) refl

-- a line that spells a value has its label
label_spelled : (labels : List (List ℕ)) (value : ProgramLine) (bytes : List ℕ) → IsSpellable value → HasWords (line_words labels value) bytes → func_label bytes ≡ label_in value
label_spelled labels (form.Func head) bytes h s =
    rw (fixed_again (codes "func") bytes s.0 func_word s.1, word_again head.label s.2.0 s.0 (label_word head.label h) s.2.1) refl
label_spelled labels (form.Instr instr) bytes h s = not_func instr.line s.0 bytes h s.1

-- what is known of lines that spell these values
pub record AreSpelled (lines : List (ℕ × List ℕ)) (values : List ProgramLine) : Type 0 where
  pub leading : leading lines ≡ leading_in values
  pub functions : functions_of lines ≡ functions_in values

-- one more line that spells one more value
first_spelled : (line : ℕ × List ℕ) (lines : List (ℕ × List ℕ)) (value : ProgramLine) (values : List ProgramLine) → func_label line.1 ≡ label_in value → AreSpelled lines values
    → AreSpelled (line ∷ lines) (value ∷ values)
first_spelled line lines (form.Func head) values h s = record { leading = rw h refl; functions = rw (h, s.leading, s.functions) refl }
first_spelled line lines (form.Instr instr) values h s = record { leading = rw h (ap suc s.leading); functions = rw h s.functions }

-- lines that spell values have their functions
pub values_spelled : (labels : List (List ℕ)) (values : List ProgramLine) (lines : List (ℕ × List ℕ)) → AllByRecursion IsSpellable values → EachIsSpelled (line_words labels) values lines
    → AreSpelled lines values
values_spelled labels [] [] h s = record { leading = refl; functions = refl }
values_spelled labels [] (line ∷ lines) h s = absurd s
values_spelled labels (value ∷ values) [] h s = absurd s
values_spelled labels (value ∷ values) (line ∷ lines) h s =
    first_spelled line lines value values (label_spelled labels value line.1 h.0 s.0) (values_spelled labels values lines h.1 s.1)

-- the functions of a program, as its text has them
abbrev pub outline_of : List Func → Functions
outline_of funcs = record { labels = labels_of funcs; sizes = map (λ func. length func.body) funcs }

-- instructions that come first belong to no function of these lines
instrs_in : (body : List Instr) (values : List ProgramLine)
    → (functions_in (map (λ instr. form.Instr instr) body ++ values) ≡ functions_in values) × (leading_in (map (λ instr. form.Instr instr) body ++ values) ≡ length body + leading_in values)
instrs_in [] values = (refl, omega arith)
instrs_in (instr ∷ body) values = let on = instrs_in body values in (on.0, omega (arith, on.1))

-- the lines of functions begin with a function's line
none_leads : (funcs : List Func) → leading_in (program_lines funcs) ≡ 0
none_leads [] = refl
none_leads (func ∷ funcs) = refl

-- the lines of functions have these functions
functions_in-lines : (funcs : List Func) → functions_in (program_lines funcs) ≡ outline_of funcs
functions_in-lines [] = refl
functions_in-lines (func ∷ funcs) =
    let body = instrs_in func.body (program_lines funcs) in
    let size : leading_in (map (λ instr. form.Instr instr) func.body ++ program_lines funcs) ≡ length func.body = omega (arith, body.1, none_leads funcs) in
    rw (size, body.0, functions_in-lines funcs) refl

-- the label of a function and the lines of its instructions can be spelled
abbrev pub IsSpellableFunc : Func → Type 0
IsSpellableFunc func = IsLabel func.label × AllByRecursion (λ instr. instr.line < 2 ^ 64) func.body

-- instructions whose lines can be spelled, before such lines
body_spellable : (body : List Instr) (values : List ProgramLine) → AllByRecursion (λ instr. instr.line < 2 ^ 64) body → AllByRecursion IsSpellable values
    → AllByRecursion IsSpellable (map (λ instr. form.Instr instr) body ++ values)
body_spellable [] values h k = k
body_spellable (instr ∷ body) values h k = (h.0, body_spellable body values h.1 k)

-- the lines of functions that can be spelled
lines_spellable : (funcs : List Func) → AllByRecursion IsSpellableFunc funcs → AllByRecursion IsSpellable (program_lines funcs)
lines_spellable [] h = tt
lines_spellable (func ∷ funcs) h = (h.0.0, body_spellable func.body (program_lines funcs) h.0.1 (lines_spellable funcs h.1))

-- the lines of instructions that fit can be spelled
instrs_spellable : (funcs size : ℕ) (body : List Instr) → AllByRecursion (IsInstr funcs size) body → AllByRecursion (λ instr. instr.line < 2 ^ 64) body
instrs_spellable funcs size [] h = tt
instrs_spellable funcs size (instr ∷ body) h = (omega (arith, h.0.line.1), instrs_spellable funcs size body h.1)

-- functions that fit can be spelled
each_spellable : (count : ℕ) (funcs : List Func) → AllByRecursion (IsFunc count) funcs → AllByRecursion IsSpellableFunc funcs
each_spellable count [] h = tt
each_spellable count (func ∷ funcs) h = ((h.0.label, instrs_spellable count (length func.body) func.body h.0.body), each_spellable count funcs h.1)

-- the functions of a program can be spelled
pub program_spellable : (funcs : List Func) → IsProgram funcs → AllByRecursion IsSpellableFunc funcs
program_spellable funcs h = each_spellable (length funcs) funcs h.each

-- lines that spell functions have their labels and sizes
pub spelled_functions : (labels : List (List ℕ)) (funcs : List Func) (lines : List (ℕ × List ℕ)) → AllByRecursion IsSpellableFunc funcs
    → EachIsSpelled (line_words labels) (program_lines funcs) lines → functions_of lines ≡ outline_of funcs
spelled_functions labels funcs lines h s = (values_spelled labels (program_lines funcs) lines (lines_spellable funcs h) s).functions ∙ functions_in-lines funcs

-- a line that fits can be spelled
fit_spellable : (functions : Functions) (before : List ProgramLine) (value : ProgramLine) → Fits functions before value → IsSpellable value
fit_spellable functions before (form.Func head) h = h.label
fit_spellable functions before (form.Instr instr) h = omega (arith, h.0.1)

-- lines that keep the rules can be spelled
pub kept_spellable : (functions : Functions) (fault : Rules ProgramLine Rule) (before values : List ProgramLine) → Keeps (Fits functions) fault before values → AllByRecursion IsSpellable values
kept_spellable functions fault before [] h = tt
kept_spellable functions fault before (value ∷ values) h = (fit_spellable functions before value h.0, kept_spellable functions fault (before ++ value ∷ []) values h.2)

-- lines that spell functions, whose lines keep the rules, have their labels and sizes
pub kept_functions : (functions : Functions) (fault : Rules ProgramLine Rule) (labels : List (List ℕ)) (funcs : List Func) (lines : List (ℕ × List ℕ))
    → Keeps (Fits functions) fault [] (program_lines funcs) → EachIsSpelled (line_words labels) (program_lines funcs) lines → functions_of lines ≡ outline_of funcs
kept_functions functions fault labels funcs lines h s =
    (values_spelled labels (program_lines funcs) lines (kept_spellable functions fault [] (program_lines funcs) h) s).functions ∙ functions_in-lines funcs

-- a function's line is one more of the functions' lines
heads_func : (before : List ProgramLine) (head : Head) → length (heads (before ++ form.Func head ∷ [])) ≡ length (heads before) + 1
heads_func [] head = refl
heads_func (form.Func other ∷ before) head = omega (arith, heads_func before head)
heads_func (form.Instr other ∷ before) head = heads_func before head

-- an instruction's line is none of them
heads_instr : (before : List ProgramLine) (instr : Instr) → length (heads (before ++ form.Instr instr ∷ [])) ≡ length (heads before)
heads_instr [] instr = refl
heads_instr (form.Func other ∷ before) instr = ap suc (heads_instr before instr)
heads_instr (form.Instr other ∷ before) instr = heads_instr before instr

-- a line that is read is a function's where its first word is `func`
line_read : (functions : Functions) (before : List ProgramLine) (line : ℕ × List ℕ) (lines : List (ℕ × List ℕ)) (value : ProgramLine) (r : Read (List ℕ)) → fixed_at (codes "func") line.1 ≡ r
    → line_by r functions.labels (size_after functions.sizes (length (heads before))) line.1 ≡ Ok value
    → length (heads (before ++ value ∷ [])) + length (functions_of lines).labels ≡ length (heads before) + length (functions_of (line ∷ lines)).labels
line_read functions before line lines value (Ok rest) e h =
    let a = bind_ok (head_at rest) _ _ h in
    let is : form.Func a.0 ≡ value = ok_same _ _ a.2 in
    rw (← is, e) (omega (arith, heads_func before a.0))
line_read functions before line lines value (Err cause) e h =
    let a = bind_ok (instr_at functions.labels (size_after functions.sizes (length (heads before))) line.1) _ _ h in
    let is : form.Instr a.0 ≡ value = ok_same _ _ a.2 in
    rw (← is, e) (omega (arith, heads_instr before a.0))

-- what is kept is what was read
kept_is : (m : Option (Cause Rule)) (before next : List ProgramLine) → kept m before ≡ Ok next → before ≡ next
kept_is None before next h = ok_same before next h
kept_is (Some cause) before next h = absurd cc

-- lines that are read after others have as many functions' lines as functions
read_after : (functions : Functions) (before : List ProgramLine) (lines : List (ℕ × List ℕ)) (values : List ProgramLine) → read_lines (program_next functions) before lines ≡ Ok values
    → length (heads values) ≡ length (heads before) + length (functions_of lines).labels
read_after functions before [] values h = let same : before ≡ values = ok_same before values h in rw same (omega arith)
read_after functions before (line ∷ lines) values h =
    let a = bind_ok (placed line.0 (program_next functions before line.1)) _ _ h in
    let b = bind_ok (line_after functions before line.1) _ _ (placed_ok line.0 _ _ a.1) in
    let is : before ++ b.0 ∷ [] ≡ a.0 = kept_is (program_fault functions.sizes before b.0) (before ++ b.0 ∷ []) a.0 b.2 in
    let on = read_after functions a.0 lines values a.2 in
    let first = line_read functions before line lines b.0 (fixed_at (codes "func") line.1) refl b.1 in
    on ∙ ap (λ (z : List ProgramLine). length (heads z) + length (functions_of lines).labels) (sym is) ∙ first

-- a text that is read has as many functions as lines of functions
pub read_functions : (functions : Functions) (lines : List (ℕ × List ℕ)) (values : List ProgramLine) → read_lines (program_next functions) [] lines ≡ Ok values
    → length (functions_of lines).labels ≡ length (heads values)
read_functions functions lines values h = omega (arith, read_after functions [] lines values h)
