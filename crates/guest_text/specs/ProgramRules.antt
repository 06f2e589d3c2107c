-- The rules of a program's lines, over the lines before them.
use Rattle.std.specs.Prelude.{ℕ, suc, List, [], ◌∷◌, length, get_or, Bool, ◌&&◌, ◌||◌, ◌==◌, nat_le, if◌then◌else◌, bytes_eq, codes, Option, Some, None, Result, Ok, Err}
use Rattle.std.specs.List.{list_any}
use Rattle.prof_lines.specs.declared.fault.Cause.{Cause}
use Rattle.prof_lines.specs.declared.fault.Cause.TheVariants.{Word, Own}
use Rattle.prof_lines.specs.Lines.{counted}
use Rattle.prof_lines.specs.Folds.{placed, read_lines, read_text}
use Rattle.prof_lines.specs.Answers.{◌>>=◌}
use Rattle.prof_lines.specs.Values.{next_value}
use Rattle.guest_program.specs.declared.instr.TheConstants.Func.{MAX_BODY}
use Rattle.guest_program.specs.declared.program.TheConstants.Program.{MAX_FUNCS}
use Rattle.guest_text.specs.declared.rule.Rule.{Rule}
use Rattle.guest_text.specs.declared.rule.Rule.TheVariants.{Twice, Limit, NoMain}
use Rattle.guest_text.specs.declared.program_line.Head.{Head}
use Rattle.guest_text.specs.declared.program_line.ProgramLine.{ProgramLine}
use Rattle.guest_text.specs.declared.program_line.ProgramLine.TheVariants as line
use Rattle.guest_text.specs.Outline.{Read, Functions, functions_of, size_after}
use Rattle.guest_text.specs.ProgramLine.{IsLineIn}
use Rattle.guest_text.specs.LineForms.{line_at}

-- the functions' lines
abbrev pub heads : List ProgramLine → List Head
heads [] = []
heads (line.Func head ∷ lines) = head ∷ heads lines
heads (line.Instr instr ∷ lines) = heads lines

-- how many instructions follow the last function's line, where this many come before the first
abbrev pub last_size : ℕ → List ProgramLine → ℕ
last_size size [] = size
last_size size (line.Func head ∷ lines) = last_size 0 lines
last_size size (line.Instr instr ∷ lines) = last_size (suc size) lines

-- the two have the same name, url, script, line and column
abbrev pub same_entry : Head → Head → Bool
same_entry one other = bytes_eq one.name other.name && bytes_eq one.url other.url && one.script == other.script && one.line == other.line && one.column == other.column

abbrev pub has_label : List ℕ → List Head → Bool
has_label label others = list_any (λ other. bytes_eq other.label label) others

-- the label of the function, or its entry, is that of one of these
abbrev pub is_twice : Head → List Head → Bool
is_twice head others = has_label head.label others || list_any (λ other. same_entry other head) others

-- there are as many functions as a program may have, or the function has no instruction
abbrev pub func_breaks_limit : List ℕ → ℕ → Bool
func_breaks_limit sizes number = nat_le MAX_FUNCS number || get_or sizes number 0 == 0

-- the first rule that a line breaks after these, in a text whose functions have these sizes
abbrev pub program_fault : List ℕ → List ProgramLine → ProgramLine → Option (Cause Rule)
program_fault sizes before (line.Func head) =
    if is_twice head (heads before) then Some (Own Twice)
    else if func_breaks_limit sizes (length (heads before)) then Some (Own Limit)
    else None
program_fault sizes before (line.Instr instr) =
    if length (heads before) == 0 then Some Word
    else if nat_le MAX_BODY (last_size 0 before) then Some (Own Limit)
    else None

-- what is read of a line after these, in a text with these functions
abbrev pub line_after : Functions → List ProgramLine → List ℕ → Read ProgramLine
line_after functions before bytes = line_at functions.labels (size_after functions.sizes (length (heads before))) bytes

-- a line that may come after these, as far as its own words say
abbrev pub Fits : Functions → List ProgramLine → ProgramLine → Type 0
Fits functions before value = IsLineIn functions.labels (size_after functions.sizes (length (heads before))) value

-- the lines that were read, with one more
abbrev pub program_next : Functions → List ProgramLine → List ℕ → Read (List ProgramLine)
program_next functions before bytes = next_value (line_after functions) (program_fault functions.sizes) before bytes

-- the end of a text: one function is `main`
abbrev pub program_end : List ProgramLine → Read (List ProgramLine)
program_end lines = if has_label (codes "main") (heads lines) then Ok lines else Err (Own NoMain)

-- the lines that are read of a text, or its first fault
abbrev pub lines_read : List ℕ → Result (List ProgramLine) (ℕ × Cause Rule)
lines_read text = read_text (program_next (functions_of (counted text))) program_end [] text

-- what is read of the lines that are left, after these, where the number after the last line is this one
abbrev pub rest_of : Functions → List ProgramLine → List (ℕ × List ℕ) → ℕ → Result (List ProgramLine) (ℕ × Cause Rule)
rest_of functions before lines after = read_lines (program_next functions) before lines >>= λ state. placed after (program_end state)
