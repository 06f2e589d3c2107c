-- Programs and their text.
use Rattle.std.specs.Prelude.{◌≡◌, ℕ, List, [], ◌∷◌, map, flat_map}
use Rattle.prof_lines.specs.declared.fault.Cause.{Cause}
use Rattle.prof_lines.specs.declared.fault.Cause.TheVariants as causes
use Rattle.prof_lines.specs.Lines.{counted}
use Rattle.prof_lines.specs.Folds.{IsTextFault}
use Rattle.prof_lines.specs.Canonical.{text_of}
use Rattle.prof_lines.specs.Values.{EachIsSpelled}
use Rattle.guest_program.specs.declared.instr.Func.{Func}
use Rattle.guest_text.specs.declared.rule.Rule.{Rule}
use Rattle.guest_text.specs.declared.rule.Rule.TheVariants as rule
use Rattle.guest_text.specs.declared.refused.ProgramCause.{ProgramCause}
use Rattle.guest_text.specs.declared.refused.ProgramCause.TheVariants as public
use Rattle.guest_text.specs.declared.refused.ProgramRefused.{ProgramRefused}
use Rattle.guest_text.specs.declared.refused.ProgramRefused.TheVariants as refused
use Rattle.guest_text.specs.declared.program_line.Head.{Head}
use Rattle.guest_text.specs.declared.program_line.ProgramLine.{ProgramLine}
use Rattle.guest_text.specs.declared.program_line.ProgramLine.TheVariants as line
use Rattle.guest_text.specs.Outline.{functions_of}
use Rattle.guest_text.specs.ProgramLine.{line_words}
use Rattle.guest_text.specs.ProgramRules.{program_next, program_end}

-- a function without its instructions
abbrev pub head_of : Func → Head
head_of func =
    record {
      label = func.label;
      name = func.name;
      url = func.url;
      script = func.script;
      line = func.line;
      column = func.column;
      inline = func.inline;
    }

-- a function: its line, then its instructions
abbrev pub func_lines : Func → List ProgramLine
func_lines func = line.Func (head_of func) ∷ map (λ instr. line.Instr instr) func.body

-- the lines of functions in order
abbrev pub program_lines : List Func → List ProgramLine
program_lines funcs = flat_map func_lines funcs

abbrev pub labels_of : List Func → List (List ℕ)
labels_of funcs = map (λ func. func.label) funcs

-- The lines of a text that are not passed over spell these functions, line by line.
abbrev pub Spells : List ℕ → List Func → Type 0
Spells text funcs = EachIsSpelled (line_words (labels_of funcs)) (program_lines funcs) (counted text)

-- the canonical text of functions
abbrev pub program_text : List Func → List ℕ
program_text funcs = text_of (line_words (labels_of funcs)) (program_lines funcs)

abbrev pub program_cause : Cause Rule → ProgramCause
program_cause causes.Word = public.Word
program_cause causes.Number = public.Number
program_cause (causes.Own rule.UnknownName) = public.UnknownName
program_cause (causes.Own rule.Twice) = public.Twice
program_cause (causes.Own rule.Limit) = public.Limit
program_cause (causes.Own rule.NoMain) = public.NoMain

-- the first fault of a text is at this line, and has this cause
abbrev pub IsRefusedAt : List ℕ → ℕ → ProgramCause → Type 0
IsRefusedAt text number cause = (own : Cause Rule) × IsTextFault (program_next (functions_of (counted text))) program_end [] text (number, own) × (cause ≡ program_cause own)

-- what a refusal says of the text; out of memory says nothing of it
abbrev pub IsRefused : List ℕ → ProgramRefused → Type 0
IsRefused text (refused.At number cause) = IsRefusedAt text number cause
IsRefused text refused.Memory = Unit {0}

-- only out of memory
abbrev pub IsMemory : ProgramRefused → Type 0
IsMemory (refused.At number cause) = ⊥
IsMemory refused.Memory = Unit {0}
