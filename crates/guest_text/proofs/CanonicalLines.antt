-- Each line of a program that is in its ranges has a canonical line.
use Rattle.std.proofs.Common.{ℕ, ◌^◌, ◌<◌, List, ◌∷◌, Bool, true, false, Option, refl, arith, codes, decimal, lit<}
use Rattle.std.specs.List.{AllByRecursion}
use Rattle.prof_lines.specs.Words.{InRange}
use Rattle.prof_lines.specs.Spelled.{optional_word}
use Rattle.prof_lines.specs.Canonical.{IsLine, IsOneLine}
use Rattle.prof_lines.proofs.Labels.{label_word}
use Rattle.prof_lines.proofs.CanonicalLines.{is_line, word_one_line, quoted_one_line, decimal_begins_line}
use Rattle.prof_lines.proofs.Numbers.{decimal_word}
use Rattle.guest_program.specs.declared.instr.Op.{Op}
use Rattle.guest_program.specs.declared.instr.Op.TheVariants.{Set, Add, Sub, Mul, Lt, Jump, Jz, Call, Ret, Print, Halt, Opt, Deopt, NoOpt, Drop, Gc, Idle, Native, Collect}
use Rattle.guest_text.specs.declared.program_line.ProgramLine.{ProgramLine}
use Rattle.guest_text.specs.declared.program_line.ProgramLine.TheVariants as line
use Rattle.guest_text.specs.Outline.{Functions}
use Rattle.guest_text.specs.ProgramLine.{reg_word, name_of, op_name, op_operands, line_words, IsFuncOf, IsLineOp, IsLineIn}
use Rattle.guest_text.specs.ProgramRules.{Fits}
use Rattle.guest_text.proofs.ProgramWords.{IsReg, reg_is_word}
use Rattle.guest_text.proofs.OpForms.{op_is_word}

-- these words have no line ends
abbrev AreOneLine : List (List ℕ) → Type 0
AreOneLine words = AllByRecursion IsOneLine words

-- a number, a register and a function's label have no line ends
number_one : (least most n : ℕ) → most < 2 ^ 64 → InRange least most n → IsOneLine (decimal n)
number_one least most n small fits = word_one_line (decimal n) (decimal_word n (omega (arith, fits.1, small)))

reg_one : (reg : ℕ) → IsReg reg → IsOneLine (reg_word reg)
reg_one reg fits = word_one_line (reg_word reg) (reg_is_word reg fits)

func_one : (labels : List (List ℕ)) (number : ℕ) → IsFuncOf labels number → IsOneLine (name_of labels number)
func_one labels number fits = word_one_line (name_of labels number) (label_word (name_of labels number) fits.label)

-- nor do the words after an operation's name
op_one : (labels : List (List ℕ)) (size : Option ℕ) (op : Op) → IsLineOp labels size op → AreOneLine (op_operands labels op)
op_one labels size (Set reg number) fits = (reg_one reg fits.0, (number_one _ _ number (lit< tt) fits.1, tt))
op_one labels size (Add to from) fits = (reg_one to fits.0, (reg_one from fits.1, tt))
op_one labels size (Sub to from) fits = (reg_one to fits.0, (reg_one from fits.1, tt))
op_one labels size (Mul to from) fits = (reg_one to fits.0, (reg_one from fits.1, tt))
op_one labels size (Lt to from) fits = (reg_one to fits.0, (reg_one from fits.1, tt))
op_one labels size (Jump place) fits = (number_one _ _ place (lit< tt) fits.0, tt)
op_one labels size (Jz reg place) fits = (reg_one reg fits.0, (number_one _ _ place (lit< tt) fits.1.0, tt))
op_one labels size (Call func) fits = (func_one labels func.0 fits, tt)
op_one labels size Ret fits = tt
op_one labels size (Print reg) fits = (reg_one reg fits, tt)
op_one labels size Halt fits = tt
op_one labels size (Opt func) fits = (func_one labels func.0 fits, tt)
op_one labels size (Deopt func reason) fits = (func_one labels func.0 fits.0, (quoted_one_line reason fits.1, tt))
op_one labels size (NoOpt func reason) fits = (func_one labels func.0 fits.0, (quoted_one_line reason fits.1, tt))
op_one labels size (Drop func) fits = (func_one labels func.0 fits, tt)
op_one labels size Gc fits = tt
op_one labels size (Idle steps) fits = (number_one _ _ steps (lit< tt) fits, tt)
op_one labels size (Native steps) fits = (number_one _ _ steps (lit< tt) fits, tt)
op_one labels size (Collect steps) fits = (number_one _ _ steps (lit< tt) fits, tt)

inline_one : (there : Bool) → AreOneLine (optional_word (codes "inline") there)
inline_one true = (refl, tt)
inline_one false = tt

-- a line in its ranges, in a body of this size, has a canonical line
in_range_is_line : (labels : List (List ℕ)) (size : Option ℕ) (value : ProgramLine) → IsLineIn labels size value → IsLine (line_words labels value)
in_range_is_line labels size (line.Func head) fits =
    is_line (codes "func") _ refl refl (
      word_one_line head.label (label_word head.label fits.label),
      (
        quoted_one_line head.name fits.name,
        (
          quoted_one_line head.url fits.url,
          (
            number_one _ _ head.script (lit< tt) fits.script,
            (number_one _ _ head.line (lit< tt) fits.begins, (number_one _ _ head.column (lit< tt) fits.column, inline_one head.inline)),
          ),
        ),
      ),
    )
in_range_is_line labels size (line.Instr instr) fits =
    let small : instr.line < 2 ^ 64 = omega (arith, fits.0.1) in
    is_line (decimal instr.line) (op_name instr.op ∷ op_operands labels instr.op) (decimal_begins_line instr.line small) (number_one _ _ instr.line (lit< tt) fits.0)
    (word_one_line (op_name instr.op) (op_is_word instr.op), op_one labels size instr.op fits.1)

-- each line that fits after others has a canonical line
pub line_is_line : (functions : Functions) (before : List ProgramLine) (value : ProgramLine) → Fits functions before value → IsLine (line_words functions.labels value)
line_is_line functions before value fits = in_range_is_line functions.labels _ value fits
