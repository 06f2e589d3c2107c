-- The lines of a program's text: the words of each, and the ranges of their numbers.
use Rattle.std.specs.Prelude.{◌≡◌, ℕ, ◌+◌, ◌-◌, ◌^◌, ◌<◌, ◌≤◌, List, [], ◌∷◌, get_or, position, Option, Some, None, codes, decimal, bytes_eq}
use Rattle.prof_base.specs.Text.{IsText}
use Rattle.prof_lines.specs.Words.{InRange, IsLabel}
use Rattle.prof_lines.specs.Spelled.{quoted, optional_word}
use Rattle.guest_program.specs.declared.instr.Op.{Op}
use Rattle.guest_program.specs.declared.instr.Op.TheVariants.{Set, Add, Sub, Mul, Lt, Jump, Jz, Call, Ret, Print, Halt, Opt, Deopt, NoOpt, Drop, Gc, Idle, Native, Collect}
use Rattle.guest_program.specs.declared.reg.TheConstants.Reg.{LAST}
use Rattle.guest_text.specs.declared.program_line.Head.{Head}
use Rattle.guest_text.specs.declared.program_line.ProgramLine.{ProgramLine}
use Rattle.guest_text.specs.declared.program_line.ProgramLine.TheVariants as line

-- the greatest line, column and count of steps
abbrev pub MILLION : ℕ
MILLION = 1000000

-- the greatest place in a body
abbrev pub MAX_PLACE : ℕ
MAX_PLACE = 4095

-- a register: `r0` to `r7`
abbrev pub reg_word : ℕ → List ℕ
reg_word reg = 114 ∷ (48 + reg) ∷ []

-- the label of the function with this number, or no bytes where there is none
abbrev pub name_of : List (List ℕ) → ℕ → List ℕ
name_of labels number = get_or labels number []

-- what an operation is called
abbrev pub op_name : Op → List ℕ
op_name (Set reg number) = codes "set"
op_name (Add to from) = codes "add"
op_name (Sub to from) = codes "sub"
op_name (Mul to from) = codes "mul"
op_name (Lt to from) = codes "lt"
op_name (Jump place) = codes "jump"
op_name (Jz reg place) = codes "jz"
op_name (Call func) = codes "call"
op_name Ret = codes "ret"
op_name (Print reg) = codes "print"
op_name Halt = codes "halt"
op_name (Opt func) = codes "opt"
op_name (Deopt func reason) = codes "deopt"
op_name (NoOpt func reason) = codes "noopt"
op_name (Drop func) = codes "drop"
op_name Gc = codes "gc"
op_name (Idle steps) = codes "idle"
op_name (Native steps) = codes "native"
op_name (Collect steps) = codes "collect"

-- the words after an operation's name, where the functions have these labels
abbrev pub op_operands : List (List ℕ) → Op → List (List ℕ)
op_operands labels (Set reg number) = reg_word reg ∷ decimal number ∷ []
op_operands labels (Add to from) = reg_word to ∷ reg_word from ∷ []
op_operands labels (Sub to from) = reg_word to ∷ reg_word from ∷ []
op_operands labels (Mul to from) = reg_word to ∷ reg_word from ∷ []
op_operands labels (Lt to from) = reg_word to ∷ reg_word from ∷ []
op_operands labels (Jump place) = decimal place ∷ []
op_operands labels (Jz reg place) = reg_word reg ∷ decimal place ∷ []
op_operands labels (Call func) = name_of labels func.0 ∷ []
op_operands labels Ret = []
op_operands labels (Print reg) = reg_word reg ∷ []
op_operands labels Halt = []
op_operands labels (Opt func) = name_of labels func.0 ∷ []
op_operands labels (Deopt func reason) = name_of labels func.0 ∷ quoted reason ∷ []
op_operands labels (NoOpt func reason) = name_of labels func.0 ∷ quoted reason ∷ []
op_operands labels (Drop func) = name_of labels func.0 ∷ []
op_operands labels Gc = []
op_operands labels (Idle steps) = decimal steps ∷ []
op_operands labels (Native steps) = decimal steps ∷ []
op_operands labels (Collect steps) = decimal steps ∷ []

-- the words of an entry: what tells functions apart in a profile
abbrev pub entry_words : Head → List (List ℕ) → List (List ℕ)
entry_words head rest = quoted head.name ∷ quoted head.url ∷ decimal head.script ∷ decimal head.line ∷ decimal head.column ∷ rest

-- the words of a line, where the functions have these labels
abbrev pub line_words : List (List ℕ) → ProgramLine → List (List ℕ)
line_words labels (line.Func head) = codes "func" ∷ head.label ∷ entry_words head (optional_word (codes "inline") head.inline)
line_words labels (line.Instr instr) = decimal instr.line ∷ op_name instr.op ∷ op_operands labels instr.op

-- the function with this number is the first that has its label
pub record IsFuncOf (labels : List (List ℕ)) (number : ℕ) : Type 0 where
  pub label : IsLabel (name_of labels number)
  pub first : position (λ label. bytes_eq label (name_of labels number)) labels ≡ Some number

-- a place in a body of this size; none says that the size is not known
abbrev pub IsWithin : Option ℕ → ℕ → Type 0
IsWithin None place = Unit {0}
IsWithin (Some size) place = place < size

abbrev pub IsPlaceIn : Option ℕ → ℕ → Type 0
IsPlaceIn size place = InRange 0 MAX_PLACE place × IsWithin size place

-- the numbers and texts of an operation are in their ranges, in a body of this size
abbrev pub IsLineOp : List (List ℕ) → Option ℕ → Op → Type 0
IsLineOp labels size (Set reg number) = (reg ≤ LAST) × InRange 0 (2 ^ 64 - 1) number
IsLineOp labels size (Add to from) = (to ≤ LAST) × (from ≤ LAST)
IsLineOp labels size (Sub to from) = (to ≤ LAST) × (from ≤ LAST)
IsLineOp labels size (Mul to from) = (to ≤ LAST) × (from ≤ LAST)
IsLineOp labels size (Lt to from) = (to ≤ LAST) × (from ≤ LAST)
IsLineOp labels size (Jump place) = IsPlaceIn size place
IsLineOp labels size (Jz reg place) = (reg ≤ LAST) × IsPlaceIn size place
IsLineOp labels size (Call func) = IsFuncOf labels func.0
IsLineOp labels size Ret = Unit {0}
IsLineOp labels size (Print reg) = reg ≤ LAST
IsLineOp labels size Halt = Unit {0}
IsLineOp labels size (Opt func) = IsFuncOf labels func.0
IsLineOp labels size (Deopt func reason) = IsFuncOf labels func.0 × IsText reason
IsLineOp labels size (NoOpt func reason) = IsFuncOf labels func.0 × IsText reason
IsLineOp labels size (Drop func) = IsFuncOf labels func.0
IsLineOp labels size Gc = Unit {0}
IsLineOp labels size (Idle steps) = InRange 1 MILLION steps
IsLineOp labels size (Native steps) = InRange 1 MILLION steps
IsLineOp labels size (Collect steps) = InRange 1 MILLION steps

-- the texts and numbers of a function's line are in their ranges
pub record IsHead (head : Head) : Type 0 where
  pub label : IsLabel head.label
  pub name : IsText head.name
  pub url : IsText head.url
  pub script : InRange 0 (2 ^ 32 - 1) head.script
  pub begins : InRange 1 MILLION head.line
  pub column : InRange 1 MILLION head.column

-- the numbers and texts of a line are in their ranges, in a body of this size
abbrev pub IsLineIn : List (List ℕ) → Option ℕ → ProgramLine → Type 0
IsLineIn labels size (line.Func head) = IsHead head
IsLineIn labels size (line.Instr instr) = InRange 1 MILLION instr.line × IsLineOp labels size instr.op
