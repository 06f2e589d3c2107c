-- How a line of a program's text is read.
use Rattle.std.specs.Prelude.{ℕ, ◌-◌, ◌^◌, min, List, [], ◌∷◌, ◌++◌, ◌&&◌, ◌==◌, nat_le, nat_lt, if◌then◌else◌, bytes_eq, codes, position, Option, Some, None, Ok, Err}
use Rattle.prof_base.specs.declared.ids.FuncId.{FuncId}
use Rattle.prof_lines.specs.declared.fault.Cause.TheVariants.{Word, Own}
use Rattle.prof_lines.specs.Answers.{Front, ◌>>=◌}
use Rattle.prof_lines.specs.Words.{of_word, word_at, fixed_at, number_of, number_at, label_at, end_at, optional_at}
use Rattle.prof_lines.specs.Quoted.{quoted_at}
use Rattle.guest_program.specs.declared.instr.Instr.{Instr}
use Rattle.guest_program.specs.declared.instr.Op.{Op}
use Rattle.guest_program.specs.declared.instr.Op.TheVariants.{Set, Add, Sub, Mul, Lt, Jump, Jz, Call, Ret, Print, Halt, Opt, Deopt, NoOpt, Drop, Gc, Idle, Native, Collect}
use Rattle.guest_program.specs.declared.program.TheConstants.Program.{MAX_FUNCS}
use Rattle.guest_text.specs.declared.rule.Rule.TheVariants.{UnknownName, Limit}
use Rattle.guest_text.specs.declared.program_line.Head.{Head}
use Rattle.guest_text.specs.declared.program_line.ProgramLine.{ProgramLine}
use Rattle.guest_text.specs.declared.program_line.ProgramLine.TheVariants as line
use Rattle.guest_text.specs.Outline.{Read}
use Rattle.guest_text.specs.ProgramLine.{MILLION, MAX_PLACE}

-- `r0` to `r7`
abbrev pub reg_of : List ℕ → Read ℕ
reg_of (r ∷ digit ∷ []) = if r == 114 && nat_le 48 digit && nat_le digit 55 then Ok (digit - 48) else Err Word
reg_of other = Err Word

abbrev pub reg_at : List ℕ → Read (Front ℕ)
reg_at bytes = of_word reg_of bytes

-- the place is in the body, where its size is known
abbrev pub within : Option ℕ → ℕ → Read ℕ
within None place = Ok place
within (Some size) place = if nat_lt place size then Ok place else Err (Own Limit)

-- a place in a body of this size
abbrev pub place_of : Option ℕ → List ℕ → Read ℕ
place_of size word = number_of 0 MAX_PLACE word >>= λ place. within size place

abbrev pub place_at : Option ℕ → List ℕ → Read (Front ℕ)
place_at size bytes = of_word (place_of size) bytes

-- A function by its number. A text with more functions than a program may have is refused, so those past them have one number.
abbrev pub known : Option ℕ → Read FuncId
known None = Err (Own UnknownName)
known (Some number) = Ok (record { 0 = min number MAX_FUNCS })

-- the label that comes next, of the first function that has it
unfoldable pub func_at : List (List ℕ) → List ℕ → Read (Front FuncId)
func_at labels bytes = do
  label ← label_at bytes
  func ← known (position (λ other. bytes_eq other label.0) labels)
  Ok (func, label.1)

-- The words after an operation's name, up to the end of the line: none,
abbrev pub bare_at : Op → List ℕ → Read Op
bare_at op bytes = end_at bytes >>= λ u. Ok op

-- a register and a number,
unfoldable pub set_at : List ℕ → Read Op
set_at bytes = do
  reg ← reg_at bytes
  number ← number_at 0 (2 ^ 64 - 1) reg.1
  u ← end_at number.1
  Ok (Set reg.0 number.0)

-- two registers,
unfoldable pub regs_at : List ℕ → Read (ℕ × ℕ)
regs_at bytes = do
  to ← reg_at bytes
  from ← reg_at to.1
  u ← end_at from.1
  Ok (to.0, from.0)

-- a register,
unfoldable pub print_at : List ℕ → Read Op
print_at bytes = do
  reg ← reg_at bytes
  u ← end_at reg.1
  Ok (Print reg.0)

-- a place,
unfoldable pub jump_at : Option ℕ → List ℕ → Read Op
jump_at size bytes = do
  place ← place_at size bytes
  u ← end_at place.1
  Ok (Jump place.0)

-- a register and a place,
unfoldable pub jz_at : Option ℕ → List ℕ → Read Op
jz_at size bytes = do
  reg ← reg_at bytes
  place ← place_at size reg.1
  u ← end_at place.1
  Ok (Jz reg.0 place.0)

-- a function,
unfoldable pub target_at : List (List ℕ) → List ℕ → Read FuncId
target_at labels bytes = do
  func ← func_at labels bytes
  u ← end_at func.1
  Ok func.0

-- a function and a reason,
unfoldable pub reason_at : List (List ℕ) → List ℕ → Read (FuncId × List ℕ)
reason_at labels bytes = do
  func ← func_at labels bytes
  reason ← quoted_at func.1
  u ← end_at reason.1
  Ok (func.0, reason.0)

-- or a number of steps.
unfoldable pub steps_at : List ℕ → Read ℕ
steps_at bytes = do
  steps ← number_at 1 MILLION bytes
  u ← end_at steps.1
  Ok steps.0

-- the first of these names that the word is, with its way to read the words after it
abbrev pub chosen_of : List (List ℕ × (List ℕ → Read Op)) → List ℕ → List ℕ → Read Op
chosen_of [] word bytes = Err Word
chosen_of (form ∷ forms) word bytes = if bytes_eq word form.0 then form.1 bytes else chosen_of forms word bytes

-- the operations on registers and those that go on elsewhere
abbrev pub plain_forms : Option ℕ → List (List ℕ × (List ℕ → Read Op))
plain_forms size =
    (codes "set", set_at)
    ∷ (codes "add", λ bytes. regs_at bytes >>= λ x. Ok (Add x.0 x.1))
    ∷ (codes "sub", λ bytes. regs_at bytes >>= λ x. Ok (Sub x.0 x.1))
    ∷ (codes "mul", λ bytes. regs_at bytes >>= λ x. Ok (Mul x.0 x.1))
    ∷ (codes "lt", λ bytes. regs_at bytes >>= λ x. Ok (Lt x.0 x.1))
    ∷ (codes "jump", jump_at size)
    ∷ (codes "jz", jz_at size)
    ∷ (codes "ret", bare_at Ret)
    ∷ (codes "print", print_at)
    ∷ (codes "halt", bare_at Halt)
    ∷ []

-- those on a function's code, and the waits
abbrev pub code_forms : List (List ℕ) → List (List ℕ × (List ℕ → Read Op))
code_forms labels =
    (codes "call", λ bytes. target_at labels bytes >>= λ func. Ok (Call func))
    ∷ (codes "opt", λ bytes. target_at labels bytes >>= λ func. Ok (Opt func))
    ∷ (codes "deopt", λ bytes. reason_at labels bytes >>= λ x. Ok (Deopt x.0 x.1))
    ∷ (codes "noopt", λ bytes. reason_at labels bytes >>= λ x. Ok (NoOpt x.0 x.1))
    ∷ (codes "drop", λ bytes. target_at labels bytes >>= λ func. Ok (Drop func))
    ∷ (codes "gc", bare_at Gc)
    ∷ (codes "idle", λ bytes. steps_at bytes >>= λ steps. Ok (Idle steps))
    ∷ (codes "native", λ bytes. steps_at bytes >>= λ steps. Ok (Native steps))
    ∷ (codes "collect", λ bytes. steps_at bytes >>= λ steps. Ok (Collect steps))
    ∷ []

-- the operation that a word names, by the words after it, in a body of this size
abbrev pub op_of : List (List ℕ) → Option ℕ → List ℕ → List ℕ → Read Op
op_of labels size word bytes = chosen_of (plain_forms size ++ code_forms labels) word bytes

-- the line of an instruction
unfoldable pub instr_at : List (List ℕ) → Option ℕ → List ℕ → Read Instr
instr_at labels size bytes = do
  begins ← number_at 1 MILLION bytes
  word ← word_at begins.1
  op ← op_of labels size word.0 word.1
  Ok (record { line = begins.0; op = op })

-- the line of a function, after its first word
unfoldable pub head_at : List ℕ → Read Head
head_at bytes = do
  label ← label_at bytes
  name ← quoted_at label.1
  url ← quoted_at name.1
  script ← number_at 0 (2 ^ 32 - 1) url.1
  begins ← number_at 1 MILLION script.1
  column ← number_at 1 MILLION begins.1
  inline ← optional_at (codes "inline") column.1
  Ok (record { label = label.0; name = name.0; url = url.0; script = script.0; line = begins.0; column = column.0; inline = inline })

-- a function's line where its first word was found, and else an instruction's
abbrev pub line_by : Read (List ℕ) → List (List ℕ) → Option ℕ → List ℕ → Read ProgramLine
line_by (Ok rest) labels size bytes = head_at rest >>= λ head. Ok (line.Func head)
line_by (Err cause) labels size bytes = instr_at labels size bytes >>= λ instr. Ok (line.Instr instr)

-- a line, where the functions have these labels, in a body of this size
abbrev pub line_at : List (List ℕ) → Option ℕ → List ℕ → Read ProgramLine
line_at labels size bytes = line_by (fixed_at (codes "func") bytes) labels size bytes
