-- Guest programs, and the rules that they keep.
use Rattle.std.specs.Prelude.{◌≡◌, ◌≢◌, ℕ, ◌<◌, ◌≤◌, ◌^◌, List, [], ◌∷◌, length, map, Option, Some, None, codes}
use Rattle.std.specs.List.{slice_get, AllByRecursion}
use Rattle.prof_base.specs.Text.{IsText}
use Rattle.prof_lines.specs.Words.{IsLabel}
use Rattle.guest_program.specs.declared.instr.Op.{Op}
use Rattle.guest_program.specs.declared.instr.Op.TheVariants.{Set, Add, Sub, Mul, Lt, Jump, Jz, Call, Ret, Print, Halt, Opt, Deopt, NoOpt, Drop, Gc, Idle, Native, Collect}
use Rattle.guest_program.specs.declared.instr.Instr.{Instr}
use Rattle.guest_program.specs.declared.instr.TheConstants.Func.{MAX_BODY}
use Rattle.guest_program.specs.declared.reg.TheConstants.Reg.{LAST}
use Rattle.guest_program.specs.declared.instr.Func.{Func}
use Rattle.guest_program.specs.declared.program.TheConstants.Program.{MAX_FUNCS}

-- the number of a line or a column, or a count of steps
abbrev pub IsUpToMillion : ℕ → Type 0
IsUpToMillion n = (1 ≤ n) × (n ≤ 1000000)

-- a place in a body of size instructions
abbrev pub IsTarget : ℕ → ℕ → Type 0
IsTarget size place = (place < size) × (place ≤ 4095)

-- an operation that fits into a body of size instructions, in a program of funcs functions
abbrev pub IsOp : ℕ → ℕ → Op → Type 0
IsOp funcs size (Set reg number) = (reg ≤ LAST) × (number < 2 ^ 64)
IsOp funcs size (Add to from) = (to ≤ LAST) × (from ≤ LAST)
IsOp funcs size (Sub to from) = (to ≤ LAST) × (from ≤ LAST)
IsOp funcs size (Mul to from) = (to ≤ LAST) × (from ≤ LAST)
IsOp funcs size (Lt to from) = (to ≤ LAST) × (from ≤ LAST)
IsOp funcs size (Jump place) = IsTarget size place
IsOp funcs size (Jz reg place) = (reg ≤ LAST) × IsTarget size place
IsOp funcs size (Call func) = func.0 < funcs
IsOp funcs size Ret = Unit {0}
IsOp funcs size (Print reg) = reg ≤ LAST
IsOp funcs size Halt = Unit {0}
IsOp funcs size (Opt func) = func.0 < funcs
IsOp funcs size (Deopt func reason) = (func.0 < funcs) × IsText reason
IsOp funcs size (NoOpt func reason) = (func.0 < funcs) × IsText reason
IsOp funcs size (Drop func) = func.0 < funcs
IsOp funcs size Gc = Unit {0}
IsOp funcs size (Idle steps) = IsUpToMillion steps
IsOp funcs size (Native steps) = IsUpToMillion steps
IsOp funcs size (Collect steps) = IsUpToMillion steps

-- an instruction that fits there
pub record IsInstr (funcs size : ℕ) (instr : Instr) : Type 0 where
  pub line : IsUpToMillion instr.line
  pub op : IsOp funcs size instr.op

-- a function that fits into a program of funcs functions
pub record IsFunc (funcs : ℕ) (func : Func) : Type 0 where
  pub label : IsLabel func.label
  pub name : IsText func.name
  pub url : IsText func.url
  pub script : func.script < 2 ^ 32
  pub line : IsUpToMillion func.line
  pub column : IsUpToMillion func.column
  pub not_empty : 1 ≤ length func.body
  pub short : length func.body ≤ MAX_BODY
  pub body : AllByRecursion (IsInstr funcs (length func.body)) func.body

-- no two of these are the same
abbrev pub AllDiffer : {A : Type 0} → List A → Type 0
AllDiffer [] = Unit {0}
AllDiffer (x ∷ xs) = AllByRecursion (λ y. x ≢ y) xs × AllDiffer xs

-- the name of a function and its place in its source
abbrev pub entry : Func → List ℕ × List ℕ × ℕ × ℕ × ℕ
entry func = (func.name, func.url, func.script, func.line, func.column)

-- the label of a function that may be missing
abbrev pub label_of : Option Func → List ℕ
label_of None = []
label_of (Some func) = func.label

-- the label of the function with this number, or no bytes where there is none
abbrev pub label_at : List Func → ℕ → List ℕ
label_at funcs number = label_of (slice_get funcs number)

-- the function with this number is the one where a program begins
abbrev pub IsMain : List Func → ℕ → Type 0
IsMain funcs number = label_at funcs number ≡ codes "main"

-- the rules that a program keeps
pub record IsProgram (funcs : List Func) : Type 0 where
  pub not_empty : 1 ≤ length funcs
  pub few : length funcs ≤ MAX_FUNCS
  pub each : AllByRecursion (IsFunc (length funcs)) funcs
  pub labels : AllDiffer (map (λ func. func.label) funcs)
  pub entries : AllDiffer (map entry funcs)
  pub main : (number : ℕ) × IsMain funcs number
