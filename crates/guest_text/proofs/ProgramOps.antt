-- The numbers and texts of a program's lines are in their ranges just where those of its functions are.
use Rattle.std.proofs.Common.{◌≡◌, ℕ, ◌<◌, List, [], length, ◌==◌, bytes_eq, Decides, Some, ap, arith}
use Rattle.std.specs.List.{AllByRecursion}
use Rattle.std.proofs.lemmas.Bool.Decides.{Decides-and, Decides-eqb}
use Rattle.std.proofs.lemmas.List.Quantifiers.{position-Some}
use Rattle.std.proofs.lemmas.Slice.Eq.{bytes_eq-Decides}
use Rattle.prof_lines.specs.Words.{IsLabel}
use Rattle.guest_program.specs.Program.{IsOp, IsInstr, IsFunc, AllDiffer, entry}
use Rattle.guest_program.specs.declared.instr.Func.{Func}
use Rattle.guest_program.specs.declared.instr.Instr.{Instr}
use Rattle.guest_program.specs.declared.instr.Op.{Op}
use Rattle.guest_program.specs.declared.instr.Op.TheVariants.{Set, Jump, Jz, Call, Opt, Deopt, NoOpt, Drop}
use Rattle.guest_text.specs.declared.program_line.ProgramLine.TheVariants as line
use Rattle.guest_text.specs.ProgramLine.{name_of, IsFuncOf, IsLineOp, IsLineIn, IsHead}
use Rattle.guest_text.specs.ProgramRules.{same_entry}
use Rattle.guest_text.specs.ProgramText.{head_of}
use Rattle.guest_text.proofs.Differing.{all_at, first_at}

-- a function that a line names has a number
func_in : (labels : List (List ℕ)) (number : ℕ) → IsFuncOf labels number → number < length labels
func_in labels number is = (position-Some (λ label. bytes_eq label (name_of labels number)) labels number [] is.first).0

-- a function whose label no other has is named by that
pub func_named : (labels : List (List ℕ)) → AllByRecursion IsLabel labels → AllDiffer labels → (number : ℕ) → number < length labels → IsFuncOf labels number
func_named labels are differ number within = record { label = all_at IsLabel labels number [] within are; first = first_at labels number [] within differ }

-- an operation that fits on its line fits into a program
op_taken : (labels : List (List ℕ)) (size : ℕ) (op : Op) → IsLineOp labels (Some size) op → IsOp (length labels) size op
op_taken labels size (Set reg number) fits = (fits.0, omega (arith, fits.1.1))
op_taken labels size (Jump place) fits = (fits.1, fits.0.1)
op_taken labels size (Jz reg place) fits = (fits.0, (fits.1.1, fits.1.0.1))
op_taken labels size (Call func) fits = func_in labels func.0 fits
op_taken labels size (Opt func) fits = func_in labels func.0 fits
op_taken labels size (Deopt func reason) fits = (func_in labels func.0 fits.0, fits.1)
op_taken labels size (NoOpt func reason) fits = (func_in labels func.0 fits.0, fits.1)
op_taken labels size (Drop func) fits = func_in labels func.0 fits
op_taken labels size other fits = fits

-- an operation of a program fits on its line, where each function is named by its label
op_again : (labels : List (List ℕ)) (size : ℕ) (op : Op) → ((number : ℕ) → number < length labels → IsFuncOf labels number)
    → IsOp (length labels) size op → IsLineOp labels (Some size) op
op_again labels size (Set reg number) named fits = (fits.0, (omega arith, omega (arith, fits.1)))
op_again labels size (Jump place) named fits = ((omega arith, fits.1), fits.0)
op_again labels size (Jz reg place) named fits = (fits.0, ((omega arith, fits.1.1), fits.1.0))
op_again labels size (Call func) named fits = named func.0 fits
op_again labels size (Opt func) named fits = named func.0 fits
op_again labels size (Deopt func reason) named fits = (named func.0 fits.0, fits.1)
op_again labels size (NoOpt func reason) named fits = (named func.0 fits.0, fits.1)
op_again labels size (Drop func) named fits = named func.0 fits
op_again labels size other named fits = fits

-- an instruction that fits on its line fits into a program
pub instr_taken : (labels : List (List ℕ)) (size : ℕ) (instr : Instr) → IsLineIn labels (Some size) (line.Instr instr) → IsInstr (length labels) size instr
instr_taken labels size instr fits = record { line = fits.0; op = op_taken labels size instr.op fits.1 }

-- an instruction of a program fits on its line
pub instr_again : (labels : List (List ℕ)) (size : ℕ) (instr : Instr) → ((number : ℕ) → number < length labels → IsFuncOf labels number)
    → IsInstr (length labels) size instr → IsLineIn labels (Some size) (line.Instr instr)
instr_again labels size instr named fits = (fits.line, op_again labels size instr.op named fits.op)

-- a function of a program fits on its line
pub head_again : (funcs : ℕ) (func : Func) → IsFunc funcs func → IsHead (head_of func)
head_again funcs func is =
    record { label = is.label; name = is.name; url = is.url; script = (omega arith, omega (arith, is.script)); begins = is.line; column = is.column }

-- what tells functions apart in a profile
abbrev pub Entry : Type 0
Entry = List ℕ × List ℕ × ℕ × ℕ × ℕ

-- entries are told apart on lines just as in a program
pub same_entry-Decides : (one other : Func) → Decides (same_entry (head_of one) (head_of other)) (entry one ≡ entry other)
same_entry-Decides one other =
    let texts = Decides-and (bytes_eq one.name other.name) (bytes_eq one.url other.url) (bytes_eq-Decides one.name other.name) (bytes_eq-Decides one.url other.url) in
    let three = Decides-and _ (one.script == other.script) texts (Decides-eqb one.script other.script) in
    let four = Decides-and _ (one.line == other.line) three (Decides-eqb one.line other.line) in
    let five = Decides-and _ (one.column == other.column) four (Decides-eqb one.column other.column) in (
      λ same. let e = five.0 same in λ i. (e.0.0.0.0 i, e.0.0.0.1 i, e.0.0.1 i, e.0.1 i, e.1 i),
      λ e. five.1 ((((ap (λ (z : Entry). z.0) e, ap (λ (z : Entry). z.1) e), ap (λ (z : Entry). z.2) e), ap (λ (z : Entry). z.3) e), ap (λ (z : Entry). z.4) e),
    )
