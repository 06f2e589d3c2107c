-- Lines keep the rules one after another just where they are the lines of a program that keeps its rules.
use Rattle.std.proofs.Common.{◌≡◌, ◌∙◌, ℕ, ◌<◌, ◌≤◌, List, [], ◌∷◌, ◌++◌, length, map, get_or, nat_le, ◌==◌, codes, bytes_eq, true, false, Some, refl, sym, ap, subst, append_assoc, append-nil, arith}
use Rattle.std.specs.List.{AllByRecursion, list_any}
use Rattle.std.proofs.lemmas.Bool.{or_parts, or_from, leb-false, lt-leb, eqb-false, ne_eqb}
use Rattle.std.proofs.lemmas.List.{length-map, length-append, length_push, map_push, map-append, get_or_at}
use Rattle.std.proofs.lemmas.Slice.Eq.{bytes_eq-Decides}
use Rattle.prof_lines.specs.Values.{Keeps}
use Rattle.prof_lines.specs.Words.{IsLabel}
use Rattle.guest_program.specs.Program.{IsInstr, IsFunc, AllDiffer, entry, IsMain, IsProgram}
use Rattle.guest_program.specs.declared.instr.Func.{Func}
use Rattle.guest_program.specs.declared.instr.Instr.{Instr}
use Rattle.guest_program.specs.declared.program.TheConstants.Program.{MAX_FUNCS}
use Rattle.guest_text.specs.declared.program_line.Head.{Head}
use Rattle.guest_text.specs.declared.program_line.ProgramLine.TheVariants as line
use Rattle.guest_text.specs.Outline.{Functions}
use Rattle.guest_text.specs.ProgramLine.{IsLineIn}
use Rattle.guest_text.specs.ProgramRules.{heads, same_entry, has_label, is_twice, program_fault, Fits}
use Rattle.guest_text.specs.ProgramText.{head_of, program_lines, labels_of}
use Rattle.guest_text.proofs.Differing.{all_mapped, all_also, all_pushed, all_after, NoneIs, differ_pushed, differ_after, none_from_test, test_from_none}
use Rattle.guest_text.proofs.KeptLines.{AreKept, IsInBody, IsKeptAfter, AreKeptAfter, funcs_taken, funcs_again}
use Rattle.guest_text.proofs.ProgramHeads.{has_main, main_from_heads}
use Rattle.guest_text.proofs.ProgramOps.{Entry, func_named, instr_taken, instr_again, head_again, same_entry-Decides}

-- a function's label
abbrev own_label : Func → List ℕ
own_label func = func.label

-- how many instructions a function has
abbrev own_size : Func → ℕ
own_size func = length func.body

-- what is known of the text of functions before its lines are read
abbrev outline_of : List Func → Functions
outline_of funcs = record { labels = labels_of funcs; sizes = map own_size funcs }

-- what has the labels and sizes of functions is what is known of their text
outline_same : (functions : Functions) (funcs : List Func) → functions.labels ≡ labels_of funcs → functions.sizes ≡ map own_size funcs → functions ≡ outline_of funcs
outline_same functions funcs labels sizes = λ i. record { labels = labels i; sizes = sizes i }

-- none of these functions has the label or the entry of another
record IsNew (done : List Func) (func : Func) : Type 0 where
  label : NoneIs (labels_of done) func.label
  entry : NoneIs (map entry done) (entry func)

-- a function is new where its line is the first of its kind
new_taken : (done : List Func) (func : Func) → is_twice (head_of func) (map head_of done) ≡ false → IsNew done func
new_taken done func h =
    let none = or_parts (has_label func.label (map head_of done)) (list_any (λ (other : Head). same_entry other (head_of func)) (map head_of done)) h in
    record {
      label = none_from_test head_of (λ other. bytes_eq other.label func.label) own_label func.label (λ other. bytes_eq-Decides other.label func.label) done none.0;
      entry = none_from_test head_of (λ other. same_entry other (head_of func)) entry (entry func) (λ other. same_entry-Decides other func) done none.1;
    }

-- the line of a new function is the first of its kind
new_again : (done : List Func) (func : Func) → IsNew done func → is_twice (head_of func) (map head_of done) ≡ false
new_again done func new =
    or_from (has_label func.label (map head_of done)) _
    (test_from_none head_of (λ other. bytes_eq other.label func.label) own_label func.label (λ other. bytes_eq-Decides other.label func.label) done new.label)
    (test_from_none head_of (λ other. same_entry other (head_of func)) entry (entry func) (λ other. same_entry-Decides other func) done new.entry)

-- the size of the function that comes after these
size_at : (all done funcs : List Func) (func : Func) → all ≡ done ++ func ∷ funcs → get_or (map own_size all) (length done) 0 ≡ length func.body
size_at all done funcs func are =
    ap (λ (z : List Func). get_or (map own_size z) (length done) 0) are
    ∙ ap (λ (z : List ℕ). get_or z (length done) 0) (map-append own_size done (func ∷ funcs))
    ∙ get_or_at (map own_size done) (own_size func) (map own_size funcs) 0 (length done) (length-map done own_size)

-- the functions so far keep the rules of a program
record AreLegal (all done : List Func) : Type 0 where
  few : length done ≤ MAX_FUNCS
  each : AllByRecursion (IsFunc (length all)) done
  labels : AllDiffer (labels_of done)
  entries : AllDiffer (map entry done)

-- a function whose lines keep the rules fits into the program
func_taken : (all done funcs : List Func) (func : Func) → all ≡ done ++ func ∷ funcs → IsKeptAfter (outline_of all) done func → IsFunc (length all) func
func_taken all done funcs func are this =
    let size = size_at all done funcs func are in
    let limits = or_parts (nat_le MAX_FUNCS (length done)) (get_or (map own_size all) (length done) 0 == 0) this.within in
    let some = eqb-false (get_or (map own_size all) (length done) 0) 0 limits.1 in
    let instr = λ (instr : Instr) (fits : IsInBody (outline_of all) (length done) instr).
    instr_taken (labels_of all) (length func.body) instr (subst (λ (n : ℕ). IsLineIn (labels_of all) (Some n) (line.Instr instr)) size fits) in
    record {
      label = this.head.label;
      name = this.head.name;
      url = this.head.url;
      script = omega (arith, this.head.script);
      line = this.head.begins;
      column = this.head.column;
      not_empty = omega (arith, some, size);
      short = this.short;
      body = subst (λ (n : ℕ). AllByRecursion (IsInstr n (length func.body)) func.body) (length-map all own_label)
          (all_also (IsInBody (outline_of all) (length done)) (IsInstr (length (labels_of all)) (length func.body)) func.body instr this.body);
    }

-- the functions so far keep the rules of a program with one more function too
one_more : (all done funcs : List Func) (func : Func) → all ≡ done ++ func ∷ funcs → AreLegal all done → IsKeptAfter (outline_of all) done func → AreLegal all (done ++ func ∷ [])
one_more all done funcs func are legal this =
    let new = new_taken done func this.new in
    let room = leb-false MAX_FUNCS (length done) (or_parts (nat_le MAX_FUNCS (length done)) (get_or (map own_size all) (length done) 0 == 0) this.within).0 in
    record {
      few = omega (arith, length_push done func, room);
      each = all_pushed (IsFunc (length all)) done func legal.each (func_taken all done funcs func are this);
      labels = subst (λ (z : List (List ℕ)). AllDiffer z) (sym (map_push own_label done func)) (differ_pushed (labels_of done) func.label legal.labels new.label);
      entries = subst (λ (z : List Entry). AllDiffer z) (sym (map_push entry done func)) (differ_pushed (map entry done) (entry func) legal.entries new.entry);
    }

-- functions whose lines keep the rules keep the rules of a program
all_legal : (all done funcs : List Func) → all ≡ done ++ funcs → AreLegal all done → AreKeptAfter (outline_of all) done funcs → AreLegal all all
all_legal all done [] are legal kept = subst (AreLegal all) (sym (are ∙ append-nil done)) legal
all_legal all done (func ∷ funcs) are legal kept =
    all_legal all (done ++ func ∷ []) funcs (are ∙ sym (append_assoc done (func ∷ []) funcs)) (one_more all done funcs func are legal kept.0) kept.1

-- the lines of a program's function keep the rules
func_again : (all done funcs : List Func) (func : Func) → all ≡ done ++ func ∷ funcs → IsProgram all → IsKeptAfter (outline_of all) done func
func_again all done funcs func are is =
    let size = size_at all done funcs func are in
    let this = all_after (IsFunc (length all)) done funcs func (subst (λ (z : List Func). AllByRecursion (IsFunc (length all)) z) are is.each) in
    let named = func_named (labels_of all) (all_mapped (IsFunc (length all)) IsLabel own_label all (λ other legal. legal.label) is.each) is.labels in
    let instr = λ (instr : Instr) (fits : IsInstr (length (labels_of all)) (length func.body) instr).
    subst (λ (n : ℕ). IsLineIn (labels_of all) (Some n) (line.Instr instr)) (sym size) (instr_again (labels_of all) (length func.body) instr named fits) in
    let room : length done < MAX_FUNCS = omega (arith, is.few, ap length are, length-append done (func ∷ funcs)) in
    record {
      head = head_again (length all) func this;
      new = new_again done func (record {
        label = differ_after (labels_of done) (labels_of funcs) func.label (subst (λ (z : List (List ℕ)). AllDiffer z) (ap labels_of are ∙ map-append own_label done (func ∷ funcs)) is.labels);
        entry = differ_after (map entry done) (map entry funcs) (entry func) (subst (λ (z : List Entry). AllDiffer z) (ap (map entry) are ∙ map-append entry done (func ∷ funcs)) is.entries);
      });
      within = or_from (nat_le MAX_FUNCS (length done)) _ (lt-leb MAX_FUNCS (length done) room) (ne_eqb (get_or (map own_size all) (length done) 0) 0 (λ e. omega (arith, e, size, this.not_empty)));
      short = this.short;
      body = all_also (IsInstr (length (labels_of all)) (length func.body)) (IsInBody (outline_of all) (length done)) func.body instr
          (subst (λ (n : ℕ). AllByRecursion (IsInstr n (length func.body)) func.body) (sym (length-map all own_label)) this.body);
    }

-- the lines of a program's functions keep the rules
all_kept : (all done funcs : List Func) → all ≡ done ++ funcs → IsProgram all → AreKeptAfter (outline_of all) done funcs
all_kept all done [] are is = tt
all_kept all done (func ∷ funcs) are is = (func_again all done funcs func are is, all_kept all (done ++ func ∷ []) funcs (are ∙ sym (append_assoc done (func ∷ []) funcs)) is)

-- there is a function where there is a main function
some_func : (funcs : List Func) (number : ℕ) → IsMain funcs number → 1 ≤ length funcs
some_func [] number main = absurd cc
some_func (func ∷ funcs) number main = omega arith

-- lines that keep the rules are those of a program
pub rules_taken : (functions : Functions) (funcs : List Func) → functions.labels ≡ labels_of funcs → functions.sizes ≡ map (λ func. length func.body) funcs
    → Keeps (Fits functions) (program_fault functions.sizes) [] (program_lines funcs) → has_label (codes "main") (heads (program_lines funcs)) ≡ true → IsProgram funcs
rules_taken functions funcs labels sizes kept main =
    let kept_there = subst (λ (z : Functions). AreKept z [] (program_lines funcs)) (outline_same functions funcs labels sizes) kept in
    let start : AreLegal funcs [] = record { few = omega arith; each = tt; labels = tt; entries = tt } in
    let legal = all_legal funcs [] funcs refl start (funcs_taken (outline_of funcs) [] [] funcs refl kept_there) in
    let first = main_from_heads funcs main in
    record { not_empty = some_func funcs first.0 first.1; few = legal.few; each = legal.each; labels = legal.labels; entries = legal.entries; main = first }

-- the lines of a program keep the rules
pub rules_again : (functions : Functions) (funcs : List Func) → functions.labels ≡ labels_of funcs → functions.sizes ≡ map (λ func. length func.body) funcs → IsProgram funcs
    → Keeps (Fits functions) (program_fault functions.sizes) [] (program_lines funcs) × (has_label (codes "main") (heads (program_lines funcs)) ≡ true)
rules_again functions funcs labels sizes is =
    let kept_there = funcs_again (outline_of funcs) [] [] funcs refl (all_kept funcs [] funcs refl is) in
    (subst (λ (z : Functions). AreKept z [] (program_lines funcs)) (sym (outline_same functions funcs labels sizes)) kept_there, has_main funcs is.main.0 is.main.1)
