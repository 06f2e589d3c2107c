-- The forms of operations: what is read is spelled so, and what is spelled so is read.
use Rattle.std.proofs.Common.{◌≡◌, ℕ, List, [], ◌∷◌, ◌++◌, Option, Ok, refl, subst, codes, inl, inr, lit<}
use Rattle.std.specs.List.{AllByRecursion}
use Rattle.prof_lines.specs.Answers.{◌>>=◌}
use Rattle.prof_lines.specs.Words.{InRange}
use Rattle.prof_lines.specs.Spelled.{IsWord, HasWords}
use Rattle.prof_lines.specs.Forms.{IsPlace, Wording, IsForm}
use Rattle.prof_lines.proofs.Steps.{ok_same, bind_ok, chosen}
use Rattle.prof_lines.proofs.Places.{place_step, end_step}
use Rattle.prof_lines.proofs.Ends.{end_again}
use Rattle.guest_program.specs.declared.instr.Op.{Op}
use Rattle.guest_program.specs.declared.instr.Op.TheVariants.{Set, Add, Sub, Mul, Lt, Jump, Jz, Call, Ret, Print, Halt, Opt, Deopt, NoOpt, Drop, Gc, Idle, Native, Collect}
use Rattle.guest_text.specs.declared.rule.Rule.{Rule}
use Rattle.guest_text.specs.Outline.{Read}
use Rattle.guest_text.specs.ProgramLine.{MILLION, reg_word, op_name, op_operands, IsLineOp}
use Rattle.guest_text.specs.LineForms.{bare_at, set_at, regs_at, print_at, jump_at, jz_at, target_at, reason_at, steps_at, chosen_of, plain_forms, code_forms, op_of}
use Rattle.guest_text.proofs.ProgramWords.{IsReg, IsKnown, AreFew, reg_place, place_place, value_place}
use Rattle.guest_text.proofs.OperandForms.{AreRegs, reg_words, target_words, IsReason, reason_words, step_words, regs_form, target_form, reason_form, steps_form}

-- an operation in its ranges, with its name and the words after it
abbrev pub IsOpSpelled : List (List ℕ) → Option ℕ → List ℕ → List ℕ → Op → Type 0
IsOpSpelled labels size name bytes op = IsLineOp labels size op × (op_name op ≡ name) × HasWords (op_operands labels op) bytes

-- what a form reads is spelled so under its name
abbrev TakesOps : List (List ℕ) → Option ℕ → List ℕ × (List ℕ → Read Op) → Type 0
TakesOps labels size form = (bytes : List ℕ) (op : Op) → form.1 bytes ≡ Ok op → IsOpSpelled labels size form.0 bytes op

-- so is what is read by the form that a word chooses
chosen_takes : (labels : List (List ℕ)) (size : Option ℕ) (forms : List (List ℕ × (List ℕ → Read Op))) → AllByRecursion (TakesOps labels size) forms
    → (word bytes : List ℕ) (op : Op) → chosen_of forms word bytes ≡ Ok op → IsOpSpelled labels size word bytes op
chosen_takes labels size [] each word bytes op h = absurd cc
chosen_takes labels size (form ∷ forms) each word bytes op h = elim (chosen word form.0 (form.1 bytes) (chosen_of forms word bytes) op h) [
  | inl p ↦ subst (λ (name : List ℕ). IsOpSpelled labels size name bytes op) p.0 (each.0 bytes op p.1)
  | inr q ↦ chosen_takes labels size forms each.1 word bytes op q
]

-- a value whose words make an operation with this name is read as the operation
made_takes : {A : Type 0} (labels : List (List ℕ)) (size : Option ℕ) (read : List ℕ → Read A) (Fits : A → Type 0) (words : Wording A) → IsForm read Fits words
    → (name : List ℕ) (make : A → Op) → ((x : A) (bytes : List ℕ) → Fits x → HasWords (words x) bytes → IsOpSpelled labels size name bytes (make x))
    → TakesOps labels size (name, λ bytes. read bytes >>= λ x. Ok (make x))
made_takes labels size read Fits words form name make is bytes op h =
    let a = bind_ok (read bytes) _ op h in
    let t = form.takes bytes a.0 a.1 in
    subst (IsOpSpelled labels size name bytes) (ok_same _ _ a.2) (is a.0 bytes t.0 t.1)

-- an operation without words after its name
bare_takes : (labels : List (List ℕ)) (size : Option ℕ) (op : Op) → ((bytes : List ℕ) → HasWords [] bytes → IsOpSpelled labels size (op_name op) bytes op)
    → TakesOps labels size (op_name op, bare_at op)
bare_takes labels size op is bytes value h =
    let e = end_step bytes _ value h in
    subst (IsOpSpelled labels size (op_name op) bytes) (ok_same _ _ e.1) (is bytes e.0)

bare_again : (op : Op) (bytes : List ℕ) → HasWords [] bytes → bare_at op bytes ≡ Ok op
bare_again op bytes s = rw (end_again {C = Rule} bytes s) refl

-- a register and a number
set_takes : (labels : List (List ℕ)) (size : Option ℕ) → TakesOps labels size (codes "set", set_at)
unfolding set_at
set_takes labels size bytes op h =
    let a = place_step _ _ _ reg_place bytes _ op h in
    let b = place_step _ _ _ value_place a.0.1 _ op a.3 in
    let e = end_step b.0.1 _ op b.3 in
    subst (IsOpSpelled labels size (codes "set") bytes) (ok_same _ _ e.1) ((a.1, b.1), refl, (a.0.1, a.2, (b.0.1, b.2, e.0)))

set_again : (labels : List (List ℕ)) (size : Option ℕ) (bytes : List ℕ) (reg number : ℕ) → IsLineOp labels size (Set reg number)
    → HasWords (op_operands labels (Set reg number)) bytes → set_at bytes ≡ Ok (Set reg number)
unfolding set_at
set_again labels size bytes reg number fits s =
    rw (reg_place.again bytes s.0 reg fits.0 s.1, value_place.again s.0 s.2.0 number fits.1 s.2.1, end_again {C = Rule} s.2.0 s.2.2) refl

-- a register
print_takes : (labels : List (List ℕ)) (size : Option ℕ) → TakesOps labels size (codes "print", print_at)
unfolding print_at
print_takes labels size bytes op h =
    let a = place_step _ _ _ reg_place bytes _ op h in
    let e = end_step a.0.1 _ op a.3 in
    subst (IsOpSpelled labels size (codes "print") bytes) (ok_same _ _ e.1) (a.1, refl, (a.0.1, a.2, e.0))

print_again : (bytes : List ℕ) (reg : ℕ) → IsReg reg → HasWords (reg_word reg ∷ []) bytes → print_at bytes ≡ Ok (Print reg)
unfolding print_at
print_again bytes reg fits s = rw (reg_place.again bytes s.0 reg fits s.1, end_again {C = Rule} s.0 s.2) refl

-- a place
jump_takes : (labels : List (List ℕ)) (size : Option ℕ) → TakesOps labels size (codes "jump", jump_at size)
unfolding jump_at
jump_takes labels size bytes op h =
    let a = place_step _ _ _ (place_place size) bytes _ op h in
    let e = end_step a.0.1 _ op a.3 in
    subst (IsOpSpelled labels size (codes "jump") bytes) (ok_same _ _ e.1) (a.1, refl, (a.0.1, a.2, e.0))

jump_again : (labels : List (List ℕ)) (size : Option ℕ) (bytes : List ℕ) (place : ℕ) → IsLineOp labels size (Jump place)
    → HasWords (op_operands labels (Jump place)) bytes → jump_at size bytes ≡ Ok (Jump place)
unfolding jump_at
jump_again labels size bytes place fits s =
    let first : IsPlace {C = Rule} _ _ _ = place_place size in
    rw (first.again bytes s.0 place fits s.1, end_again {C = Rule} s.0 s.2) refl

-- a register and a place
jz_takes : (labels : List (List ℕ)) (size : Option ℕ) → TakesOps labels size (codes "jz", jz_at size)
unfolding jz_at
jz_takes labels size bytes op h =
    let a = place_step _ _ _ reg_place bytes _ op h in
    let b = place_step _ _ _ (place_place size) a.0.1 _ op a.3 in
    let e = end_step b.0.1 _ op b.3 in
    subst (IsOpSpelled labels size (codes "jz") bytes) (ok_same _ _ e.1) ((a.1, b.1), refl, (a.0.1, a.2, (b.0.1, b.2, e.0)))

jz_again : (labels : List (List ℕ)) (size : Option ℕ) (bytes : List ℕ) (reg place : ℕ) → IsLineOp labels size (Jz reg place)
    → HasWords (op_operands labels (Jz reg place)) bytes → jz_at size bytes ≡ Ok (Jz reg place)
unfolding jz_at
jz_again labels size bytes reg place fits s =
    let second : IsPlace {C = Rule} _ _ _ = place_place size in
    rw (reg_place.again bytes s.0 reg fits.0 s.1, second.again s.0 s.2.0 place fits.1 s.2.1, end_again {C = Rule} s.2.0 s.2.2) refl

-- each form of operations on registers, and of those that go on elsewhere, takes operations, besides others that do
plain_take : (labels : List (List ℕ)) (size : Option ℕ) (others : List (List ℕ × (List ℕ → Read Op))) → AllByRecursion (TakesOps labels size) others
    → AllByRecursion (TakesOps labels size) (plain_forms size ++ others)
plain_take labels size others each =
    let regs = made_takes labels size regs_at AreRegs reg_words regs_form in (
      set_takes labels size,
      (
        regs (codes "add") (λ x. Add x.0 x.1) (λ x bytes fits s. (fits, refl, s)),
        (
          regs (codes "sub") (λ x. Sub x.0 x.1) (λ x bytes fits s. (fits, refl, s)),
          (
            regs (codes "mul") (λ x. Mul x.0 x.1) (λ x bytes fits s. (fits, refl, s)),
            (
              regs (codes "lt") (λ x. Lt x.0 x.1) (λ x bytes fits s. (fits, refl, s)),
              (
                jump_takes labels size,
                (
                  jz_takes labels size,
                  (
                    bare_takes labels size Ret (λ bytes s. (tt, refl, s)),
                    (print_takes labels size, (bare_takes labels size Halt (λ bytes s. (tt, refl, s)), each)),
                  ),
                ),
              ),
            ),
          ),
        ),
      ),
    )

-- each form of operations on a function's code, and of the waits, takes operations
code_take : (labels : List (List ℕ)) (size : Option ℕ) → AreFew labels → AllByRecursion (TakesOps labels size) (code_forms labels)
code_take labels size few =
    let target = made_takes labels size (target_at labels) (IsKnown labels) (target_words labels) (target_form labels few) in
    let reason = made_takes labels size (reason_at labels) (IsReason labels) (reason_words labels) (reason_form labels few) in
    let steps = made_takes labels size steps_at (InRange 1 MILLION) step_words steps_form in (
      target (codes "call") (λ func. Call func) (λ func bytes fits s. (fits, refl, s)),
      (
        target (codes "opt") (λ func. Opt func) (λ func bytes fits s. (fits, refl, s)),
        (
          reason (codes "deopt") (λ x. Deopt x.0 x.1) (λ x bytes fits s. (fits, refl, s)),
          (
            reason (codes "noopt") (λ x. NoOpt x.0 x.1) (λ x bytes fits s. (fits, refl, s)),
            (
              target (codes "drop") (λ func. Drop func) (λ func bytes fits s. (fits, refl, s)),
              (
                bare_takes labels size Gc (λ bytes s. (tt, refl, s)),
                (
                  steps (codes "idle") (λ n. Idle n) (λ n bytes fits s. (fits, refl, s)),
                  (
                    steps (codes "native") (λ n. Native n) (λ n bytes fits s. (fits, refl, s)),
                    (steps (codes "collect") (λ n. Collect n) (λ n bytes fits s. (fits, refl, s)), tt),
                  ),
                ),
              ),
            ),
          ),
        ),
      ),
    )

-- what the word chooses, is in its ranges and spelled so
pub op_takes : (labels : List (List ℕ)) (size : Option ℕ) → AreFew labels → (word bytes : List ℕ) (op : Op) → op_of labels size word bytes ≡ Ok op
    → IsOpSpelled labels size word bytes op
op_takes labels size few word bytes op h =
    chosen_takes labels size (plain_forms size ++ code_forms labels) (plain_take labels size (code_forms labels) (code_take labels size few)) word bytes op h

-- an operation whose words are those of a value is read as the value is
made_again : {A : Type 0} (read : List ℕ → Read A) (Fits : A → Type 0) (words : Wording A) → IsForm read Fits words
    → (make : A → Op) (bytes : List ℕ) (x : A) → Fits x → HasWords (words x) bytes → (read bytes >>= λ y. Ok (make y)) ≡ Ok (make x)
made_again read Fits words form make bytes x fits s = rw (form.again bytes x fits s) refl

-- an operation in its ranges is read by its name and the words after it
pub op_again : (labels : List (List ℕ)) (size : Option ℕ) → AreFew labels → (bytes : List ℕ) (op : Op) → IsLineOp labels size op → HasWords (op_operands labels op) bytes
    → op_of labels size (op_name op) bytes ≡ Ok op
op_again labels size few bytes (Set reg number) fits s = set_again labels size bytes reg number fits s
op_again labels size few bytes (Add to from) fits s = made_again regs_at AreRegs reg_words regs_form (λ x. Add x.0 x.1) bytes (to, from) fits s
op_again labels size few bytes (Sub to from) fits s = made_again regs_at AreRegs reg_words regs_form (λ x. Sub x.0 x.1) bytes (to, from) fits s
op_again labels size few bytes (Mul to from) fits s = made_again regs_at AreRegs reg_words regs_form (λ x. Mul x.0 x.1) bytes (to, from) fits s
op_again labels size few bytes (Lt to from) fits s = made_again regs_at AreRegs reg_words regs_form (λ x. Lt x.0 x.1) bytes (to, from) fits s
op_again labels size few bytes (Jump place) fits s = jump_again labels size bytes place fits s
op_again labels size few bytes (Jz reg place) fits s = jz_again labels size bytes reg place fits s
op_again labels size few bytes (Call func) fits s = made_again (target_at labels) (IsKnown labels) (target_words labels) (target_form labels few) (λ f. Call f) bytes func fits s
op_again labels size few bytes Ret fits s = bare_again Ret bytes s
op_again labels size few bytes (Print reg) fits s = print_again bytes reg fits s
op_again labels size few bytes Halt fits s = bare_again Halt bytes s
op_again labels size few bytes (Opt func) fits s = made_again (target_at labels) (IsKnown labels) (target_words labels) (target_form labels few) (λ f. Opt f) bytes func fits s
op_again labels size few bytes (Deopt func reason) fits s =
    made_again (reason_at labels) (IsReason labels) (reason_words labels) (reason_form labels few) (λ x. Deopt x.0 x.1) bytes (func, reason) fits s
op_again labels size few bytes (NoOpt func reason) fits s =
    made_again (reason_at labels) (IsReason labels) (reason_words labels) (reason_form labels few) (λ x. NoOpt x.0 x.1) bytes (func, reason) fits s
op_again labels size few bytes (Drop func) fits s = made_again (target_at labels) (IsKnown labels) (target_words labels) (target_form labels few) (λ f. Drop f) bytes func fits s
op_again labels size few bytes Gc fits s = bare_again Gc bytes s
op_again labels size few bytes (Idle steps) fits s = made_again steps_at (InRange 1 MILLION) step_words steps_form (λ n. Idle n) bytes steps fits s
op_again labels size few bytes (Native steps) fits s = made_again steps_at (InRange 1 MILLION) step_words steps_form (λ n. Native n) bytes steps fits s
op_again labels size few bytes (Collect steps) fits s = made_again steps_at (InRange 1 MILLION) step_words steps_form (λ n. Collect n) bytes steps fits s

-- what an operation is called is a plain word
pub op_is_word : (op : Op) → IsWord (op_name op)
op_is_word (Set reg number) = record { some = lit< tt; plain = refl }
op_is_word (Add to from) = record { some = lit< tt; plain = refl }
op_is_word (Sub to from) = record { some = lit< tt; plain = refl }
op_is_word (Mul to from) = record { some = lit< tt; plain = refl }
op_is_word (Lt to from) = record { some = lit< tt; plain = refl }
op_is_word (Jump place) = record { some = lit< tt; plain = refl }
op_is_word (Jz reg place) = record { some = lit< tt; plain = refl }
op_is_word (Call func) = record { some = lit< tt; plain = refl }
op_is_word Ret = record { some = lit< tt; plain = refl }
op_is_word (Print reg) = record { some = lit< tt; plain = refl }
op_is_word Halt = record { some = lit< tt; plain = refl }
op_is_word (Opt func) = record { some = lit< tt; plain = refl }
op_is_word (Deopt func reason) = record { some = lit< tt; plain = refl }
op_is_word (NoOpt func reason) = record { some = lit< tt; plain = refl }
op_is_word (Drop func) = record { some = lit< tt; plain = refl }
op_is_word Gc = record { some = lit< tt; plain = refl }
op_is_word (Idle steps) = record { some = lit< tt; plain = refl }
op_is_word (Native steps) = record { some = lit< tt; plain = refl }
op_is_word (Collect steps) = record { some = lit< tt; plain = refl }
