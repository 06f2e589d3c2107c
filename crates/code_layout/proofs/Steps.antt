-- What one instruction more does to a layout that is being made.
use Rattle.std.proofs.Common.{◌≡◌, ℕ, zero, suc, ◌+◌, ◌-◌, ◌<◌, ◌≤◌, ◌⊎◌, List, [], ◌∷◌, ◌++◌, length, get_or, drop, drop-cons, inl, inr, refl, ap, ap₂, ◌∙◌, sym, subst, arith, append_assoc, append-nil, length-append}
use Rattle.std.specs.Prelude.{Some, None}
use Rattle.std.specs.Option.{option_map_or}
use Rattle.guest_program.specs.declared.instr.Func.{Func}
use Rattle.guest_program.specs.declared.instr.Instr.{Instr}
use Rattle.guest_program.specs.declared.instr.Op.{Op}
use Rattle.code_event.specs.Parts.{LayoutParts}
use Rattle.code_event.specs.declared.layout.Site.{Site}
use Rattle.code_event.specs.declared.layout.Slot.{Slot}
use Rattle.code_layout.specs.Layouts.{unit_of, nothing, joined, with_slot, with_unit, Inlined, expanded_from, inline_callee, inlined_at, expanded}

joined_assoc : (one two three : LayoutParts) → joined (joined one two) three ≡ joined one (joined two three)
joined_assoc one two three = ap₂ (λ units slots. record { units = units; slots = slots }) (append_assoc one.units two.units three.units) (append_assoc one.slots two.slots three.slots)

-- what the depth adds, where there is nothing to inline,
pub adds_nothing : (funcs : List Func) (depth next : ℕ) (site : Site) (op : Op) → (depth ≡ 0) ⊎ (inline_callee funcs op ≡ None) → inlined_at funcs depth next site op ≡ nothing
adds_nothing funcs zero next site op none = refl
adds_nothing funcs (suc depth) next site op none = elim none [
  | inl is_zero ↦ absurd (omega (arith, is_zero))
  | inr no_callee ↦ ap (λ o. option_map_or (λ callee. with_unit (unit_of funcs callee (Some site)) (expanded funcs depth callee next)) o nothing) no_callee
]

-- and where there is a callee
pub adds_callee : (funcs : List Func) (depth next : ℕ) (site : Site) (op : Op) (callee : ℕ) → 1 ≤ depth → inline_callee funcs op ≡ Some callee
    → inlined_at funcs depth next site op ≡ with_unit (unit_of funcs callee (Some site)) (expanded funcs (depth - 1) callee next)
adds_callee funcs zero next site op callee some is = absurd (omega arith)
adds_callee funcs (suc depth) next site op callee some is =
    let less : suc depth - 1 ≡ depth = omega arith in
    ap (λ o. option_map_or (λ n. with_unit (unit_of funcs n (Some site)) (expanded funcs depth n next)) o nothing) is
    ∙ ap (λ d. with_unit (unit_of funcs callee (Some site)) (expanded funcs d callee next)) (sym less)

-- With the slot and what it adds, the rest is as it was to be.
pub one_more : (inlined : Inlined) (unit index : ℕ) (instr : Instr) (instrs : List Instr) (old new : LayoutParts)
    → new ≡ joined old (with_slot (record { unit = unit; index = index; line = instr.line }) (inlined (length old.units) (record { unit = unit; index = index; line = instr.line }) instr.op))
    → joined new (expanded_from inlined unit (length new.units) (suc index) instrs) ≡ joined old (expanded_from inlined unit (length old.units) index (instr ∷ instrs))
one_more inlined unit index instr instrs old new is =
    let within = inlined (length old.units) (record { unit = unit; index = index; line = instr.line }) instr.op in
    let part = with_slot (record { unit = unit; index = index; line = instr.line }) within in
    let rest : ℕ → LayoutParts = λ next. expanded_from inlined unit next (suc index) instrs in
    let size : length new.units ≡ length old.units + length within.units = ap (λ (p : LayoutParts). length p.units) is ∙ length-append old.units within.units in
    ap₂ (λ p n. joined p (rest n)) is size ∙ joined_assoc old part (rest (length old.units + length within.units))

-- the last instruction leaves nothing to be added
pub none_more : (part : LayoutParts) → joined part nothing ≡ part
none_more part = ap₂ (λ units slots. record { units = units; slots = slots }) (append-nil part.units) (append-nil part.slots)

-- what is left after an instruction, where with it all was to be whole
pub step_kept : (inlined : Inlined) (unit index : ℕ) (instr : Instr) (body : List Instr) (old new whole : LayoutParts) → index < length body → instr ≡ get_or body index instr
    → joined old (expanded_from inlined unit (length old.units) index (drop index body)) ≡ whole
    → new ≡ joined old (with_slot (record { unit = unit; index = index; line = instr.line }) (inlined (length old.units) (record { unit = unit; index = index; line = instr.line }) instr.op))
    → joined new (expanded_from inlined unit (length new.units) (index + 1) (drop (index + 1) body)) ≡ whole
step_kept inlined unit index instr body old new whole within is before step =
    let cut : drop index body ≡ instr ∷ drop (suc index) body = drop-cons body index instr within ∙ ap (λ i. i ∷ drop (suc index) body) (sym is) in
    let next : suc index ≡ index + 1 = omega arith in
    subst (λ n. joined new (expanded_from inlined unit (length new.units) n (drop n body)) ≡ whole) next
    (one_more inlined unit index instr (drop (suc index) body) old new step ∙ ap (λ instrs. joined old (expanded_from inlined unit (length old.units) index instrs)) (sym cut) ∙ before)

-- where nothing is inlined, there is a slot more
pub slot_added : (funcs : List Func) (depth unit index : ℕ) (instr : Instr) (old new : LayoutParts) → (depth ≡ 0) ⊎ (inline_callee funcs instr.op ≡ None)
    → new ≡ record { units = old.units; slots = old.slots ++ record { unit = unit; index = index; line = instr.line } ∷ [] }
    → new ≡ joined old (with_slot (record { unit = unit; index = index; line = instr.line }) (inlined_at funcs depth (length old.units) (record { unit = unit; index = index; line = instr.line }) instr.op))
slot_added funcs depth unit index instr old new none is =
    let slot : Slot = record { unit = unit; index = index; line = instr.line } in
    let nil : LayoutParts → LayoutParts = λ within. joined old (with_slot slot within) in
    is
    ∙ ap (λ units. record { units = units; slots = old.slots ++ slot ∷ [] }) (sym (append-nil old.units))
    ∙ ap nil (sym (adds_nothing funcs depth (length old.units) (record { unit = unit; index = index; line = instr.line }) instr.op none))

-- else there is also a unit with what it is expanded to
pub callee_added : (funcs : List Func) (depth unit index : ℕ) (instr : Instr) (callee : ℕ) (old slotted begun new : LayoutParts) → 1 ≤ depth → inline_callee funcs instr.op ≡ Some callee
    → slotted ≡ record { units = old.units; slots = old.slots ++ record { unit = unit; index = index; line = instr.line } ∷ [] }
    → begun ≡ record { units = slotted.units ++ unit_of funcs callee (Some (record { unit = unit; index = index; line = instr.line })) ∷ []; slots = slotted.slots }
    → new ≡ joined begun (expanded funcs (depth - 1) callee (length slotted.units))
    → new ≡ joined old (with_slot (record { unit = unit; index = index; line = instr.line }) (inlined_at funcs depth (length old.units) (record { unit = unit; index = index; line = instr.line }) instr.op))
callee_added funcs depth unit index instr callee old slotted begun new some is slotted_is begun_is new_is =
    let site : Site = record { unit = unit; index = index; line = instr.line } in
    let slot : Slot = record { unit = unit; index = index; line = instr.line } in
    let u = unit_of funcs callee (Some site) in
    let units : slotted.units ≡ old.units = ap (λ (p : LayoutParts). p.units) slotted_is in
    let slots : slotted.slots ≡ old.slots ++ slot ∷ [] = ap (λ (p : LayoutParts). p.slots) slotted_is in
    let inside = expanded funcs (depth - 1) callee (length old.units) in
    let begun_now : begun ≡ record { units = old.units ++ u ∷ []; slots = old.slots ++ slot ∷ [] } = begun_is ∙ ap₂ (λ us ss. record { units = us ++ u ∷ []; slots = ss }) units slots in
    let added : with_unit u inside ≡ inlined_at funcs depth (length old.units) site instr.op = sym (adds_callee funcs depth (length old.units) site instr.op callee some is) in
    new_is
    ∙ ap₂ (λ b us. joined b (expanded funcs (depth - 1) callee (length us))) begun_now units
    ∙ ap₂ (λ us ss. record { units = us; slots = ss }) (append_assoc old.units (u ∷ []) inside.units) (append_assoc old.slots (slot ∷ []) inside.slots)
    ∙ ap (λ within. joined old (with_slot slot within)) added

-- the callee has room where the whole has
pub few_left : (funcs : List Func) (depth unit index : ℕ) (instr : Instr) (body : List Instr) (callee : ℕ) (old whole begun : LayoutParts) → index < length body → instr ≡ get_or body index instr
    → joined old (expanded_from (inlined_at funcs depth) unit (length old.units) index (drop index body)) ≡ whole → length whole.units ≤ 4096 → 1 ≤ depth → inline_callee funcs instr.op ≡ Some callee
    → length begun.units ≡ suc (length old.units) → length (begun.units ++ (expanded funcs (depth - 1) callee (length old.units)).units) ≤ 4096
few_left funcs depth unit index instr body callee old whole begun within is before few some inline count =
    let site : Site = record { unit = unit; index = index; line = instr.line } in
    let cut : drop index body ≡ instr ∷ drop (suc index) body = drop-cons body index instr within ∙ ap (λ i. i ∷ drop (suc index) body) (sym is) in
    let inside = expanded funcs (depth - 1) callee (length old.units) in
    let added = inlined_at funcs depth (length old.units) site instr.op in
    let rest = expanded_from (inlined_at funcs depth) unit (length old.units + length added.units) (suc index) (drop (suc index) body) in
    let added_count : length added.units ≡ suc (length inside.units) = ap (λ (p : LayoutParts). length p.units) (adds_callee funcs depth (length old.units) site instr.op callee some inline) in
    let whole_is : old.units ++ (added.units ++ rest.units) ≡ whole.units =
    ap (λ instrs. (joined old (expanded_from (inlined_at funcs depth) unit (length old.units) index instrs)).units) (sym cut) ∙ ap (λ (p : LayoutParts). p.units) before in
    let whole_count : length (old.units ++ (added.units ++ rest.units)) ≡ length whole.units = ap length whole_is in
    let one = length-append old.units (added.units ++ rest.units) in
    let two = length-append added.units rest.units in
    let three = length-append begun.units inside.units in
    omega (arith, few, count, added_count, whole_count, one, two, three)
