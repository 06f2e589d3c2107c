-- How many slots and units layouts have.
use Rattle.std.proofs.Common.{◌≡◌, ℕ, zero, suc, ◌+◌, ◌<◌, ◌≤◌, List, [], ◌∷◌, ◌++◌, length, refl, ap, ◌∙◌, arith, length-append}
use Rattle.std.proofs.lemmas.List.Sums.{sum_by-cons}
use Rattle.std.specs.Prelude.{Bool, true, false, cond, Option, Some, None, sum_by}
use Rattle.std.specs.Option.{option_map_or, option_and_then}
use Rattle.guest_program.specs.InlinedSize.{body_of, is_inline, called, taken_in, inlined_size}
use Rattle.guest_program.specs.Program.{IsProgram}
use Rattle.guest_program.specs.declared.instr.Func.{Func}
use Rattle.guest_program.specs.declared.instr.Instr.{Instr}
use Rattle.guest_program.specs.declared.instr.Op.{Op}
use Rattle.code_event.specs.Parts.{LayoutParts}
use Rattle.code_event.specs.declared.layout.Site.{Site}
use Rattle.code_layout.specs.Layouts.{unit_of, nothing, with_unit, Inlined, expanded_from, inline_callee, inlined_at, expanded}
use Rattle.code_layout.specs.Laws.{SlotsAreCounted}
use Rattle.code_layout.proofs.Expanding.{body_some, inline_there, inline_parts}

-- what an instruction adds, by the callee that is inlined
size_case : (size : ℕ → ℕ) (callee : ℕ) (b : Bool) → option_map_or size (cond b (Some callee) None) 0 ≡ cond b (size callee) 0
size_case size callee true = refl
size_case size callee false = refl

size_cases : (funcs : List Func) (size : ℕ → ℕ) (o : Option ℕ) → option_map_or size (option_and_then (λ callee. cond (is_inline funcs callee) (Some callee) None) o) 0 ≡ option_map_or (λ callee. cond (is_inline funcs callee) (size callee) 0) o 0
size_cases funcs size None = refl
size_cases funcs size (Some callee) = size_case size callee (is_inline funcs callee)

pub size_inlined : (funcs : List Func) (size : ℕ → ℕ) (instr : Instr) → option_map_or size (inline_callee funcs instr.op) 0 ≡ taken_in funcs size instr
size_inlined funcs size instr = size_cases funcs size (called instr.op)

none_size : (funcs : List Func) (unit next index : ℕ) (instrs : List Instr) → length (expanded_from (inlined_at funcs 0) unit next index instrs).slots ≡ length instrs
none_size funcs unit next index [] = refl
none_size funcs unit next index (instr ∷ instrs) = ap suc (none_size funcs unit (next + 0) (suc index) instrs)

-- what each instruction adds has this many slots
abbrev Adds : Inlined → (Instr → ℕ) → Type 0
Adds inlined size = (next : ℕ) (site : Site) (instr : Instr) → length (inlined next site instr.op).slots ≡ size instr

from_size : (inlined : Inlined) (size : Instr → ℕ) (unit next index : ℕ) (instrs : List Instr) → Adds inlined size → length (expanded_from inlined unit next index instrs).slots ≡ length instrs + sum_by size instrs
from_size inlined size unit next index [] each = refl
from_size inlined size unit next index (instr ∷ instrs) each =
    let site : Site = record { unit = unit; index = index; line = instr.line } in
    let within = inlined next site instr.op in
    let rest = expanded_from inlined unit (next + length within.units) (suc index) instrs in
    let first : length within.slots ≡ size instr = each next site instr in
    let behind : length rest.slots ≡ length instrs + sum_by size instrs = from_size inlined size unit (next + length within.units) (suc index) instrs each in
    let both : length (within.slots ++ rest.slots) ≡ length within.slots + length rest.slots = length-append within.slots rest.slots in
    let sums : sum_by size (instr ∷ instrs) ≡ size instr + sum_by size instrs = sum_by-cons size instr instrs in
    omega (arith, first, behind, both, sums)

option_size : (funcs : List Func) (within : ℕ → LayoutParts) (size : ℕ → ℕ) (site : Site) (o : Option ℕ) → ((callee : ℕ) → length (within callee).slots ≡ size callee)
    → length (option_map_or (λ callee. with_unit (unit_of funcs callee (Some site)) (within callee)) o nothing).slots ≡ option_map_or size o 0
option_size funcs within size site None each = refl
option_size funcs within size site (Some callee) each = each callee

expanded_size : (funcs : List Func) (depth number unit : ℕ) → length (expanded funcs depth number unit).slots ≡ inlined_size funcs depth number
expanded_size funcs zero number unit = none_size funcs unit (suc unit) 0 (body_of funcs number)
expanded_size funcs (suc depth) number unit =
    from_size (inlined_at funcs (suc depth)) (taken_in funcs (λ other. inlined_size funcs depth other)) unit (suc unit) 0 (body_of funcs number)
    (λ next site instr.
    option_size funcs (λ callee. expanded funcs depth callee next) (λ other. inlined_size funcs depth other) site (inline_callee funcs instr.op) (λ callee. expanded_size funcs depth callee next)
    ∙ size_inlined funcs (λ other. inlined_size funcs depth other) instr)

pub slots_are_counted : SlotsAreCounted
slots_are_counted funcs depth number = expanded_size funcs depth number 0

-- what each instruction adds has no more units than slots
abbrev AddsFewUnits : Inlined → Type 0
AddsFewUnits inlined = (next : ℕ) (site : Site) (op : Op) → length (inlined next site op).units ≤ length (inlined next site op).slots

from_few : (inlined : Inlined) (unit next index : ℕ) (instrs : List Instr) → AddsFewUnits inlined → length (expanded_from inlined unit next index instrs).units + length instrs ≤ length (expanded_from inlined unit next index instrs).slots
from_few inlined unit next index [] few = omega arith
from_few inlined unit next index (instr ∷ instrs) few =
    let site : Site = record { unit = unit; index = index; line = instr.line } in
    let within = inlined next site instr.op in
    let rest = expanded_from inlined unit (next + length within.units) (suc index) instrs in
    let first = few next site instr.op in
    let behind = from_few inlined unit (next + length within.units) (suc index) instrs few in
    let slots : length (within.slots ++ rest.slots) ≡ length within.slots + length rest.slots = length-append within.slots rest.slots in
    let units : length (within.units ++ rest.units) ≡ length within.units + length rest.units = length-append within.units rest.units in
    omega (arith, first, behind, slots, units)

option_few : (funcs : List Func) (within : ℕ → LayoutParts) (site : Site) (op : Op) (o : Option ℕ) → inline_callee funcs op ≡ o
    → ((callee : ℕ) → callee < length funcs → suc (length (within callee).units) ≤ length (within callee).slots)
    → length (option_map_or (λ callee. with_unit (unit_of funcs callee (Some site)) (within callee)) o nothing).units
    ≤ length (option_map_or (λ callee. with_unit (unit_of funcs callee (Some site)) (within callee)) o nothing).slots
option_few funcs within site op None is each = omega arith
option_few funcs within site op (Some callee) is each = each callee (inline_there funcs callee (inline_parts funcs op callee is).1)

pub expanded_few : (funcs : List Func) → IsProgram funcs → (depth number unit : ℕ) → number < length funcs → suc (length (expanded funcs depth number unit).units) ≤ length (expanded funcs depth number unit).slots
expanded_few funcs program zero number unit there =
    let some = body_some (length funcs) funcs number program.each there in
    let few = from_few (inlined_at funcs 0) unit (suc unit) 0 (body_of funcs number) (λ next site op. omega arith) in omega (arith, some, few)
expanded_few funcs program (suc depth) number unit there =
    let some = body_some (length funcs) funcs number program.each there in
    let few = from_few (inlined_at funcs (suc depth)) unit (suc unit) 0 (body_of funcs number)
    (λ next site op. option_few funcs (λ callee. expanded funcs depth callee next) site op (inline_callee funcs op) refl (λ callee known. expanded_few funcs program depth callee next known)) in
    omega (arith, some, few)
