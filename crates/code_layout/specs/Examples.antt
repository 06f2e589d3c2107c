-- Small programs whose layouts were worked out by hand.
use Rattle.std.specs.Prelude.{ℕ, List, [], ◌∷◌, Bool, true, false, map, codes, replicate, Option, option_map}
use Rattle.prof_base.specs.declared.ids.FuncId.{FuncId}
use Rattle.guest_program.specs.declared.instr.Func.{Func}
use Rattle.guest_program.specs.declared.instr.Instr.{Instr}
use Rattle.guest_program.specs.declared.instr.Op.{Op}
use Rattle.guest_program.specs.declared.instr.Op.TheVariants as op
use Rattle.code_event.specs.Parts.{LayoutParts}

-- the function with this number
abbrev pub func : ℕ → FuncId
func number = record { 0 = number }

-- a function with this body
abbrev pub with_body : List ℕ → Bool → List Instr → Func
with_body label inline body = record { label = label; name = label; url = codes "a.js"; script = 1; line = 1; column = 1; inline = inline; body = body }

-- a function with these operations, all in line 1
abbrev pub function : List ℕ → Bool → List Op → Func
function label inline ops = with_body label inline (map (λ op. record { line = 1; op = op }) ops)

-- `main` optimises and calls `a`, which calls `b`, which calls `c`; `b` and `c` are marked `inline`
abbrev pub chained : List Func
chained =
    function (codes "main") false (op.Opt (func 1) ∷ op.Call (func 1) ∷ op.Halt ∷ [])
    ∷ function (codes "a") false (op.Call (func 2) ∷ op.Ret ∷ [])
    ∷ function (codes "b") true (op.Call (func 3) ∷ op.Ret ∷ [])
    ∷ function (codes "c") true (op.Deopt (func 1) (codes "bad guess") ∷ op.Ret ∷ []) ∷ []

-- a function that is marked `inline` and calls itself
abbrev pub circling : List Func
circling = function (codes "main") true (op.Call (func 0) ∷ op.Halt ∷ []) ∷ []

-- a return in line 1
abbrev pub return : Instr
return = record { line = 1; op = op.Ret }

-- a function that calls one which is marked `inline` and has this number of instructions
abbrev pub calling : ℕ → List Func
calling size = function (codes "main") false (op.Call (func 1) ∷ op.Ret ∷ []) ∷ with_body (codes "g") true (replicate size return) ∷ []

-- the slots, each as its unit and its index
abbrev pub slots_of : LayoutParts → List (ℕ × ℕ)
slots_of layout = map (λ slot. (slot.unit, slot.index)) layout.slots

-- the functions of the units
abbrev pub funcs_of : LayoutParts → List ℕ
funcs_of layout = map (λ u. u.func.0) layout.units

-- where each unit was inlined
abbrev pub sites_of : LayoutParts → List (Option (ℕ × ℕ))
sites_of layout = map (λ u. option_map (λ site. (site.unit, site.index)) u.parent) layout.units
