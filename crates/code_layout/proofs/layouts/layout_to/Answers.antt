use Rattle.std.proofs.Common.{◌≡◌, ◌∙◌, [], ◌∷◌, ◌++◌, length, ap, sym, subst, arith}
use Rattle.std.specs.Prelude.{None}
use Rattle.code_event.specs.Layout.{IsLayout}
use Rattle.code_event.specs.Parts.{LayoutParts}
use Rattle.code_layout.specs.Layouts.{unit_of, joined, expanded, layout_to}
use Rattle.code_layout.proofs.Rules.{small_is_layout}
use Rattle.code_layout.proofs.layouts.layout_to.Goals as goal

pub expand-requires-clause-few : goal.expand-requires-clause-few
expand-requires-clause-few c =
    let rules = small_is_layout c.args.funcs.now c.args.depth c.args.func.0 c.requires.rules c.requires.func c.requires.depth c.requires.small in
    let begun : c.push_unit.new.self ≡ record { units = unit_of c.args.funcs.now c.args.func.0 None ∷ []; slots = [] } =
    c.in_ok-push_unit.ensures ∙ ap (λ (parts : LayoutParts). record { units = parts.units ++ unit_of c.args.funcs.now c.args.func.0 None ∷ []; slots = parts.slots }) c.new-parts.ensures in
    let all : joined c.push_unit.new.self (expanded c.args.funcs.now c.args.depth c.args.func.0 0) ≡ layout_to c.args.funcs.now c.args.depth c.args.func.0 =
    ap (λ parts. joined parts (expanded c.args.funcs.now c.args.depth c.args.func.0 0)) begun in
    let count = ap (λ (parts : LayoutParts). length parts.units) all in omega (arith, count, rules.few_units)

pub into_layout-requires : goal.into_layout-requires
into_layout-requires c =
    let begun : c.push_unit.new.self ≡ record { units = unit_of c.args.funcs.now c.args.func.0 None ∷ []; slots = [] } =
    c.in_ok-push_unit.ensures ∙ ap (λ (parts : LayoutParts). record { units = parts.units ++ unit_of c.args.funcs.now c.args.func.0 None ∷ []; slots = parts.slots }) c.new-parts.ensures in
    let all : joined c.push_unit.new.self (expanded c.args.funcs.now c.args.depth c.args.func.0 0) ≡ layout_to c.args.funcs.now c.args.depth c.args.func.0 =
    ap (λ parts. joined parts (expanded c.args.funcs.now c.args.depth c.args.func.0 0)) begun in
    let done : c.expand.new.self ≡ layout_to c.args.funcs.now c.args.depth c.args.func.0 = c.in_ok-expand.ensures ∙ all in
    subst IsLayout (sym done) (small_is_layout c.args.funcs.now c.args.depth c.args.func.0 c.requires.rules c.requires.func c.requires.depth c.requires.small)
