use Rattle.std.proofs.Common.{◌≤◌, sym, subst, arith}
use Rattle.std.specs.Prelude.{All}
use Rattle.code_layout.specs.declared.sizes.TheConstants.{MAX_PART}
use Rattle.code_layout.proofs.SizeTable.{next_sizes, last_size, sizes_low}
use Rattle.code_layout.proofs.sizes.inlined_size.Goals as goal

pub loop-depth-preserved : goal.loop-depth-preserved
loop-depth-preserved c = next_sizes c.args.funcs.now c.loop-depth._depth c.loop-depth.sizes.items c.deref.result.now c.in_ok-sizes-2.sizes.items c.deref.ensures.value c.loop-depth.invariant c.in_ok-sizes-2.ensures.count c.in_ok-sizes-2.ensures.each

pub next_row-requires : goal.next_row-requires
next_row-requires c = record {
  rules = c.requires;
  parts = subst (All (λ size. size ≤ MAX_PART)) (sym c.deref.ensures.value) (sizes_low c.args.funcs.now c.loop-depth._depth c.loop-depth.sizes.items c.requires c.loop-depth.invariant (omega arith));
}

pub size_by-requires : goal.size_by-requires
size_by-requires c = record {
  rules = c.requires;
  parts = subst (All (λ size. size ≤ MAX_PART)) (sym c.deref-2.ensures.value) (sizes_low c.args.funcs.now c.loop-depth._depth c.loop-depth.sizes.items c.requires c.loop-depth.invariant (omega arith));
}

pub returns : goal.returns
returns c = last_size c.args.funcs.now c.loop-depth._depth c.loop-depth.sizes.items c.deref-2.result.now c.args.func.0 c.from.result c.size_by.result (omega arith) c.deref-2.ensures.value c.loop-depth.invariant c.from.ensures c.size_by.ensures
