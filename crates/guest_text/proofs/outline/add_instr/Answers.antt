use Rattle.std.proofs.Common.{◌≡◌, suc, ◌∷◌, ◌++◌, [], sym, arith}
use Rattle.guest_text.proofs.OutlineLists.{with_instr-push}
use Rattle.guest_text.proofs.outline.add_instr.Goals as goal

pub returns-in_ok-push : goal.returns-in_ok-push
returns-in_ok-push c =
    let more : c.in-Some-checked_add.more ≡ suc c.in-Some.size = omega arith in
    let old : c.args.sizes.now.items ≡ c.pop.new.self.items ++ c.in-Some.size ∷ [] = c.in-Some.ensures.items in
    rw (c.in_ok-push.ensures.items, more, old) (sym (with_instr-push c.pop.new.self.items c.in-Some.size))
