use Rattle.std.proofs.Common.{◌∙◌, ap, sym, subst, false, ◌≡◌}
use Rattle.std.specs.List.{AllByRecursion}
use Rattle.guest_machine.proofs.KeptCode.{none_passes, all_reversed}
use Rattle.code_objects.specs.Changes.{same_name}
use Rattle.guest_machine.proofs.CollectRules.{used_by}
use Rattle.guest_machine.proofs.machine.Machine.is_in_use.Goals as goal

pub returns-else-is_in-clause-unused : goal.returns-else-is_in-clause-unused
returns-else-is_in-clause-unused c is = (
  ap (λ f. same_name c.args.code f.code) (sym c.frame-frame.ensures) ∙ sym c.is_in.ensures ∙ c.if-is_in.false,
  subst (AllByRecursion (λ frame. same_name c.args.code frame.code ≡ false)) c.callers.ensures
      (all_reversed (λ frame. same_name c.args.code frame.code ≡ false) c.callers.result.now
      (none_passes (λ frame. same_name c.args.code frame.code) c.callers.result.now (sym c.any_is_in.ensures ∙ is))),
)

pub returns-else-is_in-clause-in_use : goal.returns-else-is_in-clause-in_use
returns-else-is_in-clause-in_use c =
    used_by c.args.self.now.stack.callers c.callers.result.now c.args.self.now.stack.frame c.args.code c.any_is_in.result
    (ap (λ f. same_name c.args.code f.code) (sym c.frame-frame.ensures) ∙ sym c.is_in.ensures ∙ c.if-is_in.false) c.callers.ensures c.any_is_in.ensures
