use Rattle.std.proofs.Common.{◌∙◌, sym, ap, subst}
use Rattle.std.proofs.lemmas.Result.{on_ok_weaker}
use Rattle.code_objects.specs.Changes.{HasCode, OthersStay}
use Rattle.code_objects.specs.CodeObjects.{start_at}
use Rattle.guest_machine.proofs.PartsDone.{given_up_so, sure_oldest, sure_youngest}
use Rattle.guest_machine.proofs.Raised.{still_sure}
use Rattle.guest_machine.specs.Raises.{CanBeSure, Raises, no_reason}
use Rattle.guest_machine.specs.Rules.{IsFreed, IsSure}
use Rattle.guest_machine.proofs.machine.Machine.give_up.Goals as goal

pub ensure_frames-requires : goal.ensure_frames-requires
ensure_frames-requires c =
    record { sure = sure_oldest c.args.self.now c.args.func c.requires.whole c.give_up.new.self c.in_ok-give_up.ensures.given_up c.callers.result.now c.callers.ensures }

pub ensure_frame-requires : goal.ensure_frame-requires
ensure_frame-requires c =
    record {
      sure = subst (λ f. CanBeSure c.ensure_frames.new.code f.code) (sym c.frame.ensures)
          (still_sure c.args.self.now.code c.ensure_frames.new.code c.give_up.new.self.frame.code c.in_ok-ensure_frames.ensures.stays c.in_ok-ensure_frames.ensures.funcs
          (sure_youngest c.args.self.now c.args.func c.requires.whole c.give_up.new.self c.in_ok-give_up.ensures.given_up c.callers.result.now c.callers.ensures));
    }

pub returns : goal.returns
returns c =
    on_ok_weaker c.free_code.result
    (λ frees.
    given_up_so c.args.self.now c.args.func c.requires.whole c.give_up.new.self c.in_ok-give_up.ensures.given_up c.callers.result.now c.callers.ensures c.args.reason c.ensure_frames.new.code c.ensure_frame.new.code c.free_code.new.code
    c.args.events.now c.say_given_up.new.events c.ensure_frames.new.events c.ensure_frame.new.events c.free_code.new.events c.in_ok-say_given_up.ensures.raises
    (record {
      raises = c.in_ok-ensure_frames.ensures.raises;
      there = c.in_ok-ensure_frames.ensures.there;
      stays = c.in_ok-ensure_frames.ensures.stays;
      optimised = c.in_ok-ensure_frames.ensures.optimised;
      funcs = c.in_ok-ensure_frames.ensures.funcs;
    })
    (subst (λ f. Raises (IsSure f.code) no_reason c.ensure_frames.new.code c.ensure_frame.new.code c.ensure_frames.new.events c.ensure_frame.new.events) c.frame.ensures c.in_ok-ensure_frame.ensures.raises)
    (subst (λ f. HasCode c.ensure_frame.new.code f.code) c.frame.ensures c.in_ok-ensure_frame.ensures.there) c.in_ok-ensure_frame.ensures.stays c.ensure_frame.ensures.optimised c.ensure_frame.ensures.funcs
    (subst (λ name. Raises (IsFreed name) no_reason c.ensure_frame.new.code c.free_code.new.code c.ensure_frame.new.events c.free_code.new.events) c.optimised_name.ensures frees)
    (ap (start_at c.free_code.new.code.starts) (sym c.optimised_name.ensures) ∙ c.free_code.ensures.none)
    (subst (OthersStay c.ensure_frame.new.code c.free_code.new.code) c.optimised_name.ensures c.free_code.ensures.others) c.give_up.ensures.registers c.give_up.ensures.saved)
    c.free_code.ensures.raises
