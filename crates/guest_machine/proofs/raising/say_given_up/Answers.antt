use Rattle.std.proofs.Common.{◌∙◌, sym, ap}
use Rattle.std.proofs.lemmas.Result.{on_ok_weaker}
use Rattle.code_objects.specs.CodeObjects.{start_at}
use Rattle.guest_machine.proofs.Raised.{given_up_raised}
use Rattle.guest_machine.proofs.raising.say_given_up.Goals as goal

pub returns : goal.returns
returns c =
    record {
      raises = on_ok_weaker c.push.result
          (given_up_raised c.args.code.now c.args.func c.in-Some.start c.args.reason c.args.events.now c.push.new.self
          (ap (start_at c.args.code.now.starts) (sym c.optimised_name.ensures) ∙ sym c.start_of.ensures.start ∙ c.in-Some.is)) c.push.ensures.ok;
    }
