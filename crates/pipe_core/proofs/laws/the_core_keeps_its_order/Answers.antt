use Rattle.std.proofs.Common.{ap, sym, ◌∙◌}
use Rattle.pipe_core.proofs.Order.{keeps_its_order, rest_is, other_ticks}
use Rattle.pipe_core.specs.Stamps.{events_of}
use Rattle.pipe_core.proofs.laws.the_core_keeps_its_order.Goals as goal

pub returns : goal.returns
returns c = record {
  stamped = λ places steps some. (keeps_its_order places steps some).stamped;
  prefix = λ places steps some. let is = keeps_its_order places steps some in (is.rest, is.raised);
  taken_stamped = λ places steps some. (keeps_its_order places steps some).taken_stamped;
  applied = λ places steps some. (keeps_its_order places steps some).applied;
  ticked = λ places steps some. (keeps_its_order places steps some).ticked;
  events = λ places steps some. let is = keeps_its_order places steps some in is.events ∙ ap events_of (sym (rest_is _ is));
  other_ticks = λ places steps some. other_ticks _ (keeps_its_order places steps some);
  all_taken = λ places steps some. (keeps_its_order places steps some).all_taken;
}
