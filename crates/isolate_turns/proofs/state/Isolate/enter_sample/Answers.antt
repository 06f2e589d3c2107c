use Rattle.std.proofs.Common.{◌≡◌, Bool, true, false, [], ◌∷◌, refl, ap, ◌∙◌, subst}
use Rattle.std.specs.Prelude.{if◌then◌else◌}
use Rattle.code_event.specs.declared.tick.Item.TheVariants as item
use Rattle.code_event.specs.declared.tick.Tick.{Tick}
use Rattle.isolate_acts.specs.Progress.{Moment, Progress}
use Rattle.isolate_acts.specs.Sampling.{raised_by_sample, sample_of}
use Rattle.isolate_ends.specs.Queues.{HaveMore}
use Rattle.isolate_turns.proofs.state.Isolate.enter_sample.Goals as goal

raised_is : (moment : Moment) (p : Progress) (now : _) (is_in : Bool) → (if is_in then item.Tick (sample_of moment p now) ∷ [] else []) ≡ raised_by_sample moment p now is_in
raised_is moment p now true = refl
raised_is moment p now false = refl

pub returns-clause-more : goal.returns-clause-more
returns-clause-more g c = λ moment at.
    subst (HaveMore _ _)
    (ap (λ (t : Tick). if c.offer-is_in.result then item.Tick t ∷ [] else []) (c.sample-tick.ensures.sample moment at) ∙ raised_is moment c.args.self.now.progress c.args.now c.offer-is_in.result)
    c.offer-is_in.ensures.more
