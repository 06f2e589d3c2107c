-- No act changes what precedes the entries of a schedule.
use Rattle.std.proofs.Common.{List, [], ◌∷◌, refl, ◌∙◌}
use Rattle.std.specs.Prelude.{true, false}
use Rattle.isolate_acts.specs.Acts.{Act, passes, starts, stops, refuses, cuts_off, asks, samples, steps, ends, ends_short, act_after, moment_after, progress_on}
use Rattle.isolate_acts.specs.Progress.{Moment, Progress}
use Rattle.one_thread.specs.UnderWay.{SameHead}

same_head : (moment : Moment) (p : Progress) (act : Act) → SameHead p.schedule (act_after moment p act).schedule
same_head moment p (passes port) = record { base = refl; ring = refl; budget = refl; limit = refl }
same_head moment p (starts options now is_taken) = record { base = refl; ring = refl; budget = refl; limit = refl }
same_head moment p (stops port number now is_taken) = record { base = refl; ring = refl; budget = refl; limit = refl }
same_head moment p (refuses port given why is_taken) = record { base = refl; ring = refl; budget = refl; limit = refl }
same_head moment p (cuts_off port given is_marked now is_taken) = record { base = refl; ring = refl; budget = refl; limit = refl }
same_head moment p (asks is_asked) = record { base = refl; ring = refl; budget = refl; limit = refl }
same_head moment p (samples now true) = record { base = refl; ring = refl; budget = refl; limit = refl }
same_head moment p (samples now false) = record { base = refl; ring = refl; budget = refl; limit = refl }
same_head moment p (steps after events) = record { base = refl; ring = refl; budget = refl; limit = refl }
same_head moment p (ends why now) = record { base = refl; ring = refl; budget = refl; limit = refl }
same_head moment p (ends_short events now) = record { base = refl; ring = refl; budget = refl; limit = refl }

-- so does a run of acts
pub keep_heads : (moment : Moment) (p : Progress) (acts : List Act) → SameHead p.schedule (progress_on moment p acts).schedule
keep_heads moment p [] = record { base = refl; ring = refl; budget = refl; limit = refl }
keep_heads moment p (act ∷ acts) =
    let one = same_head moment p act in
    let rest = keep_heads (moment_after moment act) (act_after moment p act) acts in
    record { base = rest.base ∙ one.base; ring = rest.ring ∙ one.ring; budget = rest.budget ∙ one.budget; limit = rest.limit ∙ one.limit }
