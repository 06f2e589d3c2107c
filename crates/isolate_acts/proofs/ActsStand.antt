-- Each act that may come keeps what the isolate stands for, and so does a run of acts.
use Rattle.std.proofs.Common.{◌≡◌, ℕ, List, [], ◌∷◌, ◌++◌, sym, subst, ◌∙◌, refl}
use Rattle.std.proofs.lemmas.List.{append_assoc, append-nil}
use Rattle.std.specs.Prelude.{Bool, true, false, Option, None}
use Rattle.guest_program.specs.declared.instr.Func.{Func}
use Rattle.code_event.specs.declared.tick.Item.{Item}
use Rattle.run_schedule.specs.declared.schedule.EndCause.{EndCause}
use Rattle.isolate_acts.proofs.Samples.{sample_stands}
use Rattle.isolate_acts.proofs.Standing.{start_stands, stop_stands, end_stands, cut_step_stands, cut_command_stands, step_stands}
use Rattle.isolate_acts.proofs.Within.{acts_within}
use Rattle.isolate_acts.specs.ActLaws.{ActsAreStoodFor, RunsAreStoodFor}
use Rattle.isolate_acts.specs.Acts.{Act, passes, starts, stops, refuses, cuts_off, asks, samples, steps, ends, ends_short, act_after, act_raises, moment_after, moment_on, progress_on, raised_on}
use Rattle.isolate_acts.specs.Phases.{Phase, at_port, asking, sampling, stepping, closing, must_end, over, MayAct}
use Rattle.isolate_acts.specs.Progress.{Moment, Progress}
use Rattle.isolate_acts.specs.Sampling.{after_sample, raised_by_sample}
use Rattle.isolate_acts.specs.Stands.{IsMoment, IsGoing, StandsAt, StandsFor}

-- nothing is raised
nothing : (funcs : List Func) (moment : Moment) (p : Progress) (raised : List Item) → StandsFor funcs moment p raised → StandsFor funcs moment p (raised ++ [])
nothing funcs moment p raised is = subst (StandsFor funcs moment p) (sym (append-nil raised)) is

-- while the isolate goes on
pub as_going : (funcs : List Func) (moment : Moment) (p : Progress) (raised : List Item) → p.ending ≡ None → StandsFor funcs moment p raised → IsGoing funcs moment p raised
as_going funcs moment p raised going is = subst (λ (e : Option EndCause). StandsAt e funcs moment p raised) going is

from_going : (funcs : List Func) (moment : Moment) (p : Progress) (raised : List Item) → p.ending ≡ None → IsGoing funcs moment p raised → StandsFor funcs moment p raised
from_going funcs moment p raised going is = subst (λ (e : Option EndCause). StandsAt e funcs moment p raised) (sym going) is

-- a sample is no end
sample_going : (p : Progress) (now : ℕ) (is_in : Bool) → (after_sample p now is_in).ending ≡ p.ending
sample_going p now true = refl
sample_going p now false = refl

pub acts_stand : ActsAreStoodFor
acts_stand funcs moment p (at_port port commands) next (passes from) raised is is_moment within may = nothing funcs moment p raised is
acts_stand funcs moment p (at_port port commands) next (starts options now is_taken) raised is is_moment within may =
    from_going funcs moment (act_after moment p (starts options now is_taken)) (raised ++ act_raises moment p (starts options now is_taken)) may.1
    (start_stands funcs moment p raised (as_going funcs moment p raised may.1 is) within is_moment options now is_taken may.2)
acts_stand funcs moment p (at_port port commands) next (stops from number now is_taken) raised is is_moment within may =
    from_going funcs moment (act_after moment p (stops from number now is_taken)) (raised ++ act_raises moment p (stops from number now is_taken)) may.1
    (stop_stands funcs moment p raised (as_going funcs moment p raised may.1 is) within from number now is_taken may.2)
acts_stand funcs moment p (at_port port commands) next (refuses from given answer is_taken) raised is is_moment within may = nothing funcs moment p raised is
acts_stand funcs moment p (at_port port commands) next (cuts_off from given is_marked now is_taken) raised is is_moment within may =
    cut_command_stands funcs moment p raised (as_going funcs moment p raised may.1 is) within port given is_marked now may.2
acts_stand funcs moment p asking next (asks is_asked) raised is is_moment within may = nothing funcs moment p raised is
acts_stand funcs moment p sampling next (samples now is_in) raised is is_moment within may =
    from_going funcs moment (after_sample p now is_in) (raised ++ raised_by_sample moment p now is_in) (sample_going p now is_in ∙ may.0)
    (sample_stands funcs moment p raised (as_going funcs moment p raised may.0 is) within is_moment now is_in)
acts_stand funcs moment p stepping next (steps after events) raised is is_moment within may =
    from_going funcs after (act_after moment p (steps after events)) (raised ++ act_raises moment p (steps after events)) may.0
    (step_stands funcs moment p raised (as_going funcs moment p raised may.0 is) within after events may.1)
acts_stand funcs moment p stepping next (ends_short events now) raised is is_moment within may =
    cut_step_stands funcs moment p raised (as_going funcs moment p raised may.0.going is) within events now may.1
acts_stand funcs moment p closing next (ends why now) raised is is_moment within may = end_stands funcs moment p raised (as_going funcs moment p raised may.0.going is) within why now
acts_stand funcs moment p (must_end later) next (ends why now) raised is is_moment within may = end_stands funcs moment p raised (as_going funcs moment p raised may.0.going is) within why now
acts_stand funcs moment p phase next act raised is is_moment within may = absurd may

-- after an act the guest's stack is still the plain machine's
pub moment_kept : (moment : Moment) (p : Progress) (phase next : Phase) (act : Act) → IsMoment moment → MayAct moment p phase act next → IsMoment (moment_after moment act)
moment_kept moment p stepping next (steps after events) is may = may.1.shows
moment_kept moment p (at_port port commands) next (steps after events) is may = absurd may
moment_kept moment p asking next (steps after events) is may = absurd may
moment_kept moment p sampling next (steps after events) is may = absurd may
moment_kept moment p closing next (steps after events) is may = absurd may
moment_kept moment p (must_end later) next (steps after events) is may = absurd may
moment_kept moment p over next (steps after events) is may = absurd may
moment_kept moment p phase next act is may = is

pub runs_stand : RunsAreStoodFor
runs_stand funcs moment p phase last [] raised is is_moment within lead = (nothing funcs moment p raised is, within)
runs_stand funcs moment p phase last (act ∷ acts) raised is is_moment within lead =
    let next = lead.0 in
    let may = lead.1 in
    let then_ = moment_after moment act in
    let after = act_after moment p act in
    let more : List Item = act_raises moment p act in
    let rest =
    runs_stand funcs then_ after next last acts (raised ++ more) (acts_stand funcs moment p phase next act raised is is_moment within may) (moment_kept moment p phase next act is_moment may)
    (acts_within moment p phase next act within may) lead.2 in
    (subst (StandsFor funcs (moment_on then_ acts) (progress_on then_ after acts)) (append_assoc raised more (raised_on then_ after acts)) rest.0, rest.1)
