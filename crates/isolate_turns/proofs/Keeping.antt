-- What turns and samples keep.
use Rattle.std.proofs.Common.{◌≡◌, ℕ, List, [], ◌∷◌, ◌++◌, refl, sym, subst, ◌∙◌, ⊎_elim, Bool, true}
use Rattle.std.proofs.lemmas.List.{append_assoc, append-nil}
use Rattle.std.specs.Prelude.{Option, None}
use Rattle.guest_program.specs.declared.instr.Func.{Func}
use Rattle.code_event.specs.declared.tick.Item.{Item}
use Rattle.run_schedule.specs.declared.schedule.EndCause.{EndCause}
use Rattle.raised_so_far.proofs.StepsRaised.{openings}
use Rattle.isolate_acts.proofs.ActsStand.{acts_stand, moment_kept, runs_stand}
use Rattle.isolate_acts.proofs.FitsKept.{new_fits, samples_fit, turns_fit}
use Rattle.isolate_acts.proofs.ScheduleTurns.{samples_keep, turns_keep}
use Rattle.isolate_acts.proofs.Stamped.{numbered_code, numbered_stamped}
use Rattle.isolate_acts.proofs.Within.{acts_within}
use Rattle.isolate_acts.specs.Acts.{Act, samples, numbered, moment_after, act_after, moment_on, progress_on, raised_on}
use Rattle.isolate_acts.specs.FitsSoFar.{FitsSoFar}
use Rattle.isolate_acts.specs.Phases.{Phase, HasRoom, LeadTo, IsOver, first_phase, sampling, stepping, unless_ended}
use Rattle.isolate_acts.specs.Progress.{Moment, Progress}
use Rattle.isolate_acts.specs.Sampling.{after_sample, raised_by_sample}
use Rattle.isolate_acts.specs.ScheduleSoFar.{KeepsRules}
use Rattle.isolate_acts.specs.Stands.{IsGoing, IsMoment, StandsAt}
use Rattle.raised_so_far.specs.Raised.{IsRaised}
use Rattle.isolate_ends.specs.Queues.{HaveMore}
use Rattle.isolate_ends.specs.Runs.{Goes, Whole}
use Rattle.isolate_ends.specs.declared.turn.IsoTurn.{IsoTurn}
use Rattle.isolate_turns.specs.Kept.{IsKept, IsSampled, IsTurn, IsLeft, Follows, FollowsLate, last_of, all_raised, HistoriesAreKept, OpeningsAreKept, RulesAreKept}

moments_kept : (m : Moment) (p : Progress) (phase last : Phase) (acts : List Act) → IsMoment m → LeadTo m p phase acts last → IsMoment (moment_on m acts)
moments_kept m p phase last [] is lead = is
moments_kept m p phase last (act ∷ acts) is lead = moments_kept (moment_after m act) (act_after m p act) lead.0 last acts (moment_kept m p phase lead.0 act is lead.1) lead.2

-- the same, of a moment and a progress that are known
kept_as : (funcs : List Func) (moment m : Moment) (progress p : Progress) (raised : List Item) → moment ≡ m → progress ≡ p → IsKept funcs m p raised → IsKept funcs moment progress raised
kept_as funcs moment m progress p raised moment_is progress_is kept = subst (λ q. IsKept funcs moment q raised) (sym progress_is) (subst (λ q. IsKept funcs q p raised) (sym moment_is) kept)

pub turn_kept : (funcs : List Func) (before after : Whole) (raised : List Item) (turn : IsTurn before after) → IsKept funcs before.moment before.progress raised
    → IsKept funcs after.moment after.progress (raised ++ raised_on before.moment before.progress turn.goes.runs.acts)
turn_kept funcs before after raised turn kept =
    let m = before.moment in
    let p = before.progress in
    let runs = turn.goes.runs in
    let last = turn.goes.last in
    let acts = runs.acts in
    let stands = runs_stand funcs m p (first_phase p) last acts raised kept.stands kept.shows kept.within runs.follow in
    let over : IsOver (moment_on m acts) (progress_on m p acts) last = subst (λ q. IsOver (moment_on m acts) q last) runs.progress (subst (λ q. IsOver q after.progress last) runs.moment turn.goes.over) in
    kept_as funcs after.moment (moment_on m acts) after.progress (progress_on m p acts) (raised ++ raised_on m p acts) runs.moment runs.progress
    (record {
      shows = moments_kept m p (first_phase p) last acts kept.shows runs.follow;
      within = stands.1;
      stands = stands.0;
      fits = turns_fit funcs m p last acts kept.fits runs.follow over;
    })

-- the same, with what the queues have got
pub goes_kept : (funcs : List Func) (before after : Whole) (answer : IsoTurn) (raised : List Item) → Goes before after (first_phase before.progress) answer → IsKept funcs before.moment before.progress raised
    → (more : List Item) × IsKept funcs after.moment after.progress (raised ++ more) × HaveMore before.queues after.queues more
goes_kept funcs before after answer raised goes kept =
    (raised_on before.moment before.progress goes.runs.acts, turn_kept funcs before after raised (record { answer = answer; goes = goes }) kept, goes.runs.queues)

pub sample_kept : (funcs : List Func) (m : Moment) (p : Progress) (raised : List Item) (now : ℕ) (is_in : Bool) → p.ending ≡ None → HasRoom p → IsKept funcs m p raised
    → IsKept funcs m (after_sample p now is_in) (raised ++ raised_by_sample m p now is_in)
sample_kept funcs m p raised now is_in going room kept =
    let next = unless_ended (after_sample p now is_in) true stepping in
    record {
      shows = kept.shows;
      within = acts_within m p sampling next (samples now is_in) kept.within (going, room, refl);
      stands = acts_stand funcs m p sampling next (samples now is_in) raised kept.stands kept.shows kept.within (going, room, refl);
      fits = samples_fit funcs m p now is_in kept.fits going;
    }

left_kept : (funcs : List Func) (before after : Whole) (raised : List Item) → IsLeft before after → IsKept funcs before.moment before.progress raised → IsKept funcs after.moment after.progress (raised ++ [])
left_kept funcs before after raised left kept =
    subst (IsKept funcs after.moment after.progress) (sym (append-nil raised)) (kept_as funcs after.moment before.moment after.progress before.progress raised left.moment left.progress kept)

next_kept : (funcs : List Func) (before after : Whole) (raised more : List Item) → Follows before after more → IsKept funcs before.moment before.progress raised → IsKept funcs after.moment after.progress (raised ++ more)
next_kept funcs before after raised more follows kept =
    let Kept = λ (items : List Item). IsKept funcs after.moment after.progress (raised ++ items) in
    ⊎_elim
    (λ (turn : (turn : IsTurn before after) × (more ≡ raised_on before.moment before.progress turn.goes.runs.acts)). subst Kept (sym turn.1) (turn_kept funcs before after raised turn.0 kept))
    (λ other.
    ⊎_elim
    (λ (sample : (now : ℕ) × (is_in : Bool) × IsSampled before after now is_in × (more ≡ raised_by_sample before.moment before.progress now is_in)).
    let is = sample.2 in
    let p = before.progress in
    subst Kept (sym sample.3)
    (kept_as funcs after.moment before.moment after.progress (after_sample p sample.0 sample.1) (raised ++ raised_by_sample before.moment p sample.0 sample.1) is.moment is.progress
    (sample_kept funcs before.moment p raised sample.0 sample.1 is.going is.room kept)))
    (λ (left : IsLeft before after × (more ≡ [])). subst Kept (sym left.1) (left_kept funcs before after raised left.0 kept)) other) follows

pub histories_kept : HistoriesAreKept
histories_kept funcs before [] raised kept each = subst (IsKept funcs before.moment before.progress) (sym (append-nil raised)) kept
histories_kept funcs before (next ∷ rest) raised kept each =
    subst (IsKept funcs (last_of next.0 rest).moment (last_of next.0 rest).progress) (append_assoc raised next.1 (all_raised rest))
    (histories_kept funcs next.0 rest (raised ++ next.1) (next_kept funcs before next.0 raised next.1 each.0 kept) each.1)

rules_as : (p q : Progress) → q ≡ p → KeepsRules p (first_phase p) → KeepsRules q (first_phase q)
rules_as p q same rules = subst (λ r. KeepsRules r (first_phase r)) (sym same) rules

next_rules : (before after : Whole) → FollowsLate before after → KeepsRules before.progress (first_phase before.progress) → KeepsRules after.progress (first_phase after.progress)
next_rules before after follows rules =
    ⊎_elim
    (λ (turn : (turn : IsTurn before after) × _).
    let runs = turn.0.goes.runs in
    let m = before.moment in
    let p = before.progress in
    let over : IsOver (moment_on m runs.acts) (progress_on m p runs.acts) turn.0.goes.last =
    subst (λ q. IsOver (moment_on m runs.acts) q turn.0.goes.last) runs.progress (subst (λ q. IsOver q after.progress turn.0.goes.last) runs.moment turn.0.goes.over) in
    rules_as (progress_on m p runs.acts) after.progress runs.progress (turns_keep m p turn.0.goes.last runs.acts rules runs.follow turn.1 over))
    (λ other.
    ⊎_elim
    (λ (sample : (now : ℕ) × (is_in : Bool) × IsSampled before after now is_in × _).
    rules_as (after_sample before.progress sample.0 sample.1) after.progress sample.2.progress
    (samples_keep before.progress sample.0 sample.1 rules sample.2.going sample.2.once sample.2.session sample.3))
    (λ (left : IsLeft before after). rules_as before.progress after.progress left.progress rules) other) follows

pub rules_kept : RulesAreKept
rules_kept before [] rules each = rules
rules_kept before (next ∷ rest) rules each = rules_kept next rest (next_rules before next each.0 rules) each.1

pub openings_kept : OpeningsAreKept
openings_kept funcs m p event opens within entries step events ticks going =
    let raised = numbered 0 0 (event ∷ []) in
    let first : IsRaised funcs p.schedule.base [] 0 raised = openings funcs p.schedule.base raised (numbered_code 0 0 (event ∷ []) (opens.of_code, tt)) opens.reasons (numbered_stamped 0 0 (event ∷ [])) in
    let is_going : IsGoing funcs m p raised =
    record {
      funcs_are = opens.funcs;
      raised_is = subst (λ n. IsRaised funcs p.schedule.base p.schedule.entries n raised) (sym step) (subst (λ es. IsRaised funcs p.schedule.base es 0 raised) (sym entries) first);
      code_is = opens.code;
      step_is = step ∙ sym opens.steps;
      events_are = events;
      ticks_are = ticks;
    } in
    record {
      shows = opens.shows;
      within = within;
      stands = subst (λ (e : Option EndCause). StandsAt e funcs m p raised) (sym going) is_going;
      fits = subst (λ fs. FitsSoFar fs m p (first_phase p)) opens.funcs (new_fits m p entries step opens.steps);
    }
