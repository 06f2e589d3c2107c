-- Runs of acts follow one another.
use Rattle.std.proofs.Common.{◌≡◌, List, [], ◌∷◌, ◌++◌, refl, ap, sym, subst, ◌∙◌}
use Rattle.std.proofs.lemmas.List.{append_assoc, append-nil}
use Rattle.code_event.specs.declared.tick.Item.{Item}
use Rattle.isolate_acts.specs.Acts.{Act, act_after, act_calls, act_raises, moment_after, moment_on, progress_on, raised_on, calls_on}
use Rattle.isolate_acts.specs.Calls.{Call, with_calls}
use Rattle.isolate_acts.specs.Phases.{Phase, LeadTo}
use Rattle.isolate_acts.specs.Progress.{Moment, Progress}
use Rattle.isolate_ends.proofs.Queued.{have_both, calls_twice}
use Rattle.isolate_ends.specs.Queues.{HaveMore}
use Rattle.isolate_ends.specs.RunLaws.{ActsAreRuns, RunsFollow}

moment_on-append : (m : Moment) (xs ys : List Act) → moment_on m (xs ++ ys) ≡ moment_on (moment_on m xs) ys
moment_on-append m [] ys = refl
moment_on-append m (x ∷ xs) ys = moment_on-append (moment_after m x) xs ys

progress_on-append : (m : Moment) (p : Progress) (xs ys : List Act) → progress_on m p (xs ++ ys) ≡ progress_on (moment_on m xs) (progress_on m p xs) ys
progress_on-append m p [] ys = refl
progress_on-append m p (x ∷ xs) ys = progress_on-append (moment_after m x) (act_after m p x) xs ys

raised_on-append : (m : Moment) (p : Progress) (xs ys : List Act) → raised_on m p (xs ++ ys) ≡ raised_on m p xs ++ raised_on (moment_on m xs) (progress_on m p xs) ys
raised_on-append m p [] ys = refl
raised_on-append m p (x ∷ xs) ys =
    let then_ = moment_after m x in
    let after = act_after m p x in
    ap (λ (z : List Item). act_raises m p x ++ z) (raised_on-append then_ after xs ys)
    ∙ sym (append_assoc (act_raises m p x) (raised_on then_ after xs) (raised_on (moment_on then_ xs) (progress_on then_ after xs) ys))

calls_on-append : (m : Moment) (p : Progress) (xs ys : List Act) → calls_on m p (xs ++ ys) ≡ calls_on m p xs ++ calls_on (moment_on m xs) (progress_on m p xs) ys
calls_on-append m p [] ys = refl
calls_on-append m p (x ∷ xs) ys =
    let then_ = moment_after m x in
    let after = act_after m p x in
    ap (λ (z : List Call). act_calls m p x ++ z) (calls_on-append then_ after xs ys)
    ∙ sym (append_assoc (act_calls m p x) (calls_on then_ after xs) (calls_on (moment_on then_ xs) (progress_on then_ after xs) ys))

lead_both : (m : Moment) (p : Progress) (phase middle last : Phase) (xs ys : List Act) → LeadTo m p phase xs middle → LeadTo (moment_on m xs) (progress_on m p xs) middle ys last → LeadTo m p phase (xs ++ ys) last
lead_both m p phase middle last [] ys one other = subst (λ q. LeadTo m p q ys last) one other
lead_both m p phase middle last (x ∷ xs) ys one other = (one.0, one.1, lead_both (moment_after m x) (act_after m p x) one.0 middle last xs ys one.2 other)

pub runs_follow : RunsFollow
runs_follow before between after phase middle last one other =
    let m = before.moment in
    let p = before.progress in
    let same_moment : between.moment ≡ moment_on m one.acts = one.moment in
    let same_progress : between.progress ≡ progress_on m p one.acts = one.progress in
    let calls_then : calls_on between.moment between.progress other.acts ≡ calls_on (moment_on m one.acts) (progress_on m p one.acts) other.acts = (λ i. calls_on (same_moment i) (same_progress i) other.acts) in
    let raised_then : raised_on between.moment between.progress other.acts ≡ raised_on (moment_on m one.acts) (progress_on m p one.acts) other.acts = (λ i. raised_on (same_moment i) (same_progress i) other.acts) in
    let raised : raised_on m p one.acts ++ raised_on between.moment between.progress other.acts ≡ raised_on m p (one.acts ++ other.acts) =
    ap (λ (z : List Item). raised_on m p one.acts ++ z) raised_then ∙ sym (raised_on-append m p one.acts other.acts) in
    record {
      acts = one.acts ++ other.acts;
      follow =
          lead_both m p phase middle last one.acts other.acts one.follow
          (subst (λ q. LeadTo (moment_on m one.acts) q middle other.acts last) same_progress (subst (λ q. LeadTo q between.progress middle other.acts last) same_moment other.follow));
      moment = other.moment ∙ ap (λ q. moment_on q other.acts) same_moment ∙ sym (moment_on-append m one.acts other.acts);
      progress = other.progress ∙ (λ i. progress_on (same_moment i) (same_progress i) other.acts) ∙ sym (progress_on-append m p one.acts other.acts);
      calls =
          other.calls ∙ ap (λ z. with_calls z (calls_on between.moment between.progress other.acts)) one.calls ∙ calls_twice before.calls (calls_on m p one.acts) (calls_on between.moment between.progress other.acts)
          ∙ ap (λ (z : List Call). with_calls before.calls (calls_on m p one.acts ++ z)) calls_then ∙ ap (with_calls before.calls) (sym (calls_on-append m p one.acts other.acts));
      queues = subst (HaveMore before.queues after.queues) raised (have_both before.queues between.queues after.queues (raised_on m p one.acts) (raised_on between.moment between.progress other.acts) one.queues other.queues);
    }

pub acts_are_runs : ActsAreRuns
acts_are_runs before after act phase next may does = record {
  acts = act ∷ [];
  follow = (next, may, refl);
  moment = does.moment;
  progress = does.progress;
  calls = does.calls ∙ ap (with_calls before.calls) (sym (append-nil (act_calls before.moment before.progress act)));
  queues = subst (HaveMore before.queues after.queues) (sym (append-nil (act_raises before.moment before.progress act))) does.queues;
}
