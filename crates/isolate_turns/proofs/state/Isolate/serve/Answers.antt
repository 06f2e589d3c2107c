use Rattle.std.proofs.Common.{◌≤◌, ℕ, ◌+◌, refl, ap, sym, subst, ◌∙◌, arith}
use Rattle.isolate_turns.proofs.CommandRuns.{no_act_runs}
use Rattle.isolate_turns.proofs.CommandLoops.{after_fewer, asked_next, served_runs, stays_here, stays_then, still_now}
use Rattle.isolate_turns.proofs.state.Isolate.serve.Goals as goal

pub loop-taken-init : goal.loop-taken-init
loop-taken-init g c =
    let r = c.requires in
    record {
      whole_is = r.whole;
      not_sampled = r.not_sampled;
      spare = r.spare;
      spare_kept = λ none. refl;
      guest = refl;
      printed = refl;
      stays = stays_here c.args.self.now.guest.machine c.args.self.now.progress r.whole;
      home = refl;
      vm_home = refl;
      ring = refl;
      ports = refl;
      runs = λ moment now. no_act_runs _ _ _ (after_fewer c.args.self.now.progress c.args.port c.args.commands r.few);
    }

pub returns-then-not-serve_one-clause-runs : goal.returns-then-not-serve_one-clause-runs
returns-then-not-serve_one-clause-runs g c moment now =
    let kept = c.loop-taken.invariant in
    let then_ = still_now _ _ _ c.loop-taken.self.progress _ _ moment (ap (λ s. s.machine) kept.guest) (ap (λ t. t.items) kept.printed) kept.stays.going now in
    served_runs _ _ _ c.args.port c.args.commands c.loop-taken.taken _ c.loop-taken-test.true (kept.runs moment now) (c.if-not-serve_one.ensures.runs moment then_ c.loop-taken.taken c.loop-taken-test.true)

pub loop-taken-preserved : goal.loop-taken-preserved
loop-taken-preserved g c =
    let kept = c.loop-taken.invariant in
    let done = c.serve_one.ensures in
    record {
      whole_is = done.whole;
      not_sampled = λ none. done.stays.is_sampled ∙ kept.not_sampled (done.stays.going none);
      spare = λ none. subst (λ (n : ℕ). 1 ≤ n) (sym (done.spare none)) (kept.spare (done.stays.going none));
      spare_kept = λ none. done.spare none ∙ kept.spare_kept (done.stays.going none);
      guest = done.guest ∙ kept.guest;
      printed = done.printed ∙ kept.printed;
      stays = stays_then _ _ _ kept.stays done.stays;
      home = done.home ∙ kept.home;
      vm_home = done.vm_home ∙ kept.vm_home;
      ring = done.ring ∙ kept.ring;
      ports = done.ports ∙ kept.ports;
      runs =
          λ moment now.
          let then_ = still_now _ _ _ c.loop-taken.self.progress _ _ moment (ap (λ s. s.machine) kept.guest) (ap (λ t. t.items) kept.printed) kept.stays.going now in
          asked_next _ _ _ c.args.port c.args.commands c.loop-taken.taken (c.loop-taken.taken + 1) (omega arith) c.loop-taken-test.true (kept.runs moment now) (c.if-not-serve_one.ensures.runs moment then_ c.loop-taken.taken c.loop-taken-test.true);
    }
