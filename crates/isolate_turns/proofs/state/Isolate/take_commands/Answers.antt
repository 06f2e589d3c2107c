use Rattle.std.proofs.Common.{◌<◌, ◌≤◌, ℕ, ◌+◌, refl, ap, sym, subst, ◌∙◌, arith}
use Rattle.isolate_acts.specs.Phases.{most_commands}
use Rattle.isolate_turns.proofs.CommandRuns.{no_act_runs}
use Rattle.isolate_turns.proofs.CommandLoops.{below, most_served, next_served, stays_here, stays_then, still_now}
use Rattle.isolate_turns.proofs.state.Isolate.take_commands.Goals as goal

pub loop-port-init : goal.loop-port-init
loop-port-init g c =
    let r = c.requires in
    record {
      fewer = omega arith;
      whole_is = r.whole;
      not_sampled = r.not_sampled;
      spare = r.spare;
      spare_kept = λ none. refl;
      guest = refl;
      printed = refl;
      stays = stays_here c.args.self.now.guest.machine c.args.self.now.progress r.whole;
      home = refl;
      vm_home = refl;
      ring = refl;
      ports = refl;
      runs = λ moment now. no_act_runs _ _ _ refl;
    }

pub returns-then-commands-eq-MOST_COMMANDS-clause-runs : goal.returns-then-commands-eq-MOST_COMMANDS-clause-runs
returns-then-commands-eq-MOST_COMMANDS-clause-runs g c moment now =
    let kept = c.loop-port.invariant in
    let exists = c.loop-port-test.true in
    let then_ = still_now _ _ _ c.loop-port.self.progress _ _ moment (ap (λ s. s.machine) kept.guest) (ap (λ t. t.items) kept.printed) kept.stays.going now in
    most_served _ _ _ c.loop-port.port c.loop-port.commands _ c.serve-commands.result c.if-commands-eq-MOST_COMMANDS.true (omega arith) (kept.runs moment now) (c.serve-commands.ensures.runs moment then_)

pub loop-port-preserved : goal.loop-port-preserved
loop-port-preserved g c =
    let kept = c.loop-port.invariant in
    let exists = c.loop-port-test.true in
    let done = c.serve-commands.ensures in
    let fewer : c.serve-commands.result < most_commands = below done.most c.if-commands-eq-MOST_COMMANDS.false in
    record {
      fewer = fewer;
      whole_is = done.whole;
      not_sampled = λ none. done.stays.is_sampled ∙ kept.not_sampled (done.stays.going none);
      spare = λ none. subst (λ (n : ℕ). 1 ≤ n) (sym (done.spare none)) (kept.spare (done.stays.going none));
      spare_kept = λ none. done.spare none ∙ kept.spare_kept (done.stays.going none);
      guest = done.guest ∙ kept.guest;
      printed = done.printed ∙ kept.printed;
      stays = stays_then _ _ _ kept.stays done.stays;
      home = done.home ∙ kept.home;
      vm_home = done.vm_home ∙ kept.vm_home;
      ring = done.ring ∙ kept.ring;
      ports = done.ports ∙ kept.ports;
      runs =
          λ moment now.
          let then_ = still_now _ _ _ c.loop-port.self.progress _ _ moment (ap (λ s. s.machine) kept.guest) (ap (λ t. t.items) kept.printed) kept.stays.going now in
          next_served _ _ _ c.loop-port.port c.loop-port.commands c.serve-commands.result (c.loop-port.port + 1) (omega arith) fewer (omega arith) (kept.runs moment now) (done.runs moment then_);
    }
