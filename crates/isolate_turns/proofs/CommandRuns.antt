-- Runs of the acts of a port's commands.
use Rattle.std.proofs.Common.{◌≡◌, ℕ, suc, ◌<◌, List, [], ◌∷◌, true, false, true≢false, refl, ap, sym, subst, ◌∙◌}
use Rattle.std.specs.Prelude.{Bool, Option, Some, None, not, is_none, ◌&&◌, ◌||◌, ◌==◌, if◌then◌else◌}
use Rattle.code_event.specs.declared.tick.VmState.TheVariants as state
use Rattle.run_schedule.specs.declared.limits.TheConstants.{MAX_PORT}
use Rattle.run_schedule.specs.declared.schedule.EndCause.{EndCause}
use Rattle.run_schedule.specs.declared.schedule.EndCause.TheVariants as cause
use Rattle.isolate_acts.specs.Acts.{act_after, ends, passes}
use Rattle.isolate_acts.specs.Calls.{Call, commanded, with_calls}
use Rattle.isolate_acts.specs.Phases.{Phase, MayAct, at_port, asking, stepping, over, must_end, after_command, after_end, after_ports, most_commands, unless_ended}
use Rattle.isolate_acts.specs.Progress.{Moment, Progress, entry_count, goes_on, is_filled, some_runs}
use Rattle.isolate_ends.proofs.Following.{acts_are_runs, runs_follow}
use Rattle.isolate_ends.proofs.Queued.{have_none, none_more}
use Rattle.isolate_ends.specs.Queues.{Shown}
use Rattle.isolate_ends.specs.Runs.{Whole, Adds, Does, Obeys, Runs, Stays, whole}
use Rattle.isolate_turns.proofs.Commanded.{ended_stays}

-- no act is a run
pub no_act_runs : (before : Whole) (phase last : Phase) → last ≡ phase → Runs before before phase last
no_act_runs before phase last same = record { acts = []; follow = same; moment = refl; progress = refl; calls = none_more before.calls; queues = have_none before.queues before.queues refl }

-- no end must come
pub free_runs : (before : Whole) (is_taken : Bool) (port commands : ℕ) → (goes_on before.progress && (is_filled before.progress || not is_taken)) ≡ false
    → Runs before before (unless_ended before.progress is_taken (after_command before.progress port commands)) (after_command before.progress port commands)
free_runs before is_taken port commands free =
    let next = after_command before.progress port commands in
    no_act_runs before (unless_ended before.progress is_taken next) next (sym (ap (λ (b : Bool). if b then must_end next else next) free))

ends_over : (b c : Bool) → after_end (if b then over else if c then asking else stepping) ≡ over
ends_over true c = refl
ends_over false true = refl
ends_over false false = refl

in_both : (b : Bool) (one other : Phase) (port commands : ℕ) → after_end one ≡ other → after_end (if b then one else at_port port commands) ≡ (if b then other else at_port port commands)
in_both true one other port commands same = same
in_both false one other port commands same = refl

ended_command : (p q : Progress) (port commands : ℕ) → goes_on q ≡ false → after_end (after_command p port commands) ≡ after_command q port commands
ended_command p q port commands ended =
    in_both (commands == most_commands) (after_ports p) (after_ports q) port commands
    (ends_over (not (goes_on p)) (some_runs p) ∙ sym (ap (λ (b : Bool). if not b then over else if some_runs q then asking else stepping) ended))

-- an end must come, and comes
pub ended_runs : (before after : Whole) (is_taken : Bool) (port commands : ℕ) (why : EndCause) (now : ℕ) → before.progress.ending ≡ None → (is_filled before.progress || not is_taken) ≡ true
    → why ≡ (if is_filled before.progress then cause.Full else cause.Memory) → entry_count before.progress < before.progress.schedule.limit → Does before after (ends why now)
    → Runs before after (unless_ended before.progress is_taken (after_command before.progress port commands)) (after_command after.progress port commands)
ended_runs before after is_taken port commands why now going must why_is place does =
    let p = before.progress in
    let next = after_command p port commands in
    let last = after_command after.progress port commands in
    let must_is : unless_ended p is_taken next ≡ must_end next =
    ap (λ (b : Bool). if b && (is_filled p || not is_taken) then must_end next else next) (ap is_none going) ∙ ap (λ (b : Bool). if b then must_end next else next) must in
    acts_are_runs before after (ends why now) (unless_ended p is_taken next) last
    (subst (λ (phase : Phase). MayAct before.moment p phase (ends why now) last) (sym must_is)
    (record { going = going; place = place }, why_is, sym (ended_command p after.progress port commands (ap goes_on does.progress)))) does

pub end_stays : (before after : Whole) (why : EndCause) (now : ℕ) → Does before after (ends why now) → Adds before.progress.schedule.entries after.progress.schedule.entries 0 → Stays before.progress after.progress
end_stays before after why now does adds =
    let q_is : after.progress ≡ act_after before.moment before.progress (ends why now) = does.progress in
    ended_stays before.progress after.progress why (ap (λ (s : Progress). s.step) q_is) (ap (λ (s : Progress). s.schedule.budget) q_is) (ap (λ (s : Progress). s.schedule.limit) q_is)
    (ap (λ (s : Progress). s.is_sampled) q_is) (ap (λ (s : Progress). s.ending) q_is) adds

-- a command was obeyed, and what it asks for came after it
pub obeyed_runs : (before between after : Whole) (port commands : ℕ) (is_taken : Bool) (last : Phase) → commands < most_commands → Obeys before between port is_taken
    → Runs between after (unless_ended between.progress is_taken (after_command between.progress port (suc commands))) last → Runs before after (at_port port commands) last
obeyed_runs before between after port commands is_taken last more obeys then_ =
    let middle = unless_ended between.progress is_taken (after_command between.progress port (suc commands)) in
    runs_follow before between after (at_port port commands) middle last (acts_are_runs before between obeys.act (at_port port commands) middle (obeys.may commands more) obeys.does) then_

-- a port gave no command
pub passed_runs : (moment : Moment) (p : Progress) (calls last : Option (List Call)) (queues : Shown) (port commands : ℕ) → last ≡ with_calls calls (commanded port p.step None ∷ [])
    → Runs (whole moment p calls queues) (whole moment p last queues) (at_port port commands) (if port == MAX_PORT then after_ports p else at_port (suc port) commands)
passed_runs moment p calls last queues port commands last_is =
    acts_are_runs (whole moment p calls queues) (whole moment p last queues) (passes port) (at_port port commands) (if port == MAX_PORT then after_ports p else at_port (suc port) commands)
    (refl, refl) (record { moment = refl; progress = refl; calls = last_is; queues = have_none queues queues refl })

-- no end was entered where the isolate goes on
pub going_is : (p : Progress) → goes_on p ≡ true → p.ending ≡ None
going_is p goes = none_is p.ending goes where
  none_is : (ending : Option EndCause) → is_none ending ≡ true → ending ≡ None
  none_is None is = refl
  none_is (Some why) is = absurd (true≢false (sym is))

-- some moment, for what is the same at each
pub some_moment : Moment
some_moment = record { funcs = []; steps = 0; code = []; state = state.Idle; stack = [] }
