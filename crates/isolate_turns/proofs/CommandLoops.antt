-- Runs over many commands, and over all ports.
use Rattle.std.proofs.Common.{◌≡◌, ℕ, suc, ◌+◌, ◌<◌, ◌≤◌, List, [], ◌++◌, false, refl, ap, sym, subst, ◌∙◌, arith}
use Rattle.std.proofs.lemmas.Bool.Decides.{nat_tests}
use Rattle.std.proofs.lemmas.List.{append_assoc, append-nil}
use Rattle.std.proofs.lemmas.List.Sums.{sum_by-append}
use Rattle.std.specs.Prelude.{Bool, None, count_by, cond, ◌==◌, if◌then◌else◌}
use Rattle.guest_machine.specs.declared.machine.Machine.{Machine}
use Rattle.run_schedule.specs.declared.limits.TheConstants.{MAX_PORT}
use Rattle.run_schedule.specs.declared.schedule.ScheduleEntry.{ScheduleEntry}
use Rattle.isolate_guest.specs.Guest.{IsAt}
use Rattle.isolate_acts.specs.Phases.{Phase, at_port, after_command, after_ports, most_commands}
use Rattle.isolate_acts.specs.Progress.{Moment, Progress}
use Rattle.isolate_ends.proofs.Following.{runs_follow}
use Rattle.isolate_ends.specs.Runs.{Whole, Runs, Stays, is_dropped}
use Rattle.isolate_turns.specs.Ready.{IsIsolate, IsNow}

-- the guest is at the same moment where it and what was printed are the same
pub still_now : (machine later : Machine) (p q : Progress) (text later_text : List ℕ) (moment : Moment) → later ≡ machine → later_text ≡ text → (q.ending ≡ None → p.ending ≡ None)
    → IsNow machine p text moment → IsNow later q later_text moment
still_now machine later p q text later_text moment same same_text going now = record {
  at = λ none. subst (λ (m : Machine). IsAt m moment) (sym same) (now.at (going none));
  printed_is = same_text ∙ now.printed_is;
}

-- what is left where nothing is done
pub stays_here : (machine : Machine) (p : Progress) → IsIsolate machine p → Stays p p
stays_here machine p whole_ = record {
  step = refl;
  budget = refl;
  limit = refl;
  is_sampled = refl;
  going = λ none. none;
  place = λ none. (whole_ none).place;
  adds = record { more = []; added = sym (append-nil p.schedule.entries); dropped_are = refl };
}

fewer_is : (n most : ℕ) → n < most → (n == most) ≡ false
fewer_is n most less = grind (arith, nat_tests, less)

pub below : {n m : ℕ} → n ≤ m → (n ≡ m → ⊥) → n < m
below at_most other = grind (arith, at_most, other)

-- after fewer commands than a turn takes the port is asked for the next
pub after_fewer : (p : Progress) (port commands : ℕ) → commands < most_commands → after_command p port commands ≡ at_port port commands
after_fewer p port commands fewer = ap (λ (b : Bool). if b then after_ports p else at_port port commands) (fewer_is commands most_commands fewer)

-- the next port, or the end of the ports, after fewer commands than a turn takes
pub next_fewer : (p : Progress) (next : Phase) (commands : ℕ) → commands < most_commands → (if commands == most_commands then after_ports p else next) ≡ next
next_fewer p next commands fewer = ap (λ (b : Bool). if b then after_ports p else next) (fewer_is commands most_commands fewer)

count_both : {A : Type 0} (test : A → Bool) (one other : List A) → count_by test (one ++ other) ≡ count_by test one + count_by test other
count_both test one other = sum_by-append (λ x. cond (test x) 1 0) one other

-- what is left by one thing and by another after it
pub stays_then : (p q s : Progress) → Stays p q → Stays q s → Stays p s
stays_then p q s one other = record {
  step = other.step ∙ one.step;
  budget = other.budget ∙ one.budget;
  limit = other.limit ∙ one.limit;
  is_sampled = other.is_sampled ∙ one.is_sampled;
  going = λ none. one.going (other.going none);
  place = other.place;
  adds = record {
    more = one.adds.more ++ other.adds.more;
    added = other.adds.added ∙ ap (λ (z : List ScheduleEntry). z ++ other.adds.more) one.adds.added ∙ append_assoc p.schedule.entries one.adds.more other.adds.more;
    dropped_are =
        let both = count_both (λ (e : ScheduleEntry). is_dropped e.what) one.adds.more other.adds.more in
        let first = one.adds.dropped_are in
        let then_ = other.adds.dropped_are in
        both ∙ (λ i. first i + then_ i);
  };
}

-- a port is asked again after fewer commands than a turn takes
pub asked_again : (before between after : Whole) (port commands taken : ℕ) (last : Phase) → taken < most_commands
    → Runs before between (at_port port commands) (after_command between.progress port taken) → Runs between after (at_port port taken) last → Runs before after (at_port port commands) last
asked_again before between after port commands taken last fewer one other =
    runs_follow before between after (at_port port commands) (at_port port taken) last
    (subst (λ (phase : Phase). Runs before between (at_port port commands) phase) (after_fewer between.progress port taken fewer) one) other

pub asked_next : (before between after : Whole) (port commands taken next : ℕ) → next ≡ suc taken → taken < most_commands
    → Runs before between (at_port port commands) (after_command between.progress port taken) → Runs between after (at_port port taken) (after_command after.progress port (suc taken))
    → Runs before after (at_port port commands) (after_command after.progress port next)
asked_next before between after port commands taken next next_is fewer one other =
    subst (λ (n : ℕ). Runs before after (at_port port commands) (after_command after.progress port n)) (sym next_is)
    (asked_again before between after port commands taken (after_command after.progress port (suc taken)) fewer one other)

-- a port gave no more commands
pub served_runs : (before between after : Whole) (port commands taken : ℕ) (next : Phase) → taken < most_commands
    → Runs before between (at_port port commands) (after_command between.progress port taken) → Runs between after (at_port port taken) next
    → Runs before after (at_port port commands) (if taken == most_commands then after_ports after.progress else next)
served_runs before between after port commands taken next fewer one other =
    subst (λ (phase : Phase). Runs before after (at_port port commands) phase) (sym (next_fewer after.progress next taken fewer)) (asked_again before between after port commands taken next fewer one other)

-- before this port, or after all ports
abbrev pub before_port : Progress → ℕ → ℕ → Phase
before_port p port commands = if port == suc MAX_PORT then after_ports p else at_port port commands

before_is : (p : Progress) (port commands : ℕ) → port ≤ MAX_PORT → before_port p port commands ≡ at_port port commands
before_is p port commands exists = ap (λ (b : Bool). if b then after_ports p else at_port port commands) (fewer_is port (suc MAX_PORT) (let is = exists in omega arith))

-- all ports were served
pub after_all : (before after : Whole) (port commands : ℕ) → port ≡ suc MAX_PORT → Runs before after (at_port 0 0) (before_port after.progress port commands) → Runs before after (at_port 0 0) (after_ports after.progress)
after_all before after port commands last runs = subst (λ (n : ℕ). Runs before after (at_port 0 0) (before_port after.progress n commands)) last runs

-- a port was served, after others
pub port_served : (before between after : Whole) (port commands : ℕ) (last : Phase) → port ≤ MAX_PORT → Runs before between (at_port 0 0) (before_port between.progress port commands)
    → Runs between after (at_port port commands) last → Runs before after (at_port 0 0) last
port_served before between after port commands last exists one other =
    runs_follow before between after (at_port 0 0) (at_port port commands) last
    (subst (λ (phase : Phase). Runs before between (at_port 0 0) phase) (before_is between.progress port commands exists) one) other

same_test : (n : ℕ) → (suc n == suc MAX_PORT) ≡ (n == MAX_PORT)
same_test n = grind (arith, nat_tests)

-- the next port comes, after fewer commands than a turn takes
pub next_served : (before between after : Whole) (port commands served next : ℕ) → next ≡ suc port → served < most_commands → port ≤ MAX_PORT
    → Runs before between (at_port 0 0) (before_port between.progress port commands)
    → Runs between after (at_port port commands) (if served == most_commands then after_ports after.progress else (if port == MAX_PORT then after_ports after.progress else at_port (suc port) served))
    → Runs before after (at_port 0 0) (before_port after.progress next served)
next_served before between after port commands served next next_is fewer exists one other =
    let p = after.progress in
    let rest : Phase = if port == MAX_PORT then after_ports p else at_port (suc port) served in
    let last : Phase = if served == most_commands then after_ports p else rest in
    let same : last ≡ before_port p next served =
    next_fewer p rest served fewer ∙ ap (λ (b : Bool). if b then after_ports p else at_port (suc port) served) (sym (same_test port)) ∙ ap (λ (n : ℕ). before_port p n served) (sym next_is) in
    subst (λ (phase : Phase). Runs before after (at_port 0 0) phase) same (port_served before between after port commands last exists one other)

-- no port comes, after as many commands as a turn takes
pub most_served : (before between after : Whole) (port commands : ℕ) (next : Phase) (served : ℕ) → served ≡ most_commands → port ≤ MAX_PORT
    → Runs before between (at_port 0 0) (before_port between.progress port commands)
    → Runs between after (at_port port commands) (if served == most_commands then after_ports after.progress else next) → Runs before after (at_port 0 0) (after_ports after.progress)
most_served before between after port commands next served most exists one other =
    let p = after.progress in
    let last : Phase = if served == most_commands then after_ports p else next in
    subst (λ (phase : Phase). Runs before after (at_port 0 0) phase) (ap (λ (n : ℕ). if n == most_commands then after_ports p else next) most)
    (port_served before between after port commands last exists one other)
