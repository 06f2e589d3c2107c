-- The tests of the rules are the rules.
use Rattle.std.proofs.Common.{◌≡◌, ◌∙◌, ℕ, suc, ◌<◌, ◌≤◌, List, [], ◌∷◌, length, Bool, true, false, cond, not, ◌&&◌, ◌==◌, ltb, leb, Some, None, refl, ap, arith, inl, inr}
use Rattle.std.proofs.lemmas.Bool.{and_parts, and_from, or_cases, or_left, or_right, ltb-true, lt-ltb, leb-true, le-leb, eqb-true, eq-eqb}
use Rattle.prof_base.proofs.Ordered.{Has, has_from_contains, contains_from_has}
use Rattle.prof_lines.specs.declared.fault.Cause.{Cause}
use Rattle.code_event.specs.declared.event.TheConstants.{MAX_SESSIONS}
use Rattle.run_schedule.specs.declared.schedule.EndCause.{EndCause}
use Rattle.run_schedule.specs.declared.schedule.EndCause.TheVariants as cause
use Rattle.run_schedule.specs.declared.schedule.What.{What}
use Rattle.run_schedule.specs.declared.schedule.What.TheVariants.{Sampled, Dropped, Start, Stop, End}
use Rattle.run_schedule.specs.declared.schedule.ScheduleEntry.{ScheduleEntry}
use Rattle.run_schedule.specs.Schedule.{Running, running_after, HasSession, IsAtLastStep, LeavesRoom, IsEndWithin, IsWithinLimits, MayFollow}
use Rattle.run_schedule.specs.ScheduleParts.{ScheduleParts}
use Rattle.record_text.specs.declared.rule.Rule.{Rule}
use Rattle.record_text.specs.ScheduleRules.{is_in_order, is_running, has_session, sampled_in, leaves_room, is_at_last_step, is_end_within, is_within_limits, entry_fault}
use Rattle.record_text.specs.ScheduleLaws.{SessionIsTested, LimitIsTested, RulesAreTested}
use Rattle.record_text.proofs.ScheduleOrder.{order_from, order_test}

-- ---- the rule Session

-- a session of some interval runs
abbrev RunsFor : List Running → ℕ → ℕ → Type 0
RunsFor running port session = (interval : ℕ) × Has running (record { session = session; port = port; interval = interval })

is_this : (one : Running) (port session : ℕ) → (one.session == session && one.port == port) ≡ true → one ≡ record { session = session; port = port; interval = one.interval }
is_this one port session h =
    let a = and_parts (one.session == session) (one.port == port) h in
    let name : ℕ → Running = λ n. record { session = n; port = one.port; interval = one.interval } in
    let with_port : ℕ → Running = λ n. record { session = session; port = n; interval = one.interval } in
    ap name (eqb-true one.session session a.0) ∙ ap with_port (eqb-true one.port port a.1)

runs_from : (running : List Running) (port session : ℕ) → is_running running port session ≡ true → RunsFor running port session
runs_from [] port session h = absurd cc
runs_from (one ∷ running) port session h = elim (or_cases (one.session == session && one.port == port) (is_running running port session) h) [
  | inl e ↦ (one.interval, inl (is_this one port session e))
  | inr later ↦ let rest = runs_from running port session later in (rest.0, inr rest.1)
]

runs_test : (running : List Running) (port session interval : ℕ) → Has running (record { session = session; port = port; interval = interval }) → is_running running port session ≡ true
runs_test [] port session interval h = absurd h
runs_test (one ∷ running) port session interval (inl e) =
    let same : (one.session == session && one.port == port) ≡ true =
    and_from (one.session == session) (one.port == port) (eq-eqb one.session session (ap (λ (z : Running). z.session) e)) (eq-eqb one.port port (ap (λ (z : Running). z.port) e)) in
    or_left (one.session == session && one.port == port) (is_running running port session) same
runs_test (one ∷ running) port session interval (inr h) = or_right (one.session == session && one.port == port) (is_running running port session) (runs_test running port session interval h)

session_from : (running : List Running) (what : What) → has_session running what ≡ true → HasSession running what
session_from running Sampled h = leb-true 1 (length running) h
session_from running Dropped h = leb-true 1 (length running) h
session_from running (Start options) h = ltb-true (length running) MAX_SESSIONS h
session_from running (Stop port session) h = let runs = runs_from running port session.0 h in (runs.0, contains_from_has running _ runs.1)
session_from running (End why) h = tt

session_test : (running : List Running) (what : What) → HasSession running what → has_session running what ≡ true
session_test running Sampled h = le-leb 1 (length running) h
session_test running Dropped h = le-leb 1 (length running) h
session_test running (Start options) h = lt-ltb (length running) MAX_SESSIONS h
session_test running (Stop port session) h = runs_test running port session.0 h.0 (has_from_contains running _ h.1)
session_test running (End why) h = refl

pub session_is_tested : SessionIsTested
session_is_tested running what = (session_from running what, session_test running what)

-- ---- the rule Limit

room_from : (s : ScheduleParts) (step : ℕ) → leaves_room s step ≡ true → LeavesRoom s (suc (length s.entries)) step
room_from s step h =
    let a = and_parts (ltb (suc (length s.entries)) s.limit) (ltb step s.budget) h in
    (ltb-true (suc (length s.entries)) s.limit a.0, ltb-true step s.budget a.1)

room_test : (s : ScheduleParts) (step : ℕ) → LeavesRoom s (suc (length s.entries)) step → leaves_room s step ≡ true
room_test s step h = and_from (ltb (suc (length s.entries)) s.limit) (ltb step s.budget) (lt-ltb (suc (length s.entries)) s.limit h.0) (lt-ltb step s.budget h.1)

last_from : (entries : List ScheduleEntry) (step : ℕ) → is_at_last_step entries step ≡ true → IsAtLastStep entries step
last_from [] step h = tt
last_from (entry ∷ []) step h = eqb-true entry.step step h
last_from (entry ∷ next ∷ entries) step h = last_from (next ∷ entries) step h

last_test : (entries : List ScheduleEntry) (step : ℕ) → IsAtLastStep entries step → is_at_last_step entries step ≡ true
last_test [] step h = refl
last_test (entry ∷ []) step h = eq-eqb entry.step step h
last_test (entry ∷ next ∷ entries) step h = last_test (next ∷ entries) step h

-- an end within the budget that leaves room
abbrev IsEarlyEnd : ScheduleParts → ℕ → Type 0
IsEarlyEnd s step = (suc (length s.entries) < s.limit) × (step ≤ s.budget)

early_from : (s : ScheduleParts) (step : ℕ) → (ltb (suc (length s.entries)) s.limit && leb step s.budget) ≡ true → IsEarlyEnd s step
early_from s step h =
    let a = and_parts (ltb (suc (length s.entries)) s.limit) (leb step s.budget) h in
    (ltb-true (suc (length s.entries)) s.limit a.0, leb-true step s.budget a.1)

early_test : (s : ScheduleParts) (step : ℕ) → IsEarlyEnd s step → (ltb (suc (length s.entries)) s.limit && leb step s.budget) ≡ true
early_test s step h = and_from (ltb (suc (length s.entries)) s.limit) (leb step s.budget) (lt-ltb (suc (length s.entries)) s.limit h.0) (le-leb step s.budget h.1)

end_from : (s : ScheduleParts) (step : ℕ) (why : EndCause) → is_end_within s step why ≡ true → IsEndWithin s s.entries (suc (length s.entries)) step why
end_from s step cause.Full h =
    let a = and_parts (suc (length s.entries) == s.limit && is_at_last_step s.entries step) (leb step s.budget) h in
    let b = and_parts (suc (length s.entries) == s.limit) (is_at_last_step s.entries step) a.0 in
    (eqb-true (suc (length s.entries)) s.limit b.0, last_from s.entries step b.1, leb-true step s.budget a.1)
end_from s step cause.Budget h =
    let a = and_parts (ltb (suc (length s.entries)) s.limit) (step == s.budget) h in
    (ltb-true (suc (length s.entries)) s.limit a.0, eqb-true step s.budget a.1)
end_from s step cause.Halt h = early_from s step h
end_from s step cause.Overflow h = early_from s step h
end_from s step cause.OffEnd h = early_from s step h
end_from s step cause.Memory h = early_from s step h

end_test : (s : ScheduleParts) (step : ℕ) (why : EndCause) → IsEndWithin s s.entries (suc (length s.entries)) step why → is_end_within s step why ≡ true
end_test s step cause.Full h =
    and_from (suc (length s.entries) == s.limit && is_at_last_step s.entries step) (leb step s.budget)
    (and_from (suc (length s.entries) == s.limit) (is_at_last_step s.entries step) (eq-eqb (suc (length s.entries)) s.limit h.0) (last_test s.entries step h.1))
    (le-leb step s.budget h.2)
end_test s step cause.Budget h =
    and_from (ltb (suc (length s.entries)) s.limit) (step == s.budget) (lt-ltb (suc (length s.entries)) s.limit h.0) (eq-eqb step s.budget h.1)
end_test s step cause.Halt h = early_test s step h
end_test s step cause.Overflow h = early_test s step h
end_test s step cause.OffEnd h = early_test s step h
end_test s step cause.Memory h = early_test s step h

limit_from : (s : ScheduleParts) (step : ℕ) (what : What) → is_within_limits s step what ≡ true → IsWithinLimits s s.entries step what
limit_from s step Dropped h =
    let a = and_parts (leaves_room s step) (leb s.ring (sampled_in s.entries)) h in
    (room_from s step a.0, leb-true s.ring (sampled_in s.entries) a.1)
limit_from s step (End why) h = end_from s step why h
limit_from s step Sampled h = room_from s step h
limit_from s step (Start options) h = room_from s step h
limit_from s step (Stop port session) h = room_from s step h

limit_test : (s : ScheduleParts) (step : ℕ) (what : What) → IsWithinLimits s s.entries step what → is_within_limits s step what ≡ true
limit_test s step Dropped h = and_from (leaves_room s step) (leb s.ring (sampled_in s.entries)) (room_test s step h.0) (le-leb s.ring (sampled_in s.entries) h.1)
limit_test s step (End why) h = end_test s step why h
limit_test s step Sampled h = room_test s step h
limit_test s step (Start options) h = room_test s step h
limit_test s step (Stop port session) h = room_test s step h

pub limit_is_tested : LimitIsTested
limit_is_tested s step what = (limit_from s step what, limit_test s step what)

-- ---- all rules

all_pass : (order session limit : Bool) (a b c : Cause Rule) → cond (not order) (Some a) (cond (not session) (Some b) (cond (not limit) (Some c) None)) ≡ None
    → (order ≡ true) × (session ≡ true) × (limit ≡ true)
all_pass true true true a b c h = (refl, refl, refl)
all_pass true true false a b c h = absurd cc
all_pass true false limit a b c h = absurd cc
all_pass false session limit a b c h = absurd cc

-- the tests that an entry passes which breaks no rule
pub passes : (s : ScheduleParts) (entry : ScheduleEntry) → entry_fault s entry ≡ None
    → (is_in_order s.entries entry ≡ true) × (has_session (running_after s.entries) entry.what ≡ true) × (is_within_limits s entry.step entry.what ≡ true)
passes s entry h = all_pass (is_in_order s.entries entry) (has_session (running_after s.entries) entry.what) (is_within_limits s entry.step entry.what) _ _ _ h

pub follows : (s : ScheduleParts) (entry : ScheduleEntry) → entry_fault s entry ≡ None → MayFollow s s.entries entry
follows s entry h = let p = passes s entry h in record {
  order = order_from s.entries entry p.0;
  session = session_from (running_after s.entries) entry.what p.1;
  limit = limit_from s entry.step entry.what p.2;
}

pub no_fault : (s : ScheduleParts) (entry : ScheduleEntry) → MayFollow s s.entries entry → entry_fault s entry ≡ None
no_fault s entry h =
    rw (order_test s.entries entry h.order, session_test (running_after s.entries) entry.what h.session, limit_test s entry.step entry.what h.limit) refl

pub rules_are_tested : RulesAreTested
rules_are_tested s entry = (follows s entry, no_fault s entry)

-- there is room for an end within the limits
end_room : (s : ScheduleParts) (number step : ℕ) (why : EndCause) → IsEndWithin s s.entries number step why → number ≤ s.limit
end_room s number step cause.Full h = omega (arith, h.0)
end_room s number step cause.Budget h = omega (arith, h.0)
end_room s number step cause.Halt h = omega (arith, h.0)
end_room s number step cause.Overflow h = omega (arith, h.0)
end_room s number step cause.OffEnd h = omega (arith, h.0)
end_room s number step cause.Memory h = omega (arith, h.0)

pub limit_room : (s : ScheduleParts) (step : ℕ) (what : What) → IsWithinLimits s s.entries step what → length s.entries < s.limit
limit_room s step Dropped h = omega (arith, h.0.0)
limit_room s step (End why) h = omega (arith, end_room s (suc (length s.entries)) step why h)
limit_room s step Sampled h = omega (arith, h.0)
limit_room s step (Start options) h = omega (arith, h.0)
limit_room s step (Stop port session) h = omega (arith, h.0)

-- there is room for an entry that breaks no rule
pub has_room : (s : ScheduleParts) (entry : ScheduleEntry) → entry_fault s entry ≡ None → length s.entries < s.limit
has_room s entry h = limit_room s entry.step entry.what (follows s entry h).limit
