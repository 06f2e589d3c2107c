-- The sessions that run, kept by their numbers.
use Rattle.std.proofs.Common.{◌≡◌, ◌∙◌, ℕ, ◌+◌, ◌<◌, ◌≤◌, List, [], ◌∷◌, ◌++◌, Bool, true, false, cond, not, ◌&&◌, ◌||◌, ◌==◌, Less, Greater, is_eq, Option, Some, None, refl, sym, ap, subst, arith, add-one}
use Rattle.std.specs.Prelude.{filter}
use Rattle.std.specs.List.{AllByRecursion}
use Rattle.std.specs.List.Sorted.{IsStrictlySortedBy}
use Rattle.std.specs.Map.{keys_of, lookup, remove_entry}
use Rattle.std.specs.Ordering.{nat_cmp}
use Rattle.std.specs.BTreeMap.{insert_entry, is_at}
use Rattle.std.proofs.Math.Bool.{or-false}
use Rattle.std.proofs.lemmas.Bool.Decides.{nat_tests}
use Rattle.code_event.proofs.EachElement.{all_mapped, all_pushed}
use Rattle.prof_base.specs.declared.ids.SessionId.{SessionId}
use Rattle.code_event.specs.declared.event.Options.{Options}
use Rattle.run_schedule.specs.declared.schedule.What.TheVariants.{Start, Stop}
use Rattle.run_schedule.specs.Schedule.{Running, Course, course_after}
use Rattle.record_text.specs.declared.schedule_sessions.RunningSession.{RunningSession}
use Rattle.record_text.specs.ScheduleRules.{is_running}
use Rattle.record_text.specs.ScheduleSessions.{running_of, all_running, AreNumbered}

abbrev Kept : Type 0
Kept = ℕ × RunningSession

-- a look-up finds a number where it is the key
found_at : (session key : ℕ) → is_eq (nat_cmp session key) ≡ (key == session)
found_at session key = grind (arith, nat_tests)

-- the key that comes first is below the others
abbrev AllAbove : ℕ → List Kept → Type 0
AllAbove key kept = AllByRecursion (λ other. nat_cmp key other ≡ Less) (keys_of kept)

above_apart : (key other session : ℕ) → nat_cmp key other ≡ Less → (key == session) ≡ true → (other == session) ≡ false
above_apart key other session h e = grind (arith, nat_tests)

none_above : (key session port : ℕ) (kept : List Kept) → AllAbove key kept → (key == session) ≡ true → is_running (all_running kept) port session ≡ false
none_above key session port [] above e = refl
none_above key session port (one ∷ kept) above e = rw (above_apart key one.0 session above.0 e) (none_above key session port kept above.1 e)

-- what is kept at a number is from this port
abbrev is_from : ℕ → Option RunningSession → Bool
is_from port None = false
is_from port (Some one) = one.port == port

runs_by : (session port : ℕ) (one : Kept) (kept : List Kept) (t : Bool) → (one.0 == session) ≡ t → AllAbove one.0 kept → is_from port (lookup (is_at (nat_cmp session)) kept) ≡ is_running (all_running kept) port session
    → is_from port (cond t (Some one.1) (lookup (is_at (nat_cmp session)) kept)) ≡ ((t && one.1.port == port) || is_running (all_running kept) port session)
runs_by session port one kept true e above later = rw (none_above one.0 session port kept above e) (sym (or-false (one.1.port == port)))
runs_by session port one kept false e above later = later

-- a session runs where it is found from its port
pub runs_where_found : (session port : ℕ) (kept : List Kept) → IsStrictlySortedBy nat_cmp (keys_of kept) → is_from port (lookup (is_at (nat_cmp session)) kept) ≡ is_running (all_running kept) port session
unfolding IsStrictlySortedBy
runs_where_found session port [] rising = refl
runs_where_found session port (one ∷ kept) rising =
    rw (found_at session one.0) (runs_by session port one kept (one.0 == session) refl rising.0 (runs_where_found session port kept rising.1))

pub found_runs : (session port : ℕ) (kept : List Kept) (one : RunningSession) → IsStrictlySortedBy nat_cmp (keys_of kept) → Some one ≡ lookup (is_at (nat_cmp session)) kept
    → (one.port == port) ≡ is_running (all_running kept) port session
found_runs session port kept one rising is = ap (is_from port) is ∙ runs_where_found session port kept rising

pub missing_runs : (session port : ℕ) (kept : List Kept) → IsStrictlySortedBy nat_cmp (keys_of kept) → None ≡ lookup (is_at (nat_cmp session)) kept
    → false ≡ is_running (all_running kept) port session
missing_runs session port kept rising is = ap (is_from port) is ∙ runs_where_found session port kept rising

after_last : (key n : ℕ) → n < key → nat_cmp key n ≡ Greater
after_last key n h = grind (arith, nat_tests)

-- a number above all others comes last
inserted_last : (started : ℕ) (one : RunningSession) (kept : List Kept) → AllByRecursion (λ x. x.0 ≤ started) kept → insert_entry nat_cmp kept (started + 1) one ≡ kept ++ (started + 1, one) ∷ []
inserted_last started one [] bound = refl
inserted_last started one (first ∷ kept) bound =
    let last : nat_cmp (started + 1) first.0 ≡ Greater = after_last (started + 1) first.0 (omega (arith, bound.0)) in
    rw last (ap (λ (z : List Kept). first ∷ z) (inserted_last started one kept bound.1))

running_more : (kept : List Kept) (one : Kept) → all_running (kept ++ one ∷ []) ≡ all_running kept ++ running_of one ∷ []
running_more [] one = refl
running_more (first ∷ kept) one = ap (λ (z : List Running). running_of first ∷ z) (running_more kept one)

with_one : (started : ℕ) (one : RunningSession) (kept more : List Kept) → AreNumbered started kept → more ≡ insert_entry nat_cmp kept (started + 1) one
    → all_running more ≡ all_running kept ++ running_of (started + 1, one) ∷ []
with_one started one kept more are is = ap all_running (is ∙ inserted_last started one kept are.bound) ∙ running_more kept (started + 1, one)

abbrev course_of : ℕ → List Running → Course
course_of started running = record { started = started; running = running }

-- the sessions after a start, as they are kept
pub started_one : (before : Course) (started : ℕ) (options : Options) (kept more : List Kept) → course_of started (all_running kept) ≡ before → AreNumbered started kept
    → more ≡ insert_entry nat_cmp kept (started + 1) (record { port = options.port; interval = options.interval }) → course_of (started + 1) (all_running more) ≡ course_after before (Start options)
started_one before started options kept more view are is =
    let one : RunningSession = record { port = options.port; interval = options.interval } in
    let next : ℕ → Course = λ n. course_of n (all_running kept ++ running_of (n, one) ∷ []) in
    ap (course_of (started + 1)) (with_one started one kept more are is) ∙ ap next (add-one started) ∙ ap (λ (z : Course). course_after z (Start options)) view

pub numbered_more : (started : ℕ) (one : RunningSession) (kept more : List Kept) → AreNumbered started kept → more ≡ insert_entry nat_cmp kept (started + 1) one
    → IsStrictlySortedBy nat_cmp (keys_of more) → AreNumbered (started + 1) more
numbered_more started one kept more are is rising = record {
  rising = rising;
  bound = subst (λ (z : List Kept). AllByRecursion (λ x. x.0 ≤ started + 1) z) (sym (is ∙ inserted_last started one kept are.bound))
      (all_pushed (λ x. x.0 ≤ started + 1) kept (started + 1, one) (all_mapped (λ x. x.0 ≤ started) (λ x. x.0 ≤ started + 1) kept (λ x h. omega (arith, h)) are.bound) (omega arith));
}

-- all but the session with this number
abbrev all_but : ℕ → List Running → List Running
all_but session running = filter (λ one. not (one.session == session)) running

none_out : (key session : ℕ) (kept : List Kept) → AllAbove key kept → (key == session) ≡ true → all_but session (all_running kept) ≡ all_running kept
none_out key session [] above e = refl
none_out key session (one ∷ kept) above e = rw (above_apart key one.0 session above.0 e) (ap (λ (z : List Running). running_of one ∷ z) (none_out key session kept above.1 e))

without_by : (session : ℕ) (one : Kept) (kept : List Kept) (t : Bool) → (one.0 == session) ≡ t → AllAbove one.0 kept → all_running (remove_entry (is_at (nat_cmp session)) kept) ≡ all_but session (all_running kept)
    → all_running (cond t kept (one ∷ remove_entry (is_at (nat_cmp session)) kept)) ≡ cond (not t) (running_of one ∷ all_but session (all_running kept)) (all_but session (all_running kept))
without_by session one kept true e above later = sym (none_out one.0 session kept above e)
without_by session one kept false e above later = ap (λ (z : List Running). running_of one ∷ z) later

without_at : (session : ℕ) (kept : List Kept) → IsStrictlySortedBy nat_cmp (keys_of kept) → all_running (remove_entry (is_at (nat_cmp session)) kept) ≡ all_but session (all_running kept)
unfolding IsStrictlySortedBy
without_at session [] rising = refl
without_at session (one ∷ kept) rising =
    rw (found_at session one.0) (without_by session one kept (one.0 == session) refl rising.0 (without_at session kept rising.1))

-- the sessions after a stop, as they are kept
pub stopped_one : (before : Course) (started port : ℕ) (session : SessionId) (kept fewer : List Kept) → course_of started (all_running kept) ≡ before → AreNumbered started kept
    → fewer ≡ remove_entry (is_at (nat_cmp session.0)) kept → course_of started (all_running fewer) ≡ course_after before (Stop port session)
stopped_one before started port session kept fewer view are is =
    ap (course_of started) (ap all_running is ∙ without_at session.0 kept are.rising) ∙ ap (λ (z : Course). course_after z (Stop port session)) view

bound_by : (started : ℕ) (one : Kept) (kept fewer : List Kept) (t : Bool) → one.0 ≤ started → AllByRecursion (λ x. x.0 ≤ started) kept → AllByRecursion (λ x. x.0 ≤ started) fewer
    → AllByRecursion (λ x. x.0 ≤ started) (cond t kept (one ∷ fewer))
bound_by started one kept fewer true first all later = all
bound_by started one kept fewer false first all later = (first, later)

bound_without : (started session : ℕ) (kept : List Kept) → AllByRecursion (λ x. x.0 ≤ started) kept → AllByRecursion (λ x. x.0 ≤ started) (remove_entry (is_at (nat_cmp session)) kept)
bound_without started session [] all = tt
bound_without started session (one ∷ kept) all =
    bound_by started one kept (remove_entry (is_at (nat_cmp session)) kept) (is_at (nat_cmp session) one.0) all.0 all.1 (bound_without started session kept all.1)

pub numbered_fewer : (session started : ℕ) (kept fewer : List Kept) → AreNumbered started kept → fewer ≡ remove_entry (is_at (nat_cmp session)) kept
    → IsStrictlySortedBy nat_cmp (keys_of fewer) → AreNumbered started fewer
numbered_fewer session started kept fewer are is rising = record {
  rising = rising;
  bound = subst (λ (z : List Kept). AllByRecursion (λ x. x.0 ≤ started) z) (sym is) (bound_without started session kept are.bound);
}
