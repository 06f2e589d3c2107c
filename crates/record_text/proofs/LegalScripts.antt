-- That the rules of scripts are those of schedules, over the entries that lines stand for.
use Rattle.std.proofs.Common.{◌≡◌, ◌∙◌, ℕ, suc, ◌<◌, ◌≤◌, ◌+◌, ◌==◌, List, [], ◌∷◌, ◌++◌, length, filter, Bool, true, false, ◌||◌, nat_lt, Some, None, refl, sym, ap, subst, arith, inl, inr}
use Rattle.std.specs.List.{AllByRecursion}
use Rattle.std.proofs.lemmas.Bool.{or_parts, or_cases, ltb-false, le-ltb, leb-false, lt-leb, eqb-true, eq-eqb, not-false, cond_both}
use Rattle.std.proofs.lemmas.List.{length-map}
use Rattle.prof_base.proofs.Ordered.{Has, has_from_contains, contains_from_has}
use Rattle.prof_lines.specs.Values.{Keeps}
use Rattle.code_event.specs.declared.event.Command.{Command}
use Rattle.code_event.specs.declared.event.Command.TheVariants.{Start, Stop}
use Rattle.code_event.specs.declared.event.TheConstants.{MAX_SESSIONS}
use Rattle.run_schedule.specs.declared.schedule.ScheduleEntry.{ScheduleEntry}
use Rattle.run_schedule.specs.Schedule.{Running, Course, none_yet, course_after, course_on, is_sample, is_end, MayStandBehind, IsInOrder, HasSession, IsWithinLimits, EachMayFollow}
use Rattle.run_schedule.specs.ScheduleParts.{ScheduleParts, port_of}
use Rattle.record_text.specs.declared.script.ScriptLine.{ScriptLine}
use Rattle.record_text.specs.ScriptLine.{IsScriptCommand, IsScriptLine}
use Rattle.record_text.specs.ScriptRules.{what_of, entry_of, script_entries, running_after_lines, is_passed_by, is_running, breaks_session, script_fault}
use Rattle.record_text.specs.ScriptLaws.{AreScriptLines, OrderIsThatOfSchedules, SessionIsThatOfSchedules, ScriptsAreLegal}
use Rattle.record_text.specs.Scripts.{FitsAfter, IsScript}
use Rattle.record_text.proofs.ScriptSessions.{entries_more, no_fault}

-- ---- Order

own_port : (command : Command) (port : ℕ) → IsScriptCommand command → port_of (what_of command) ≡ Some port → port ≡ 0
own_port (Start options) port fits h = let same : options.port ≡ port = cc in sym same ∙ fits.0
own_port (Stop session) port fits h = let same : 0 ≡ port = cc in sym same

no_sample : (command : Command) → is_sample (what_of command) ≡ true → ⊥
no_sample (Start options) h = absurd cc
no_sample (Stop session) h = absurd cc

no_end : (command : Command) → is_end (what_of command) ≡ false
no_end (Start options) = refl
no_end (Stop session) = refl

stands_behind : (line earlier : ScriptLine) → IsScriptLine earlier → earlier.step ≤ line.step → MayStandBehind (entry_of line) (entry_of earlier)
stands_behind line earlier fits h = record {
  step = h;
  time = omega arith;
  going_on = no_end earlier.command;
  one_sample = λ same sample. absurd (no_sample earlier.command sample);
  ports = λ first second same is_first is_second. omega (arith, own_port earlier.command first fits.command is_first);
}

order_from : (before : List ScriptLine) (line : ScriptLine) → AreScriptLines before → is_passed_by line.step before ≡ false → IsInOrder (script_entries before) (entry_of line)
order_from [] line are h = tt
order_from (earlier ∷ before) line are h =
    let parts = or_parts (nat_lt line.step earlier.step) (is_passed_by line.step before) h in
    (stands_behind line earlier are.0 (ltb-false line.step earlier.step parts.0), order_from before line are.1 parts.1)

order_to : (before : List ScriptLine) (line : ScriptLine) → IsInOrder (script_entries before) (entry_of line) → is_passed_by line.step before ≡ false
order_to [] line h = refl
order_to (earlier ∷ before) line h = rw (le-ltb line.step earlier.step h.0.step) (order_to before line h.1)

pub order_is : OrderIsThatOfSchedules
order_is before line are = (order_from before line are, order_to before line)

-- ---- Session

-- all were started from port 0
abbrev AreOwn : List Running → Type 0
AreOwn running = AllByRecursion (λ one. one.port ≡ 0) running

own_more : (running : List Running) (one : Running) → AreOwn running → one.port ≡ 0 → AreOwn (running ++ one ∷ [])
own_more [] one are own = (own, tt)
own_more (first ∷ running) one are own = (are.0, own_more running one are.1 own)

own_fewer : (p : Running → Bool) (running : List Running) → AreOwn running → AreOwn (filter p running)
own_fewer p [] are = tt
own_fewer p (one ∷ running) are =
    cond_both (p one) (one ∷ filter p running) (filter p running) AreOwn (λ e. (are.0, own_fewer p running are.1)) (λ e. own_fewer p running are.1)

own_after : (course : Course) (command : Command) → IsScriptCommand command → AreOwn course.running → AreOwn (course_after course (what_of command)).running
own_after course (Start options) fits are = own_more course.running _ are fits.0
own_after course (Stop session) fits are = own_fewer _ course.running are

own_on : (course : Course) (lines : List ScriptLine) → AreScriptLines lines → AreOwn course.running → AreOwn (course_on course (script_entries lines)).running
own_on course [] fits are = are
own_on course (line ∷ lines) fits are = own_on (course_after course (what_of line.command)) lines fits.1 (own_after course line.command fits.0.command are)

-- a session of port 0
abbrev own_session : ℕ → ℕ → Running
own_session session interval = record { session = session; port = 0; interval = interval }

runs_from : (running : List Running) (n : ℕ) → AreOwn running → is_running running n ≡ true → (interval : ℕ) × Has running (own_session n interval)
runs_from [] n are h = absurd cc
runs_from (one ∷ running) n are h = elim (or_cases (one.session == n) (is_running running n) h) [
  | inl e ↦ let same : one.session ≡ n = eqb-true one.session n e in (one.interval, inl (λ i. record { session = same i; port = are.0 i; interval = one.interval }))
  | inr later ↦ let rest = runs_from running n are.1 later in (rest.0, inr rest.1)
]

or_true : (b : Bool) → (b || true) ≡ true
or_true true = refl
or_true false = refl

runs_to : (running : List Running) (n interval : ℕ) → Has running (own_session n interval) → is_running running n ≡ true
runs_to [] n interval h = absurd h
runs_to (one ∷ running) n interval (inl e) = rw (eq-eqb one.session n (ap (λ (z : Running). z.session) e)) refl
runs_to (one ∷ running) n interval (inr h) = rw (runs_to running n interval h) (or_true (one.session == n))

session_from : (running : List Running) (command : Command) → AreOwn running → breaks_session running command ≡ false → HasSession running (what_of command)
session_from running (Start options) are h = leb-false MAX_SESSIONS (length running) h
session_from running (Stop session) are h =
    let runs = runs_from running session.0 are (not-false (is_running running session.0) h) in
    (runs.0, contains_from_has running (own_session session.0 runs.0) runs.1)

session_to : (running : List Running) (command : Command) → HasSession running (what_of command) → breaks_session running command ≡ false
session_to running (Start options) h = lt-leb MAX_SESSIONS (length running) h
session_to running (Stop session) h = rw (runs_to running session.0 h.0 (has_from_contains running (own_session session.0 h.0) h.1)) refl

pub session_is : SessionIsThatOfSchedules
session_is before line are = (session_from (running_after_lines before) line.command (own_on none_yet before are tt), session_to (running_after_lines before) line.command)

-- ---- all lines

within : (schedule : ScheduleParts) (before : List ScheduleEntry) (step : ℕ) (command : Command) → suc (length before) < schedule.limit → step < schedule.budget
    → IsWithinLimits schedule before step (what_of command)
within schedule before step (Start options) room below = (room, below)
within schedule before step (Stop session) room below = (room, below)

all_more : (before : List ScriptLine) (line : ScriptLine) → AreScriptLines before → IsScriptLine line → AreScriptLines (before ++ line ∷ [])
all_more [] line are fits = (fits, tt)
all_more (first ∷ before) line are fits = (are.0, all_more before line are.1 fits)

length_more : (before : List ScriptLine) (line : ScriptLine) → length (before ++ line ∷ []) ≡ suc (length before)
length_more [] line = refl
length_more (first ∷ before) line = ap (λ (n : ℕ). suc n) (length_more before line)

-- there is room for these lines after those
record HasRoomAfter (schedule : ScheduleParts) (before lines : List ScriptLine) : Type 0 where
  entries : length before + length lines < schedule.limit
  steps : AllByRecursion (λ line. line.step < schedule.budget) lines

room_later : (schedule : ScheduleParts) (before lines : List ScriptLine) (line : ScriptLine) → HasRoomAfter schedule before (line ∷ lines) → HasRoomAfter schedule (before ++ line ∷ []) lines
room_later schedule before lines line room = record { entries = omega (arith, room.entries, length_more before line); steps = room.steps.1 }

fits_all : (before lines : List ScriptLine) → Keeps FitsAfter script_fault before lines → AreScriptLines lines
fits_all before [] h = tt
fits_all before (line ∷ lines) h = (h.0, fits_all (before ++ line ∷ []) lines h.2)

-- the numbers of a script are in their ranges
pub in_range : (script : List ScriptLine) → IsScript script → AreScriptLines script
in_range script is = fits_all [] script is

follow_from : (schedule : ScheduleParts) (before lines : List ScriptLine) → AreScriptLines before → HasRoomAfter schedule before lines → Keeps FitsAfter script_fault before lines
    → EachMayFollow schedule (script_entries before) (script_entries lines)
follow_from schedule before [] are room keeps = tt
follow_from schedule before (line ∷ lines) are room keeps =
    let none = no_fault before line keeps.1 in
    let number : suc (length (script_entries before)) < schedule.limit = omega (arith, room.entries, length-map before entry_of) in (
      record {
        order = (order_is before line are).0 none.0;
        session = (session_is before line are).0 none.1;
        limit = within schedule (script_entries before) line.step line.command number room.steps.0;
      },
      subst (λ (z : List ScheduleEntry). EachMayFollow schedule z (script_entries lines)) (entries_more before line)
          (follow_from schedule (before ++ line ∷ []) lines (all_more before line are keeps.0) (room_later schedule before lines line room) keeps.2),
    )

follow_to : (schedule : ScheduleParts) (before lines : List ScriptLine) → AreScriptLines before → AreScriptLines lines → EachMayFollow schedule (script_entries before) (script_entries lines)
    → Keeps FitsAfter script_fault before lines
follow_to schedule before [] are fit follow = tt
follow_to schedule before (line ∷ lines) are fit follow =
    let none : script_fault before line ≡ None = rw ((order_is before line are).1 follow.0.order, (session_is before line are).1 follow.0.session) refl in (
      fit.0,
      none,
      follow_to schedule (before ++ line ∷ []) lines (all_more before line are fit.0) fit.1
          (subst (λ (z : List ScheduleEntry). EachMayFollow schedule z (script_entries lines)) (sym (entries_more before line)) follow.1),
    )

pub scripts_are_legal : ScriptsAreLegal
scripts_are_legal schedule lines room = (
  λ is. (in_range lines is, follow_from schedule [] lines tt (record { entries = omega (arith, room.entries); steps = room.steps }) is),
  λ legal. follow_to schedule [] lines tt legal.0 legal.1,
)
