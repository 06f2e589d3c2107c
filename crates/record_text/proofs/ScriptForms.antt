-- The form of a script's line: what is read is spelled so, and what is spelled so is read.
use Rattle.std.proofs.Common.{◌≡◌, ℕ, ◌<◌, ◌≤◌, ◌⊎◌, List, Option, Ok, refl, sym, subst, arith, codes, inl, inr, lit<}
use Rattle.std.proofs.Math.Bridge.{le_prop}
use Rattle.std.proofs.lemmas.Bool.{cases_lt}
use Rattle.prof_base.specs.declared.interval.TheConstants.{MAX_INTERVAL}
use Rattle.prof_base.specs.declared.ids.SessionId.{SessionId}
use Rattle.prof_lines.specs.Spelled.{HasWords, BeginsWith, IsWord}
use Rattle.prof_lines.specs.Forms.{IsForm}
use Rattle.prof_lines.proofs.Steps.{ok_same, bind_ok, chosen}
use Rattle.prof_lines.proofs.Places.{place_step, end_step}
use Rattle.prof_lines.proofs.PlainWords.{word_place, word_again}
use Rattle.prof_lines.proofs.Numbers.{number_place}
use Rattle.prof_lines.proofs.Ends.{end_again}
use Rattle.code_event.specs.declared.event.Mode.{Mode}
use Rattle.code_event.specs.declared.event.Options.{Options}
use Rattle.code_event.specs.declared.event.Command.{Command}
use Rattle.code_event.specs.declared.event.Command.TheVariants.{Start, Stop}
use Rattle.run_schedule.specs.declared.limits.TheConstants.{MAX_BUDGET}
use Rattle.record_text.specs.declared.rule.Rule.{Rule}
use Rattle.record_text.specs.declared.script.ScriptLine.{ScriptLine}
use Rattle.record_text.specs.ScriptLine.{command_name, command_operands, script_words, IsScriptCommand, IsScriptLine}
use Rattle.record_text.specs.ScriptForms.{start_within, start_every, script_start_at, script_stop_at, command_of, script_line_at}
use Rattle.record_text.proofs.RecordWords.{IsNumberPlace, session_place, interval_place, mode_place, max_place}

step_place : IsNumberPlace 0 MAX_BUDGET
step_place = number_place 0 MAX_BUDGET (lit< tt)

-- an interval is below or in its range at the low end, and in it or above at the high end
abbrev IsTestedLow : ℕ → Type 0
IsTestedLow interval = (interval < 1) ⊎ (1 ≤ interval)

abbrev IsTestedHigh : ℕ → Type 0
IsTestedHigh interval = (MAX_INTERVAL < interval) ⊎ (interval ≤ MAX_INTERVAL)

start_by : (options : Options) (low : IsTestedLow options.interval) (high : IsTestedHigh options.interval) → options.port ≡ 0
    → start_within options.interval options.mode options.max_samples low high ≡ Ok (Start options)
start_by options (inr low) (inr high) own =
    λ i. Ok (Start (record { port = sym own i; interval = options.interval; mode = options.mode; max_samples = options.max_samples; low = le_prop low options.low i; high = le_prop high options.high i }))
start_by options (inr low) (inl above) own = absurd (omega (arith, above, options.high))
start_by options (inl below) high own = absurd (omega (arith, below, options.low))

-- the start with these options
pub start_is : (options : Options) → options.port ≡ 0 → start_every options.interval options.mode options.max_samples ≡ Ok (Start options)
start_is options own = start_by options (cases_lt options.interval 1) (cases_lt MAX_INTERVAL options.interval) own

-- a start from port 0 with this interval, mode and bound, whatever shows that the interval is in its range
abbrev HoldsOfStart : (Command → Type 0) → ℕ → Mode → Option ℕ → Type 0
HoldsOfStart P interval mode max =
    (low : 1 ≤ interval) (high : interval ≤ MAX_INTERVAL) → P (Start (record { port = 0; interval = interval; mode = mode; max_samples = max; low = low; high = high }))

taken_by : (P : Command → Type 0) (interval : ℕ) (mode : Mode) (max : Option ℕ) (low : IsTestedLow interval) (high : IsTestedHigh interval) (value : Command)
    → HoldsOfStart P interval mode max → start_within interval mode max low high ≡ Ok value → P value
taken_by P interval mode max (inr low) (inr high) value holds h = subst P (ok_same _ _ h) (holds low high)
taken_by P interval mode max (inr low) (inl above) value holds h = absurd cc
taken_by P interval mode max (inl below) high value holds h = absurd cc

start_taken : (P : Command → Type 0) (interval : ℕ) (mode : Mode) (max : Option ℕ) (value : Command) → HoldsOfStart P interval mode max → start_every interval mode max ≡ Ok value → P value
start_taken P interval mode max value holds h = taken_by P interval mode max (cases_lt interval 1) (cases_lt MAX_INTERVAL interval) value holds h

-- a command in its ranges, with its name and the words after it
abbrev IsCommandSpelled : Command → List ℕ → List ℕ → Type 0
IsCommandSpelled command text bytes = IsScriptCommand command × (command_name command ≡ text) × HasWords (command_operands command) bytes

start_takes : (bytes : List ℕ) (value : Command) → script_start_at bytes ≡ Ok value → IsCommandSpelled value (codes "start") bytes
unfolding script_start_at
start_takes bytes value h =
    let a = place_step _ _ _ interval_place bytes _ value h in
    let b = place_step _ _ _ mode_place a.0.1 _ value a.3 in
    let c = place_step _ _ _ max_place b.0.1 _ value b.3 in
    let e = end_step c.0.1 _ value c.3 in
    start_taken (λ (v : Command). IsCommandSpelled v (codes "start") bytes) a.0.0 b.0.0 c.0.0 value
    (λ low high. ((refl, c.1), refl, (a.0.1, a.2, (b.0.1, b.2, (c.0.1, c.2, e.0))))) e.1

start_again : (bytes : List ℕ) (options : Options) → IsScriptCommand (Start options) → HasWords (command_operands (Start options)) bytes → script_start_at bytes ≡ Ok (Start options)
unfolding script_start_at
start_again bytes options fits s =
    rw (
      interval_place.again bytes s.0 options.interval (options.low, options.high) s.1,
      mode_place.again s.0 s.2.0 options.mode tt s.2.1,
      max_place.again s.2.0 s.2.2.0 options.max_samples fits.1 s.2.2.1,
      end_again {C = Rule} s.2.2.0 s.2.2.2,
    )
    (start_is options fits.0)

stop_takes : (bytes : List ℕ) (value : Command) → script_stop_at bytes ≡ Ok value → IsCommandSpelled value (codes "stop") bytes
unfolding script_stop_at
stop_takes bytes value h =
    let a = place_step _ _ _ session_place bytes _ value h in
    let e = end_step a.0.1 _ value a.3 in
    subst (λ (v : Command). IsCommandSpelled v (codes "stop") bytes) (ok_same _ _ e.1) (a.1, refl, (a.0.1, a.2, e.0))

stop_again : (bytes : List ℕ) (session : SessionId) → IsScriptCommand (Stop session) → HasWords (command_operands (Stop session)) bytes → script_stop_at bytes ≡ Ok (Stop session)
unfolding script_stop_at
stop_again bytes session fits s = rw (session_place.again bytes s.0 session.0 fits s.1, end_again {C = Rule} s.0 s.2) refl

command_takes : (text bytes : List ℕ) (value : Command) → command_of text bytes ≡ Ok value → IsCommandSpelled value text bytes
command_takes text bytes value h = elim (chosen text (codes "start") (script_start_at bytes) _ value h) [
  | inl p ↦ subst (λ (z : List ℕ). IsCommandSpelled value z bytes) p.0 (start_takes bytes value p.1)
  | inr q ↦ elim (chosen text (codes "stop") (script_stop_at bytes) _ value q) [
    | inl p ↦ subst (λ (z : List ℕ). IsCommandSpelled value z bytes) p.0 (stop_takes bytes value p.1)
    | inr r ↦ absurd cc
  ]
]

command_again : (bytes : List ℕ) (value : Command) → IsScriptCommand value → HasWords (command_operands value) bytes → command_of (command_name value) bytes ≡ Ok value
command_again bytes (Start options) fits s = start_again bytes options fits s
command_again bytes (Stop session) fits s = stop_again bytes session fits s

name_is_word : (value : Command) → IsWord (command_name value)
name_is_word (Start options) = record { some = lit< tt; plain = refl }
name_is_word (Stop session) = record { some = lit< tt; plain = refl }

-- a line in its ranges that has its words
abbrev IsLineSpelled : List ℕ → ScriptLine → Type 0
IsLineSpelled bytes line = IsScriptLine line × HasWords (script_words line) bytes

line_takes : (bytes : List ℕ) (value : ScriptLine) → script_line_at bytes ≡ Ok value → IsLineSpelled bytes value
unfolding script_line_at
line_takes bytes value h =
    let a = place_step _ _ _ step_place bytes _ value h in
    let b = place_step _ _ _ (word_place {C = Rule}) a.0.1 _ value a.3 in
    let c = bind_ok (command_of b.0.0 b.0.1) _ value b.3 in
    let t = command_takes b.0.0 b.0.1 c.0 c.1 in
    let begins : BeginsWith (command_name c.0) b.0.1 a.0.1 = subst (λ (z : List ℕ). BeginsWith z b.0.1 a.0.1) (sym t.1) b.2 in
    subst (IsLineSpelled bytes) (ok_same _ _ c.2) (record { step = a.1; command = t.0 }, (a.0.1, a.2, (b.0.1, begins, t.2)))

line_again : (bytes : List ℕ) (value : ScriptLine) → IsScriptLine value → HasWords (script_words value) bytes → script_line_at bytes ≡ Ok value
unfolding script_line_at
line_again bytes value fits s =
    rw (
      step_place.again bytes s.0 value.step fits.step s.1,
      word_again {C = Rule} (command_name value.command) s.2.0 s.0 (name_is_word value.command) s.2.1,
      command_again s.2.0 value.command fits.command s.2.2,
    )
    refl

-- a line is read where it is spelled, and nowhere else
pub line_form : IsForm script_line_at IsScriptLine script_words
line_form = record { takes = λ bytes value h. line_takes bytes value h; again = λ bytes value fits s. line_again bytes value fits s }
