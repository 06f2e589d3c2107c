-- What each call of the ports returned, where these entries were left.
use Rattle.std.proofs.Common.{◌≡◌, ℕ, List, refl, ap, sym, subst, ◌∙◌, arith}
use Rattle.std.proofs.lemmas.Bool.Decides.{nat_tests}
use Rattle.std.specs.Prelude.{Bool, true, false, ◌==◌, Option, Some, None, if◌then◌else◌}
use Rattle.code_event.specs.declared.event.Command.{Command}
use Rattle.code_event.specs.declared.event.Command.TheVariants as command
use Rattle.run_schedule.specs.ScheduleParts.{port_of}
use Rattle.run_schedule.specs.declared.schedule.ScheduleEntry.{ScheduleEntry}
use Rattle.run_schedule.specs.declared.schedule.What.{What}
use Rattle.run_schedule.specs.declared.schedule.What.TheVariants.{Sampled, Dropped, Start, Stop, End}
use Rattle.isolate_acts.specs.Calls.{Call, commanded, answered, asked, read, told}
use Rattle.port_calls.proofs.Answering.{EachCall, each_call}
use Rattle.schedule_ports.specs.ScheduleCalls.{AreBySchedule, by_schedule, command_at, command_of, is_asked_at, left_after, next_of, time_next}

-- what a call returned
abbrev pub IsBySchedule : List ScheduleEntry → Call → Type 0
IsBySchedule left (commanded port step given) = given ≡ command_at port step (next_of left)
IsBySchedule left (answered port answer place is_taken) = is_taken ≡ true
IsBySchedule left (asked step result) = result ≡ is_asked_at step (next_of left)
IsBySchedule left (read step now) = now ≡ time_next (next_of left)
IsBySchedule left (told interval) = Unit {0}

-- what each of these calls returned
abbrev pub EachBySchedule : List ScheduleEntry → List Call → Type 0
EachBySchedule left calls = EachCall IsBySchedule left_after left calls

same_given : (port step : ℕ) (a b : Option Command) → commanded port step a ≡ commanded port step b → a ≡ b
same_given port step a b same = cc

same_asked : (step : ℕ) (a b : Bool) → asked step a ≡ asked step b → a ≡ b
same_asked step a b same = cc

same_read : (step a b : ℕ) → read step a ≡ read step b → a ≡ b
same_read step a b same = cc

is_by_schedule : (left : List ScheduleEntry) (call : Call) → call ≡ by_schedule left call → IsBySchedule left call
is_by_schedule left (commanded port step given) same = same_given port step given (command_at port step (next_of left)) same
is_by_schedule left (answered port answer place is_taken) same = cc
is_by_schedule left (asked step result) same = same_asked step result (is_asked_at step (next_of left)) same
is_by_schedule left (read step now) same = same_read step now (time_next (next_of left)) same
is_by_schedule left (told interval) same = tt

pub each_by_schedule : (left : List ScheduleEntry) (calls : List Call) → AreBySchedule left calls → EachBySchedule left calls
each_by_schedule left calls same = each_call by_schedule left_after IsBySchedule is_by_schedule left calls same

-- what is entered for a command of a port
abbrev pub commanded_by : ℕ → Command → What
commanded_by port (command.Start options) = Start options
commanded_by port (command.Stop number) = Stop port number

pub same_number : (a b : ℕ) → (a == b) ≡ true → a ≡ b
same_number a b same = grind (arith, nat_tests)

pub number_same : (a b : ℕ) → a ≡ b → (a == b) ≡ true
number_same a b same = grind (arith, nat_tests)

same_command : (a b : Command) → Some a ≡ Some b → a ≡ b
same_command a b same = cc

-- an entry of which a command comes is for that command
of_what : (w : What) (port : ℕ) (given : Command) → Some given ≡ command_of port w → w ≡ commanded_by port given
of_what (Start options) port given same = by_port (options.port == port) same where
  by_port : (b : Bool) → Some given ≡ (if b then Some (command.Start options) else None) → Start options ≡ commanded_by port given
  by_port true same = sym (ap (commanded_by port) (same_command given (command.Start options) same))
  by_port false same = absurd (cc same)
of_what (Stop from number) port given same = by_port (from == port) refl same where
  by_port : (b : Bool) → (from == port) ≡ b → Some given ≡ (if b then Some (command.Stop number) else None) → Stop from number ≡ commanded_by port given
  by_port true is same = ap (λ (n : ℕ). Stop n number) (same_number from port is) ∙ sym (ap (commanded_by port) (same_command given (command.Stop number) same))
  by_port false is same = absurd (cc same)
of_what Sampled port given same = absurd (cc same)
of_what Dropped port given same = absurd (cc same)
of_what (End why) port given same = absurd (cc same)

-- a command that was given is that of the entry that comes next, at its step
pub record IsGiven (port step : ℕ) (given : Command) (e : ScheduleEntry) : Type 0 where
  pub at : e.step ≡ step
  pub what : e.what ≡ commanded_by port given

pub given_is : (e : ScheduleEntry) (port step : ℕ) (given : Command) → Some given ≡ command_at port step (Some e) → IsGiven port step given e
given_is e port step given same = by_step (e.step == step) refl same where
  by_step : (b : Bool) → (e.step == step) ≡ b → Some given ≡ (if b then command_of port e.what else None) → IsGiven port step given e
  by_step true is same = record { at = same_number e.step step is; what = of_what e.what port given same }
  by_step false is same = absurd (cc same)

same_port : (a b : ℕ) → Some a ≡ Some b → a ≡ b
same_port a b same = cc

some_none : (b : Bool) (given : Command) → b ≡ true → None ≡ (if b then Some given else None) → ⊥
some_none true given is same = cc
some_none false given is same = cc

not_of : (w : What) (port from : ℕ) → port_of w ≡ Some from → None ≡ command_of port w → from ≡ port → ⊥
not_of (Start options) port from own none same = some_none (options.port == port) (command.Start options) (number_same options.port port (same_port options.port from own ∙ same)) none
not_of (Stop own_port number) port from own none same = some_none (own_port == port) (command.Stop number) (number_same own_port port (same_port own_port from own ∙ same)) none
not_of Sampled port from own none same = cc
not_of Dropped port from own none same = cc
not_of (End why) port from own none same = cc

-- where a port gave no command, the entry that comes next at this step is not for it
pub none_given : (e : ScheduleEntry) (port step from : ℕ) → None ≡ command_at port step (Some e) → e.step ≡ step → port_of e.what ≡ Some from → from ≡ port → ⊥
none_given e port step from none at own same =
    not_of e.what port from own (subst (λ (b : Bool). None ≡ (if b then command_of port e.what else None)) (number_same e.step step at) none) same
