-- The schedule of a run under the step clock, which reads the time as the number of steps.
use Rattle.std.specs.Prelude.{◌≡◌, ℕ, zero, suc, ◌-◌, ◌%◌, ◌≤◌, List, [], ◌∷◌, ◌++◌, length, take, Bool, not, ◌&&◌, ◌==◌, nat_le, None, if◌then◌else◌}
use Rattle.guest_program.specs.declared.instr.Func.{Func}
use Rattle.code_event.specs.declared.event.Options.{Options}
use Rattle.code_event.specs.declared.event.Mode.TheVariants.{Leaf}
use Rattle.run_schedule.specs.declared.schedule.EndCause.{EndCause}
use Rattle.run_schedule.specs.declared.schedule.EndCause.TheVariants as cause
use Rattle.run_schedule.specs.declared.schedule.What.{What}
use Rattle.run_schedule.specs.declared.schedule.What.TheVariants.{Sampled, Start, End}
use Rattle.run_schedule.specs.declared.schedule.ScheduleEntry.{ScheduleEntry}
use Rattle.isolate.specs.Fits.{MayEndFor}

-- this happens at a step, which is the time too
abbrev pub entry_at : ℕ → What → ScheduleEntry
entry_at step what = record { step = step; time = step; what = what }

-- a sample is taken after `step` steps, for each `step` above 0 that is a multiple of the interval
abbrev pub is_asked : ℕ → ℕ → Bool
is_asked every step = not (step == 0) && step % every == 0

-- the samples that are taken after fewer steps than this
abbrev pub samples_before : ℕ → ℕ → List ScheduleEntry
samples_before every zero = []
samples_before every (suc step) = samples_before every step ++ (if is_asked every step then entry_at step Sampled ∷ [] else [])

-- what happens before the end at this step: the start, and the samples
abbrev pub entries_before : Options → ℕ → List ScheduleEntry
entries_before options step = entry_at 0 (Start options) ∷ samples_before options.interval step

-- the step of the last of these entries
abbrev pub last_step : List ScheduleEntry → ℕ
last_step [] = 0
last_step (entry ∷ []) = entry.step
last_step (entry ∷ next ∷ entries) = last_step (next ∷ entries)

-- these entries and an end after them; where they leave no room for it, the first that fit, and in the last place an end for the cause `full`
abbrev pub with_end : ℕ → List ScheduleEntry → ScheduleEntry → List ScheduleEntry
with_end limit entries end =
    if nat_le (limit - 1) (length entries)
    then take (limit - 1) entries ++ entry_at (last_step (take (limit - 1) entries)) (End cause.Full) ∷ []
    else entries ++ end ∷ []

-- what `run` records: for port 0, at this interval, in mode leaf and with all samples
pub record IsWholeRecording (every : ℕ) (options : Options) : Type 0 where
  pub port : options.port ≡ 0
  pub interval : options.interval ≡ every
  pub mode : options.mode ≡ Leaf
  pub all : options.max_samples ≡ None

-- the guest ends at this step and for this cause, or the steps reach the budget before it does
abbrev pub EndsWithin : List Func → ℕ → ℕ → EndCause → Type 0
EndsWithin funcs budget step cause.Budget = (step ≡ budget) × MayEndFor funcs step cause.Budget
EndsWithin funcs budget step cause.Full = ⊥
EndsWithin funcs budget step cause.Memory = ⊥
EndsWithin funcs budget step cause = (step ≤ budget) × MayEndFor funcs step cause

-- the entries of a run that samples at this interval, with this budget of steps and at most `limit` entries
pub record IsStepClock (funcs : List Func) (every budget limit : ℕ) (entries : List ScheduleEntry) : Type 0 where
  pub options : Options
  pub recording : IsWholeRecording every options
  pub step : ℕ
  pub cause : EndCause
  pub ends : EndsWithin funcs budget step cause
  pub made : entries ≡ with_end limit (entries_before options step) (entry_at step (End cause))
