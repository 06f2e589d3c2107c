-- What an isolate keeps beside its schedule, so that it need not be searched.
use Rattle.std.specs.Prelude.{◌≡◌, ℕ, suc, ◌+◌, ◌*◌, ◌^◌, ◌≤◌, List, length, Bool, ◌&&◌, ◌==◌}
use Rattle.code_event.specs.declared.event.TheConstants.{MAX_SESSIONS}
use Rattle.prof_base.specs.declared.interval.TheConstants.{MAX_INTERVAL}
use Rattle.run_schedule.specs.Schedule.{Running, Course, none_yet, course_on}
use Rattle.run_schedule.specs.declared.schedule.What.{What}
use Rattle.run_schedule.specs.declared.schedule.What.TheVariants.{Start}
use Rattle.isolate.specs.RunLaws.{last_time}
use Rattle.isolate_acts.specs.Progress.{Progress, IsWithin, entry_count}

-- the base interval, and the sessions that were started and that run
pub record SessionsSoFar : Type 0 where
  pub base : ℕ
  pub course : Course

-- it is the session with this number, which this port started
abbrev pub is_session_of : ℕ → ℕ → Running → Bool
is_session_of port number running = (running.session == number) && (running.port == port)

-- a start leaves the sessions within their limit, and its interval is in range
abbrev pub IsStartable : List Running → What → Type 0
IsStartable running (Start options) = (suc (length running) ≤ MAX_SESSIONS) × (options.interval ≤ MAX_INTERVAL)
IsStartable running other = Unit {0}

-- what is kept agrees with the schedule: the time of the last entry, and the sessions. At most as many sessions were started as there are entries, and the opening, each step and each entry raised at most 2 ^ 32 events.
pub record IsHeld (progress : Progress) (latest : ℕ) (sessions : SessionsSoFar) : Type 0 where
  pub within : IsWithin progress
  pub latest_is : latest ≡ last_time progress.schedule.entries
  pub sessions_are : sessions ≡ record { base = progress.schedule.base; course = course_on none_yet progress.schedule.entries }
  pub few_started : sessions.course.started ≤ entry_count progress
  pub few_events : progress.events ≤ (progress.step + entry_count progress + 1) * 2 ^ 32
