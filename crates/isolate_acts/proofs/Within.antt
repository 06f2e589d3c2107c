-- Each act that may come keeps the numbers in their ranges.
use Rattle.std.proofs.Common.{◌≡◌, ℕ, suc, ◌+◌, ◌^◌, ◌<◌, ◌≤◌, [], ◌∷◌, ◌++◌, length, length-append, sym, subst, arith}
use Rattle.std.proofs.Math.Dec.{lit<}
use Rattle.std.specs.Prelude.{Bool, true, false, Option, Some}
use Rattle.run_schedule.specs.ScheduleParts.{HasPort}
use Rattle.run_schedule.specs.declared.limits.TheConstants.{MAX_PORT}
use Rattle.run_schedule.specs.declared.schedule.EndCause.{EndCause}
use Rattle.run_schedule.specs.declared.schedule.EndCause.TheVariants as cause
use Rattle.run_schedule.specs.declared.schedule.ScheduleEntry.{ScheduleEntry}
use Rattle.run_schedule.specs.declared.schedule.What.TheVariants as what
use Rattle.isolate.specs.RunLaws.{last_time}
use Rattle.raised_so_far.proofs.Entries.{last_time-push}
use Rattle.raised_so_far.proofs.Items.{all_joined}
use Rattle.isolate_acts.proofs.Stamped.{few_given}
use Rattle.isolate_acts.specs.Acts.{Act, passes, starts, stops, refuses, cuts_off, asks, samples, steps, ends, ends_short, act_after, cut_marks}
use Rattle.isolate_acts.specs.Phases.{Phase, at_port, asking, sampling, stepping, closing, must_end, MayAct, MayTake}
use Rattle.isolate_acts.specs.Progress.{Moment, Progress, IsWithin, entry_count, entry_time, entry_now, with_entry}
use Rattle.isolate_acts.specs.Sampling.{after_sample}

-- one more entry
pub entry_within : (p : Progress) (entry : ScheduleEntry) (events ticks : ℕ) (is_sampled : Bool) (ending : Option EndCause)
    → IsWithin p → HasPort entry.what → entry_count p < p.schedule.limit → entry.time < 2 ^ 53 → ticks ≤ suc p.ticks
    → IsWithin (record (with_entry p entry) { events = events; ticks = ticks; is_sampled = is_sampled; ending = ending })
entry_within p entry events ticks is_sampled ending within port room before few =
    let long : length (p.schedule.entries ++ entry ∷ []) ≡ length p.schedule.entries + 1 = length-append p.schedule.entries (entry ∷ []) in
    let last : last_time (p.schedule.entries ++ entry ∷ []) ≡ entry.time = last_time-push p.schedule.entries entry in
    let ticks_had = within.ticks in
    record {
      schedule = record {
        base_low = within.schedule.base_low;
        base_high = within.schedule.base_high;
        ring_low = within.schedule.ring_low;
        ring_high = within.schedule.ring_high;
        budget_low = within.schedule.budget_low;
        budget_high = within.schedule.budget_high;
        limit_low = within.schedule.limit_low;
        limit_high = within.schedule.limit_high;
        room = omega (arith, long, room);
        ports = all_joined (λ e. HasPort e.what) p.schedule.entries (entry ∷ []) within.schedule.ports (port, tt);
      };
      step = within.step;
      time = omega (arith, last, before);
      ticks = omega (arith, long, few, ticks_had);
    }

-- the time of an entry is in its range
pub small_time : (p : Progress) (now : ℕ) → entry_time p now < 2 ^ 53
small_time p now = let positive : 0 < 2 ^ 53 = lit< tt in omega arith

sample_within : (p : Progress) (now : ℕ) (is_in : Bool) → IsWithin p → suc (entry_count p) < p.schedule.limit → IsWithin (after_sample p now is_in)
sample_within p now true within room = entry_within p (entry_now p now what.Sampled) p.events (suc p.ticks) true p.ending within tt (omega arith) (small_time p now) (omega arith)
sample_within p now false within room = entry_within p (entry_now p now what.Dropped) p.events p.ticks true p.ending within tt (omega arith) (small_time p now) (omega arith)

end_within : (p : Progress) (now events : ℕ) (why : EndCause) → IsWithin p → entry_count p < p.schedule.limit
    → IsWithin (record (with_entry p (entry_now p now (what.End why))) { events = events; ending = Some why })
end_within p now events why within room = entry_within p (entry_now p now (what.End why)) events p.ticks p.is_sampled (Some why) within tt room (small_time p now) (omega arith)

-- the port that a command is taken from exists
exists : (from port commands : ℕ) → MayTake from port commands → from ≤ MAX_PORT
exists from port commands may = subst (λ n. n ≤ MAX_PORT) (sym may.port_is) may.exists

pub acts_within : (moment : Moment) (p : Progress) (phase next : Phase) (act : Act) → IsWithin p → MayAct moment p phase act next → IsWithin (act_after moment p act)
acts_within moment p (at_port port commands) next (passes from) within may = within
acts_within moment p (at_port port commands) next (starts options now is_taken) within may =
    let room = may.3 in
    entry_within p (entry_now p now (what.Start options)) (suc p.events) (suc p.ticks) p.is_sampled p.ending within (exists options.port port commands may.0) (omega arith) (small_time p now) (omega arith)
acts_within moment p (at_port port commands) next (stops from number now is_taken) within may =
    let room = may.3 in
    entry_within p (entry_now p now (what.Stop from number)) (suc p.events) p.ticks p.is_sampled p.ending within (exists from port commands may.0) (omega arith) (small_time p now) (omega arith)
acts_within moment p (at_port port commands) next (refuses from given answer is_taken) within may = within
acts_within moment p (at_port port commands) next (cuts_off from given is_marked now is_taken) within may =
    let room = may.3 in
    end_within p now (suc (p.events + length (cut_marks p given is_marked now))) cause.Memory within (omega arith)
acts_within moment p asking next (asks is_asked) within may = within
acts_within moment p sampling next (samples now is_in) within may = sample_within p now is_in within may.1
acts_within moment p stepping next (steps after events) within may =
    let few = few_given moment after p (length events) in
    let below = may.2 in
    let ticks_had = within.ticks in
    record {
      schedule = within.schedule;
      step = below;
      time = within.time;
      ticks = omega (arith, few, ticks_had);
    }
acts_within moment p stepping next (ends_short events now) within may = end_within p now (suc (p.events + length events)) cause.Memory within may.0.place
acts_within moment p closing next (ends why now) within may = end_within p now (suc p.events) why within may.0.place
acts_within moment p (must_end later) next (ends why now) within may = end_within p now (suc p.events) why within may.0.place
acts_within moment p phase next act within may = absurd may
