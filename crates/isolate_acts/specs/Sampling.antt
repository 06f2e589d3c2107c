-- What taking a sample does.
use Rattle.std.specs.Prelude.{ℕ, suc, List, [], ◌∷◌, Bool, true, false, None}
use Rattle.code_event.specs.declared.tick.Item.{Item}
use Rattle.code_event.specs.declared.tick.Item.TheVariants as item
use Rattle.code_event.specs.declared.tick.Tick.{Tick}
use Rattle.run_schedule.specs.declared.schedule.What.TheVariants.{Sampled, Dropped}
use Rattle.isolate_acts.specs.Progress.{Moment, Progress, source_now, entry_time, entry_now, with_entry}

-- the tick of a sample: a hit for all sessions, with the source interval and the guest's frames
abbrev pub sample_of : Moment → Progress → ℕ → Tick
sample_of moment progress now =
    record {
      order = progress.events;
      tick_number = suc progress.ticks;
      time = entry_time progress now;
      interval = source_now progress;
      state = moment.state;
      hit = true;
      only = None;
      frames = moment.stack;
    }

-- the sample is entered: as taken where it went into the ring, else as dropped
abbrev pub after_sample : Progress → ℕ → Bool → Progress
after_sample progress now true = record (with_entry progress (entry_now progress now Sampled)) { ticks = suc progress.ticks; is_sampled = true }
after_sample progress now false = record (with_entry progress (entry_now progress now Dropped)) { is_sampled = true }

-- what it raises: its tick where it went into the ring, else nothing
abbrev pub raised_by_sample : Moment → Progress → ℕ → Bool → List Item
raised_by_sample moment progress now true = item.Tick (sample_of moment progress now) ∷ []
raised_by_sample moment progress now false = []
