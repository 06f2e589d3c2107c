use Rattle.code_event.proofs.Subsamples.{subsamples_add_up, each_tick_is_chosen_or_not}
use Rattle.code_event.proofs.laws.recordings.kept_ticks_are_those_at_which_intervals_add_up.Goals as goal

pub returns : goal.returns
returns c = record { kept = subsamples_add_up; each = each_tick_is_chosen_or_not }
