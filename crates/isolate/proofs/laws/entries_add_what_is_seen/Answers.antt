use Rattle.std.proofs.Common.{List, [], ◌∷◌, ◌++◌, ap, sym, ◌∙◌}
use Rattle.std.specs.Prelude.{true, None}
use Rattle.code_event.specs.Seen.{Seen}
use Rattle.run_schedule.specs.Schedule.{none_yet, course_on}
use Rattle.isolate.specs.PlainFile.{seen_of, seen_on, tick_at}
use Rattle.isolate.specs.RunLaws.{given_up_until}
use Rattle.isolate.proofs.EntriesMore.{seen_behind-push, source_after-length}
use Rattle.isolate.proofs.laws.entries_add_what_is_seen.Goals as goal

pub returns-clause-entries : goal.returns-clause-entries
returns-clause-entries c funcs base entries next = seen_behind-push funcs base none_yet 0 0 entries next

pub returns-clause-interval : goal.returns-clause-interval
returns-clause-interval c funcs schedule before after entry parts sampled =
    let earlier : List Seen = seen_on funcs schedule.base before ++ given_up_until funcs before entry.step in
    seen_behind-push funcs schedule.base none_yet 0 0 before entry
    ∙ ap (λ what. earlier ++ seen_of funcs schedule.base (course_on none_yet before) entry.step entry.time what) sampled
    ∙ ap (λ interval. earlier ++ tick_at funcs entry.step entry.time interval true None ∷ []) (sym (source_after-length schedule before (entry ∷ after) parts))
