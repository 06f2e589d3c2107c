use Rattle.std.proofs.Common.{rules, refl, lit<, take}
use Rattle.code_event.specs.ItemFile.{session}
use Rattle.run_schedule.specs.Examples.{at, full_at_its_limit}
use Rattle.run_schedule.specs.Schedule.{MayFollow}
use Rattle.run_schedule.specs.declared.schedule.What.TheVariants.{Stop}
use Rattle.run_schedule.proofs.examples.schedules_that_keep_the_rules_are_legal.Goals as goal

-- the session that is stopped is the first of those that run, and its interval is 1
stop_may_follow : MayFollow full_at_its_limit (take 3 full_at_its_limit.entries) (at 3 (Stop 0 (session 1)))
stop_may_follow = record { order = search rules; session = (1, (0, lit< tt, refl)); limit = search rules }

pub returns-clause-full : goal.returns-clause-full
returns-clause-full c = record { each = (search rules, (search rules, (search rules, (stop_may_follow, (search rules, tt))))); ended = refl }
