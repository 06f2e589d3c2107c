use Rattle.record_text.proofs.ScheduleOrder.{order_is_tested}
use Rattle.record_text.proofs.ScheduleRules.{session_is_tested, limit_is_tested, rules_are_tested}
use Rattle.record_text.proofs.ScheduleRanges.{legal_schedules_keep_rules}
use Rattle.record_text.proofs.laws.schedules.the_rules_of_the_text_are_those_of_schedules.Goals as goal

pub returns : goal.returns
returns c = record { order = order_is_tested; session = session_is_tested; limit = limit_is_tested; all = rules_are_tested; lines = legal_schedules_keep_rules }
