use Rattle.std.proofs.Common.{ℕ, List, sym, subst}
use Rattle.record_text.specs.ScheduleTexts.{SpellsSchedule}
use Rattle.record_text.proofs.CanonicalSchedules.{canonical_schedule}
use Rattle.record_text.proofs.ScheduleRanges.{text_from_legal}
use Rattle.record_text.proofs.ScheduleSpelling.{whole_put}
use Rattle.record_text.proofs.schedule_writing.write_schedule.Goals as goal

pub returns-clause-text : goal.returns-clause-text
returns-clause-text c =
    whole_put c.args.schedule.now c.entries.result.now c.new-out.result.items c.put_head.new.out.items c.put_entries.new.out.items
    c.new-out.ensures.items c.in_ok-put_head.ensures.text c.entries.ensures.entries c.in_ok-put_entries.ensures.text

pub returns-clause-spells : goal.returns-clause-spells
returns-clause-spells c =
    subst (λ (text : List ℕ). SpellsSchedule text c.args.schedule.now) (sym (returns-clause-text c))
    (canonical_schedule c.args.schedule.now
    (text_from_legal c.args.schedule.now c.entries.result.now c.requires.legal c.in_ok-put_head.ensures.ranges c.entries.ensures.entries c.entries.ensures.room c.entries.ensures.ports c.in_ok-put_entries.ensures.types))

pub returns-clause-ranges : goal.returns-clause-ranges
returns-clause-ranges c =
    text_from_legal c.args.schedule.now c.entries.result.now c.requires.legal c.in_ok-put_head.ensures.ranges c.entries.ensures.entries c.entries.ensures.room c.entries.ensures.ports c.in_ok-put_entries.ensures.types
