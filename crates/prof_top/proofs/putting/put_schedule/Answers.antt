use Rattle.std.proofs.Common.{◌≡◌, ◌∙◌, rules}
use Rattle.record_text.specs.ScheduleTexts.{schedule_text}
use Rattle.prof_top.proofs.Puts.{not_put_as, put_as}
use Rattle.prof_top.proofs.putting.put_schedule.Goals as goal
use Rattle.prof_top.specs.PutText.{schedule_name}

pub returns-clause-put : goal.returns-clause-put
returns-clause-put g c =
    let bytes : c.deref.result.now ≡ c.in_ok-text.text.items = search rules in
    put_as c.put.result _ _ _ schedule_name _ (schedule_text c.args.schedule.now) c.in_ok-name.ensures.name (bytes ∙ c.in_ok-text.ensures.text) c.put.ensures.put

pub returns-clause-not_put : goal.returns-clause-not_put
returns-clause-not_put g c =
    let bytes : c.deref.result.now ≡ c.in_ok-text.text.items = search rules in
    not_put_as c.put.result _ _ _ schedule_name _ (schedule_text c.args.schedule.now) c.in_ok-name.ensures.name (bytes ∙ c.in_ok-text.ensures.text) c.put.ensures.not_put
