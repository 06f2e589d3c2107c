use Rattle.processor.proofs.course.Course.new.Goals as goal

pub returns-clause-filed : goal.returns-clause-filed
returns-clause-filed c before = (tt, c.in_ok-new.ensures.filed before)
