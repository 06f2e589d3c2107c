use Rattle.std.proofs.Common.{[], ◌∷◌, ◌++◌, sym, ap, subst, ◌∙◌}
use Rattle.code_event.specs.declared.event.CodeEvent.TheVariants.{Finish}
use Rattle.code_event.specs.declared.tick.Item.TheVariants as item
use Rattle.processor.proofs.OnCourse.{finish_begins, finish_closes}
use Rattle.processor.proofs.Stopped.{room_before}
use Rattle.processor.specs.Course.{IsFinishing}
use Rattle.processor.specs.Filing.{FilingParts}
use Rattle.processor.proofs.course.Course.finish.Goals as goal

pub returns-then-files-clause-courses : goal.returns-then-files-clause-courses
returns-then-files-clause-courses g c parts e is base items before legal h =
    subst (λ (f : FilingParts). IsFinishing base (items ++ item.Event e ∷ []) c.args.time f before parts) (sym (λ i. (c.self.view_is i).filing))
    (finish_begins c.args.self.now c.args.time parts c.requires.going e (is ∙ ap (λ b. Finish c.args.time b) c.if-files.true) base items before h)

pub returns-else-files-clause-courses : goal.returns-else-files-clause-courses
returns-else-files-clause-courses g c parts e is base items before legal h =
    finish_closes c.args.self.now c.lose.new.self c.args.time parts c.requires.going (c.lose.ensures.notes ∙ (λ i. (c.self.view_is i).filing.notes)) (c.lose.ensures.delivery ∙ (λ i. (c.self.view_is i).filing.delivery))
    (room_before c.args.self.now.filing.is_spent c.lose.new.self.is_spent (λ spent. c.lose.ensures.spent ((λ i. (c.self.view_is i).filing.is_spent) ∙ spent)))
    e (is ∙ ap (λ b. Finish c.args.time b) c.if-files.false) base items before h
