use Rattle.std.proofs.Common.{◌∙◌, ap, sym}
use Rattle.std.specs.Prelude.{◌==◌}
use Rattle.std.specs.List.{position_from}
use Rattle.std.proofs.lemmas.Result.{on_ok_weaker}
use Rattle.code_event.specs.CodeMap.{with_range}
use Rattle.code_map.proofs.Starts.{moved, not_moved}
use Rattle.code_map.proofs.objects.move_object.Goals as goal

pub returns-in-Some : goal.returns-in-Some
returns-in-Some c = λ code.
    let objects = c.args.objects.now.items in
    on_ok_weaker c.put_object.result
    (λ put. moved c.args.from c.args.to c.in-Some.at objects c.remove.result c.remove.new.self.items c.put_object.new.objects.items code
    (sym (c.index_of.ensures.index ∙ ap (position_from (λ r. r.start == c.args.from) 0) c.deref.ensures.value) ∙ c.in-Some.is)
    c.remove.ensures.value c.remove.ensures.items (put ∙ ap (with_range c.remove.new.self.items) c.moved_to-moved.ensures))
    c.put_object.ensures

pub returns-in-None : goal.returns-in-None
returns-in-None c = λ code.
    not_moved c.args.from c.args.to c.args.objects.now.items
    (sym (c.index_of.ensures.index ∙ ap (position_from (λ r. r.start == c.args.from) 0) c.deref.ensures.value) ∙ c.in-None.is)
