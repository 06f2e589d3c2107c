use Rattle.std.proofs.Common.{◌∙◌, ap, sym, subst}
use Rattle.code_event.specs.DeoptReasons.{reasons_in, reasons_after_event}
use Rattle.code_map.specs.CodeMap.{HasRanges, HasReasons, IsOfRanges}
use Rattle.code_map.proofs.Histories.{objects_are_code, ranges_follow}
use Rattle.code_map.proofs.LatestReason.{reasons_alike}
use Rattle.code_map.proofs.OnOk.{on_ok_each, on_ok_both, on_ok_always}
use Rattle.code_map.proofs.map.CodeMap.apply.Goals as goal

pub returns-clause-ranges : goal.returns-clause-ranges
unfolding HasRanges
returns-clause-ranges c =
    let result = c.change_objects.result in
    let old = c.self.inside.objects.items in
    on_ok_each _ result (λ ranges. on_ok_each _ result (λ of.
    let before : IsOfRanges old ranges = subst (λ m. IsOfRanges m.objects ranges) (sym c.self.view_is) of in
    let code = objects_are_code old ranges before in
    on_ok_both result (ranges_follow old c.change_objects.new.objects.items ranges c.args.event.now before) (c.change_objects.ensures.objects code) (c.change_objects.ensures.code code)))

pub returns-clause-reasons : goal.returns-clause-reasons
unfolding HasRanges HasReasons
returns-clause-reasons c =
    let event = c.args.event.now in
    on_ok_always c.change_objects.result (λ ranges reasons of had entry.
    ap (λ rs. rs entry) c.in_ok-change_reasons.ensures
    ∙ ap (λ rs. reasons_after_event rs (reasons_in c.self.inside.reasons.items) event entry) (c.deref.ensures.value ∙ ap (λ m. m.objects) c.self.view_is ∙ of.are)
    ∙ reasons_alike ranges (reasons_in c.self.inside.reasons.items) reasons event (λ e. ap (λ m. reasons_in m.reasons e) c.self.view_is ∙ had e) entry)
