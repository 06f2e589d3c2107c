use Rattle.std.proofs.Common.{◌≡◌, map, ap, sym, subst, ◌∙◌, arith}
use Rattle.std.specs.List.{AllByRecursion}
use Rattle.cpuprofile.specs.Converted.{file_nodes, file_delta, file_profile}
use Rattle.cpuprofile.specs.Given.{HasSmallNumbers}
use Rattle.cpuprofile.specs.ProfileText.{profile_text}
use Rattle.cpuprofile.specs.Valid.{IsValid}
use Rattle.cpuprofile.specs.declared.profile.Profile.{Profile}
use Rattle.cpuprofile.proofs.Converted.{profile_same, text_same}
use Rattle.cpuprofile.proofs.Validity.{is_valid}
use Rattle.cpuprofile.proofs.convert.profile_of.Goals as goal

pub returns-clause-text : goal.returns-clause-text
returns-clause-text c fit =
    ap profile_text
    (profile_same c.args.finished.now
    (record { nodes = c.in_ok-file_nodes.field-0; start = c.value.result; end = c.value-2.result; samples = c.in_ok-wide.field-0; deltas = c.in_ok-file_deltas.field-0 })
    (c.in_ok-file_nodes.ensures.exact ∙ ap (file_nodes 1) c.as_slice.ensures) c.value.ensures.value c.value-2.ensures.value
    (c.in_ok-wide.ensures.exact ∙ c.as_slice-2.ensures) (c.in_ok-file_deltas.ensures ∙ ap (map file_delta) c.as_slice-3.ensures))
    ∙ text_same c.args.finished.now fit

pub returns-clause-valid : goal.returns-clause-valid
returns-clause-valid c given =
    let nodes : c.in_ok-file_nodes.field-0 ≡ file_nodes 1 c.args.finished.now.nodes = c.in_ok-file_nodes.ensures.exact ∙ ap (file_nodes 1) c.as_slice.ensures in
    let made : Profile = record { nodes = c.in_ok-file_nodes.field-0; start = c.value.result; end = c.value-2.result; samples = c.in_ok-wide.field-0; deltas = c.in_ok-file_deltas.field-0 } in
    let same : made ≡ file_profile c.args.finished.now =
    profile_same c.args.finished.now made nodes c.value.ensures.value c.value-2.ensures.value
    (c.in_ok-wide.ensures.exact ∙ c.as_slice-2.ensures) (c.in_ok-file_deltas.ensures ∙ ap (map file_delta) c.as_slice-3.ensures) in
    subst IsValid (sym same)
    (is_valid c.args.finished.now given (omega (arith, c.value.ensures.value, c.value.ensures.bound)) (omega (arith, c.value-2.ensures.value, c.value-2.ensures.bound))
    (subst (AllByRecursion HasSmallNumbers) nodes c.in_ok-file_nodes.ensures.small))
