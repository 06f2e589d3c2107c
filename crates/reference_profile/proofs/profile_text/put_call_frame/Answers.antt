use Rattle.std.proofs.Common.{◌++◌, ◌∙◌, ap, codes, decimal}
use Rattle.std.proofs.lemmas.Result.{on_ok_weaker}
use Rattle.json.specs.Print.{quoted}
use Rattle.code_event.specs.FileText.{from_zero}
use Rattle.reference_profile.proofs.Appends.{appended_11}
use Rattle.reference_profile.proofs.profile_text.put_call_frame.Goals as goal

pub returns : goal.returns
returns c =
    on_ok_weaker c.put-6.result
    (λ last. appended_11 c.args.out.now.items
    (codes "{\"functionName\":")
    (quoted c.args.entry.now.name)
    (codes ",\"scriptId\":\"")
    (decimal c.args.entry.now.script)
    (codes "\",\"url\":")
    (quoted c.args.entry.now.url)
    (codes ",\"lineNumber\":")
    (from_zero c.args.entry.now.line)
    (codes ",\"columnNumber\":")
    (from_zero c.args.entry.now.column)
    (codes "}")
    c.put.new.out.items
    c.put_string.new.out.items
    c.put-2.new.out.items
    c.put_decimal.new.out.items
    c.put-3.new.out.items
    c.put_string-2.new.out.items
    c.put-4.new.out.items
    c.put_from_zero.new.out.items
    c.put-5.new.out.items
    c.put_from_zero-2.new.out.items
    c.put-6.new.out.items
    c.in_ok-put.ensures
    c.in_ok-put_string.ensures
    c.in_ok-put-2.ensures
    (c.in_ok-put_decimal.ensures ∙ ap (λ x. c.put-2.new.out.items ++ decimal x) c.from.ensures)
    c.in_ok-put-3.ensures
    c.in_ok-put_string-2.ensures
    c.in_ok-put-4.ensures
    c.in_ok-put_from_zero.ensures
    c.in_ok-put-5.ensures
    c.in_ok-put_from_zero-2.ensures last)
    c.put-6.ensures
