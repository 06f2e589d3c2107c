use Rattle.std.proofs.Common.{codes}
use Rattle.std.specs.Fmt.{signed_decimal}
use Rattle.std.proofs.lemmas.Result.{on_ok_weaker}
use Rattle.json.specs.Print.{quoted}
use Rattle.cpuprofile.proofs.Appends.{appended_11}
use Rattle.cpuprofile.proofs.write.put_call_frame.Goals as goal

pub returns : goal.returns
returns c =
    on_ok_weaker c.put-6.result
    (λ last. appended_11 c.args.out.now.items
    (codes "{\"functionName\":")
    (quoted c.args.node.now.name)
    (codes ",\"scriptId\":")
    (quoted c.args.node.now.script)
    (codes ",\"url\":")
    (quoted c.args.node.now.url)
    (codes ",\"lineNumber\":")
    (signed_decimal c.args.node.now.line)
    (codes ",\"columnNumber\":")
    (signed_decimal c.args.node.now.column)
    (codes "}")
    c.put.new.out.items
    c.put_string.new.out.items
    c.put-2.new.out.items
    c.put_string-2.new.out.items
    c.put-3.new.out.items
    c.put_string-3.new.out.items
    c.put-4.new.out.items
    c.put_item.new.out.items
    c.put-5.new.out.items
    c.put_item-2.new.out.items
    c.put-6.new.out.items
    c.in_ok-put.ensures
    c.in_ok-put_string.ensures
    c.in_ok-put-2.ensures
    c.in_ok-put_string-2.ensures
    c.in_ok-put-3.ensures
    c.in_ok-put_string-3.ensures
    c.in_ok-put-4.ensures
    c.in_ok-put_item.ensures
    c.in_ok-put-5.ensures
    c.in_ok-put_item-2.ensures last)
    c.put-6.ensures
