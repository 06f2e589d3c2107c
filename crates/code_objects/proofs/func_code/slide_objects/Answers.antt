use Rattle.std.proofs.Common.{◌+◌, arith}
use Rattle.code_objects.specs.Objects.{code_moved}
use Rattle.code_objects.proofs.Codes.{moved_more}
use Rattle.code_objects.proofs.func_code.slide_objects.Goals as goal

pub loop-code-preserved : goal.loop-code-preserved
loop-code-preserved c =
    moved_more (code_moved c.args.moves.now) c.args.codes.now c.loop-code.codes c.loop-code.code-index (c.loop-code.code-index + 1) _ c.slide.new.self c.loop-code.invariant (omega (arith, c.loop-code-test.true, c.loop-code.auto.codes)) c.loop-code.auto.codes c.slide.ensures (omega arith)
