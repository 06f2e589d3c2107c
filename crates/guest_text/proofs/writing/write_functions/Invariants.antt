use Rattle.std.proofs.Common.{◌≡◌, take}
use Rattle.prof_lines.specs.Canonical.{text_of}
use Rattle.guest_text.specs.ProgramLine.{line_words}
use Rattle.guest_text.specs.ProgramText.{labels_of, program_lines}
use Rattle.guest_text.proofs.writing.write_functions.Given as goal

abbrev pub invariant-loop-func : goal.invariant-loop-func
invariant-loop-func l = l.out.items ≡ text_of (line_words (labels_of l.funcs)) (program_lines (take l.func-index l.funcs))
