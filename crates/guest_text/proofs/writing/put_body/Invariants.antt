use Rattle.std.proofs.Common.{◌≡◌, ◌++◌, map, take}
use Rattle.prof_lines.specs.Canonical.{text_of}
use Rattle.guest_text.specs.declared.program_line.ProgramLine.TheVariants as line
use Rattle.guest_text.specs.ProgramLine.{line_words}
use Rattle.guest_text.specs.ProgramText.{labels_of}
use Rattle.guest_text.proofs.writing.put_body.Given as goal

abbrev pub invariant-loop-instr : goal.invariant-loop-instr
invariant-loop-instr l = l.out.items ≡ l.fn.out.items ++ text_of (line_words (labels_of l.funcs)) (map (λ instr. line.Instr instr) (take l.instr-index l.body))
