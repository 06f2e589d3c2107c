use Rattle.std.proofs.Common.{◌≡◌, ◌++◌, take, flat_map}
use Rattle.prof_top.specs.PrintedText.{note_line}
use Rattle.prof_top.proofs.printing.with_file_lines.Given as goal

abbrev pub invariant-loop-note : goal.invariant-loop-note
invariant-loop-note l = l.text.items ≡ l.fn.lines ++ flat_map note_line (take l.note-index l.notes)
