use Rattle.std.proofs.Common.{◌≡◌, take, flat_map, string_bytes}
use Rattle.prof_top.specs.PrintedText.{end_line}
use Rattle.prof_top.proofs.printing.end_lines.Given as goal

abbrev pub invariant-loop-entry : goal.invariant-loop-entry
invariant-loop-entry l = string_bytes l.text ≡ flat_map (λ entry. end_line entry entry.what) (take l.entry-index l.entries)
