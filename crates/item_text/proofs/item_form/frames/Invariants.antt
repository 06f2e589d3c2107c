use Rattle.std.proofs.Common.{◌≡◌, ◌-◌, length}
use Rattle.item_text.proofs.Addresses.{with_before, reads}
use Rattle.item_text.proofs.item_form.frames.Given as goal

abbrev pub invariant-loop-done : goal.invariant-loop-done
invariant-loop-done l = record { so_far : with_before l.frames (reads (255 - l.done) l.rest) ≡ reads 255 l.bytes; number : length l.frames ≡ l.done }
