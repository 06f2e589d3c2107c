-- What is read as a label is one.
use Rattle.guest_text.proofs.ProgramWords.{label_read}
use Rattle.guest_text.proofs.line_form.head.Goals as goal

pub label_text-requires : goal.label_text-requires
label_text-requires c = label_read c.args.bytes.now _ c.in_ok-name.ensures.label
