use Rattle.code_objects.proofs.Keeping.{creating_keeps_code, deleting_keeps_code}
use Rattle.code_objects.proofs.Sliding.{compacting_keeps_code}
use Rattle.code_objects.proofs.laws.code_is_kept.Goals as goal

pub returns : goal.returns
returns c = record { created = creating_keeps_code; deleted = deleting_keeps_code; compacted = compacting_keeps_code }
