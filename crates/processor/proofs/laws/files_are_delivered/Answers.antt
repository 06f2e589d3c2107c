use Rattle.processor.proofs.DeliveredFiles.{files_are_delivered}
use Rattle.processor.proofs.laws.files_are_delivered.Goals as goal

pub returns : goal.returns
returns c = files_are_delivered
