use Rattle.code_event.proofs.FilesGrow.{files_grow, items_add_files}
use Rattle.code_event.proofs.laws.files.each_item_adds_the_files_of_the_sessions_that_it_ends.Goals as goal

pub returns : goal.returns
returns c = record { items = items_add_files; seen = files_grow }
