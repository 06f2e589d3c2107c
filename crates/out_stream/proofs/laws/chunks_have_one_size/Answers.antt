use Rattle.out_stream.proofs.Cuts.{cuts_add_up, chunks_are_whole, chunks_are_not_empty, chunks_fit}
use Rattle.out_stream.proofs.laws.chunks_have_one_size.Goals as goal

pub returns : goal.returns
returns c = record { all_bytes = cuts_add_up; whole = chunks_are_whole; not_empty = chunks_are_not_empty; fits = chunks_fit }
