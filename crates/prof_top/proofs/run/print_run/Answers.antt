use Rattle.std.proofs.Common.{rules}
use Rattle.prof_top.proofs.Runs.{hands_out_as, hands_out_unprinted}
use Rattle.prof_top.proofs.run.print_run.Goals as goal

pub returns-in-Err-Memory-clause-handed : goal.returns-in-Err-Memory-clause-handed
returns-in-Err-Memory-clause-handed g c puts puts' = hands_out_unprinted _ _ _ _ _ _ puts puts'

pub returns-in_default-run_lines-clause-handed : goal.returns-in_default-run_lines-clause-handed
returns-in_default-run_lines-clause-handed g c puts puts' = hands_out_unprinted _ _ _ _ _ _ puts puts'

pub returns-clause-handed : goal.returns-clause-handed
returns-clause-handed g c puts puts' = hands_out_as _ _ _ _ _ _ _ _ _ _ _ _ _ puts puts' (search rules) (search rules) (search rules) (search rules) (c.print_out.ensures.handed puts puts')
