-- What was written of a line of error.
use Rattle.std.proofs.Common.{◌≡◌, ℕ, List, refl}
use Rattle.std.specs.Prelude.{Option, Result, Ok, Err, OnOk, IsErrOf}
use Rattle.prof_base.specs.Causes.{Rose}
use Rattle.prof_outer.specs.Appends.{AppendsWhole, AppendsPart}
use Rattle.prof_outer.specs.declared.sink.SinkFault.{SinkFault}
use Rattle.prof_outer.specs.declared.sink.SinkFault.TheVariants as sink
use Rattle.prof_top.proofs.Handed.{none_is_part, whole_is_part}
use Rattle.prof_top.specs.Ending.{status_of, line_of, ending_after}
use Rattle.prof_top.specs.Written.{IsWritten}
use Rattle.prof_top.specs.declared.ending.Ending.{Ending}
use Rattle.prof_top.specs.declared.ending.Ending.TheVariants.{Memory}

pub written_of : (ending : Ending) (said : Result (Unit {0}) SinkFault) (old new : Option (List ℕ)) (faults faults' : ℕ)
    → OnOk said (AppendsWhole old new (line_of ending)) → (IsErrOf said sink.Failed → AppendsPart old new (line_of ending)) → (IsErrOf said sink.Memory → new ≡ old)
    → (IsErrOf said sink.Failed → Rose faults faults')
    → IsWritten (line_of (ending_after ending said)) (status_of (ending_after ending said)) old new faults faults'
written_of ending (Ok u) old new faults faults' ok part memory failed = record { part = whole_is_part old new (line_of ending) ok; whole = λ no_fault room. ok }
written_of ending (Err sink.Failed) old new faults faults' ok part memory failed = record { part = part refl; whole = λ no_fault room. absurd (no_fault (failed refl)) }
written_of ending (Err sink.Memory) old new faults faults' ok part memory failed = record { part = none_is_part old new (line_of Memory) (memory refl); whole = λ no_fault room. absurd (room refl) }
