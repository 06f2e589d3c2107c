use Rattle.std.proofs.Common.{◌++◌, sym, subst}
use Rattle.isolate_acts.specs.Sampling.{raised_by_sample}
use Rattle.isolate_turns.proofs.Keeping.{sample_kept}
use Rattle.isolate_turns.specs.Kept.{IsKept}
use Rattle.isolate_turns.proofs.state.Isolate.take_sample.Goals as goal

pub returns-clause-kept : goal.returns-clause-kept
returns-clause-kept g c = λ funcs moment raised kept.
    subst (λ p. IsKept funcs moment p (raised ++ raised_by_sample moment c.args.self.now.progress c.args.now c.enter_sample.result)) (sym c.enter_sample.ensures.progress)
    (sample_kept funcs moment c.args.self.now.progress raised c.args.now c.enter_sample.result c.requires.going c.requires.room kept)
