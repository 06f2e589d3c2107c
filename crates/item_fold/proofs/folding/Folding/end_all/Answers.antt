use Rattle.std.proofs.Common.{◌≡◌, ℕ, List, ◌∷◌, ◌<◌, length, subst, sym, refl, ap, ◌∙◌, inl, arith}
use Rattle.std.specs.Prelude.{Some}
use Rattle.std.specs.List.{slice_get}
use Rattle.std.specs.Ordering.{nat_cmp}
use Rattle.prof_base.specs.Ordered.{Rises}
use Rattle.prof_base.proofs.Ordered.{Has}
use Rattle.prof_base.specs.declared.ids.SessionId.{SessionId}
use Rattle.attribution.proofs.Without.{without_shorter}
use Rattle.attribution.specs.Attribution.{running_in}
use Rattle.item_fold.specs.Folding.{FoldingParts}
use Rattle.item_fold.proofs.Ending.{ending_begins, ending_goes_on, ending_stops, ending_ends}
use Rattle.item_fold.proofs.Taking.{first_is, none_first}
use Rattle.item_fold.proofs.folding.Folding.end_all.Goals as goal

pub loop-session-init : goal.loop-session-init
loop-session-init g c = record {
  ending = ending_begins c.args.self.now (g.S.OutputStream.parts c.args.stream.now) c.args.time;
  chunk_size = refl;
  aborts = omega arith;
  faults = omega arith;
}

-- the first session that runs
first_of : (inside now : FoldingParts) (s : SessionId) → inside ≡ now → Some s.0 ≡ slice_get (running_in inside.attributor) 0 → (rest : List ℕ) × (running_in now.attributor ≡ s.0 ∷ rest)
first_of inside now s same first = subst (λ (f : FoldingParts). (rest : List ℕ) × (running_in f.attributor ≡ s.0 ∷ rest)) same (first_is (running_in inside.attributor) s.0 first)

pub loop-session-smaller : goal.loop-session-smaller
loop-session-smaller g c =
    let now = c.loop-session.self in
    let first = first_of (record { attributor = c.self.inside.attributor; notes = c.self.inside.notes }) now c.in-Some.session c.self.view_is c.in-Some.ensures.first in
    let runs : Has (running_in now.attributor) c.in-Some.session.0 = subst (λ l. Has l c.in-Some.session.0) (sym first.1) (inl refl) in
    subst (λ (ns : List ℕ). length ns < length (running_in now.attributor)) (sym c.end.ensures.running) (omega (arith, without_shorter c.in-Some.session.0 (running_in now.attributor) runs))

pub loop-session-preserved : goal.loop-session-preserved
loop-session-preserved g c =
    let now = c.loop-session.self in
    let first = first_of (record { attributor = c.self.inside.attributor; notes = c.self.inside.notes }) now c.in-Some.session c.self.view_is c.in-Some.ensures.first in
    record {
      ending = ending_goes_on c.args.self.now now c.end.new.self (g.S.OutputStream.parts c.args.stream.now) (g.S.OutputStream.parts c.loop-session.stream) (g.S.OutputStream.parts c.end.new.stream)
          c.args.time c.in-Some.session first.0 first.1 (subst (λ (f : FoldingParts). Rises nat_cmp (running_in f.attributor)) c.self.view_is c.in-Some.ensures.rises) c.end.ensures.running
          c.in_default-end.ensures.folds c.loop-session.invariant.ending;
      chunk_size = c.end.ensures.chunk_size ∙ c.loop-session.invariant.chunk_size;
      aborts = omega (arith, c.end.ensures.aborts, c.loop-session.invariant.aborts);
      faults = omega (arith, c.end.ensures.faults, c.loop-session.invariant.faults);
    }

pub returns-in-Err-clause-folds : goal.returns-in-Err-clause-folds
returns-in-Err-clause-folds g c =
    let now = c.loop-session.self in
    let first = first_of (record { attributor = c.self.inside.attributor; notes = c.self.inside.notes }) now c.in-Some.session c.self.view_is c.in-Some.ensures.first in
    ending_stops c.args.self.now now c.end.new.self (g.S.OutputStream.parts c.args.stream.now) (g.S.OutputStream.parts c.loop-session.stream) (g.S.OutputStream.parts c.end.new.stream)
    c.args.time c.in-Some.session first.0 c.in-Err.fault first.1 c.in-Err.ensures.folds c.loop-session.invariant.ending

pub returns-clause-folds : goal.returns-clause-folds
returns-clause-folds g c =
    let none = none_first (running_in c.self.inside.attributor) c.in_default.ensures.first in
    ending_ends c.args.self.now c.loop-session.self (g.S.OutputStream.parts c.args.stream.now) (g.S.OutputStream.parts c.loop-session.stream) c.args.time
    (ap (λ (f : FoldingParts). running_in f.attributor) (sym c.self.view_is) ∙ none) c.loop-session.invariant.ending
