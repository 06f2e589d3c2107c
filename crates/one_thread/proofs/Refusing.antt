-- Whether the ring refuses samples changes nothing else.
use Rattle.std.proofs.Common.{◌≡◌, ℕ, List, sym, subst}
use Rattle.std.specs.Prelude.{Bool}
use Rattle.guest_program.specs.declared.instr.Func.{Func}
use Rattle.code_event.specs.declared.tick.Item.{Item}
use Rattle.isolate_acts.specs.Progress.{Moment}
use Rattle.one_thread.specs.UnderWay.{IsUnderWay, Outlet, PlainIsolate, PlainProcessor}

-- the isolate, with a ring that refuses each sample or takes each
abbrev pub refusing : PlainIsolate → Bool → PlainIsolate
refusing i refuses = record i { ends = record i.ends { ring = record i.ends.ring { refuses = refuses } } }

module _ {S : Type 0} (base : ℕ) (funcs : List Func) (moment : Moment) (raised : List Item) (before now : Outlet) (i : PlainIsolate) (p : PlainProcessor S) (way : IsUnderWay base funcs moment raised before now i p) where
  refusing_way : (refuses : Bool) → IsUnderWay base funcs moment raised before now (refusing i refuses) p
  refusing_way refuses = record {
    kept = way.kept;
    now_is = way.now_is;
    ready = way.ready;
    alike = record { spare = way.alike.spare; spare_taken = way.alike.spare_taken; places_are = way.alike.places_are; places_taken = way.alike.places_taken };
    none_waits = way.none_waits;
    settled = way.settled;
    counted = way.counted;
  }

  pub way_refusing : (i' : PlainIsolate) (p' : PlainProcessor S) (refuses : Bool) → i' ≡ refusing i refuses → p' ≡ p → IsUnderWay base funcs moment raised before now i' p'
  way_refusing i' p' refuses same other =
      subst (λ (x : PlainIsolate). IsUnderWay base funcs moment raised before now x p') (sym same)
      (subst (λ (q : PlainProcessor S). IsUnderWay base funcs moment raised before now (refusing i refuses) q) (sym other) (refusing_way refuses))
