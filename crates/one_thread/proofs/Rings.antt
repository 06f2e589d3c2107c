-- What the count of full slots and the queues of one thread say.
use Rattle.std.proofs.Common.{◌≡◌, ℕ, suc, ◌+◌, ◌-◌, ◌<◌, ◌≤◌, ◌^◌, List, [], ◌∷◌, length, refl, ap, ◌∙◌, inl, inr, arith}
use Rattle.std.proofs.Math.Dec.{lit<}
use Rattle.std.proofs.lemmas.Bool.Decides.{nat_tests}
use Rattle.std.specs.Prelude.{Bool, true, false, nat_lt, if◌then◌else◌}
use Rattle.prof_base.specs.Causes.{Rose}
use Rattle.code_event.specs.declared.tick.Item.{Item}
use Rattle.code_event.specs.declared.tick.Item.TheVariants as item
use Rattle.code_event.specs.declared.tick.Tick.{Tick}
use Rattle.pipe_core.specs.CoreOrder.{IsJoined}
use Rattle.pipe_core.specs.Plain.{RingValue}
use Rattle.pipe_core.specs.Stamps.{events_of, ticks_of}
use Rattle.one_thread.specs.Rings.{fulls_now}

-- where a ring that takes ticks has room, its count has not risen
pub none_full : (fulls : ℕ) (ring : RingValue) (refused : List Tick) → length ring.items < ring.places → Rose fulls (fulls_now false ring refused) → ⊥
none_full fulls ring refused room rose =
    let has : nat_lt (length ring.items) ring.places ≡ true = grind (arith, nat_tests) in
    let none : fulls_now false ring refused ≡ 0 = ap (λ (b : Bool). if b then 0 else ring.fulls) has in
    let large : 0 < 2 ^ 64 - 1 = lit< tt in
    omega (arith, rose, none, large)

-- where the queues got nothing, nothing was raised
pub none_raised : (raised : List Item) (vm_ticks ring : List Tick) → events_of raised ≡ [] → vm_ticks ≡ [] → ring ≡ [] → IsJoined vm_ticks ring (ticks_of raised) → raised ≡ []
none_raised [] vm_ticks ring no_event no_vm_tick no_sample joined = refl
none_raised (item.Event e ∷ raised) vm_ticks ring no_event no_vm_tick no_sample joined = absurd (cc no_event)
none_raised (item.Tick t ∷ raised) vm_ticks ring no_event no_vm_tick no_sample joined = elim joined [
  | inl one ↦ let both = one.1 in absurd (cc (both, no_vm_tick))
  | inr other ↦ let both = other.1 in absurd (cc (both, no_sample))
]
