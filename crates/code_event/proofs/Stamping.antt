-- Lists with their stamps, and that the rest of a list determines these.
use Rattle.std.proofs.Common.{◌≡◌, ℕ, suc, List, [], ◌∷◌, refl, sym, ◌∙◌}
use Rattle.code_event.specs.ItemList.{stamped_behind, IsStampedBehind}
use Rattle.code_event.specs.Laws.{StampingGivesStamps, StampingKeepsStamped, StampedListsAreOne}
use Rattle.code_event.specs.declared.tick.Item.{Item}
use Rattle.code_event.specs.declared.tick.Item.TheVariants as item

stamps_behind : (events ticks : ℕ) (items : List Item) → IsStampedBehind events ticks (stamped_behind events ticks items)
stamps_behind events ticks [] = tt
stamps_behind events ticks (item.Event e ∷ items) = (refl, refl, stamps_behind (suc events) ticks items)
stamps_behind events ticks (item.Tick t ∷ items) = (refl, refl, stamps_behind events (suc ticks) items)

same_behind : (events ticks : ℕ) (items : List Item) → IsStampedBehind events ticks items → stamped_behind events ticks items ≡ items
same_behind events ticks [] is = refl
same_behind events ticks (item.Event e ∷ items) is =
    λ i. item.Event (record { number = sym is.0 i; ticks_before = sym is.1 i; event = e.event }) ∷ same_behind (suc events) ticks items is.2 i
same_behind events ticks (item.Tick t ∷ items) is =
    λ i. item.Tick (record t { order = sym is.1 i; tick_number = sym is.0 i }) ∷ same_behind events (suc ticks) items is.2 i

pub gives_stamps : StampingGivesStamps
gives_stamps items = stamps_behind 0 0 items

pub keeps_stamped : StampingKeepsStamped
keeps_stamped items is = same_behind 0 0 items is

pub stamped_are_one : StampedListsAreOne
stamped_are_one one other is_one is_other same = sym (keeps_stamped one is_one) ∙ same ∙ keeps_stamped other is_other
