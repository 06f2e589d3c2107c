-- Events with their stamps, and the ticks of a deoptimisation.
use Rattle.std.proofs.Common.{◌≡◌, ℕ, suc, ◌+◌, ◌≤◌, List, [], ◌∷◌, ◌++◌, map, length, refl, ap, sym, subst, ◌∙◌, arith}
use Rattle.std.specs.Prelude.{Bool, true, false, if◌then◌else◌}
use Rattle.std.specs.List.{AllByRecursion}
use Rattle.code_event.specs.CodeMap.{after_event, after_events}
use Rattle.code_event.specs.ItemList.{ListSoFar, IsStampedBehind, IsLegalAfter}
use Rattle.code_event.specs.MomentLaws.{events_of}
use Rattle.code_event.specs.declared.code_map.Range.{Range}
use Rattle.code_event.specs.declared.event.CodeEvent.{CodeEvent}
use Rattle.code_event.specs.declared.event.CodeEvent.TheVariants.{Finish}
use Rattle.code_event.specs.declared.tick.Item.{Item}
use Rattle.code_event.specs.declared.tick.Item.TheVariants as item
use Rattle.code_event.specs.declared.tick.Tick.{Tick}
use Rattle.pipe_core.specs.Stamps.{event_count, tick_count}
use Rattle.raised_so_far.proofs.Items.{legal_more, code_items_are_open, code_items_are_legal, list_after_code_items}
use Rattle.raised_so_far.specs.ItemsSoFar.{IsCodeEvent, IsCodeItem}
use Rattle.isolate_acts.specs.Acts.{numbered, is_seen_giving_up, given_up_tick, given_up_ticks}
use Rattle.isolate_acts.specs.Progress.{Moment, Progress}

pub after_events-append : (ranges : List Range) (events more : List CodeEvent) → after_events ranges (events ++ more) ≡ after_events (after_events ranges events) more
after_events-append ranges [] more = refl
after_events-append ranges (event ∷ events) more = after_events-append (after_event ranges event) events more

pub numbered_stamped : (number ticks : ℕ) (events : List CodeEvent) → IsStampedBehind number ticks (numbered number ticks events)
numbered_stamped number ticks [] = tt
numbered_stamped number ticks (e ∷ events) = (refl, refl, numbered_stamped (suc number) ticks events)

pub event_count-numbered : (number ticks : ℕ) (events : List CodeEvent) → event_count (numbered number ticks events) ≡ length events
event_count-numbered number ticks [] = refl
event_count-numbered number ticks (e ∷ events) = ap suc (event_count-numbered (suc number) ticks events)

pub tick_count-numbered : (number ticks : ℕ) (events : List CodeEvent) → tick_count (numbered number ticks events) ≡ 0
tick_count-numbered number ticks [] = refl
tick_count-numbered number ticks (e ∷ events) = tick_count-numbered (suc number) ticks events

pub events_of-numbered : (number ticks : ℕ) (events : List CodeEvent) → events_of (numbered number ticks events) ≡ events
events_of-numbered number ticks [] = refl
events_of-numbered number ticks (e ∷ events) = ap (λ (more : List CodeEvent). e ∷ more) (events_of-numbered (suc number) ticks events)

pub numbered_code : (number ticks : ℕ) (events : List CodeEvent) → AllByRecursion IsCodeEvent events → AllByRecursion IsCodeItem (numbered number ticks events)
numbered_code number ticks [] code = tt
numbered_code number ticks (e ∷ events) code = (code.0, numbered_code (suc number) ticks events code.1)

pub numbered-append : (number ticks : ℕ) (events more : List CodeEvent) → numbered number ticks (events ++ more) ≡ numbered number ticks events ++ numbered (number + length events) ticks more
numbered-append number ticks [] more =
    let same : number ≡ number + 0 = omega arith in
    ap (λ (n : ℕ). numbered n ticks more) same
numbered-append number ticks (e ∷ events) more =
    let same : suc number + length events ≡ number + suc (length events) = omega arith in
    let first : Item = item.Event (record { number = suc number; ticks_before = ticks; event = e }) in
    ap (λ (items : List Item). first ∷ items) (numbered-append (suc number) ticks events more ∙ ap (λ (n : ℕ). numbered (suc number) ticks events ++ numbered n ticks more) same)

-- events of the code may come, and a finish after them
pub short_is_legal : (list : ListSoFar) (number ticks time : ℕ) (events : List CodeEvent) → AllByRecursion IsCodeEvent events → list.time ≤ time
    → IsLegalAfter list (numbered number ticks (events ++ Finish time false ∷ []))
short_is_legal list number ticks time events code low =
    let items : List Item = numbered number ticks events in
    let last : List Item = numbered (number + length events) ticks (Finish time false ∷ []) in
    let all_code : AllByRecursion IsCodeItem items = numbered_code number ticks events code in
    subst (IsLegalAfter list) (sym (numbered-append number ticks events (Finish time false ∷ [])))
    (legal_more list items last (code_items_are_open items all_code) (code_items_are_legal list items all_code)
    (subst (λ (c : ListSoFar). IsLegalAfter c last) (sym (list_after_code_items list items all_code)) (low, refl)))

pub event_count-ticks : (ticks : List Tick) → event_count (map (λ t. item.Tick t) ticks) ≡ 0
event_count-ticks [] = refl
event_count-ticks (t ∷ ticks) = event_count-ticks ticks

pub tick_count-ticks : (ticks : List Tick) → tick_count (map (λ t. item.Tick t) ticks) ≡ length ticks
tick_count-ticks [] = refl
tick_count-ticks (t ∷ ticks) = ap suc (tick_count-ticks ticks)

pub events_of-ticks : (ticks : List Tick) → events_of (map (λ t. item.Tick t) ticks) ≡ []
events_of-ticks [] = refl
events_of-ticks (t ∷ ticks) = events_of-ticks ticks

pub given_stamped : (moment after : Moment) (p : Progress) (items : List Item) (events : ℕ) → event_count items ≡ events → tick_count items ≡ 0
    → IsStampedBehind (p.events + event_count items) (p.ticks + tick_count items) (map (λ t. item.Tick t) (given_up_ticks moment after p events))
given_stamped moment after p items events counted none =
    elim (is_seen_giving_up moment p) as (λ (b : Bool). IsStampedBehind (p.events + event_count items) (p.ticks + tick_count items) (map (λ (t : Tick). item.Tick t) (if b then given_up_tick after p events ∷ [] else []))) [
      | true ↦ (omega arith, omega arith, tt)
      | false ↦ tt
    ]

pub few_given : (moment after : Moment) (p : Progress) (events : ℕ) → length (given_up_ticks moment after p events) ≤ 1
few_given moment after p events = elim (is_seen_giving_up moment p) as (λ (b : Bool). length (if b then given_up_tick after p events ∷ [] else []) ≤ 1) [ true ↦ omega arith | false ↦ omega arith ]
