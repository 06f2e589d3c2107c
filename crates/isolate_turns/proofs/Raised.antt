-- What a step raises.
use Rattle.std.proofs.Common.{◌≡◌, ℕ, zero, suc, ◌+◌, List, [], ◌∷◌, ◌++◌, map, length, take, Bool, true, false, ◌&&◌, refl, ap, sym, ◌∙◌}
use Rattle.std.specs.List.{AllByRecursion}
use Rattle.std.specs.Prelude.{if◌then◌else◌}
use Rattle.code_event.specs.declared.event.CodeEvent.{CodeEvent}
use Rattle.code_event.specs.declared.tick.Item.{Item}
use Rattle.code_event.specs.declared.tick.Item.TheVariants as item
use Rattle.code_event.specs.declared.tick.Tick.{Tick}
use Rattle.plain_machine.specs.PlainMachine.{deopts}
use Rattle.isolate_acts.specs.Acts.{act_after, act_raises, given_up_tick, given_up_ticks, numbered, steps}
use Rattle.isolate_acts.specs.Progress.{Moment, Progress, some_runs}

-- the first of the events are of the code too
pub All-take : {A : Type 0} (P : A → Type 0) (number : ℕ) (xs : List A) → AllByRecursion P xs → AllByRecursion P (take number xs)
All-take P zero xs all = tt
All-take P (suc n) [] all = tt
All-take P (suc n) (x ∷ xs) all = (all.0, All-take P n xs all.1)

ticks_if : (is_ticked : Bool) (t : Tick) → map (λ x. item.Tick x) (if is_ticked then t ∷ [] else []) ≡ (if is_ticked then item.Tick t ∷ [] else [])
ticks_if true t = refl
ticks_if false t = refl

count_if : (is_ticked : Bool) (t : Tick) → length (if is_ticked then t ∷ [] else []) ≡ (if is_ticked then 1 else 0)
count_if true t = refl
count_if false t = refl

-- what the act of a step raises, where the step says whether it has made a deoptimisation
pub step_raises : (before after : Moment) (p : Progress) (events : List CodeEvent) (vm_tick is_ticked : Bool)
    → vm_tick ≡ deopts before.funcs before.steps → is_ticked ≡ vm_tick && some_runs p
    → act_raises before p (steps after events) ≡ numbered p.events p.ticks events ++ (if is_ticked then item.Tick (given_up_tick after p (length events)) ∷ [] else [])
step_raises before after p events vm_tick is_ticked made seen =
    ap (λ (l : List Item). numbered p.events p.ticks events ++ l)
    (ap (λ (b : Bool). map (λ x. item.Tick x) (if b then given_up_tick after p (length events) ∷ [] else [])) (ap (λ (b : Bool). b && some_runs p) (sym made) ∙ sym seen)
    ∙ ticks_if is_ticked (given_up_tick after p (length events)))

-- how far the isolate is after it
pub step_leaves : (before after : Moment) (p : Progress) (events : List CodeEvent) (vm_tick is_ticked : Bool) (count : ℕ)
    → vm_tick ≡ deopts before.funcs before.steps → is_ticked ≡ vm_tick && some_runs p → count ≡ length events
    → record p { step = suc p.step; events = p.events + count; ticks = p.ticks + (if is_ticked then 1 else 0); is_sampled = false } ≡ act_after before p (steps after events)
step_leaves before after p events vm_tick is_ticked count made seen counted =
    let tick = given_up_tick after p (length events) in
    let ticks : (if is_ticked then 1 else 0) ≡ length (given_up_ticks before after p (length events)) =
    sym (ap (λ (b : Bool). length (if b then tick ∷ [] else [])) (ap (λ (b : Bool). b && some_runs p) (sym made) ∙ sym seen) ∙ count_if is_ticked tick) in
    (λ i. record p { step = suc p.step; events = p.events + counted i; ticks = p.ticks + ticks i; is_sampled = false })
