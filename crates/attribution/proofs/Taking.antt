-- What an attributor stands for after one more item.
use Rattle.std.proofs.Common.{◌≡◌, ℕ, ◌<◌, ◌^◌, List, [], ◌∷◌, ◌++◌, refl, sym, ap, subst, ◌∙◌, append-nil}
use Rattle.std.specs.List.{AllByRecursion}
use Rattle.code_event.proofs.SeenMore.{seen_by_the_events_before}
use Rattle.code_event.specs.CodeMap.{ranges}
use Rattle.code_event.specs.DeoptReasons.{DeoptReasons, reasons}
use Rattle.code_event.specs.MomentLaws.{events_of}
use Rattle.code_event.specs.Seen.{Seen, started, stopped, ticked, mark, resolved_tick, seen_items}
use Rattle.code_event.specs.Symbolizer.{path, leaf_line, tick_frames}
use Rattle.code_event.specs.declared.code_map.Range.{Range}
use Rattle.code_event.specs.declared.event.CodeEvent.{CodeEvent}
use Rattle.code_event.specs.declared.event.CodeEvent.TheVariants.{Create, Move, NoOpt, Deopt, Delete, Start, Stop, Finish}
use Rattle.code_event.specs.declared.event.EventRecord.{EventRecord}
use Rattle.code_event.specs.declared.event.Mode.TheVariants.{Leaf, Caller}
use Rattle.code_event.specs.declared.event.Options.{Options}
use Rattle.code_event.specs.declared.path.PathPair.{PathPair}
use Rattle.code_event.specs.declared.seen.ResolvedFrame.{ResolvedFrame}
use Rattle.code_event.specs.declared.tick.Item.{Item}
use Rattle.code_event.specs.declared.tick.Item.TheVariants as item
use Rattle.code_event.specs.declared.tick.Tick.{Tick}
use Rattle.code_map.proofs.AfterEvents.{events_add_up, look_ups_change_nothing}
use Rattle.code_map.specs.CodeMap.{HasRanges, RangesFollow, ReasonsFollow, RangesStay, ReasonsStay}
use Rattle.code_map.specs.Laws.{IsAfter}
use Rattle.code_map.specs.Parts.{MapParts}
use Rattle.cpuprofile.specs.Given.{HasExactTime}
use Rattle.prof_base.specs.declared.ids.SessionId.{SessionId}
use Rattle.session_book.specs.Book.{BookParts, StandsFor as IsBookOf}
use Rattle.session_book.specs.Session.{paths_over, seen_tick}
use Rattle.attribution.specs.Attribution.{StandsFor, TakesEvent, ChangesCode}

events_more : (items more : List Item) → events_of (items ++ more) ≡ events_of items ++ events_of more
events_more [] more = refl
events_more (item.Event e ∷ items) more = ap (λ l. e.event ∷ l) (events_more items more)
events_more (item.Tick t ∷ items) more = events_more items more

-- the map that is left by the events among the items with one more event
map_after : (old new : MapParts) (items : List Item) (e : EventRecord) → IsAfter old (events_of items) → RangesFollow old new e.event → ReasonsFollow old new e.event
    → IsAfter new (events_of (items ++ item.Event e ∷ []))
map_after old new items e after ranges_follow reasons_follow =
    subst (IsAfter new) (sym (events_more items (item.Event e ∷ []))) (events_add_up old new (events_of items) e.event after ranges_follow reasons_follow)

no_mark : (why : DeoptReasons) (event : CodeEvent) → ChangesCode event → mark why event ≡ []
no_mark why (Create start layout) changes = refl
no_mark why (Move from to) changes = refl
no_mark why (NoOpt start reason) changes = refl
no_mark why (Deopt start reason) changes = refl
no_mark why (Delete start) changes = refl
no_mark why (Start session options time) changes = absurd changes
no_mark why (Stop session time) changes = absurd changes
no_mark why (Finish time files) changes = absurd changes

-- what is seen of one more event
pub seen_event : (items : List Item) (e : EventRecord) (event : CodeEvent) → e.event ≡ event → seen_items (items ++ item.Event e ∷ []) ≡ seen_items items ++ mark (reasons (events_of items)) event
seen_event items e event is = seen_by_the_events_before items (item.Event e) ∙ ap (λ ev. seen_items items ++ mark (reasons (events_of items)) ev) is

pub exact_more : (seen more : List Seen) → AllByRecursion HasExactTime seen → AllByRecursion HasExactTime more → AllByRecursion HasExactTime (seen ++ more)
exact_more [] more one other = other
exact_more (first ∷ seen) more one other = (one.0, exact_more seen more one.1 other)

pub takes_change : (old new : MapParts) (book : BookParts) (event : CodeEvent) → ChangesCode event → RangesFollow old new event → ReasonsFollow old new event
    → TakesEvent (record { map = old; book = book }) (record { map = new; book = book }) event
unfolding StandsFor
takes_change old new book event changes ranges_follow reasons_follow items e is stands =
    let same : seen_items (items ++ item.Event e ∷ []) ≡ seen_items items =
    seen_event items e event is ∙ ap (λ l. seen_items items ++ l) (no_mark (reasons (events_of items)) event changes) ∙ append-nil (seen_items items) in
    record {
      code = map_after old new items e stands.code (subst (RangesFollow old new) (sym is) ranges_follow) (subst (ReasonsFollow old new) (sym is) reasons_follow);
      sessions = subst (IsBookOf book) (sym same) stands.sessions;
      times = subst (AllByRecursion HasExactTime) (sym same) stands.times;
    }

-- a mark changes no code
takes_mark : (map : MapParts) (old new : BookParts) (event : CodeEvent) (seen_mark : DeoptReasons → Seen) → RangesFollow map map event → ReasonsFollow map map event
    → ((why : DeoptReasons) → mark why event ≡ seen_mark why ∷ []) → ((why : DeoptReasons) → HasExactTime (seen_mark why))
    → ((seen : List Seen) (why : DeoptReasons) → IsBookOf old seen → IsBookOf new (seen ++ seen_mark why ∷ []))
    → TakesEvent (record { map = map; book = old }) (record { map = map; book = new }) event
unfolding StandsFor
takes_mark map old new event seen_mark ranges_follow reasons_follow is_mark exact follows items e is stands =
    let why = reasons (events_of items) in
    let whole : seen_items (items ++ item.Event e ∷ []) ≡ seen_items items ++ seen_mark why ∷ [] = seen_event items e event is ∙ ap (λ l. seen_items items ++ l) (is_mark why) in
    record {
      code = map_after map map items e stands.code (subst (RangesFollow map map) (sym is) ranges_follow) (subst (ReasonsFollow map map) (sym is) reasons_follow);
      sessions = subst (IsBookOf new) (sym whole) (follows (seen_items items) why stands.sessions);
      times = subst (AllByRecursion HasExactTime) (sym whole) (exact_more (seen_items items) (seen_mark why ∷ []) stands.times (exact why, tt));
    }

pub takes_start : (map : MapParts) (old new : BookParts) (id : SessionId) (options : Options) (time : ℕ)
    → ((seen : List Seen) → IsBookOf old seen → IsBookOf new (seen ++ started id options time ∷ []))
    → TakesEvent (record { map = map; book = old }) (record { map = map; book = new }) (Start id options time)
takes_start map old new id options time follows =
    takes_mark map old new (Start id options time) (λ why. started id options time) (λ rs h. h) (λ rs why h k. k) (λ why. refl) (λ why. tt) (λ seen why stands. follows seen stands)

pub takes_stop : (map : MapParts) (old new : BookParts) (id : SessionId) (time : ℕ)
    → ((seen : List Seen) (why : DeoptReasons) → IsBookOf old seen → IsBookOf new (seen ++ stopped id time why ∷ []))
    → TakesEvent (record { map = map; book = old }) (record { map = map; book = new }) (Stop id time)
takes_stop map old new id time follows =
    takes_mark map old new (Stop id time) (λ why. stopped id time why) (λ rs h. h) (λ rs why h k. k) (λ why. refl) (λ why. tt) follows

pub takes_tick : (old new : MapParts) (before after : BookParts) (tick : Tick) (paths : PathPair)
    → ((rs : List Range) → HasRanges old rs → paths.leaf ≡ path Leaf (tick_frames rs tick))
    → ((rs : List Range) → HasRanges old rs → paths.caller ≡ path Caller (tick_frames rs tick))
    → ((rs : List Range) → HasRanges old rs → paths.leaf_line ≡ leaf_line (tick_frames rs tick))
    → RangesStay old new → ReasonsStay old new
    → ((seen : List Seen) (frames : List ResolvedFrame) → paths ≡ paths_over frames → IsBookOf before seen → IsBookOf after (seen ++ ticked (seen_tick tick frames) ∷ []))
    → tick.time < 2 ^ 53
    → (items : List Item) → StandsFor (record { map = old; book = before }) items → StandsFor (record { map = new; book = after }) (items ++ item.Tick tick ∷ [])
unfolding StandsFor
takes_tick old new before after tick paths leaf caller line ranges_stay reasons_stay follows exact items stands =
    let rs = ranges (events_of items) in
    let whole : seen_items (items ++ item.Tick tick ∷ []) ≡ seen_items items ++ ticked (resolved_tick rs tick) ∷ [] = seen_by_the_events_before items (item.Tick tick) in
    let are : paths ≡ paths_over (tick_frames rs tick) =
    λ i. record { leaf = leaf rs stands.code.ranges i; caller = caller rs stands.code.ranges i; leaf_line = line rs stands.code.ranges i } in
    record {
      code = subst (IsAfter new) (sym (events_more items (item.Tick tick ∷ []) ∙ append-nil (events_of items))) (look_ups_change_nothing old new (events_of items) stands.code ranges_stay reasons_stay);
      sessions = subst (IsBookOf after) (sym whole) (follows (seen_items items) (tick_frames rs tick) are stands.sessions);
      times = subst (AllByRecursion HasExactTime) (sym whole) (exact_more (seen_items items) (ticked (resolved_tick rs tick) ∷ []) stands.times (exact, tt));
    }
