-- A step of the machine, and what is raised with it, keep what is said of all that was raised.
use Rattle.std.proofs.Common.{◌≡◌, ℕ, suc, ◌≤◌, List, [], ◌∷◌, ◌++◌, map, refl, ap, sym, subst, ◌∙◌, arith}
use Rattle.std.proofs.lemmas.List.{append-nil}
use Rattle.std.specs.List.{AllByRecursion}
use Rattle.std.specs.Prelude.{Bool, true, false, None, if◌then◌else◌}
use Rattle.guest_program.specs.declared.instr.Func.{Func}
use Rattle.code_event.proofs.SeenMore.{seen_more}
use Rattle.code_event.specs.CodeMap.{ranges}
use Rattle.code_event.specs.DeoptReasons.{DeoptReasons, no_reasons, reasons}
use Rattle.code_event.specs.FileLaws.{IsOpenItem}
use Rattle.code_event.specs.ItemList.{ListSoFar, IsLegalAfter}
use Rattle.code_event.specs.MomentLaws.{events_of}
use Rattle.code_event.specs.Seen.{Seen, started, stopped, finished, ticked, resolved_tick, seen_behind, seen_items}
use Rattle.code_event.specs.declared.code_map.Range.{Range}
use Rattle.code_event.specs.declared.event.CodeEvent.{CodeEvent}
use Rattle.code_event.specs.declared.tick.Item.{Item}
use Rattle.code_event.specs.declared.tick.Item.TheVariants as item
use Rattle.code_event.specs.declared.tick.Tick.{Tick}
use Rattle.plain_machine.specs.PlainMachine.{deopts}
use Rattle.run_schedule.specs.Schedule.{Course, Running, none_yet, course_on, running_after}
use Rattle.isolate.specs.PlainFile.{given_up_for, tick_at}
use Rattle.isolate.specs.RunLaws.{last_time}
use Rattle.raised_so_far.proofs.Entries.{step_adds}
use Rattle.raised_so_far.proofs.Items.{all_joined, events_of-append, list_after_items-append, legal_more, code_is_not_seen, code_items_are_open, list_after_code_items, code_items_are_legal}
use Rattle.raised_so_far.proofs.Sessions.{same_at}
use Rattle.raised_so_far.specs.ItemsSoFar.{nothing_yet, list_after_items, at_time, list_so_far, SameSessions}
use Rattle.raised_so_far.specs.Laws.{OpeningsAreRaised, StepsAreRaised}

-- before the first step
pub openings : OpeningsAreRaised
openings funcs base events code why stamped =
    let none : list_so_far events ≡ nothing_yet = list_after_code_items nothing_yet events code in
    record {
      stamped = stamped;
      legal = code_items_are_legal nothing_yet events code;
      unfinished = code_items_are_open events code;
      time = subst (λ (c : ListSoFar). c.time ≤ 0) (sym none) (omega arith);
      sessions = subst (λ (c : ListSoFar). SameSessions c none_yet) (sym none) (record { numbered = tt; running = refl });
      reached = omega arith;
      seen = code_is_not_seen [] no_reasons events code;
      reasons = why;
    }

-- ---- the ticks of deoptimisations have one time

-- what is seen, if it is a tick, has this time
abbrev IsAtTime : ℕ → Seen → Type 0
IsAtTime time (ticked tick) = tick.time ≡ time
IsAtTime time (started s options other) = Unit {0}
IsAtTime time (stopped s other reasons) = Unit {0}
IsAtTime time (finished other files reasons) = Unit {0}

given_up_at_time : (running : List Running) (funcs : List Func) (time step : ℕ) → AllByRecursion (IsAtTime time) (given_up_for running funcs time step 1)
given_up_at_time [] funcs time step = tt
given_up_at_time (first ∷ running) funcs time step =
    elim (deopts funcs step) as (λ (b : Bool). AllByRecursion (IsAtTime time) ((if b then tick_at funcs (suc step) time 0 false None ∷ [] else []) ++ [])) [ true ↦ (refl, tt) | false ↦ tt ]

ticks_at_time : (time : ℕ) (at : List Range) (ticks : List Tick) → AllByRecursion (IsAtTime time) (map (λ t. ticked (resolved_tick at t)) ticks) → AllByRecursion (λ t. t.time ≡ time) ticks
ticks_at_time time at [] each = tt
ticks_at_time time at (t ∷ ticks) each = (each.0, ticks_at_time time at ticks each.1)

-- ---- ticks of one time

ticks_are_seen : (at : List Range) (why : DeoptReasons) (ticks : List Tick) → seen_behind at why (map (λ t. item.Tick t) ticks) ≡ map (λ t. ticked (resolved_tick at t)) ticks
ticks_are_seen at why [] = refl
ticks_are_seen at why (t ∷ ticks) = ap (λ (seen : List Seen). ticked (resolved_tick at t) ∷ seen) (ticks_are_seen at why ticks)

ticks_are_open : (ticks : List Tick) → AllByRecursion IsOpenItem (map (λ t. item.Tick t) ticks)
ticks_are_open [] = tt
ticks_are_open (t ∷ ticks) = (tt, ticks_are_open ticks)

ticks_have_no_events : (ticks : List Tick) → events_of (map (λ t. item.Tick t) ticks) ≡ []
ticks_have_no_events [] = refl
ticks_have_no_events (t ∷ ticks) = ticks_have_no_events ticks

ticks_are_legal : (time : ℕ) (list : ListSoFar) (ticks : List Tick) → list.time ≤ time → AllByRecursion (λ t. t.time ≡ time) ticks → IsLegalAfter list (map (λ t. item.Tick t) ticks)
ticks_are_legal time list [] low each = tt
ticks_are_legal time list (t ∷ ticks) low each = let is = each.0 in (omega (arith, low, is), ticks_are_legal time (at_time t.time list) ticks (omega (arith, is)) each.1)

time_after_ticks : (time : ℕ) (list : ListSoFar) (ticks : List Tick) → list.time ≤ time → AllByRecursion (λ t. t.time ≡ time) ticks → (list_after_items list (map (λ t. item.Tick t) ticks)).time ≤ time
time_after_ticks time list [] low each = low
time_after_ticks time list (t ∷ ticks) low each = let is = each.0 in time_after_ticks time (at_time t.time list) ticks (omega (arith, is)) each.1

sessions_after_ticks : (course : Course) (list : ListSoFar) (ticks : List Tick) → SameSessions list course → SameSessions (list_after_items list (map (λ t. item.Tick t) ticks)) course
sessions_after_ticks course list [] same = same
sessions_after_ticks course list (t ∷ ticks) same = sessions_after_ticks course (at_time t.time list) ticks (same_at list course same t.time)

pub steps : StepsAreRaised
steps funcs base entries step raised events ticks is code why given stamped =
    let tick_items : List Item = map (λ (t : Tick). item.Tick t) ticks in
    let before : List Item = raised ++ events in
    let at : List Range = ranges (events_of before) in
    let low = is.time in
    let times : AllByRecursion (λ (t : Tick). t.time ≡ last_time entries) ticks =
    ticks_at_time (last_time entries) at ticks (subst (AllByRecursion (IsAtTime (last_time entries))) (sym given) (given_up_at_time (running_after entries) funcs (last_time entries) step)) in
    let here : list_so_far before ≡ list_so_far raised = list_after_items-append nothing_yet raised events ∙ list_after_code_items (list_so_far raised) events code in
    let later : list_so_far (before ++ tick_items) ≡ list_after_items (list_so_far raised) tick_items = list_after_items-append nothing_yet before tick_items ∙ ap (λ (c : ListSoFar). list_after_items c tick_items) here in
    let unfinished : AllByRecursion IsOpenItem before = all_joined IsOpenItem raised events is.unfinished (code_items_are_open events code) in
    let same_events : events_of (before ++ tick_items) ≡ events_of before = events_of-append before tick_items ∙ ap (λ (more : List CodeEvent). events_of before ++ more) (ticks_have_no_events ticks) ∙ append-nil (events_of before) in
    let earlier : seen_items before ≡ seen_items raised =
    seen_more [] no_reasons raised events
    ∙ ap (λ (more : List Seen). seen_items raised ++ more) (code_is_not_seen (ranges (events_of raised)) (reasons (events_of raised)) events code) ∙ append-nil (seen_items raised) in
    let shown : seen_behind at (reasons (events_of before)) tick_items ≡ given_up_for (running_after entries) funcs (last_time entries) step 1 = ticks_are_seen at (reasons (events_of before)) ticks ∙ given in
    let had = is.reached in
    record {
      stamped = stamped;
      legal = legal_more nothing_yet before tick_items unfinished (legal_more nothing_yet raised events is.unfinished is.legal (code_items_are_legal (list_so_far raised) events code))
          (subst (λ (c : ListSoFar). IsLegalAfter c tick_items) (sym here) (ticks_are_legal (last_time entries) (list_so_far raised) ticks low times));
      unfinished = all_joined IsOpenItem before tick_items unfinished (ticks_are_open ticks);
      time = subst (λ (c : ListSoFar). c.time ≤ last_time entries) (sym later) (time_after_ticks (last_time entries) (list_so_far raised) ticks low times);
      sessions = subst (λ (c : ListSoFar). SameSessions c (course_on none_yet entries)) (sym later) (sessions_after_ticks (course_on none_yet entries) (list_so_far raised) ticks is.sessions);
      reached = omega (arith, had);
      seen = seen_more [] no_reasons before tick_items ∙ (λ i. (earlier ∙ is.seen) i ++ shown i) ∙ sym (step_adds funcs base entries step is.reached);
      reasons = λ entry. ap (λ (all : List CodeEvent). reasons all entry) same_events ∙ why entry;
    }
