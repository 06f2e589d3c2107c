-- An entry and what is raised with it keep what is said of all that was raised.
use Rattle.std.proofs.Common.{◌≡◌, ℕ, ◌≤◌, List, [], ◌∷◌, ◌++◌, refl, ap, sym, subst, ◌∙◌, arith}
use Rattle.std.proofs.lemmas.List.{append-nil}
use Rattle.std.specs.Prelude.{true, false, Some, None}
use Rattle.std.specs.List.{AllByRecursion}
use Rattle.guest_program.specs.declared.instr.Func.{Func}
use Rattle.code_event.proofs.SeenMore.{seen_more}
use Rattle.code_event.specs.CodeMap.{ranges}
use Rattle.code_event.specs.DeoptReasons.{DeoptReasons, no_reasons, reasons, reasons_after}
use Rattle.code_event.specs.FileLaws.{IsOpenItem}
use Rattle.code_event.specs.ItemList.{ListSoFar, IsStamped, IsLegalAfter}
use Rattle.code_event.specs.MomentLaws.{events_of}
use Rattle.code_event.specs.Seen.{ticked, resolved_tick, seen_behind, started, stopped}
use Rattle.code_event.specs.declared.code_map.Range.{Range}
use Rattle.code_event.specs.declared.event.CodeEvent.TheVariants.{Start, Stop}
use Rattle.code_event.specs.declared.event.EventRecord.{EventRecord}
use Rattle.code_event.specs.declared.seen.ResolvedTick.{ResolvedTick}
use Rattle.code_event.specs.declared.tick.Item.{Item}
use Rattle.code_event.specs.declared.tick.Item.TheVariants as item
use Rattle.plain_machine.specs.PlainMachine.{plain}
use Rattle.plain_machine.specs.PlainFrames.{plain_frames, reasons_of}
use Rattle.run_schedule.specs.Schedule.{Course, none_yet, course_after, course_on, running_after}
use Rattle.run_schedule.specs.Source.{source_for}
use Rattle.run_schedule.specs.declared.schedule.ScheduleEntry.{ScheduleEntry}
use Rattle.run_schedule.specs.declared.schedule.What.{What}
use Rattle.isolate.proofs.EntriesMore.{course_on-push}
use Rattle.isolate.specs.PlainFile.{seen_of}
use Rattle.isolate.specs.RunLaws.{last_step, last_time}
use Rattle.raised_so_far.proofs.Entries.{entry_adds, last_step-push, last_time-push}
use Rattle.raised_so_far.proofs.Items.{all_joined, list_after_items-append, legal_more, reasons-more}
use Rattle.raised_so_far.proofs.Sessions.{same_at, is_new, as_many, runs, same_started, same_stopped}
use Rattle.raised_so_far.specs.ItemsSoFar.{nothing_yet, list_after_items, at_time, list_so_far, SameSessions}
use Rattle.raised_so_far.specs.Laws.{IsNow, next_number, SamplesAreRaised, DropsRaiseNothing, StartsAreRaised, StopsAreRaised}
use Rattle.raised_so_far.specs.Raised.{IsRaised}

-- the reasons after what was raised are the machine's
pub same_reasons : (funcs : List Func) (base : ℕ) (entries : List ScheduleEntry) (step : ℕ) (raised : List Item) → IsRaised funcs base entries step raised
    → reasons (events_of raised) ≡ reasons_of funcs (plain funcs step)
same_reasons funcs base entries step raised is = λ i entry. is.reasons entry i

-- an entry at the step reached
module _ (funcs : List Func) (base : ℕ) (entries : List ScheduleEntry) (step : ℕ) (raised : List Item) (entry : ScheduleEntry) (is : IsRaised funcs base entries step raised) (now : IsNow entries step entry) where
  entered : (more : List Item) → IsStamped (raised ++ more) → AllByRecursion IsOpenItem more → IsLegalAfter (list_so_far raised) more
      → (list_after_items (list_so_far raised) more).time ≤ entry.time → SameSessions (list_after_items (list_so_far raised) more) (course_after (course_on none_yet entries) entry.what)
      → seen_behind (ranges (events_of raised)) (reasons (events_of raised)) more ≡ seen_of funcs base (course_on none_yet entries) step entry.time entry.what
      → reasons_after (ranges (events_of raised)) (reasons (events_of raised)) (events_of more) ≡ reasons (events_of raised)
      → IsRaised funcs base (entries ++ entry ∷ []) step (raised ++ more)
  entered more stamped unfinished legal time sessions seen still =
      let list : list_so_far (raised ++ more) ≡ list_after_items (list_so_far raised) more = list_after_items-append nothing_yet raised more in
      let at : last_step (entries ++ entry ∷ []) ≡ entry.step = last_step-push entries entry in
      let here = now.step_is in
      let why : reasons (events_of (raised ++ more)) ≡ reasons_of funcs (plain funcs step) = reasons-more raised more ∙ still ∙ same_reasons funcs base entries step raised is in
      record {
        stamped = stamped;
        legal = legal_more nothing_yet raised more is.unfinished is.legal legal;
        unfinished = all_joined IsOpenItem raised more is.unfinished unfinished;
        time = subst (λ (c : ListSoFar). c.time ≤ last_time (entries ++ entry ∷ [])) (sym list) (subst (λ (n : ℕ). (list_after_items (list_so_far raised) more).time ≤ n) (sym (last_time-push entries entry)) time);
        sessions =
            subst (λ (c : ListSoFar). SameSessions c (course_on none_yet (entries ++ entry ∷ []))) (sym list)
            (subst (λ (c : Course). SameSessions (list_after_items (list_so_far raised) more) c) (sym (course_on-push none_yet entries entry)) sessions);
        reached = omega (arith, at, here);
        seen = seen_more [] no_reasons raised more ∙ (λ i. is.seen i ++ seen i) ∙ sym (entry_adds funcs base entries step entry now.step_is);
        reasons = λ e. ap (λ (r : DeoptReasons). r e) why;
      }

  not_later : (list_so_far raised).time ≤ entry.time
  not_later = let had = is.time in let later = now.time_is in omega (arith, had, later)

pub drops : DropsRaiseNothing
drops funcs base entries step raised entry is now dropped =
    let same : raised ++ [] ≡ raised = append-nil raised in
    subst (IsRaised funcs base (entries ++ entry ∷ []) step) same
    (entered funcs base entries step raised entry is now [] (subst IsStamped (sym same) is.stamped) tt tt (not_later funcs base entries step raised entry is now)
    (subst (λ (w : What). SameSessions (list_so_far raised) (course_after (course_on none_yet entries) w)) (sym dropped) is.sessions)
    (ap (seen_of funcs base (course_on none_yet entries) step entry.time) (sym dropped)) refl)

pub samples : SamplesAreRaised
samples funcs base entries step raised entry tick is now sampled shows time interval hit only stamped =
    let list = list_so_far raised in
    let course = course_on none_yet entries in
    let later = not_later funcs base entries step raised entry is now in
    let here : resolved_tick (ranges (events_of raised)) tick ≡ record { time = entry.time; interval = source_for base (running_after entries); hit = true; only = None; frames = plain_frames funcs (plain funcs step) } =
    (λ i. record { time = time i; interval = interval i; hit = hit i; only = only i; frames = shows i }) in
    entered funcs base entries step raised entry is now (item.Tick tick ∷ []) stamped (tt, tt) (omega (arith, later, time), tt) (omega (arith, time))
    (subst (λ (w : What). SameSessions (at_time tick.time list) (course_after course w)) (sym sampled) (same_at list course is.sessions tick.time))
    (ap (λ (t : ResolvedTick). ticked t ∷ []) here ∙ ap (seen_of funcs base course step entry.time) (sym sampled)) refl

pub starts : StartsAreRaised
starts funcs base entries step raised entry e options tick is now start few event shows time interval hit only stamped =
    let list = list_so_far raised in
    let course = course_on none_yet entries in
    let at : List Range = ranges (events_of raised) in
    let why : DeoptReasons = reasons (events_of raised) in
    let number = next_number entries in
    let later = not_later funcs base entries step raised entry is now in
    let many = as_many list course is.sessions in
    let same_time : tick.time ≡ entry.time = time in
    let here : resolved_tick (ranges (events_of raised)) tick ≡ record { time = entry.time; interval = 0; hit = false; only = Some number; frames = plain_frames funcs (plain funcs step) } =
    (λ i. record { time = time i; interval = interval i; hit = hit i; only = only i; frames = shows i }) in
    let known : EventRecord = record { number = e.number; ticks_before = e.ticks_before; event = Start number options entry.time } in
    let e_is : known ≡ e = sym (λ i. record { number = e.number; ticks_before = e.ticks_before; event = event i }) in
    let items = λ (x : EventRecord). item.Event x ∷ item.Tick tick ∷ [] in
    let after : ListSoFar = record { time = tick.time; started = number.0 ∷ list.started; running = number.0 ∷ list.running } in
    entered funcs base entries step raised entry is now (items e) stamped
    (subst (λ (x : EventRecord). AllByRecursion IsOpenItem (items x)) e_is (tt, (tt, tt)))
    (subst (λ (x : EventRecord). IsLegalAfter list (items x)) e_is (later, is_new list course is.sessions, omega (arith, many, few), (omega (arith, same_time), tt)))
    (subst (λ (x : EventRecord). (list_after_items list (items x)).time ≤ entry.time) e_is (omega (arith, same_time)))
    (subst (λ (x : EventRecord). SameSessions (list_after_items list (items x)) (course_after course entry.what)) e_is
    (subst (λ (w : What). SameSessions after (course_after course w)) (sym start) (same_started list course is.sessions tick.time options)))
    (ap (λ (x : EventRecord). seen_behind at why (items x)) (sym e_is)
    ∙ ap (λ (t : ResolvedTick). started number options entry.time ∷ ticked t ∷ []) here
    ∙ ap (seen_of funcs base course step entry.time) (sym start))
    (ap (λ (x : EventRecord). reasons_after at why (events_of (items x))) (sym e_is))

pub stops : StopsAreRaised
stops funcs base entries step raised entry e port number is now stop has event stamped =
    let list = list_so_far raised in
    let course = course_on none_yet entries in
    let at : List Range = ranges (events_of raised) in
    let why : DeoptReasons = reasons (events_of raised) in
    let later = not_later funcs base entries step raised entry is now in
    let known : EventRecord = record { number = e.number; ticks_before = e.ticks_before; event = Stop number entry.time } in
    let e_is : known ≡ e = sym (λ i. record { number = e.number; ticks_before = e.ticks_before; event = event i }) in
    let items = λ (x : EventRecord). item.Event x ∷ [] in
    entered funcs base entries step raised entry is now (items e) stamped
    (subst (λ (x : EventRecord). AllByRecursion IsOpenItem (items x)) e_is (tt, tt))
    (subst (λ (x : EventRecord). IsLegalAfter list (items x)) e_is (later, runs list course is.sessions number.0 port has.0 has.1, tt))
    (subst (λ (x : EventRecord). (list_after_items list (items x)).time ≤ entry.time) e_is (omega arith))
    (subst (λ (x : EventRecord). SameSessions (list_after_items list (items x)) (course_after course entry.what)) e_is
    (subst (λ (w : What). SameSessions (list_after_items list (items known)) (course_after course w)) (sym stop) (same_stopped list course is.sessions entry.time port number)))
    (ap (λ (x : EventRecord). seen_behind at why (items x)) (sym e_is)
    ∙ ap (λ (r : DeoptReasons). stopped number entry.time r ∷ []) (same_reasons funcs base entries step raised is)
    ∙ ap (seen_of funcs base course step entry.time) (sym stop))
    (ap (λ (x : EventRecord). reasons_after at why (events_of (items x))) (sym e_is))
