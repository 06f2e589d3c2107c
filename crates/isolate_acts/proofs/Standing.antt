-- Each act keeps the list that the isolate stands for.
use Rattle.std.proofs.Common.{◌≡◌, ℕ, suc, ◌<◌, ◌≤◌, List, [], ◌∷◌, ◌++◌, map, length, refl, ap, sym, subst, ◌∙◌, arith}
use Rattle.std.proofs.lemmas.Bool.Decides.{nat_tests}
use Rattle.std.proofs.lemmas.List.{append_assoc, append-nil}
use Rattle.std.specs.Prelude.{Bool, true, false, not, ◌&&◌, ◌==◌, None, if◌then◌else◌}
use Rattle.std.specs.List.{AllByRecursion}
use Rattle.prof_base.specs.declared.ids.SessionId.{SessionId}
use Rattle.guest_program.specs.declared.instr.Func.{Func}
use Rattle.code_event.specs.CodeMap.{ranges, after_events}
use Rattle.code_event.specs.DeoptReasons.{DeoptReasons, reasons, reasons_after}
use Rattle.code_event.specs.ItemList.{IsStampedBehind, IsStamped, IsLegalAfter}
use Rattle.code_event.specs.MomentLaws.{events_of}
use Rattle.code_event.specs.Seen.{Seen, ticked, resolved_tick}
use Rattle.code_event.specs.Symbolizer.{frames_over}
use Rattle.code_event.specs.declared.code_map.Range.{Range}
use Rattle.code_event.specs.declared.entry.Entry.{Entry}
use Rattle.code_event.specs.declared.event.CodeEvent.{CodeEvent}
use Rattle.code_event.specs.declared.event.CodeEvent.TheVariants as event
use Rattle.code_event.specs.declared.event.Command.{Command}
use Rattle.code_event.specs.declared.event.Command.TheVariants as command
use Rattle.code_event.specs.declared.event.EventRecord.{EventRecord}
use Rattle.code_event.specs.declared.event.Options.{Options}
use Rattle.code_event.specs.declared.event.TheConstants.{MAX_SESSIONS}
use Rattle.code_event.specs.declared.seen.ResolvedTick.{ResolvedTick}
use Rattle.code_event.specs.declared.tick.Item.{Item}
use Rattle.code_event.specs.declared.tick.Item.TheVariants as item
use Rattle.code_event.specs.declared.tick.Tick.{Tick}
use Rattle.plain_machine.specs.PlainMachine.{plain, deopts}
use Rattle.plain_machine.specs.PlainFrames.{plain_frames, reasons_of}
use Rattle.isolate.specs.PlainFile.{given_up_for, tick_at, leaves_files}
use Rattle.isolate.specs.RunLaws.{last_time}
use Rattle.pipe_core.proofs.StampedRest.{behind_joins, event_count-append, tick_count-append}
use Rattle.pipe_core.specs.Stamps.{event_count, tick_count}
use Rattle.run_schedule.specs.Schedule.{Running, HasSession, none_yet, course_on}
use Rattle.run_schedule.specs.declared.schedule.EndCause.{EndCause}
use Rattle.run_schedule.specs.declared.schedule.EndCause.TheVariants as cause
use Rattle.run_schedule.specs.declared.schedule.What.TheVariants as what
use Rattle.raised_so_far.proofs.EntriesRaised.{same_reasons, starts as start_raised, stops as stop_raised}
use Rattle.raised_so_far.proofs.Files.{ends as end_raised, short_turns}
use Rattle.raised_so_far.proofs.Items.{events_of-append, legal_more, reasons-more}
use Rattle.raised_so_far.proofs.Sessions.{is_new, as_many}
use Rattle.raised_so_far.proofs.StepsRaised.{steps as step_raised}
use Rattle.raised_so_far.specs.ItemsSoFar.{nothing_yet, list_so_far, IsCodeEvent}
use Rattle.raised_so_far.specs.Raised.{IsRaised, IsWhole}
use Rattle.isolate_acts.proofs.Samples.{now_is, stamped_by, code_same, shows, ranges-more}
use Rattle.isolate_acts.proofs.Stamped.{numbered_stamped, event_count-numbered, tick_count-numbered, events_of-numbered, numbered_code, short_is_legal, event_count-ticks, tick_count-ticks, events_of-ticks, given_stamped}
use Rattle.isolate_acts.specs.Acts.{starts, stops, steps, ends, act_after, act_raises, event_of, numbered, start_mark, start_tick, given_up_tick, given_up_ticks, cut_marks, after_short, raised_short}
use Rattle.isolate_acts.specs.Phases.{IsStep, IsLegalCommand}
use Rattle.isolate_acts.specs.Progress.{Moment, Progress, IsWithin, running_now, some_runs, entry_time, entry_now}
use Rattle.isolate_acts.specs.Stands.{IsMoment, IsGoing}

some_is : (r : Running) (running : List Running) → not (length (r ∷ running) == 0) ≡ true
some_is r running = let more : 0 < length (r ∷ running) = omega arith in grind (arith, nat_tests)

-- what is seen where some session runs
abbrev seen_for : List Running → List Seen → List Seen
seen_for [] seen = []
seen_for (r ∷ running) seen = seen ++ []

both : (at : List Range) (tick : Tick) (x : Seen) (running : List Running) (d : Bool) → ticked (resolved_tick at tick) ≡ x
    → map (λ t. ticked (resolved_tick at t)) (if d && not (length running == 0) then tick ∷ [] else []) ≡ seen_for running (if d then x ∷ [] else [])
both at tick x [] true is = refl
both at tick x [] false is = refl
both at tick x (r ∷ running) true is =
    ap (λ (b : Bool). map (λ (t : Tick). ticked (resolved_tick at t)) (if b then tick ∷ [] else [])) (some_is r running) ∙ ap (λ (y : Seen). y ∷ []) is
both at tick x (r ∷ running) false is = refl

for_running : (funcs : List Func) (running : List Running) (time step : ℕ) → seen_for running (if deopts funcs step then tick_at funcs (suc step) time 0 false None ∷ [] else []) ≡ given_up_for running funcs time step 1
for_running funcs [] time step = refl
for_running funcs (r ∷ running) time step = refl

module _ (funcs : List Func) (moment : Moment) (p : Progress) (raised : List Item) (is : IsGoing funcs moment p raised) (within : IsWithin p) where
  pub start_stands : IsMoment moment → (options : Options) (now : ℕ) (is_taken : Bool) → length (running_now p) < MAX_SESSIONS
      → IsGoing funcs moment (act_after moment p (starts options now is_taken)) (raised ++ act_raises moment p (starts options now is_taken))
  start_stands is_moment options now is_taken few =
      let e : EventRecord = event_of p (start_mark p options now) in
      let t : Tick = start_tick moment p (entry_time p now) in
      let more : List Item = item.Event e ∷ item.Tick t ∷ [] in
      let events = event_count-append raised more in
      let ticks = tick_count-append raised more in
      let events_had = is.events_are in
      let ticks_had = is.ticks_are in
      record {
        funcs_are = is.funcs_are;
        raised_is =
            start_raised funcs p.schedule.base p.schedule.entries p.step raised (entry_now p now (what.Start options)) e options t is.raised_is
            (now_is funcs moment p raised is within now (what.Start options)) refl few refl (shows funcs moment p raised is within is_moment) refl refl refl refl
            (stamped_by funcs moment p raised is within more (refl, refl, (refl, refl, tt)));
        code_is = code_same funcs moment p raised is within more refl;
        step_is = is.step_is;
        events_are = omega (arith, events, events_had);
        ticks_are = omega (arith, ticks, ticks_had);
      }

  pub stop_stands : (port : ℕ) (number : SessionId) (now : ℕ) (is_taken : Bool) → HasSession (running_now p) (what.Stop port number)
      → IsGoing funcs moment (act_after moment p (stops port number now is_taken)) (raised ++ act_raises moment p (stops port number now is_taken))
  stop_stands port number now is_taken has =
      let e : EventRecord = event_of p (event.Stop number (entry_time p now)) in
      let more : List Item = item.Event e ∷ [] in
      let events = event_count-append raised more in
      let ticks = tick_count-append raised more in
      let events_had = is.events_are in
      let ticks_had = is.ticks_are in
      record {
        funcs_are = is.funcs_are;
        raised_is =
            stop_raised funcs p.schedule.base p.schedule.entries p.step raised (entry_now p now (what.Stop port number)) e port number is.raised_is
            (now_is funcs moment p raised is within now (what.Stop port number)) refl has refl (stamped_by funcs moment p raised is within more (refl, refl, tt));
        code_is = code_same funcs moment p raised is within more refl;
        step_is = is.step_is;
        events_are = omega (arith, events, events_had);
        ticks_are = omega (arith, ticks, ticks_had);
      }

  pub end_stands : (why : EndCause) (now : ℕ) → IsWhole funcs (act_after moment p (ends why now)).schedule (raised ++ act_raises moment p (ends why now))
  end_stands why now =
      let e : EventRecord = event_of p (event.Finish (entry_time p now) (leaves_files why)) in
      end_raised funcs (act_after moment p (ends why now)).schedule p.schedule.entries p.step raised (entry_now p now (what.End why)) e why is.raised_is
      (now_is funcs moment p raised is within now (what.End why)) refl refl refl (stamped_by funcs moment p raised is within (item.Event e ∷ []) (refl, refl, tt))

  -- an end out of memory, after events that may come
  short_stands : (events : List CodeEvent) (now : ℕ) → IsLegalAfter (list_so_far raised) (raised_short p events now) → IsWhole funcs (after_short p events now).schedule (raised ++ raised_short p events now)
  short_stands events now legal =
      let more : List Item = raised_short p events now in
      short_turns funcs (after_short p events now).schedule p.schedule.entries p.step (entry_time p now) raised more is.raised_is refl
      (stamped_by funcs moment p raised is within more (numbered_stamped p.events p.ticks (events ++ event.Finish (entry_time p now) false ∷ [])))
      (legal_more nothing_yet raised more is.raised_is.unfinished is.raised_is.legal legal)

  not_later : (now : ℕ) → (list_so_far raised).time ≤ entry_time p now
  not_later now =
      let had = is.raised_is.time in
      let later = (now_is funcs moment p raised is within now (what.End cause.Memory)).time_is in
      omega (arith, had, later)

  pub cut_step_stands : (events : List CodeEvent) (now : ℕ) → AllByRecursion IsCodeEvent events → IsWhole funcs (after_short p events now).schedule (raised ++ raised_short p events now)
  cut_step_stands events now code = short_stands events now (short_is_legal (list_so_far raised) p.events p.ticks (entry_time p now) events code (not_later now))

  cut_is_legal : (port : ℕ) (given : Command) (is_marked : Bool) (now : ℕ) → IsLegalCommand p port given → IsLegalAfter (list_so_far raised) (raised_short p (cut_marks p given is_marked now) now)
  cut_is_legal port (command.Start options) true now legal =
      let same : length (list_so_far raised).running ≡ length (running_now p) = as_many (list_so_far raised) (course_on none_yet p.schedule.entries) is.raised_is.sessions in
      let few = legal.1 in
      (not_later now, is_new (list_so_far raised) (course_on none_yet p.schedule.entries) is.raised_is.sessions, subst (λ n. n < MAX_SESSIONS) (sym same) few, (omega arith, refl))
  cut_is_legal port (command.Start options) false now legal = (not_later now, refl)
  cut_is_legal port (command.Stop number) is_marked now legal = (not_later now, refl)

  pub cut_command_stands : (port : ℕ) (given : Command) (is_marked : Bool) (now : ℕ) → IsLegalCommand p port given
      → IsWhole funcs (after_short p (cut_marks p given is_marked now) now).schedule (raised ++ raised_short p (cut_marks p given is_marked now) now)
  cut_command_stands port given is_marked now legal = short_stands (cut_marks p given is_marked now) now (cut_is_legal port given is_marked now legal)

  given_up_seen : (after : Moment) (events : List CodeEvent) → IsStep moment after events → (at : List Range) → after.code ≡ at
      → map (λ t. ticked (resolved_tick at t)) (given_up_ticks moment after p (length events)) ≡ given_up_for (running_now p) funcs (last_time p.schedule.entries) p.step 1
  given_up_seen after events step at code =
      let time : ℕ = last_time p.schedule.entries in
      let tick : Tick = given_up_tick after p (length events) in
      let funcs_then : after.funcs ≡ funcs = step.funcs ∙ is.funcs_are in
      let steps_then : after.steps ≡ suc p.step = step.steps ∙ ap suc (sym is.step_is) in
      let shown : frames_over at after.state after.stack ≡ plain_frames funcs (plain funcs (suc p.step)) =
      ap (λ (r : List Range). frames_over r after.state after.stack) (sym code) ∙ step.shows ∙ (λ i. plain_frames (funcs_then i) (plain (funcs_then i) (steps_then i))) in
      let seen : resolved_tick at tick ≡ record { time = time; interval = 0; hit = false; only = None; frames = plain_frames funcs (plain funcs (suc p.step)) } =
      (λ i. record { time = time; interval = 0; hit = false; only = None; frames = shown i }) in
      let same_deopts : deopts moment.funcs moment.steps ≡ deopts funcs p.step = (λ i. deopts (is.funcs_are i) (sym is.step_is i)) in
      ap (λ (d : Bool). map (λ (t : Tick). ticked (resolved_tick at t)) (if d && some_runs p then tick ∷ [] else [])) same_deopts
      ∙ both at tick (tick_at funcs (suc p.step) time 0 false None) (running_now p) (deopts funcs p.step) (ap (λ (t : ResolvedTick). ticked t) seen) ∙ for_running funcs (running_now p) time p.step

  pub step_stands : (after : Moment) (events : List CodeEvent) → IsStep moment after events → IsGoing funcs after (act_after moment p (steps after events)) (raised ++ act_raises moment p (steps after events))
  step_stands after events step =
      let items : List Item = numbered p.events p.ticks events in
      let given : List Tick = given_up_ticks moment after p (length events) in
      let ticks : List Item = map (λ t. item.Tick t) given in
      let grouped : (raised ++ items) ++ ticks ≡ raised ++ (items ++ ticks) = append_assoc raised items ticks in
      let just_events : events_of items ≡ events = events_of-numbered p.events p.ticks events in
      let at : List Range = ranges (events_of raised) in
      let why : DeoptReasons = reasons_of funcs (plain funcs p.step) in
      let ranges_then : after.code ≡ ranges (events_of (raised ++ items)) =
      step.code ∙ (λ i. after_events (is.code_is i) (sym just_events i)) ∙ sym (ranges-more raised items) in
      let same_why : reasons_of moment.funcs (plain moment.funcs moment.steps) ≡ why = (λ i. reasons_of (is.funcs_are i) (plain (is.funcs_are i) (sym is.step_is i))) in
      let reasons_then : (entry : Entry) → reasons (events_of (raised ++ items)) entry ≡ reasons_of funcs (plain funcs (suc p.step)) entry = λ entry.
      ap (λ (r : DeoptReasons). r entry) (reasons-more raised items ∙ (λ i. reasons_after (sym is.code_is i) ((same_reasons funcs p.schedule.base p.schedule.entries p.step raised is.raised_is ∙ sym same_why) i) (just_events i)))
      ∙ step.reasons entry ∙ (λ i. reasons_of (is.funcs_are i) (plain (is.funcs_are i) (suc (sym is.step_is i))) entry) in
      let stamps : IsStampedBehind p.events p.ticks (items ++ ticks) =
      behind_joins p.events p.ticks items ticks (numbered_stamped p.events p.ticks events)
      (given_stamped moment after p items (length events) (event_count-numbered p.events p.ticks events) (tick_count-numbered p.events p.ticks events)) in
      let stamped : IsStamped ((raised ++ items) ++ ticks) = subst IsStamped (sym grouped) (stamped_by funcs moment p raised is within (items ++ ticks) stamps) in
      let raised_then : IsRaised funcs p.schedule.base p.schedule.entries (suc p.step) ((raised ++ items) ++ ticks) =
      step_raised funcs p.schedule.base p.schedule.entries p.step raised items given is.raised_is (numbered_code p.events p.ticks events step.of_code) reasons_then
      (given_up_seen after events step (ranges (events_of (raised ++ items))) ranges_then) stamped in
      let same_events : events_of ((raised ++ items) ++ ticks) ≡ events_of (raised ++ items) =
      events_of-append (raised ++ items) ticks ∙ ap (λ (more : List CodeEvent). events_of (raised ++ items) ++ more) (events_of-ticks given) ∙ append-nil (events_of (raised ++ items)) in
      let events_more = event_count-append raised (items ++ ticks) in
      let ticks_more = tick_count-append raised (items ++ ticks) in
      let events_both = event_count-append items ticks in
      let ticks_both = tick_count-append items ticks in
      let events_new = event_count-numbered p.events p.ticks events in
      let ticks_none = tick_count-numbered p.events p.ticks events in
      let events_given : event_count ticks ≡ 0 = event_count-ticks given in
      let ticks_given : tick_count ticks ≡ length given = tick_count-ticks given in
      let events_had = is.events_are in
      let ticks_had = is.ticks_are in
      let step_had = is.step_is in
      let steps_then = step.steps in
      record {
        funcs_are = step.funcs ∙ is.funcs_are;
        raised_is = subst (IsRaised funcs p.schedule.base p.schedule.entries (suc p.step)) grouped raised_then;
        code_is = ranges_then ∙ ap ranges (sym same_events ∙ ap events_of grouped);
        step_is = omega arith;
        events_are = omega arith;
        ticks_are = omega arith;
      }
