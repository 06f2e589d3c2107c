-- The files of sessions that were stopped, and what was raised by the end of a run.
use Rattle.std.proofs.Common.{◌≡◌, ℕ, ◌-◌, List, [], ◌∷◌, ◌++◌, refl, ap, sym, subst, ◌∙◌, arith}
use Rattle.std.proofs.lemmas.List.{append_assoc, append-nil}
use Rattle.std.specs.Prelude.{Bool, true, false, ◌||◌, ◌==◌, None}
use Rattle.prof_base.specs.declared.ids.SessionId.{SessionId}
use Rattle.guest_program.specs.declared.instr.Func.{Func}
use Rattle.code_event.proofs.FilesGrow.{has_close, recording-closed, same_file}
use Rattle.code_event.proofs.SeenMore.{seen_more}
use Rattle.code_event.specs.CodeMap.{ranges}
use Rattle.code_event.specs.DeoptReasons.{DeoptReasons, no_reasons, reasons}
use Rattle.code_event.specs.FileText.{file}
use Rattle.code_event.specs.ItemList.{IsLegalAfter}
use Rattle.code_event.specs.MomentLaws.{events_of}
use Rattle.code_event.specs.Recording.{recording}
use Rattle.code_event.specs.Seen.{Seen, started, stopped, finished, ticked, seen_items, seen_behind as items_seen_behind}
use Rattle.code_event.specs.declared.event.CodeEvent.TheVariants.{Finish}
use Rattle.code_event.specs.declared.event.EventRecord.{EventRecord}
use Rattle.code_event.specs.declared.tick.Item.{Item}
use Rattle.code_event.specs.declared.tick.Item.TheVariants as item
use Rattle.run_schedule.specs.Schedule.{Course, none_yet, course_after, course_on}
use Rattle.run_schedule.specs.ScheduleParts.{ScheduleParts}
use Rattle.run_schedule.specs.declared.schedule.EndCause.TheVariants as cause
use Rattle.run_schedule.specs.declared.schedule.ScheduleEntry.{ScheduleEntry}
use Rattle.run_schedule.specs.declared.schedule.What.{What}
use Rattle.run_schedule.specs.declared.schedule.What.TheVariants as what
use Rattle.isolate.proofs.EntriesMore.{seen_behind-push}
use Rattle.isolate.specs.PlainFile.{given_up_for, seen_of, seen_behind, seen_on, seen_run, plain_file, leaves_files}
use Rattle.isolate.specs.RunLaws.{given_up_until}
use Rattle.raised_so_far.proofs.Entries.{entry_adds, none_until}
use Rattle.raised_so_far.proofs.EntriesRaised.{same_reasons}
use Rattle.raised_so_far.proofs.Items.{legal_more}
use Rattle.raised_so_far.specs.EntriesSoFar.{is_stop_of, has_stop}
use Rattle.raised_so_far.specs.ItemsSoFar.{nothing_yet, list_so_far}
use Rattle.raised_so_far.specs.Laws.{EndsAreRaised, ShortTurnsKeepFiles, FilesAreThePlainOnes}
use Rattle.raised_so_far.specs.Raised.{IsRaised}

-- ---- what is seen of entries of which one is a stop ends the session

has_close-later : (number : ℕ) (seen more : List Seen) → has_close number more ≡ true → has_close number (seen ++ more) ≡ true
has_close-later number [] more closed = closed
has_close-later number (started s options time ∷ seen) more closed = has_close-later number seen more closed
has_close-later number (stopped s time reasons ∷ seen) more closed =
    let rest = has_close-later number seen more closed in
    elim (s.0 == number) as (λ (b : Bool). (b || has_close number (seen ++ more)) ≡ true) [ true ↦ refl | false ↦ rest ]
has_close-later number (finished time files reasons ∷ seen) more closed = refl
has_close-later number (ticked tick ∷ seen) more closed = has_close-later number seen more closed

has_close-earlier : (number : ℕ) (seen more : List Seen) → has_close number seen ≡ true → has_close number (seen ++ more) ≡ true
has_close-earlier number [] more closed = absurd (cc closed)
has_close-earlier number (started s options time ∷ seen) more closed = has_close-earlier number seen more closed
has_close-earlier number (stopped s time reasons ∷ seen) more closed =
    elim (s.0 == number) as (λ (b : Bool). (b || has_close number seen) ≡ true → (b || has_close number (seen ++ more)) ≡ true) [
      | true ↦ λ e. refl
      | false ↦ λ e. has_close-earlier number seen more e
    ] closed
has_close-earlier number (finished time files reasons ∷ seen) more closed = refl
has_close-earlier number (ticked tick ∷ seen) more closed = has_close-earlier number seen more closed

stop_closes : (funcs : List Func) (base number step time : ℕ) (course : Course) (w : What) → is_stop_of number w ≡ true → has_close number (seen_of funcs base course step time w) ≡ true
stop_closes funcs base number step time course (what.Stop port session) is = ap (λ (b : Bool). b || false) is
stop_closes funcs base number step time course what.Sampled is = absurd (cc is)
stop_closes funcs base number step time course what.Dropped is = absurd (cc is)
stop_closes funcs base number step time course (what.Start options) is = absurd (cc is)
stop_closes funcs base number step time course (what.End cause) is = refl

entries_close : (funcs : List Func) (base number : ℕ) (course : Course) (step time : ℕ) (entries : List ScheduleEntry) → has_stop number entries ≡ true
    → has_close number (seen_behind funcs base course step time entries) ≡ true
entries_close funcs base number course step time [] has = absurd (cc has)
entries_close funcs base number course step time (entry ∷ entries) has =
    let waits : List Seen = given_up_for course.running funcs time step (entry.step - step) in
    let own : List Seen = seen_of funcs base course entry.step entry.time entry.what in
    let rest : List Seen = seen_behind funcs base (course_after course entry.what) entry.step entry.time entries in
    elim (is_stop_of number entry.what) as (λ (b : Bool). is_stop_of number entry.what ≡ b → (b || has_stop number entries) ≡ true → has_close number (waits ++ own ++ rest) ≡ true) [
      | true ↦ λ is e. has_close-earlier number (waits ++ own) rest (has_close-later number waits own (stop_closes funcs base number entry.step entry.time course entry.what is))
      | false ↦ λ is e. has_close-later number (waits ++ own) rest (entries_close funcs base number (course_after course entry.what) entry.step entry.time entries e)
    ] refl has

pub files : FilesAreThePlainOnes
files funcs schedule step raised number is stops =
    let run : List Seen = seen_run funcs schedule in
    let waits : List Seen = given_up_until funcs schedule.entries step in
    same_file schedule.base number (seen_items raised) run
    (ap (recording number.0) is.seen ∙ recording-closed number.0 None run waits (entries_close funcs schedule.base number.0 none_yet 0 0 schedule.entries stops))

-- ---- the end

-- a stop is among the entries before one that is none
stop_before : (number : ℕ) (entries : List ScheduleEntry) (last : ScheduleEntry) → is_stop_of number last.what ≡ false → has_stop number (entries ++ last ∷ []) ≡ has_stop number entries
stop_before number [] last none = ap (λ (b : Bool). b || false) none
stop_before number (entry ∷ entries) last none = ap (λ (b : Bool). is_stop_of number entry.what || b) (stop_before number entries last none)

-- the files of sessions that were stopped before more items
files_before : (funcs : List Func) (schedule : ScheduleParts) (entries : List ScheduleEntry) (step : ℕ) (last : ScheduleEntry) (raised more : List Item) (number : SessionId)
    → IsRaised funcs schedule.base entries step raised → schedule.entries ≡ entries ++ last ∷ [] → is_stop_of number.0 last.what ≡ false → has_stop number.0 schedule.entries ≡ true
    → file schedule.base number (seen_items (raised ++ more)) ≡ plain_file funcs schedule number
files_before funcs schedule entries step last raised more number is split none stops =
    let base : ℕ = schedule.base in
    let before : List Seen = seen_on funcs base entries in
    let waits : List Seen = given_up_until funcs entries step in
    let rest : List Seen = items_seen_behind (ranges (events_of raised)) (reasons (events_of raised)) more in
    let until : List Seen = given_up_until funcs entries last.step in
    let own : List Seen = seen_of funcs base (course_on none_yet entries) last.step last.time last.what in
    let early : has_stop number.0 entries ≡ true = sym (stop_before number.0 entries last none) ∙ ap (has_stop number.0) (sym split) ∙ stops in
    let closed : has_close number.0 before ≡ true = entries_close funcs base number.0 none_yet 0 0 entries early in
    let items : seen_items (raised ++ more) ≡ before ++ (waits ++ rest) = seen_more [] no_reasons raised more ∙ ap (λ (seen : List Seen). seen ++ rest) is.seen ∙ append_assoc before waits rest in
    let run : seen_run funcs schedule ≡ before ++ (until ++ own) =
    ap (λ (all : List ScheduleEntry). seen_on funcs base all) split ∙ seen_behind-push funcs base none_yet 0 0 entries last ∙ append_assoc before until own in
    same_file base number (seen_items (raised ++ more)) (seen_run funcs schedule)
    (ap (recording number.0) items ∙ recording-closed number.0 None before (waits ++ rest) closed
    ∙ sym (ap (recording number.0) run ∙ recording-closed number.0 None before (until ++ own) closed))

pub ends : EndsAreRaised
ends funcs schedule entries step raised entry e cause is now end split event stamped =
    let base : ℕ = schedule.base in
    let list = list_so_far raised in
    let had = is.time in
    let later = now.time_is in
    let known : EventRecord = record { number = e.number; ticks_before = e.ticks_before; event = Finish entry.time (leaves_files cause) } in
    let e_is : known ≡ e = sym (λ i. record { number = e.number; ticks_before = e.ticks_before; event = event i }) in
    let items = λ (x : EventRecord). item.Event x ∷ [] in
    let shown : items_seen_behind (ranges (events_of raised)) (reasons (events_of raised)) (items e) ≡ seen_of funcs base (course_on none_yet entries) step entry.time entry.what =
    ap (λ (x : EventRecord). items_seen_behind (ranges (events_of raised)) (reasons (events_of raised)) (items x)) (sym e_is)
    ∙ ap (λ (r : DeoptReasons). finished entry.time (leaves_files cause) r ∷ []) (same_reasons funcs base entries step raised is)
    ∙ ap (seen_of funcs base (course_on none_yet entries) step entry.time) (sym end) in
    record {
      stamped = stamped;
      legal = legal_more nothing_yet raised (items e) is.unfinished is.legal (subst (λ (x : EventRecord). IsLegalAfter list (items x)) e_is (omega (arith, had, later), refl));
      seen = λ other.
          seen_more [] no_reasons raised (items e) ∙ (λ i. is.seen i ++ shown i) ∙ sym (entry_adds funcs base entries step entry now.step_is)
          ∙ ap (λ (seen : List Seen). seen_on funcs base (entries ++ entry ∷ []) ++ seen) (none_until funcs entries entry step now.step_is)
          ∙ append-nil (seen_on funcs base (entries ++ entry ∷ [])) ∙ ap (λ (all : List ScheduleEntry). seen_on funcs base all) (sym split);
      files = λ number stops. files_before funcs schedule entries step entry raised (items e) number is split (ap (is_stop_of number.0) end) stops;
    }

pub short_turns : ShortTurnsKeepFiles
short_turns funcs schedule entries step time raised more is split stamped legal = record {
  stamped = stamped;
  legal = legal;
  seen = λ other. absurd (other (entries, step, time, split));
  files = λ number stops. files_before funcs schedule entries step (record { step = step; time = time; what = what.End cause.Memory }) raised more number is split refl stops;
}
