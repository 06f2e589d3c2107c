-- What a course has filed after one more item, and after one more session of a finish.
use Rattle.std.proofs.Common.{◌≡◌, ℕ, List, [], ◌∷◌, ◌++◌, map, Bool, true, false, cond, not, ◌==◌, refl, sym, ap, subst, ◌∙◌, append-nil, append_assoc, inl, inr}
use Rattle.std.proofs.lemmas.Cmp.{nat_cmp_total}
use Rattle.std.specs.Prelude.{Option, Some, None}
use Rattle.std.specs.List.{AllByRecursion, slice_get}
use Rattle.std.specs.Ordering.{nat_cmp}
use Rattle.prof_base.proofs.Ordered.{Has, contains_from_has, put_rises}
use Rattle.prof_base.specs.Ordered.{Rises, AllAfter}
use Rattle.attribution.proofs.Courses.{Unended}
use Rattle.attribution.proofs.FinishedFiles.{recording_goes_on, stopped_among, stops_seen}
use Rattle.attribution.proofs.LegalNext.{nothing_follows_a_finish, running_have_not_ended, stops_are_of_running}
use Rattle.attribution.proofs.Without.{without_first, without_none}
use Rattle.attribution.specs.ItemLaws.{stop_at, stops_at}
use Rattle.code_event.proofs.FilesGrow.{same_file}
use Rattle.code_event.proofs.SeenMore.{seen_more, seen_by_the_events_before}
use Rattle.code_event.specs.CodeMap.{ranges}
use Rattle.code_event.specs.DeoptReasons.{DeoptReasons, no_reasons, reasons}
use Rattle.code_event.specs.FileLaws.{IsOpenEvent, IsOpenItem, ended_by_event, running_on as seen_running_on, running_after}
use Rattle.code_event.specs.ItemFile.{SessionFile, session, item_file, item_files}
use Rattle.code_event.specs.ItemList.{IsLegalItems, without}
use Rattle.code_event.specs.MomentLaws.{events_of}
use Rattle.code_event.specs.Recording.{recording}
use Rattle.code_event.specs.Seen.{Seen, started, stopped, finished, ticked, mark, seen_items}
use Rattle.code_event.specs.declared.event.CodeEvent.{CodeEvent}
use Rattle.code_event.specs.declared.event.CodeEvent.TheVariants.{Stop, Finish}
use Rattle.code_event.specs.declared.event.EventRecord.{EventRecord}
use Rattle.code_event.specs.declared.tick.Item.{Item}
use Rattle.code_event.specs.declared.tick.Item.TheVariants as item
use Rattle.code_event.specs.declared.tick.Tick.{Tick}
use Rattle.item_fold.proofs.Ending.{open_stops, has_not_ended, stops_more, rises_out}
use Rattle.item_fold.specs.declared.delivery.FileNote.{FileNote}
use Rattle.out_stream.specs.Parts.{Parts}
use Rattle.prof_base.specs.declared.ids.SessionId.{SessionId}
use Rattle.session_book.specs.Begun.{begun_after}
use Rattle.processor.specs.Course.{CourseParts, IsClosed, IsFinishing, IsFiledAt, IsOnCourse, Courses, CoursesEvent, GivesNext, EndsFirst}
use Rattle.processor.specs.Filing.{FilingParts, HasDelivered, HasFiled, Files, FilesEvent, AtStop, GivesFile}
use Rattle.processor.specs.Running.{sessions_of, without_session, port_in}
use Rattle.processor.specs.declared.ports.PortCall.{PortCall}
use Rattle.processor.specs.declared.running.SessionPort.{SessionPort}
use Rattle.processor.specs.declared.turn.Delivery.{Delivery}
use Rattle.processor.specs.declared.turn.Phase.TheVariants as phase
use Rattle.processor.proofs.Delivered.{spent_later}
use Rattle.processor.proofs.FiledItems.{none_added, sessions_after}
use Rattle.processor.proofs.RunningSessions.{sessions_without}

open_on : (items : List Item) (next : Item) → AllByRecursion IsOpenItem items → IsOpenItem next → AllByRecursion IsOpenItem (items ++ next ∷ [])
open_on [] next unfinished opened = (opened, tt)
open_on (first ∷ items) next unfinished opened = (unfinished.0, open_on items next unfinished.1 opened)

pub at_open : (course : CourseParts) (base : ℕ) (items : List Item) (before now : Option Parts) → course.phase ≡ phase.Open → IsOnCourse base items course before now
    → AllByRecursion IsOpenItem items × HasFiled base items course.filing before now
at_open course base items before now is h = subst (λ p. IsFiledAt p base items course.filing before now) is h

course_next : (old new : CourseParts) (next : Item) (parts parts' : Option Parts) → old.phase ≡ phase.Open → new.phase ≡ phase.Open → IsOpenItem next → Files old.filing parts next new.filing parts' → Courses old parts next new parts'
course_next old new next parts parts' was is opened files base items before legal h =
    let had = at_open old base items before parts was h in
    subst (λ p. IsFiledAt p base (items ++ next ∷ []) new.filing before parts') (sym is) (open_on items next had.0 opened, files base items before legal had.1)

pub course_tick : (old new : CourseParts) (tick : Tick) (parts parts' : Option Parts) → old.phase ≡ phase.Open → new.phase ≡ phase.Open → Files old.filing parts (item.Tick tick) new.filing parts' → Courses old parts (item.Tick tick) new parts'
course_tick old new tick parts parts' was is files = course_next old new (item.Tick tick) parts parts' was is tt files

pub course_event : (old new : CourseParts) (event : CodeEvent) (parts parts' : Option Parts) → old.phase ≡ phase.Open → new.phase ≡ phase.Open → IsOpenEvent event → FilesEvent old.filing parts event new.filing parts'
    → CoursesEvent old parts event new parts'
course_event old new event parts parts' was is opened files e same = course_next old new (item.Event e) parts parts' was is (subst (λ (x : CodeEvent). IsOpenEvent x) (sym same) opened) (files e same)

-- what holds at a stop in a legal list
pub at_stop : (old : CourseParts) (s : SessionId) (time : ℕ) (parts : Option Parts) (Holds : ℕ → List Item → Option Parts → Type 0) → old.phase ≡ phase.Open → AtStop old.filing parts s time Holds
    → (base : ℕ) (items : List Item) (e : EventRecord) (before : Option Parts) → e.event ≡ Stop s time → IsLegalItems (items ++ item.Event e ∷ []) → IsOnCourse base items old before parts → Holds base (items ++ item.Event e ∷ []) before
at_stop old s time parts Holds was holds base items e before is legal h =
    let had = at_open old base items before parts was h in
    let runs = stops_are_of_running items [] e s time legal is in
    holds base items e before is had.0 (running_have_not_ended items [] (item.Event e) s.0 legal runs) runs had.1

pub course_stop : (old new : CourseParts) (s : SessionId) (time : ℕ) (parts parts' : Option Parts) → old.phase ≡ phase.Open → new.phase ≡ phase.Open
    → AtStop old.filing parts s time (λ base items before. HasFiled base items new.filing before parts') → CoursesEvent old parts (Stop s time) new parts'
course_stop old new s time parts parts' was is files e same base items before legal h =
    let had = at_open old base items before parts was h in
    subst (λ p. IsFiledAt p base (items ++ item.Event e ∷ []) new.filing before parts') (sym is) (
      open_on items (item.Event e) had.0 (subst (λ (x : CodeEvent). IsOpenEvent x) (sym same) tt),
      at_stop old s time parts (λ b all from. HasFiled b all new.filing from parts') was files base items e before same legal h,
    )

pub finish_begins : (old : CourseParts) (time : ℕ) (parts : Option Parts) → old.phase ≡ phase.Open → (e : EventRecord) → e.event ≡ Finish time true
    → (base : ℕ) (items : List Item) (before : Option Parts) → IsOnCourse base items old before parts → IsFinishing base (items ++ item.Event e ∷ []) time old.filing before parts
finish_begins old time parts was e is base items before h =
    let had = at_open old base items before parts was h in
    record {
      earlier = items;
      event = e;
      all = refl;
      is_finish = is;
      ended = [];
      running = sym (ap sessions_of had.1.running_is ∙ sessions_after items);
      filed = subst (λ (l : List Item). HasFiled base l old.filing before parts) (sym (append-nil items)) had.1;
    }

pub finish_closes : (old : CourseParts) (new : FilingParts) (time : ℕ) (parts : Option Parts) → old.phase ≡ phase.Open → new.notes ≡ old.filing.notes → new.delivery ≡ old.filing.delivery
    → (new.is_spent ≡ false → old.filing.is_spent ≡ false) → (e : EventRecord) → e.event ≡ Finish time false
    → (base : ℕ) (items : List Item) (before : Option Parts) → IsOnCourse base items old before parts → IsClosed base (items ++ item.Event e ∷ []) new before parts
finish_closes old new time parts was same_notes same_delivery later e is base items before h =
    let had = at_open old base items before parts was h in
    record {
      earlier = items;
      event = e;
      time = time;
      all = refl;
      is_finish = is;
      delivered = subst (λ (fs : List SessionFile). HasDelivered fs new.delivery new.is_spent new.notes before parts) (sym (none_added base items (item.Event e) had.0 (ap (ended_by_event (running_after items)) is)))
          (subst (λ (d : Delivery). HasDelivered (item_files base items) d new.is_spent new.notes before parts) (sym same_delivery)
          (subst (λ (ns : List FileNote). HasDelivered (item_files base items) old.filing.delivery new.is_spent ns before parts) (sym same_notes)
          (spent_later (item_files base items) old.filing.delivery old.filing.is_spent new.is_spent old.filing.notes before parts later had.1.delivered)));
    }

-- ---- the sessions that a finish ends

after_without : (first number : ℕ) (ns : List ℕ) → AllAfter nat_cmp first ns → AllAfter nat_cmp first (without number ns)
after_without first number [] all = tt
after_without first number (n ∷ ns) all =
    elim (n == number) as (λ (b : Bool). AllAfter nat_cmp first (cond (not b) (n ∷ without number ns) (without number ns))) [
      | true ↦ after_without first number ns all.1
      | false ↦ (all.0, after_without first number ns all.1)
    ]

rises_without : (number : ℕ) (ns : List ℕ) → Rises nat_cmp ns → Rises nat_cmp (without number ns)
rises_without number [] rises = tt
rises_without number (n ∷ ns) rises =
    elim (n == number) as (λ (b : Bool). Rises nat_cmp (cond (not b) (n ∷ without number ns) (without number ns))) [
      | true ↦ rises_without number ns rises.1
      | false ↦ (after_without n number ns rises.0, rises_without number ns rises.1)
    ]

rises_on : (seen : List Seen) (running : List ℕ) → Rises nat_cmp running → Rises nat_cmp (seen_running_on running seen)
rises_on [] running rises = rises
rises_on (started s options time ∷ seen) running rises = rises_on seen _ (put_rises nat_cmp nat_cmp_total s.0 running rises)
rises_on (stopped s time why ∷ seen) running rises = rises_on seen (without s.0 running) (rises_without s.0 running rises)
rises_on (finished time files why ∷ seen) running rises = rises_on seen running rises
rises_on (ticked tick ∷ seen) running rises = rises_on seen running rises

-- the file of a session that a finish ends is that of a stop at its time, also where others were stopped before it
file_at_finish : (base : ℕ) (earlier : List Item) (e : EventRecord) (time : ℕ) (ended : List ℕ) (number : ℕ) → IsLegalItems (earlier ++ item.Event e ∷ []) → e.event ≡ Finish time true → Has (running_after earlier) number
    → item_file base (earlier ++ stops_at time (ended ++ number ∷ [])) (session number) ≡ item_file base (earlier ++ item.Event e ∷ []) (session number)
file_at_finish base earlier e time ended number legal is runs =
    let seen : List Seen = seen_items earlier in
    let why : DeoptReasons = reasons (events_of earlier) in
    let numbers : List ℕ = ended ++ number ∷ [] in
    let stops : List Seen = map (λ n. stopped (session n) time why) numbers in
    let seen_finish : seen_items (earlier ++ item.Event e ∷ []) ≡ seen ++ finished time true why ∷ [] =
    seen_by_the_events_before earlier (item.Event e) ∙ ap (λ event. seen ++ mark why event) is in
    let seen_stops : seen_items (earlier ++ stops_at time numbers) ≡ seen ++ stops =
    seen_more [] no_reasons earlier (stops_at time numbers) ∙ ap (λ l. seen ++ l) (stops_seen (ranges (events_of earlier)) why time numbers) in
    let unended : Unended number seen = running_have_not_ended earlier [] (item.Event e) number legal (contains_from_has (running_after earlier) number runs) in
    same_file base (session number) (seen_items (earlier ++ stops_at time numbers)) (seen_items (earlier ++ item.Event e ∷ []))
    (ap (recording number) seen_stops ∙ recording_goes_on number None seen stops unended ∙ stopped_among number (begun_after number seen) time why numbers (last_has ended number)
    ∙ sym (recording_goes_on number None seen (finished time true why ∷ []) unended) ∙ sym (ap (recording number) seen_finish))
  where
    last_has : (ns : List ℕ) (n : ℕ) → Has (ns ++ n ∷ []) n
    last_has [] n = inl refl
    last_has (m ∷ ns) n = inr (last_has ns n)

has_after : (ns rest : List ℕ) (n : ℕ) → Has (ns ++ n ∷ rest) n
has_after [] rest n = inl refl
has_after (m ∷ ns) rest n = inr (has_after ns rest n)

-- what holds at the stop of the first session that waits
pub at_next : (old : FilingParts) (s : SessionId) (rest : List ℕ) (time : ℕ) (parts : Option Parts) (Holds : ℕ → List Item → Option Parts → Type 0) → sessions_of old.running ≡ s.0 ∷ rest → AtStop old parts s time Holds
    → (base : ℕ) (items : List Item) (before : Option Parts) → IsLegalItems items → (h : IsFinishing base items time old before parts) → Holds base (h.earlier ++ stops_at time (h.ended ++ s.0 ∷ [])) before
at_next old s rest time parts Holds runs holds base items before legal h =
    let whole = subst IsLegalItems h.all legal in
    let sofar : List Item = h.earlier ++ stops_at time h.ended in
    let running : sessions_of old.running ≡ running_after sofar = ap sessions_of h.filed.running_is ∙ sessions_after sofar in
    let first : Has (running_after sofar) s.0 = subst (λ (l : List ℕ). Has l s.0) (sym runs ∙ running) (inl refl) in
    let here : EventRecord = record { number = 0; ticks_before = 0; event = Stop (session s.0) time } in
    subst (λ (all : List Item). Holds base all before)
    (append_assoc h.earlier (stops_at time h.ended) (stop_at time s.0 ∷ []) ∙ ap (λ (l : List Item). h.earlier ++ l) (sym (stops_more time h.ended s.0)))
    (holds base sofar here before refl (open_stops h.earlier time h.ended (nothing_follows_a_finish h.earlier [] (item.Event h.event) whole))
    (has_not_ended h.earlier h.event time h.ended s.0 whole first) (contains_from_has (running_after sofar) s.0 first) h.filed)

pub finish_goes_on : (old new : FilingParts) (s : SessionId) (rest : List ℕ) (time : ℕ) (parts parts' : Option Parts) → sessions_of old.running ≡ s.0 ∷ rest → new.running ≡ without_session s.0 old.running
    → AtStop old parts s time (λ base items before. HasFiled base items new before parts')
    → (base : ℕ) (items : List Item) (before : Option Parts) → IsLegalItems items → IsFinishing base items time old before parts → IsFinishing base items time new before parts'
finish_goes_on old new s rest time parts parts' runs left files base items before legal h =
    let sofar : List Item = h.earlier ++ stops_at time h.ended in
    let running : sessions_of old.running ≡ running_after sofar = ap sessions_of h.filed.running_is ∙ sessions_after sofar in
    let rises : Rises nat_cmp (s.0 ∷ rest) = subst (Rises nat_cmp) (sym running ∙ runs) (rises_on (seen_items sofar) [] tt) in
    let others : sessions_of new.running ≡ rest =
    ap sessions_of left ∙ sessions_without s.0 old.running ∙ ap (without s.0) runs ∙ without_first s.0 rest ∙ without_none s.0 rest (rises_out s.0 rest rises) in
    record {
      earlier = h.earlier;
      event = h.event;
      all = h.all;
      is_finish = h.is_finish;
      ended = h.ended ++ s.0 ∷ [];
      running = h.running ∙ ap (λ (l : List ℕ). h.ended ++ l) runs ∙ sym (append_assoc h.ended (s.0 ∷ []) rest) ∙ ap (λ (l : List ℕ). h.ended ++ s.0 ∷ [] ++ l) (sym others);
      filed = at_next old s rest time parts (λ b all from. HasFiled b all new from parts') runs files base items before legal h;
    }

pub finish_gives : (old : FilingParts) (s : SessionId) (rest : List ℕ) (time : ℕ) (is_spent : Bool) (parts : Option Parts) (given given' : Option (List PortCall)) → sessions_of old.running ≡ s.0 ∷ rest
    → AtStop old parts s time (λ base items before. GivesFile (port_in old.running s.0) s (item_file base items s) old.is_spent is_spent given given')
    → (base : ℕ) (items : List Item) (before : Option Parts) → IsLegalItems items → IsFinishing base items time old before parts → GivesNext base items (sessions_of old.running) old is_spent given given'
finish_gives old s rest time is_spent parts given given' runs gives base items before legal h =
    let whole = subst IsLegalItems h.all legal in
    let among : Has (running_after h.earlier) s.0 = subst (λ (l : List ℕ). Has l s.0) (sym (h.running ∙ ap (λ (l : List ℕ). h.ended ++ l) runs)) (has_after h.ended rest s.0) in
    subst (λ (ns : List ℕ). GivesNext base items ns old is_spent given given') (sym runs)
    (subst (λ (text : Option (List ℕ)). GivesFile (port_in old.running s.0) s text old.is_spent is_spent given given')
    (file_at_finish base h.earlier h.event time h.ended s.0 whole h.is_finish among ∙ ap (λ (l : List Item). item_file base l s) (sym h.all))
    (at_next old s rest time parts (λ b all from. GivesFile (port_in old.running s.0) s (item_file b all s) old.is_spent is_spent given given') runs gives base items before legal h))

-- the first session that waits has ended, where it stopped
pub ends_first : (running : List SessionPort) (old new : FilingParts) (number : ℕ) → Some number ≡ slice_get (sessions_of running) 0 → new.running ≡ without_session number running → EndsFirst running old new
ends_first [] old new number first ended = absurd (cc first)
ends_first (r ∷ running) old new number first ended = subst (λ n. new.running ≡ without_session n (r ∷ running)) (cc first) ended
