-- What a fold has delivered while a finish ends the running sessions.
use Rattle.std.proofs.Common.{◌≡◌, ℕ, List, [], ◌∷◌, ◌++◌, map, refl, sym, ap, subst, ◌∙◌, inl, inr, append-nil, append_assoc}
use Rattle.std.proofs.lemmas.List.{map-append}
use Rattle.std.proofs.lemmas.Cmp.{nat_cmp_total, tied_itself}
use Rattle.std.proofs.Common.{Less, Equal}
use Rattle.std.specs.Prelude.{Option, Result, Ok, Err, true}
use Rattle.std.specs.List.{AllByRecursion}
use Rattle.std.specs.Ordering.{nat_cmp}
use Rattle.prof_base.proofs.Ordered.{Has, contains_from_has}
use Rattle.prof_base.specs.Ordered.{Rises, AllAfter}
use Rattle.prof_base.specs.declared.ids.SessionId.{SessionId}
use Rattle.attribution.proofs.Courses.{Unended, unended_more, running_on-more}
use Rattle.attribution.proofs.FinishedFiles.{finishes_are_stops, stops_seen}
use Rattle.attribution.proofs.LegalNext.{nothing_follows_a_finish, running_have_not_ended, finishes_are_last}
use Rattle.attribution.proofs.Running.{running_is}
use Rattle.attribution.proofs.Without.{has_without, other_test, without_none, without_first}
use Rattle.attribution.specs.Attribution.{HasNotEnded, running_in}
use Rattle.attribution.specs.ItemLaws.{stop_at, stops_at}
use Rattle.code_event.proofs.FilesGrow.{files_grow, open_seen}
use Rattle.code_event.proofs.SeenMore.{seen_more}
use Rattle.code_event.specs.CodeMap.{ranges}
use Rattle.code_event.specs.DeoptReasons.{DeoptReasons, no_reasons, reasons}
use Rattle.code_event.specs.FileLaws.{IsOpenItem, running_on, running_after}
use Rattle.code_event.specs.ItemFile.{SessionFile, session, item_files, files_of, files, ends_behind}
use Rattle.code_event.specs.ItemList.{IsLegalItems, without}
use Rattle.code_event.specs.MomentLaws.{events_of}
use Rattle.code_event.specs.Seen.{Seen, stopped, seen_items}
use Rattle.code_event.specs.declared.event.CodeEvent.TheVariants.{Stop, Finish}
use Rattle.code_event.specs.declared.event.EventRecord.{EventRecord}
use Rattle.code_event.specs.declared.tick.Item.{Item}
use Rattle.code_event.specs.declared.tick.Item.TheVariants as item
use Rattle.out_stream.specs.Parts.{Parts}
use Rattle.out_stream.specs.declared.stream.Undelivered.{Undelivered}
use Rattle.item_fold.specs.Delivered.{Delivers}
use Rattle.item_fold.specs.Folding.{FoldingParts, HasFolded, FoldsEvent, FoldsStop}
use Rattle.item_fold.proofs.Delivering.{delivers_more, delivers_same}
use Rattle.item_fold.proofs.Taking.{not_open}

-- These sessions have been stopped, and the others of those that ran still run.
pub record HasEnded (base : ℕ) (items : List Item) (time : ℕ) (now : FoldingParts) (before parts : Option Parts) : Type 0 where
  pub done : List ℕ
  pub running : running_after items ≡ done ++ running_in now.attributor
  pub folded : HasFolded base (items ++ stops_at time done) (Ok tt) now before parts

-- since then, at the finish of whatever list
abbrev pub IsEnding : FoldingParts → Option Parts → ℕ → FoldingParts → Option Parts → Type 0
IsEnding old parts time now parts' =
    (base : ℕ) (items : List Item) (e : EventRecord) (before : Option Parts) → IsLegalItems (items ++ item.Event e ∷ []) → e.event ≡ Finish time true
    → HasFolded base items (Ok tt) old before parts → HasEnded base items time now before parts'

pub open_stops : (items : List Item) (time : ℕ) (numbers : List ℕ) → AllByRecursion IsOpenItem items → AllByRecursion IsOpenItem (items ++ stops_at time numbers)
open_stops [] time [] unfinished = tt
open_stops [] time (n ∷ numbers) unfinished = (tt, open_stops [] time numbers unfinished)
open_stops (first ∷ items) time numbers unfinished = (unfinished.0, open_stops items time numbers unfinished.1)

pub ending_begins : (old : FoldingParts) (parts : Option Parts) (time : ℕ) → IsEnding old parts time old parts
ending_begins old parts time base items e before legal is h = record {
  done = [];
  running = sym (running_is old.attributor items (h.stands refl (nothing_follows_a_finish items [] (item.Event e) legal)));
  folded = subst (λ (all : List Item). HasFolded base all (Ok tt) old before parts) (sym (append-nil items)) h;
}

-- what follows items adds files
pub files_more : (base : ℕ) (items more : List Item) → AllByRecursion IsOpenItem items → (added : List SessionFile) × (item_files base (items ++ more) ≡ item_files base items ++ added)
files_more base items more unfinished =
    let seen : List Seen = seen_items items in
    let later : List Seen = _ in
    let whole : seen_items (items ++ more) ≡ seen ++ later = seen_more [] no_reasons items more in
    (files_of base (seen ++ later) (ends_behind (running_on [] seen) later), ap (files base) whole ∙ files_grow base seen later (open_seen [] no_reasons items unfinished))

-- a session that runs after stops was not among them, and ran before
runs_after_stops : (running : List ℕ) (time : ℕ) (why : DeoptReasons) (numbers : List ℕ) (number : ℕ) → Has (running_on running (map (λ n. stopped (session n) time why) numbers)) number
    → Has running number × Unended number (map (λ n. stopped (session n) time why) numbers)
runs_after_stops running time why [] number h = (h, tt)
runs_after_stops running time why (n ∷ numbers) number h =
    let rest = runs_after_stops (without n running) time why numbers number h in
    let old = has_without n number running rest.0 in
    (old.0, (other_test number n old.1, rest.1))

-- so it has not ended in the items and the stops
pub has_not_ended : (items : List Item) (e : EventRecord) (time : ℕ) (done : List ℕ) (number : ℕ) → IsLegalItems (items ++ item.Event e ∷ []) → Has (running_after (items ++ stops_at time done)) number
    → HasNotEnded number (items ++ stops_at time done)
has_not_ended items e time done number legal h =
    let seen : List Seen = seen_items items in
    let why : DeoptReasons = reasons (events_of items) in
    let stops : List Seen = map (λ n. stopped (session n) time why) done in
    let whole : seen_items (items ++ stops_at time done) ≡ seen ++ stops =
    seen_more [] no_reasons items (stops_at time done) ∙ ap (λ (l : List Seen). seen ++ l) (stops_seen (ranges (events_of items)) why time done) in
    let now = runs_after_stops (running_after items) time why done number (subst (λ (l : List ℕ). Has l number) (ap (running_on []) whole ∙ running_on-more [] seen stops) h) in
    subst (Unended number) (sym whole) (unended_more number seen stops (running_have_not_ended items [] (item.Event e) number legal (contains_from_has (running_after items) number now.0)) now.1)

pub stops_more : (time : ℕ) (done : List ℕ) (number : ℕ) → stops_at time (done ++ number ∷ []) ≡ stops_at time done ++ stop_at time number ∷ []
stops_more time [] number = refl
stops_more time (n ∷ done) number = ap (λ l. stop_at time n ∷ l) (stops_more time done number)

-- the next session that runs was ended
one_ended : (old now new : FoldingParts) (parts at parts' : Option Parts) (time : ℕ) (s : SessionId) (rest : List ℕ) (answer : Result (Unit {0}) Undelivered)
    → running_in now.attributor ≡ s.0 ∷ rest → FoldsStop now at s time answer new parts' → IsEnding old parts time now at
    → (base : ℕ) (items : List Item) (e : EventRecord) (before : Option Parts) → IsLegalItems (items ++ item.Event e ∷ []) → e.event ≡ Finish time true → HasFolded base items (Ok tt) old before parts
    → (done : List ℕ) × (running_after items ≡ done ++ s.0 ∷ rest) × HasFolded base (items ++ stops_at time (done ++ s.0 ∷ [])) answer new before parts'
one_ended old now new parts at parts' time s rest answer runs folds ending base items e before legal is h =
    let ended = ending base items e before legal is h in
    let sofar : List Item = items ++ stops_at time ended.done in
    let unfinished = open_stops items time ended.done (nothing_follows_a_finish items [] (item.Event e) legal) in
    let running : running_in now.attributor ≡ running_after sofar = running_is now.attributor sofar (ended.folded.stands refl unfinished) in
    let first : Has (running_after sofar) s.0 = subst (λ (l : List ℕ). Has l s.0) (sym runs ∙ running) (inl refl) in
    let here : EventRecord = record { number = 0; ticks_before = 0; event = Stop (session s.0) time } in (
      ended.done,
      ended.running ∙ ap (λ (l : List ℕ). ended.done ++ l) runs,
      subst (λ (all : List Item). HasFolded base all answer new before parts')
          (append_assoc items (stops_at time ended.done) (stop_at time s.0 ∷ []) ∙ ap (λ (l : List Item). items ++ l) (sym (stops_more time ended.done s.0)))
          (folds base sofar here before refl unfinished (has_not_ended items e time ended.done s.0 legal first) (contains_from_has (running_after sofar) s.0 first) ended.folded),
    )

less_equal : Less ≡ Equal → ⊥
less_equal e = absurd (cc e)

never_less : (n : ℕ) → nat_cmp n n ≡ Less → ⊥
never_less n e = absurd (less_equal (sym e ∙ tied_itself nat_cmp_total n))

not_after : (n : ℕ) (ns : List ℕ) → AllAfter nat_cmp n ns → ¬ Has ns n
not_after n [] after h = h
not_after n (m ∷ ns) after (inl same) = never_less n (subst (λ k. nat_cmp n k ≡ Less) same after.0)
not_after n (m ∷ ns) after (inr old) = not_after n ns after.1 old

pub rises_out : (number : ℕ) (rest : List ℕ) → Rises nat_cmp (number ∷ rest) → ¬ Has rest number
rises_out number rest rises h = not_after number rest rises.0 h

pub ending_goes_on : (old now new : FoldingParts) (parts at parts' : Option Parts) (time : ℕ) (s : SessionId) (rest : List ℕ)
    → running_in now.attributor ≡ s.0 ∷ rest → Rises nat_cmp (running_in now.attributor) → running_in new.attributor ≡ without s.0 (running_in now.attributor)
    → FoldsStop now at s time (Ok tt) new parts' → IsEnding old parts time now at → IsEnding old parts time new parts'
ending_goes_on old now new parts at parts' time s rest runs rises left folds ending base items e before legal is h =
    let one = one_ended old now new parts at parts' time s rest (Ok tt) runs folds ending base items e before legal is h in
    let out : ¬ Has rest s.0 = rises_out s.0 rest (subst (Rises nat_cmp) runs rises) in
    let others : without s.0 (s.0 ∷ rest) ≡ rest = without_first s.0 rest ∙ without_none s.0 rest out in
    record {
      done = one.0 ++ s.0 ∷ [];
      running = one.1 ∙ sym (append_assoc one.0 (s.0 ∷ []) rest) ∙ ap (λ (l : List ℕ). (one.0 ++ s.0 ∷ []) ++ l) (sym (left ∙ ap (without s.0) runs ∙ others));
      folded = one.2;
    }

-- the files after a finish are those after the stops of all that ran
pub finish_files : (base : ℕ) (items : List Item) (e : EventRecord) (time : ℕ) (all : List ℕ) → IsLegalItems (items ++ item.Event e ∷ []) → e.event ≡ Finish time true → running_after items ≡ all
    → item_files base (items ++ item.Event e ∷ []) ≡ item_files base (items ++ stops_at time all)
finish_files base items e time all legal is same = finishes_are_stops base items e time legal is ∙ ap (λ (ns : List ℕ). item_files base (items ++ stops_at time ns)) same

-- something went wrong at the next session that runs
pub ending_stops : (old now new : FoldingParts) (parts at parts' : Option Parts) (time : ℕ) (s : SessionId) (rest : List ℕ) (fault : Undelivered)
    → running_in now.attributor ≡ s.0 ∷ rest → FoldsStop now at s time (Err fault) new parts' → IsEnding old parts time now at → FoldsEvent old parts (Finish time true) (Err fault) new parts'
ending_stops old now new parts at parts' time s rest fault runs folds ending e is base items more before legal h =
    let none : more ≡ [] = finishes_are_last items more e time true legal is in
    let alone : IsLegalItems (items ++ item.Event e ∷ []) = subst (λ (l : List Item). IsLegalItems (items ++ item.Event e ∷ l)) none legal in
    let one = one_ended old now new parts at parts' time s rest (Err fault) runs folds ending base items e before alone is h in
    let unfinished = nothing_follows_a_finish items [] (item.Event e) alone in
    let sofar : List Item = items ++ stops_at time (one.0 ++ s.0 ∷ []) in
    let split : items ++ stops_at time (one.0 ++ s.0 ∷ rest) ≡ sofar ++ stops_at time rest =
    ap (λ (ns : List ℕ). items ++ stops_at time ns) (sym (append_assoc one.0 (s.0 ∷ []) rest))
    ∙ ap (λ (l : List Item). items ++ l) (map-append (stop_at time) (one.0 ++ s.0 ∷ []) rest) ∙ sym (append_assoc items (stops_at time (one.0 ++ s.0 ∷ [])) (stops_at time rest)) in
    let added = files_more base sofar (stops_at time rest) (open_stops items time (one.0 ++ s.0 ∷ []) unfinished) in
    let whole : item_files base (items ++ item.Event e ∷ []) ≡ item_files base sofar ++ added.0 =
    finish_files base items e time (one.0 ++ s.0 ∷ rest) alone is one.1 ∙ ap (item_files base) split ∙ added.1 in
    record {
      base_is = one.2.base_is;
      delivers = subst (λ (fs : List SessionFile). Delivers fs (Err fault) new.notes before parts') (sym whole)
          (delivers_more (item_files base sofar) added.0 (Err fault) (Err fault) new.notes new.notes before parts' (λ e. absurd (cc e)) (λ room. (room, refl)) one.2.delivers);
      stands = λ e opened. absurd (cc e);
    }

-- all that ran were ended
pub ending_ends : (old now : FoldingParts) (parts at : Option Parts) (time : ℕ) → running_in now.attributor ≡ [] → IsEnding old parts time now at → FoldsEvent old parts (Finish time true) (Ok tt) now at
ending_ends old now parts at time none ending e is base items more before legal h =
    let last : more ≡ [] = finishes_are_last items more e time true legal is in
    let alone : IsLegalItems (items ++ item.Event e ∷ []) = subst (λ (l : List Item). IsLegalItems (items ++ item.Event e ∷ l)) last legal in
    let ended = ending base items e before alone is h in
    let all : running_after items ≡ ended.done = ended.running ∙ ap (λ (l : List ℕ). ended.done ++ l) none ∙ append-nil ended.done in
    record {
      base_is = ended.folded.base_is;
      delivers = delivers_same (item_files base (items ++ stops_at time ended.done)) (item_files base (items ++ item.Event e ∷ [])) (Ok tt) now.notes before at
          (finish_files base items e time ended.done alone is all) ended.folded.delivers;
      stands = λ ok opened. absurd (not_open items e time true is opened);
    }

-- something went wrong at an item, where others may follow: if it is a finish, none does
pub files_so_far : (base : ℕ) (items rest : List Item) (next : Item) (all : List Item) (fault : Undelivered) (new : FoldingParts) (before parts : Option Parts) → all ≡ items ++ next ∷ rest → IsLegalItems all
    → HasFolded base (items ++ next ∷ []) (Err fault) new before parts → Delivers (item_files base all) (Err fault) new.notes before parts
files_so_far base items [] next all fault new before parts split legal h = subst (λ (l : List Item). Delivers (item_files base l) (Err fault) new.notes before parts) (sym split) h.delivers
files_so_far base items (after ∷ rest) next all fault new before parts split legal h =
    let so_far : List Item = items ++ next ∷ [] in
    let parted : all ≡ so_far ++ after ∷ rest = split ∙ sym (append_assoc items (next ∷ []) (after ∷ rest)) in
    let unfinished = nothing_follows_a_finish so_far rest after (subst IsLegalItems parted legal) in
    let added = files_more base so_far (after ∷ rest) unfinished in
    subst (λ (fs : List SessionFile). Delivers fs (Err fault) new.notes before parts) (sym (ap (item_files base) parted ∙ added.1))
    (delivers_more (item_files base so_far) added.0 (Err fault) (Err fault) new.notes new.notes before parts (λ e. absurd (cc e)) (λ room. (room, refl)) h.delivers)
