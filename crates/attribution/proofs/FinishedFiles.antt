-- Which files stops and finishes add.
use Rattle.std.proofs.Common.{◌≡◌, ℕ, List, [], ◌∷◌, ◌++◌, map, cond, Bool, true, false, ◌==◌, inl, inr, refl, sym, ap, ◌∙◌, arith}
use Rattle.std.proofs.lemmas.Bool.{cond-false}
use Rattle.std.proofs.lemmas.Bool.Decides.{nat_tests}
use Rattle.std.proofs.Common.{true≢false}
use Rattle.std.specs.Prelude.{Option, Some, None, option_map}
use Rattle.std.specs.Option.{option_to_list}
use Rattle.prof_base.proofs.Ordered.{Has, contains_from_has}
use Rattle.code_event.proofs.FilesGrow.{files_grow, items_add_files, open_seen, same_file}
use Rattle.code_event.proofs.SeenMore.{seen_more, seen_by_the_events_before}
use Rattle.code_event.specs.CodeMap.{ranges}
use Rattle.code_event.specs.DeoptReasons.{DeoptReasons, no_reasons, reasons}
use Rattle.code_event.specs.FileLaws.{running_after, ended_by_event}
use Rattle.code_event.specs.ItemFile.{SessionFile, session, files_of, files, ends_behind, item_files}
use Rattle.code_event.specs.ItemList.{without}
use Rattle.code_event.specs.MomentLaws.{events_of}
use Rattle.code_event.specs.Recording.{recording, recording_behind, with_tick, ended}
use Rattle.code_event.specs.Seen.{Seen, started, stopped, finished, ticked, mark, seen_behind, seen_items}
use Rattle.code_event.specs.declared.code_map.Range.{Range}
use Rattle.code_event.specs.declared.recording.Begun.{Begun}
use Rattle.code_event.specs.declared.tick.Item.{Item}
use Rattle.code_event.specs.declared.tick.Item.TheVariants as item
use Rattle.session_book.specs.Begun.{fresh, begun_behind, begun_after}
use Rattle.attribution.specs.ItemLaws.{stops_at, StopsAddTheirFiles, FinishesAreStops}
use Rattle.attribution.proofs.Courses.{Unended}
use Rattle.attribution.proofs.LegalNext.{nothing_follows_a_finish, running_have_not_ended}

pub stops_add_their_files : StopsAddTheirFiles
stops_add_their_files base items e s time text unfinished is has =
    let whole : List Item = items ++ item.Event e ∷ [] in
    items_add_files base items (item.Event e) unfinished
    ∙ ap (λ event. item_files base items ++ files_of base (seen_items whole) (ended_by_event (running_after items) event)) is
    ∙ ap (λ (found : Option (List ℕ)). item_files base items ++ (option_to_list (option_map (λ (t : List ℕ). record { session = s.0; text = t }) found) ++ [])) has

-- ---- a finish

-- what is seen of stops after items
pub stops_seen : (rs : List Range) (why : DeoptReasons) (time : ℕ) (numbers : List ℕ) → seen_behind rs why (stops_at time numbers) ≡ map (λ n. stopped (session n) time why) numbers
stops_seen rs why time [] = refl
stops_seen rs why time (n ∷ numbers) = ap (λ l. stopped (session n) time why ∷ l) (stops_seen rs why time numbers)

stops_end : (running : List ℕ) (time : ℕ) (why : DeoptReasons) (numbers : List ℕ) → ends_behind running (map (λ n. stopped (session n) time why) numbers) ≡ numbers
stops_end running time why [] = refl
stops_end running time why (n ∷ numbers) = ap (λ l. n ∷ l) (stops_end (without n running) time why numbers)

-- the recording of a session that nothing has ended yet
pub recording_goes_on : (number : ℕ) (begun : Option Begun) (seen more : List Seen) → Unended number seen → recording_behind number begun (seen ++ more) ≡ recording_behind number (begun_behind number begun seen) more
recording_goes_on number begun [] more unended = refl
recording_goes_on number begun (started other options start ∷ seen) more unended =
    let again : Option Begun = Some (fresh options start) in
    elim (other.0 == number) as (λ (b : Bool). cond b (recording_behind number again (seen ++ more)) (recording_behind number begun (seen ++ more)) ≡ recording_behind number (begun_behind number (cond b again begun) seen) more) [
      | true ↦ recording_goes_on number again seen more unended.1
      | false ↦ recording_goes_on number begun seen more unended.1
    ]
recording_goes_on number begun (stopped other end given ∷ seen) more unended =
    cond-false (other.0 == number) _ _ unended.0 ∙ recording_goes_on number begun seen more unended.1
    ∙ ap (λ b. recording_behind number (begun_behind number b seen) more) (sym (cond-false (other.0 == number) _ _ unended.0))
recording_goes_on number begun (finished end has_files given ∷ seen) more unended = absurd (true≢false unended.0)
recording_goes_on number begun (ticked tick ∷ seen) more unended = recording_goes_on number (option_map (with_tick number tick) begun) seen more unended.1

-- a session among those that are stopped
pub stopped_among : (number : ℕ) (begun : Option Begun) (time : ℕ) (why : DeoptReasons) (numbers : List ℕ) → Has numbers number
    → recording_behind number begun (map (λ n. stopped (session n) time why) numbers) ≡ ended begun time why
stopped_among number begun time why [] h = absurd h
stopped_among number begun time why (n ∷ numbers) h =
    let later = recording_behind number begun (map (λ m. stopped (session m) time why) numbers) in
    elim (n == number) as (λ b. (n == number) ≡ b → cond b (ended begun time why) later ≡ ended begun time why) [
      | true ↦ λ e. refl
      | false ↦ λ e. elim h [ inl same ↦ absurd (grind (arith, nat_tests, same, e)) | inr old ↦ stopped_among number begun time why numbers old ]
    ] refl

-- the files of sessions that run are the same after their stops and after a finish
same_files : (base : ℕ) (seen stops : List Seen) (time : ℕ) (has_files : Bool) (why : DeoptReasons) (numbers : List ℕ)
    → ((n : ℕ) → Has numbers n → recording n (seen ++ stops) ≡ recording n (seen ++ finished time has_files why ∷ []))
    → files_of base (seen ++ stops) numbers ≡ files_of base (seen ++ finished time has_files why ∷ []) numbers
same_files base seen stops time has_files why [] same = refl
same_files base seen stops time has_files why (n ∷ numbers) same =
    let here = same_file base (session n) (seen ++ stops) (seen ++ finished time has_files why ∷ []) (same n (inl refl)) in
    λ i. option_to_list (option_map (λ (text : List ℕ). record { session = n; text = text }) (here i)) ++ same_files base seen stops time has_files why numbers (λ m h. same m (inr h)) i

pub finishes_are_stops : FinishesAreStops
finishes_are_stops base items e time legal is =
    let unfinished = nothing_follows_a_finish items [] (item.Event e) legal in
    let seen : List Seen = seen_items items in
    let why : DeoptReasons = reasons (events_of items) in
    let running : List ℕ = running_after items in
    let stops : List Seen = map (λ n. stopped (session n) time why) running in
    let seen_finish : seen_items (items ++ item.Event e ∷ []) ≡ seen ++ finished time true why ∷ [] =
    seen_by_the_events_before items (item.Event e) ∙ ap (λ event. seen ++ mark why event) is in
    let seen_stops : seen_items (items ++ stops_at time running) ≡ seen ++ stops =
    seen_more [] no_reasons items (stops_at time running) ∙ ap (λ l. seen ++ l) (stops_seen (ranges (events_of items)) why time running) in
    let same : (n : ℕ) → Has running n → recording n (seen ++ stops) ≡ recording n (seen ++ finished time true why ∷ []) = λ n h.
    let unended = running_have_not_ended items [] (item.Event e) n legal (contains_from_has running n h) in
    recording_goes_on n None seen stops unended ∙ stopped_among n (begun_after n seen) time why running h
    ∙ sym (recording_goes_on n None seen (finished time true why ∷ []) unended) in
    ap (files base) seen_finish ∙ files_grow base seen (finished time true why ∷ []) (open_seen [] no_reasons items unfinished)
    ∙ ap (λ (fs : List SessionFile). files base seen ++ fs) (sym (same_files base seen stops time true why running same))
    ∙ ap (λ (ns : List ℕ). files base seen ++ files_of base (seen ++ stops) ns) (sym (stops_end running time why running))
    ∙ sym (files_grow base seen stops (open_seen [] no_reasons items unfinished))
    ∙ ap (files base) (sym seen_stops)
