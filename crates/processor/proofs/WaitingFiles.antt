-- Whose files a finish adds to those of the sessions that it has ended.
use Rattle.std.proofs.Common.{◌≡◌, ℕ, ◌≤◌, List, [], ◌∷◌, ◌++◌, length, drop, refl, sym, ap, ◌∙◌, append_assoc, arith}
use Rattle.std.proofs.Math.Seq.{drop-append_seam}
use Rattle.std.proofs.lemmas.List.{length-append, map-append}
use Rattle.std.specs.Prelude.{Option, Some, None, option_map, true}
use Rattle.std.specs.List.{AllByRecursion}
use Rattle.std.specs.Option.{option_to_list}
use Rattle.attribution.proofs.LegalNext.{nothing_follows_a_finish}
use Rattle.attribution.specs.ItemLaws.{stop_at, stops_at}
use Rattle.code_event.proofs.FilesGrow.{files_grow, ends-append, open_seen}
use Rattle.code_event.proofs.LegalStops.{legal_ends_have_files}
use Rattle.code_event.proofs.SeenMore.{seen_more, seen_by_the_events_before}
use Rattle.code_event.specs.CodeMap.{ranges}
use Rattle.code_event.specs.DeoptReasons.{DeoptReasons, no_reasons, reasons}
use Rattle.code_event.specs.FileLaws.{IsOpenItem, running_after, sessions_of}
use Rattle.code_event.specs.FileText.{file}
use Rattle.code_event.specs.ItemFile.{SessionFile, session, files, files_of, item_files, ends, ends_behind}
use Rattle.code_event.specs.ItemList.{IsLegalItems, without}
use Rattle.code_event.specs.MomentLaws.{events_of}
use Rattle.code_event.specs.Seen.{Seen, mark, seen_behind, seen_items}
use Rattle.code_event.specs.declared.code_map.Range.{Range}
use Rattle.code_event.specs.declared.event.CodeEvent.{CodeEvent}
use Rattle.code_event.specs.declared.event.CodeEvent.TheVariants.{Finish}
use Rattle.code_event.specs.declared.event.EventRecord.{EventRecord}
use Rattle.code_event.specs.declared.tick.Item.{Item}
use Rattle.code_event.specs.declared.tick.Item.TheVariants as item
use Rattle.item_fold.proofs.Ending.{open_stops, finish_files}

-- a session has at most one file
few_files : (base : ℕ) (seen : List Seen) (numbers : List ℕ) → length (sessions_of (files_of base seen numbers)) ≤ length numbers
few_files base seen [] = omega arith
few_files base seen (n ∷ numbers) =
    let rest = few_files base seen numbers in
    elim (file base (session n) seen) as (λ (found : Option (List ℕ)).
    length (sessions_of (option_to_list (option_map (λ text. record { session = n; text = text }) found) ++ files_of base seen numbers)) ≤ length (n ∷ numbers)) [
      | None ↦ omega (arith, rest)
      | Some text ↦ omega (arith, rest)
    ]

-- two halves of a list, where neither is longer than that of the other split
same_half : (xs ys ns ms : List ℕ) → xs ++ ys ≡ ns ++ ms → length xs ≤ length ns → length ys ≤ length ms → ys ≡ ms
same_half xs ys ns ms same first second =
    let cut : length xs ≡ length ns = omega (arith, first, second, sym (length-append xs ys) ∙ ap length same ∙ length-append ns ms) in
    sym (drop-append_seam xs ys) ∙ (λ i. drop (cut i) (same i)) ∙ drop-append_seam ns ms

-- stops end their sessions
stops_end : (rs : List Range) (why : DeoptReasons) (running : List ℕ) (time : ℕ) (numbers : List ℕ) → ends_behind running (seen_behind rs why (stops_at time numbers)) ≡ numbers
stops_end rs why running time [] = refl
stops_end rs why running time (n ∷ numbers) = ap (λ (ns : List ℕ). n ∷ ns) (stops_end rs why (without n running) time numbers)

-- what is seen of the stops of these sessions after items
abbrev seen_of_stops : List Item → ℕ → List ℕ → List Seen
seen_of_stops items time numbers = seen_behind (ranges (events_of items)) (reasons (events_of items)) (stops_at time numbers)

ends_stops : (items : List Item) (time : ℕ) (numbers : List ℕ) → AllByRecursion IsOpenItem items → ends (seen_items (items ++ stops_at time numbers)) ≡ ends (seen_items items) ++ numbers
ends_stops items time numbers unfinished =
    let seen : List Seen = seen_items items in
    ap ends (seen_more [] no_reasons items (stops_at time numbers)) ∙ ends-append [] seen (seen_of_stops items time numbers) (open_seen [] no_reasons items unfinished)
    ∙ ap (λ (ns : List ℕ). ends seen ++ ns) (stops_end (ranges (events_of items)) (reasons (events_of items)) (running_after items) time numbers)

ends_finish : (items : List Item) (e : EventRecord) (time : ℕ) → AllByRecursion IsOpenItem items → e.event ≡ Finish time true → ends (seen_items (items ++ item.Event e ∷ [])) ≡ ends (seen_items items) ++ running_after items
ends_finish items e time unfinished is =
    let seen : List Seen = seen_items items in
    let why : DeoptReasons = reasons (events_of items) in
    ap ends (seen_by_the_events_before items (item.Event e) ∙ ap (λ (event : CodeEvent). seen ++ mark why event) is)
    ∙ ends-append [] seen (mark why (Finish time true)) (open_seen [] no_reasons items unfinished)

-- stops add the files of their sessions, if these have any
files_stops : (base : ℕ) (items : List Item) (time : ℕ) (numbers : List ℕ) → AllByRecursion IsOpenItem items
    → item_files base (items ++ stops_at time numbers) ≡ item_files base items ++ files_of base (seen_items items ++ seen_of_stops items time numbers) numbers
files_stops base items time numbers unfinished =
    let seen : List Seen = seen_items items in
    let stops : List Seen = seen_of_stops items time numbers in
    ap (files base) (seen_more [] no_reasons items (stops_at time numbers)) ∙ files_grow base seen stops (open_seen [] no_reasons items unfinished)
    ∙ ap (λ (ns : List ℕ). item_files base items ++ files_of base (seen ++ stops) ns) (stops_end (ranges (events_of items)) (reasons (events_of items)) (running_after items) time numbers)

-- where a finish has ended the first of the running sessions, the files that it still adds are those of the others
pub waiting_files : (base : ℕ) (items : List Item) (e : EventRecord) (time : ℕ) (ended waiting : List ℕ) → IsLegalItems (items ++ item.Event e ∷ []) → e.event ≡ Finish time true → running_after items ≡ ended ++ waiting
    → (later : List SessionFile) × (item_files base (items ++ item.Event e ∷ []) ≡ item_files base (items ++ stops_at time ended) ++ later) × (sessions_of later ≡ waiting)
waiting_files base items e time ended waiting legal is running =
    let unfinished = nothing_follows_a_finish items [] (item.Event e) legal in
    let sofar : List Item = items ++ stops_at time ended in
    let seen : List Seen = seen_items sofar ++ seen_of_stops sofar time waiting in
    let later : List SessionFile = files_of base seen waiting in
    let split : items ++ stops_at time (ended ++ waiting) ≡ sofar ++ stops_at time waiting =
    ap (λ (l : List Item). items ++ l) (map-append (stop_at time) ended waiting) ∙ sym (append_assoc items (stops_at time ended) (stops_at time waiting)) in
    let all : item_files base (items ++ item.Event e ∷ []) ≡ item_files base sofar ++ later =
    finish_files base items e time (ended ++ waiting) legal is running ∙ ap (item_files base) split ∙ files_stops base sofar time waiting (open_stops items time ended unfinished) in
    let ending : ends (seen_items (items ++ item.Event e ∷ [])) ≡ ends (seen_items sofar) ++ waiting =
    ends_finish items e time unfinished is ∙ ap (λ (ns : List ℕ). ends (seen_items items) ++ ns) running ∙ sym (append_assoc (ends (seen_items items)) ended waiting)
    ∙ ap (λ (ns : List ℕ). ns ++ waiting) (sym (ends_stops items time ended unfinished)) in
    let whose : sessions_of (item_files base sofar) ++ sessions_of later ≡ ends (seen_items sofar) ++ waiting =
    sym (map-append (λ (f : SessionFile). f.session) (item_files base sofar) later) ∙ ap sessions_of (sym all)
    ∙ legal_ends_have_files base (items ++ item.Event e ∷ []) legal ∙ ending in (
      later,
      all,
      same_half (sessions_of (item_files base sofar)) (sessions_of later) (ends (seen_items sofar)) waiting whose
          (few_files base (seen_items sofar) (ends (seen_items sofar))) (few_files base seen waiting),
    )
