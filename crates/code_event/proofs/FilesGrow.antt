-- The files of what is seen grow with what is seen.
use Rattle.std.proofs.Common.{◌≡◌, ℕ, List, [], ◌∷◌, ◌++◌, refl, ap, sym, ◌∙◌, arith}
use Rattle.std.proofs.lemmas.Bool.Decides.{nat_tests}
use Rattle.std.proofs.lemmas.Grind.{flat_map-append}
use Rattle.std.specs.Prelude.{Bool, true, false, ◌||◌, ◌==◌, Option, Some, None, option_map, if◌then◌else◌}
use Rattle.std.specs.Option.{option_to_list}
use Rattle.std.specs.Ordering.{nat_cmp}
use Rattle.std.specs.List.{AllByRecursion}
use Rattle.prof_base.specs.Ordered.{insert_sorted}
use Rattle.prof_base.specs.declared.ids.SessionId.{SessionId}
use Rattle.code_event.proofs.EachElement.{all_mapped}
use Rattle.code_event.proofs.SeenMore.{seen_by_the_events_before}
use Rattle.code_event.specs.CodeMap.{after_event, ranges}
use Rattle.code_event.specs.DeoptReasons.{DeoptReasons, no_reasons, reasons, reasons_after_event}
use Rattle.code_event.specs.FileLaws.{IsOpen, IsOpenEvent, IsOpenItem, ended_by_event, ended_by, running_on, running_after, FilesGrow, ItemsAddFiles}
use Rattle.code_event.specs.FileText.{file, file_text}
use Rattle.code_event.specs.ItemFile.{SessionFile, session, session_file, ends, ends_behind, files_of, files}
use Rattle.code_event.specs.ItemList.{without}
use Rattle.code_event.specs.MomentLaws.{events_of, seen_of}
use Rattle.code_event.specs.Profile.{profile_of}
use Rattle.code_event.specs.Recording.{Recording, recording, recording_behind, with_tick, ended}
use Rattle.code_event.specs.Seen.{Seen, started, stopped, finished, ticked, mark, seen_behind, seen_items}
use Rattle.code_event.specs.Subsample.{kept}
use Rattle.code_event.specs.declared.code_map.Range.{Range}
use Rattle.code_event.specs.declared.event.CodeEvent.{CodeEvent}
use Rattle.code_event.specs.declared.event.CodeEvent.TheVariants.{Create, Move, NoOpt, Deopt, Delete, Start, Stop, Finish}
use Rattle.code_event.specs.declared.recording.Begun.{Begun}
use Rattle.code_event.specs.declared.tick.Item.{Item}
use Rattle.code_event.specs.declared.tick.Item.TheVariants as item

-- something that is seen ends the session's recording
abbrev pub has_close : ℕ → List Seen → Bool
has_close number [] = false
has_close number (started s options time ∷ seen) = has_close number seen
has_close number (stopped s time reasons ∷ seen) = (s.0 == number) || has_close number seen
has_close number (finished time files reasons ∷ seen) = true
has_close number (ticked tick ∷ seen) = has_close number seen

-- what is seen after the end does not change the recording
pub recording-closed : (number : ℕ) (begun : Option Begun) (seen more : List Seen) → has_close number seen ≡ true
    → recording_behind number begun (seen ++ more) ≡ recording_behind number begun seen
recording-closed number begun [] more closed = absurd (cc closed)
recording-closed number begun (started s options time ∷ seen) more closed =
    let again : Option Begun = Some (record { options = options; start = time; ticks = [] }) in
    λ i. if s.0 == number then recording-closed number again seen more closed i else recording-closed number begun seen more closed i
recording-closed number begun (stopped s time reasons ∷ seen) more closed =
    elim (s.0 == number) as (λ (b : Bool). (b || has_close number seen) ≡ true
    → (if b then ended begun time reasons else recording_behind number begun (seen ++ more)) ≡ (if b then ended begun time reasons else recording_behind number begun seen)) [
      | true ↦ λ e. refl
      | false ↦ λ e. recording-closed number begun seen more e
    ] closed
recording-closed number begun (finished time files reasons ∷ seen) more closed = refl
recording-closed number begun (ticked tick ∷ seen) more closed = recording-closed number (option_map (with_tick number tick) begun) seen more closed

-- equal recordings make equal files
pub same_file : (base : ℕ) (number : SessionId) (seen other : List Seen) → recording number.0 seen ≡ recording number.0 other → file base number seen ≡ file base number other
same_file base number seen other same = ap (λ (r : Option Recording). option_map file_text (option_map (λ x. profile_of number x (kept base x.begun)) r)) same

pub ends-append : (running : List ℕ) (seen more : List Seen) → AllByRecursion IsOpen seen → ends_behind running (seen ++ more) ≡ ends_behind running seen ++ ends_behind (running_on running seen) more
ends-append running [] more unfinished = refl
ends-append running (started s options time ∷ seen) more unfinished = ends-append (insert_sorted nat_cmp s.0 running) seen more unfinished.1
ends-append running (stopped s time reasons ∷ seen) more unfinished = ap (λ (ns : List ℕ). s.0 ∷ ns) (ends-append (without s.0 running) seen more unfinished.1)
ends-append running (finished time files reasons ∷ seen) more unfinished = absurd unfinished.0
ends-append running (ticked tick ∷ seen) more unfinished = ends-append running seen more unfinished.1

or_true : (b c : Bool) → c ≡ true → (b || c) ≡ true
or_true true c is = refl
or_true false c is = is

same_number : (n : ℕ) → (n == n) ≡ true
same_number n = grind (arith, nat_tests)

-- the recordings of sessions that were stopped are closed
ended_closed : (running : List ℕ) (seen : List Seen) → AllByRecursion IsOpen seen → AllByRecursion (λ n. has_close n seen ≡ true) (ends_behind running seen)
ended_closed running [] unfinished = tt
ended_closed running (started s options time ∷ seen) unfinished = ended_closed (insert_sorted nat_cmp s.0 running) seen unfinished.1
ended_closed running (stopped s time reasons ∷ seen) unfinished = (
  ap (λ (b : Bool). b || has_close s.0 seen) (same_number s.0),
  all_mapped (λ n. has_close n seen ≡ true) (λ n. ((s.0 == n) || has_close n seen) ≡ true) (ends_behind (without s.0 running) seen)
      (λ n is. or_true (s.0 == n) (has_close n seen) is) (ended_closed (without s.0 running) seen unfinished.1),
)
ended_closed running (finished time files reasons ∷ seen) unfinished = absurd unfinished.0
ended_closed running (ticked tick ∷ seen) unfinished = ended_closed running seen unfinished.1

files_same : (base : ℕ) (seen more : List Seen) (numbers : List ℕ) → AllByRecursion (λ n. has_close n seen ≡ true) numbers → files_of base (seen ++ more) numbers ≡ files_of base seen numbers
files_same base seen more [] closed = refl
files_same base seen more (n ∷ numbers) closed =
    let here : file base (session n) (seen ++ more) ≡ file base (session n) seen = same_file base (session n) (seen ++ more) seen (recording-closed n None seen more closed.0) in
    λ i. option_to_list (option_map (λ text. record { session = n; text = text }) (here i)) ++ files_same base seen more numbers closed.1 i

pub files_grow : FilesGrow
files_grow base seen more unfinished =
    let whole : List Seen = seen ++ more in
    let later = ends_behind (running_on [] seen) more in
    ap (files_of base whole) (ends-append [] seen more unfinished) ∙ flat_map-append (session_file base whole) (ends seen) later
    ∙ ap (λ (shown : List SessionFile). shown ++ files_of base whole later) (files_same base seen more (ends seen) (ended_closed [] seen unfinished))

open_mark : (reasons : DeoptReasons) (event : CodeEvent) (seen : List Seen) → IsOpenEvent event → AllByRecursion IsOpen seen → AllByRecursion IsOpen (mark reasons event ++ seen)
open_mark reasons (Create start layout) seen unfinished rest = rest
open_mark reasons (Move from to) seen unfinished rest = rest
open_mark reasons (NoOpt start reason) seen unfinished rest = rest
open_mark reasons (Deopt start reason) seen unfinished rest = rest
open_mark reasons (Delete start) seen unfinished rest = rest
open_mark reasons (Start s options time) seen unfinished rest = (tt, rest)
open_mark reasons (Stop s time) seen unfinished rest = (tt, rest)
open_mark reasons (Finish time files) seen unfinished rest = absurd unfinished

-- where no item is a finish, none is seen
pub open_seen : (ranges : List Range) (reasons : DeoptReasons) (items : List Item) → AllByRecursion IsOpenItem items → AllByRecursion IsOpen (seen_behind ranges reasons items)
open_seen ranges reasons [] unfinished = tt
open_seen ranges reasons (item.Event e ∷ items) unfinished =
    let after = after_event ranges e.event in
    let why = reasons_after_event ranges reasons e.event in
    open_mark reasons e.event (seen_behind after why items) unfinished.0 (open_seen after why items unfinished.1)
open_seen ranges reasons (item.Tick t ∷ items) unfinished = (tt, open_seen ranges reasons items unfinished.1)

event_ends : (running : List ℕ) (reasons : DeoptReasons) (event : CodeEvent) → ends_behind running (mark reasons event) ≡ ended_by_event running event
event_ends running reasons (Create start layout) = refl
event_ends running reasons (Move from to) = refl
event_ends running reasons (NoOpt start reason) = refl
event_ends running reasons (Deopt start reason) = refl
event_ends running reasons (Delete start) = refl
event_ends running reasons (Start s options time) = refl
event_ends running reasons (Stop s time) = refl
event_ends running reasons (Finish time has_files) = refl

item_ends : (running : List ℕ) (ranges : List Range) (reasons : DeoptReasons) (next : Item) → ends_behind running (seen_of ranges reasons next) ≡ ended_by running next
item_ends running ranges reasons (item.Event e) = event_ends running reasons e.event
item_ends running ranges reasons (item.Tick t) = refl

pub items_add_files : ItemsAddFiles
items_add_files base items next unfinished =
    let seen : List Seen = seen_items items in
    let last : List Seen = seen_of (ranges (events_of items)) (reasons (events_of items)) next in
    let whole : seen_items (items ++ next ∷ []) ≡ seen ++ last = seen_by_the_events_before items next in
    ap (files base) whole ∙ files_grow base seen last (open_seen [] no_reasons items unfinished)
    ∙ (λ i. files base seen ++ files_of base (sym whole i) (item_ends (running_after items) (ranges (events_of items)) (reasons (events_of items)) next i))
