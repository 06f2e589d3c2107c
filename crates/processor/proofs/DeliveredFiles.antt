-- Which files have been delivered, by what is waited for.
use Rattle.std.proofs.Common.{Bool, true, false, ◌≡◌, ℕ, List, [], ◌∷◌, ◌++◌, refl, sym, ap, subst, ◌∙◌, append-nil, append_assoc}
use Rattle.std.specs.Prelude.{Option}
use Rattle.attribution.proofs.LegalNext.{finishes_are_last}
use Rattle.attribution.specs.ItemLaws.{stops_at}
use Rattle.code_event.specs.FileLaws.{running_after}
use Rattle.code_event.specs.ItemFile.{item_files}
use Rattle.code_event.specs.ItemList.{IsLegalItems}
use Rattle.code_event.specs.declared.event.CodeEvent.TheVariants.{Finish}
use Rattle.code_event.specs.declared.event.EventRecord.{EventRecord}
use Rattle.code_event.specs.declared.tick.Item.{Item}
use Rattle.code_event.specs.declared.tick.Item.TheVariants as item
use Rattle.out_stream.specs.Parts.{Parts}
use Rattle.processor.specs.Course.{IsFinishing, IsFiledAt}
use Rattle.processor.specs.CourseLaws.{AreDelivered, FilesAreDelivered, NothingFollowsTheEnd, waiting_in}
use Rattle.processor.specs.Filing.{FilingParts, HasDelivered}
use Rattle.processor.specs.Running.{sessions_of}
use Rattle.processor.specs.declared.turn.Phase.{Phase}
use Rattle.processor.proofs.Turns.{legal_before}
use Rattle.processor.proofs.WaitingFiles.{waiting_files}
use Rattle.processor.specs.declared.turn.Phase.TheVariants as phase

all_delivered : (base : ℕ) (items : List Item) (filing : FilingParts) (before now : Option Parts) → HasDelivered (item_files base items) filing.delivery filing.is_spent filing.notes before now
    → AreDelivered base items [] filing before now
all_delivered base items filing before now h = record {
  finished = item_files base items;
  later = [];
  all = sym (append-nil (item_files base items));
  whose = refl;
  delivered = h;
}

some_wait : (base : ℕ) (items : List Item) (time : ℕ) (filing : FilingParts) (before now : Option Parts) (waiting : List ℕ) → IsLegalItems items → (h : IsFinishing base items time filing before now)
    → running_after h.earlier ≡ h.ended ++ waiting → AreDelivered base items waiting filing before now
some_wait base items time filing before now waiting legal h running =
    let others = waiting_files base h.earlier h.event time h.ended waiting (subst IsLegalItems h.all legal) h.is_finish running in
    record {
      finished = item_files base (h.earlier ++ stops_at time h.ended);
      later = others.0;
      all = ap (item_files base) h.all ∙ others.1;
      whose = others.2;
      delivered = h.filed.delivered;
    }

by_phase : (p : Phase) (base : ℕ) (items : List Item) (filing : FilingParts) (before now : Option Parts) → IsLegalItems items → IsFiledAt p base items filing before now
    → AreDelivered base items (waiting_in p filing.running) filing before now
by_phase phase.Open base items filing before now legal h = all_delivered base items filing before now h.1.delivered
by_phase (phase.Finishing time) base items filing before now legal h = some_wait base items time filing before now (sessions_of filing.running) legal h h.running
by_phase phase.Closed base items filing before now legal h = all_delivered base items filing before now h.delivered

pub files_are_delivered : FilesAreDelivered
files_are_delivered base items applied ticked course before now s legal = by_phase course.phase base items course.filing before now legal (s.filed legal)

-- nothing follows the items, where no item is waited for
pub last_item : (items earlier rest : List Item) (e : EventRecord) (time : ℕ) (files : Bool) → items ≡ earlier ++ item.Event e ∷ [] → e.event ≡ Finish time files → IsLegalItems (items ++ rest) → rest ≡ []
last_item items earlier rest e time files all is legal =
    finishes_are_last earlier rest e time files (subst IsLegalItems (ap (λ (l : List Item). l ++ rest) all ∙ append_assoc earlier (item.Event e ∷ []) rest) legal) is

last_by_phase : (p : Phase) (base : ℕ) (items rest : List Item) (filing : FilingParts) (before now : Option Parts) → ¬ (p ≡ phase.Open) → IsLegalItems (items ++ rest) → IsFiledAt p base items filing before now → rest ≡ []
last_by_phase phase.Open base items rest filing before now ended legal h = absurd (ended refl)
last_by_phase (phase.Finishing time) base items rest filing before now ended legal h = last_item items h.earlier rest h.event time true h.all h.is_finish legal
last_by_phase phase.Closed base items rest filing before now ended legal h = last_item items h.earlier rest h.event h.time false h.all h.is_finish legal

pub nothing_follows_the_end : NothingFollowsTheEnd
nothing_follows_the_end base items rest applied ticked course before now s legal ended =
    last_by_phase course.phase base items rest course.filing before now ended legal (s.filed (legal_before items rest legal))
