-- What the parts of an operation do to the code, and the events that they add.
use Rattle.std.proofs.Common.{◌≡◌, ℕ, suc, ◌<◌, List, [], ◌∷◌, ◌++◌, length, map, take, get_or, refl, ap, ◌∙◌, sym, subst, append_assoc, append-nil}
use Rattle.std.proofs.Math.Seq.{take-suc}
use Rattle.std.proofs.lemmas.List.{map-append}
use Rattle.code_event.proofs.EachElement.{all_mapped, all_pushed}
use Rattle.std.specs.Prelude.{Option, Some, None, option_to_list, option_and_then}
use Rattle.std.specs.Option.{option_map_or}
use Rattle.std.specs.List.{AllByRecursion}
use Rattle.prof_base.specs.declared.ids.FuncId.{FuncId}
use Rattle.code_event.specs.CodeMap.{after_event, after_events, range_at, range_entry, range_of}
use Rattle.code_event.specs.DeoptReasons.{DeoptReasons, reasons_after, reasons_after_event, with_reason, with_reason_at}
use Rattle.code_event.specs.declared.code_map.Range.{Range}
use Rattle.code_event.specs.declared.event.CodeEvent.{CodeEvent}
use Rattle.code_event.specs.declared.event.CodeEvent.TheVariants.{NoOpt, Deopt}
use Rattle.code_objects.specs.Changes.{HasCode, IsCreation, IsDeletion, MakesSure, OthersStay, RangesFollow}
use Rattle.code_objects.specs.CodeObjects.{CodeParts, LieAt, layout_of, optimised_name, plain_name, start_at}
use Rattle.code_objects.specs.declared.name.CodeName.{CodeName}
use Rattle.guest_machine.proofs.Calls.{no_reason_given}
use Rattle.guest_machine.specs.Machine.{GiveNoReason}
use Rattle.guest_machine.proofs.Said.{plain_apart}
use Rattle.guest_stack.specs.declared.stack.CodeFrame.{CodeFrame}
use Rattle.guest_machine.specs.Raises.{CanBeSure, NoneGoes, OptimisedStays, Raises, no_reason, reason_of}
use Rattle.guest_machine.specs.Rules.{AreSure, Change, IsCreated, IsFreed, IsGivenUp, IsNotOptimised, IsSure, Then}

-- the ranges after some events, and then more of them
ranges_both : (at : List Range) (events more : List CodeEvent) → after_events at (events ++ more) ≡ after_events (after_events at events) more
ranges_both at [] more = refl
ranges_both at (event ∷ events) more = ranges_both (after_event at event) events more

-- the reasons after some events, and then more of them
pub reasons_both : (at : List Range) (why : DeoptReasons) (events more : List CodeEvent) → reasons_after at why (events ++ more) ≡ reasons_after (after_events at events) (reasons_after at why events) more
reasons_both at why [] more = refl
reasons_both at why (event ∷ events) more = reasons_both (after_event at event) (reasons_after_event at why event) events more

-- The code that there is, is made sure of by nothing.
pub sure_already : (code : CodeParts) (name : CodeName) → HasCode code name → (events : List CodeEvent) → Raises (IsSure name) no_reason code code events events
sure_already code name has events =
    record {
      more = [];
      added = sym (append-nil events);
      changed = record { event = None; sure = (has, refl); others = λ other apart. refl; funcs = refl; raised = refl };
      ranges = λ at lie. lie;
      reasons = λ at why lie. refl;
    }

-- Events that give no reason were added to those raised before.
module _ (old new : CodeParts) (before after more : List CodeEvent) (added : after ≡ before ++ more) (ranges : RangesFollow old new more) (none : GiveNoReason more) where
  pub raised_plainly : (change : Change) → change old new more → Raises change no_reason old new before after
  raised_plainly change changed = record { more = more; added = added; changed = changed; ranges = ranges; reasons = λ at why lie. none at why }

pub sure_raised : (old new : CodeParts) (name : CodeName) (event : Option CodeEvent) (before after : List CodeEvent) → MakesSure old new name event → OthersStay old new name → new.funcs ≡ old.funcs
    → RangesFollow old new (option_to_list event) → after ≡ before ++ option_to_list event → Raises (IsSure name) no_reason old new before after
sure_raised old new name event before after sure others funcs ranges added =
    raised_plainly old new before after (option_to_list event) added ranges (no_reason_given old new name event sure) (IsSure name) (record { event = event; sure = sure; others = others; funcs = funcs; raised = refl })

pub created_raised : (old new : CodeParts) (name : CodeName) (event : CodeEvent) (before after : List CodeEvent) → IsCreation old new name event → OthersStay old new name → new.funcs ≡ old.funcs
    → RangesFollow old new (event ∷ []) → after ≡ before ++ event ∷ [] → Raises (IsCreated name) no_reason old new before after
created_raised old new name event before after creation others funcs ranges added =
    raised_plainly old new before after (event ∷ []) added ranges (no_reason_given old new name (Some event) creation) (IsCreated name)
    (record { event = event; creation = creation; others = others; funcs = funcs; raised = refl })

pub freed_raised : (old new : CodeParts) (name : CodeName) (event : CodeEvent) (before after : List CodeEvent) → IsDeletion old new name event → OthersStay old new name → new.funcs ≡ old.funcs
    → RangesFollow old new (event ∷ []) → after ≡ before ++ event ∷ [] → Raises (IsFreed name) no_reason old new before after
freed_raised old new name event before after deletion others funcs ranges added =
    raised_plainly old new before after (event ∷ []) added ranges (subst (λ e. GiveNoReason (e ∷ [])) (sym deletion.event_is) (λ at why. refl)) (IsFreed name)
    (record { event = event; deletion = deletion; others = others; funcs = funcs; raised = refl })

-- What the reasons become where the code that starts here gets one.
pub reason_given : (code : CodeParts) (name : CodeName) (start : ℕ) (reason : List ℕ) → start_at code.starts name ≡ Some start → (at : List Range) (why : DeoptReasons) → LieAt code at
    → with_reason_at at why start reason ≡ reason_of code.funcs name.func reason why
unfolding layout_of
reason_given code name start reason starts at why lie =
    let range : range_at at start ≡ Some (range_of start (layout_of code.funcs name)) = lie.there name start starts in
    ap (λ o. option_map_or (with_reason why reason) (option_and_then range_entry o) why) range

pub not_optimised_raised : (code : CodeParts) (func : FuncId) (start : ℕ) (reason : List ℕ) (before after : List CodeEvent) → start_at code.starts (plain_name func) ≡ Some start
    → after ≡ before ++ NoOpt start reason ∷ [] → Raises (IsNotOptimised func reason) (reason_of code.funcs func reason) code code before after
not_optimised_raised code func start reason before after starts added =
    record {
      more = NoOpt start reason ∷ [];
      added = added;
      changed = record { same = refl; start = start; starts = starts; raised = refl };
      ranges = λ at lie. lie;
      reasons = reason_given code (plain_name func) start reason starts;
    }

pub given_up_raised : (code : CodeParts) (func : FuncId) (start : ℕ) (reason : List ℕ) (before after : List CodeEvent) → start_at code.starts (optimised_name func) ≡ Some start
    → after ≡ before ++ Deopt start reason ∷ [] → Raises (IsGivenUp func reason) (reason_of code.funcs func reason) code code before after
given_up_raised code func start reason before after starts added =
    record {
      more = Deopt start reason ∷ [];
      added = added;
      changed = record { same = refl; start = start; starts = starts; raised = refl };
      ranges = λ at lie. lie;
      reasons = reason_given code (optimised_name func) start reason starts;
    }

-- One part after another.
module _ (old mid new : CodeParts) (before between after : List CodeEvent) where
  both_raise : (one other both : Change) (given more_given : DeoptReasons → DeoptReasons) → ((first next : List CodeEvent) → one old mid first → other mid new next → both old new (first ++ next))
      → Raises one given old mid before between → Raises other more_given mid new between after → Raises both (λ why. more_given (given why)) old new before after
  both_raise one other both given more_given joins first next =
      record {
        more = first.more ++ next.more;
        added = next.added ∙ ap (λ events. events ++ next.more) first.added ∙ append_assoc before first.more next.more;
        changed = joins first.more next.more first.changed next.changed;
        ranges = λ at lie. subst (LieAt new) (sym (ranges_both at first.more next.more)) (next.ranges (after_events at first.more) (first.ranges at lie));
        reasons = λ at why lie.
            reasons_both at why first.more next.more
            ∙ next.reasons (after_events at first.more) (reasons_after at why first.more) (first.ranges at lie)
            ∙ ap more_given (first.reasons at why lie);
      }

  pub raises_then : (one other : Change) (given more_given : DeoptReasons → DeoptReasons) → Raises one given old mid before between → Raises other more_given mid new between after
      → Raises (Then one other) (λ why. more_given (given why)) old new before after
  raises_then one other given more_given =
      both_raise one other (Then one other) given more_given (λ first next is next_is. record { between = mid; raised_first = first; raised_then = next; first = is; after = next_is; raised = refl })

-- one name more is made sure of
one_more_sure : (names : List CodeName) (name : CodeName) (old mid new : CodeParts) (first next : List CodeEvent) → AreSure names old mid first → IsSure name mid new next → AreSure (names ++ name ∷ []) old new (first ++ next)
one_more_sure [] name old mid new first next are is =
    let mid_is : mid ≡ old = are.0 in
    record {
      between = new;
      raised_first = next;
      raised_then = [];
      first = subst (λ c. IsSure name c new next) mid_is is;
      after = (refl, refl);
      raised = ap (λ events. events ++ next) are.1 ∙ sym (append-nil next);
    }
one_more_sure (other ∷ names) name old mid new first next are is =
    record {
      between = are.between;
      raised_first = are.raised_first;
      raised_then = are.raised_then ++ next;
      first = are.first;
      after = one_more_sure names name are.between mid new are.raised_then next are.after is;
      raised = ap (λ events. events ++ next) are.raised ∙ append_assoc are.raised_first are.raised_then next;
    }

pub more_raised : (names : List CodeName) (name : CodeName) (old mid new : CodeParts) (before between after : List CodeEvent) → Raises (AreSure names) no_reason old mid before between
    → Raises (IsSure name) no_reason mid new between after → Raises (AreSure (names ++ name ∷ [])) no_reason old new before after
more_raised names name old mid new before between after =
    both_raise old mid new before between after (AreSure names) (IsSure name) (AreSure (names ++ name ∷ [])) no_reason no_reason (λ first next. one_more_sure names name old mid new first next)

-- no name is made sure of by nothing
pub none_raised : (code : CodeParts) (events : List CodeEvent) → Raises (AreSure []) no_reason code code events events
none_raised code events = record { more = []; added = sym (append-nil events); changed = (refl, refl); ranges = λ at lie. lie; reasons = λ at why lie. refl }

-- the optimised code is where it was, since other plain code alone has changed
pub plain_leaves : (old new : CodeParts) (func : FuncId) → OthersStay old new (plain_name func) → OptimisedStays old new
plain_leaves old new func others other = others (optimised_name other) (plain_apart func other)

-- The code of each of these frames has been made sure of, one after the other.
pub record AreEnsured (frames : List CodeFrame) (old new : CodeParts) (before after : List CodeEvent) : Type 0 where
  pub raises : Raises (AreSure (map (λ frame. frame.code) frames)) no_reason old new before after
  pub there : AllByRecursion (λ frame. HasCode new frame.code) frames
  pub stays : NoneGoes old new
  pub optimised : OptimisedStays old new
  pub funcs : new.funcs ≡ old.funcs

pub none_ensured : (code : CodeParts) (events : List CodeEvent) → AreEnsured [] code code events events
none_ensured code events = record { raises = none_raised code events; there = tt; stays = λ name has. has; optimised = λ func. refl; funcs = refl }

-- that of one frame more has been made sure of
pub more_ensured : (frames : List CodeFrame) (frame : CodeFrame) (old mid new : CodeParts) (before between after : List CodeEvent) → AreEnsured frames old mid before between
    → Raises (IsSure frame.code) no_reason mid new between after → HasCode new frame.code → NoneGoes mid new → OptimisedStays mid new → new.funcs ≡ mid.funcs
    → AreEnsured (frames ++ frame ∷ []) old new before after
more_ensured frames frame old mid new before between after are raises there stays optimised funcs =
    record {
      raises = subst (λ names. Raises (AreSure names) no_reason old new before after) (sym (map-append (λ (f : CodeFrame). f.code) frames (frame ∷ [])))
          (more_raised (map (λ (f : CodeFrame). f.code) frames) frame.code old mid new before between after are.raises raises);
      there = all_pushed (λ (f : CodeFrame). HasCode new f.code) frames frame
          (all_mapped (λ (f : CodeFrame). HasCode mid f.code) (λ (f : CodeFrame). HasCode new f.code) frames (λ f has. stays f.code has) are.there) there;
      stays = λ name has. stays name (are.stays name has);
      optimised = λ func. optimised func ∙ are.optimised func;
      funcs = funcs ∙ are.funcs;
    }

-- the next of these frames
pub next_ensured : (frames : List CodeFrame) (at next : ℕ) (d : CodeFrame) (old mid new : CodeParts) (before between after : List CodeEvent) → at < length frames → next ≡ suc at
    → AreEnsured (take at frames) old mid before between → Raises (IsSure (get_or frames at d).code) no_reason mid new between after → HasCode new (get_or frames at d).code → NoneGoes mid new → OptimisedStays mid new
    → new.funcs ≡ mid.funcs → AreEnsured (take next frames) old new before after
next_ensured frames at next d old mid new before between after less next_is are raises there stays optimised funcs =
    let more : take next frames ≡ take at frames ++ get_or frames at d ∷ [] = ap (λ n. take n frames) next_is ∙ take-suc frames at d less in
    subst (λ fs. AreEnsured fs old new before after) (sym more) (more_ensured (take at frames) (get_or frames at d) old mid new before between after are raises there stays optimised funcs)

-- where a frame's code can be made sure of, it still can
pub still_sure : (old new : CodeParts) (name : CodeName) → NoneGoes old new → new.funcs ≡ old.funcs → CanBeSure old name → CanBeSure new name
still_sure old new name stays funcs can = record { func = subst (λ fs. name.func.0 < length fs) (sym funcs) can.func; there = λ is. stays name (can.there is) }
