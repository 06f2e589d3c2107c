-- What an isolate and its processor have come to once the isolate has ended, whatever its ports are.
use Rattle.std.proofs.Common.{◌≡◌, ℕ, List, [], ◌∷◌, ◌++◌, map, refl, ap, sym, subst, ◌∙◌, append-nil}
use Rattle.std.specs.Prelude.{Option, Some}
use Rattle.code_event.specs.ItemFile.{SessionFile, item_files}
use Rattle.code_event.specs.declared.tick.Item.{Item}
use Rattle.item_fold.specs.Delivered.{Delivers}
use Rattle.out_stream.specs.Parts.{Parts}
use Rattle.run_schedule.specs.ScheduleParts.{ScheduleParts}
use Rattle.run_schedule.specs.declared.schedule.EndCause.{EndCause}
use Rattle.run_schedule.specs.declared.schedule.EndCause.TheVariants as cause
use Rattle.run_schedule.specs.declared.schedule.ScheduleEntry.{ScheduleEntry}
use Rattle.run_schedule.specs.declared.schedule.What.TheVariants.{End}
use Rattle.raised_so_far.specs.Raised.{EndsFor}
use Rattle.isolate_acts.specs.Acts.{Act, passes, starts, stops, refuses, cuts_off, asks, samples, steps, ends, ends_short, act_after, moment_after, moment_on}
use Rattle.isolate_acts.specs.Phases.{Phase, stepping, LeadTo, MayAct}
use Rattle.isolate_acts.specs.Progress.{Moment, Progress}
use Rattle.processor.specs.CourseLaws.{AreDelivered}
use Rattle.processor.specs.Filing.{FilingParts, answer_of}
use Rattle.one_thread.specs.UnderWay.{SameHead}

pub same_list : {A : Type 0} (xs ys : List A) → Some xs ≡ Some ys → xs ≡ ys
same_list xs ys same = cc

pub same_why : (a b : EndCause) → Some a ≡ Some b → a ≡ b
same_why a b same = cc

pub heads : (a b c : ScheduleParts) → SameHead a b → SameHead b c → SameHead a c
heads a b c one other = record { base = other.base ∙ one.base; ring = other.ring ∙ one.ring; budget = other.budget ∙ one.budget; limit = other.limit ∙ one.limit }

-- the guest runs one program through all acts
act_funcs : (moment : Moment) (p : Progress) (phase next : Phase) (act : Act) → MayAct moment p phase act next → (moment_after moment act).funcs ≡ moment.funcs
act_funcs moment p stepping next (steps after events) may = may.1.funcs
act_funcs moment p phase next (passes port) may = refl
act_funcs moment p phase next (starts options now is_taken) may = refl
act_funcs moment p phase next (stops port number now is_taken) may = refl
act_funcs moment p phase next (refuses port given why is_taken) may = refl
act_funcs moment p phase next (cuts_off port given is_marked now is_taken) may = refl
act_funcs moment p phase next (asks is_asked) may = refl
act_funcs moment p phase next (samples now is_in) may = refl
act_funcs moment p phase next (ends why now) may = refl
act_funcs moment p phase next (ends_short events now) may = refl
act_funcs moment p phase next (steps after events) may = absurd may

pub run_funcs : (moment : Moment) (p : Progress) (phase last : Phase) (acts : List Act) → LeadTo moment p phase acts last → (moment_on moment acts).funcs ≡ moment.funcs
run_funcs moment p phase last [] lead = refl
run_funcs moment p phase last (act ∷ acts) lead =
    run_funcs (moment_after moment act) (act_after moment p act) lead.0 last acts lead.2 ∙ act_funcs moment p phase lead.0 act lead.1

last_of : (e f : ScheduleEntry) (xs ys : List ScheduleEntry) → xs ++ e ∷ [] ≡ ys ++ f ∷ [] → e ≡ f
last_of e f [] [] same = cc
last_of e f [] (y ∷ []) same = absurd (cc same)
last_of e f [] (y ∷ z ∷ ys) same = absurd (cc same)
last_of e f (x ∷ []) [] same = absurd (cc same)
last_of e f (x ∷ z ∷ xs) [] same = absurd (cc same)
last_of e f (x ∷ xs) (y ∷ ys) same = last_of e f xs ys (tails x y (xs ++ e ∷ []) (ys ++ f ∷ []) same) where
  tails : {A : Type 0} (x y : A) (xs ys : List A) → x ∷ xs ≡ y ∷ ys → xs ≡ ys
  tails x y xs ys same = cc

-- a schedule that ends for another cause does not end out of memory
pub not_short : (why : EndCause) (entries : List ScheduleEntry) → ¬ (why ≡ cause.Memory) → EndsFor why entries → ¬ EndsFor cause.Memory entries
not_short why entries other one two =
    let same = last_of (record { step = one.1; time = one.2; what = End why }) (record { step = two.1; time = two.2; what = End cause.Memory }) one.0 two.0 (sym one.3 ∙ two.3) in
    let whats : End why ≡ End cause.Memory = ap (λ (e : ScheduleEntry). e.what) same in
    other (cc)

no_more : (later : List SessionFile) → map (λ file. file.session) later ≡ [] → later ≡ []
no_more [] none = refl
no_more (f ∷ later) none = absurd (cc none)

-- all files were delivered, as far as the answer says
pub all_delivered : (base : ℕ) (raised : List Item) (filing : FilingParts) (before now : Option Parts) (files : List SessionFile) → AreDelivered base raised [] filing before now → item_files base raised ≡ files
    → Delivers files (answer_of filing.delivery filing.is_spent) filing.notes before now
all_delivered base raised filing before now files are same =
    let finished : are.finished ≡ files =
    sym (append-nil are.finished) ∙ ap (λ (l : List SessionFile). are.finished ++ l) (sym (no_more are.later are.whose)) ∙ sym are.all ∙ same in
    subst (λ (l : List SessionFile). Delivers l (answer_of filing.delivery filing.is_spent) filing.notes before now) finished are.delivered.delivers
