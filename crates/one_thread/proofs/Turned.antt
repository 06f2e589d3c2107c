-- What a turn of the isolate has done, and where it leaves both sides once all that it raised is taken.
use Rattle.std.proofs.Common.{◌≡◌, ℕ, zero, suc, ◌<◌, ◌≤◌, List, [], ◌∷◌, ◌++◌, length, refl, ap, sym, subst, ◌∙◌, arith}
use Rattle.std.specs.Prelude.{Bool, true, false, Option, Some, None, if◌then◌else◌}
use Rattle.prof_base.specs.Causes.{Rose}
use Rattle.guest_program.specs.declared.instr.Func.{Func}
use Rattle.code_event.specs.declared.event.EventRecord.{EventRecord}
use Rattle.code_event.specs.declared.tick.Item.{Item}
use Rattle.code_event.specs.declared.tick.Tick.{Tick}
use Rattle.pipe_core.specs.Plain.{QueueValue}
use Rattle.pipe_core.specs.Stamps.{ticks_of}
use Rattle.isolate_acts.specs.Acts.{Act, moment_on, raised_on}
use Rattle.isolate_acts.specs.Calls.{Call}
use Rattle.isolate_acts.specs.Phases.{IsOver, first_phase}
use Rattle.isolate_acts.specs.Progress.{Moment, Progress}
use Rattle.isolate_ends.specs.Offered.{AreOffered}
use Rattle.isolate_ends.specs.Queues.{Shown, with_all}
use Rattle.isolate_ends.specs.declared.ends.Ends.{Ends}
use Rattle.isolate_ends.specs.Runs.{Adds, DropsWhereFull, Goes, whole}
use Rattle.isolate_ends.specs.declared.turn.IsoTurn.{IsoTurn}
use Rattle.isolate_turns.proofs.Keeping.{turn_kept}
use Rattle.isolate_turns.specs.Kept.{IsKept}
use Rattle.isolate_turns.specs.Ready.{IsIsolate, IsNow}
use Rattle.processor.specs.Filing.{FilingParts}
use Rattle.processor.specs.Settling.{GoesOnTo}
use Rattle.processor.specs.declared.turn.Delivery.{Delivery}
use Rattle.processor.specs.declared.turn.Delivery.TheVariants.{Fine, Aborted, Failed}
use Rattle.one_thread.specs.declared.ring.TurnRing.{TurnRing}
use Rattle.one_thread.specs.Rings.{fulls_now, passed_now}
use Rattle.one_thread.specs.UnderWay.{AreAlike, HasTurned, IsBetween, IsCounted, IsHanded, IsUnderWay, Outlet, SameHead, PlainIsolate, PlainProcessor}
use Rattle.one_thread.proofs.Heads.{keep_heads}
use Rattle.one_thread.proofs.Offered.{all_refused, all_taken, hits_are_taken, hits_in, joined_hits, one_taken, taken_in}
use Rattle.one_thread.proofs.Passed.{hits_more, hold_more, legal_at, stamped_at}
use Rattle.one_thread.proofs.Rings.{none_full}

-- what the queues of one thread show
abbrev pub shown_of : PlainIsolate → Shown
shown_of i = record {
  passed = record { events = None; vm_ticks = None; ring = passed_now i.ends.ring.refuses };
  holds = record { events = Some i.ends.events.items; vm_ticks = Some i.ends.vm_ticks.items; ring = Some i.ends.ring.ring.items };
}

by_delivery : (old new refusal : Delivery) (before mid now : ℕ) → before ≤ mid → mid ≤ now → new ≡ refusal → (old ≡ refusal → Rose before mid) → (old ≡ Fine → Rose mid now) → ((old ≡ Fine → ⊥) → new ≡ old) → Rose before now
by_delivery Fine new refusal before mid now up more is first second kept = let rose = second refl in omega (arith, rose, up)
by_delivery Aborted new refusal before mid now up more is first second kept = let rose = first (sym (kept (λ fine. absurd (cc fine))) ∙ is) in omega (arith, rose, more)
by_delivery Failed new refusal before mid now up more is first second kept = let rose = first (sym (kept (λ fine. absurd (cc fine))) ∙ is) in omega (arith, rose, more)

-- each refusal is counted, also after further turns
pub counted_then : (old new : FilingParts) (before mid now : Outlet) → IsCounted old before mid → GoesOnTo old new mid.aborts mid.faults now.aborts now.faults → now.chunk_bytes ≡ mid.chunk_bytes → IsCounted new before now
counted_then old new before mid now first second size = record {
  aborted = λ is. by_delivery old.delivery new.delivery Aborted before.aborts mid.aborts now.aborts first.aborts second.aborts is first.aborted (λ fine. second.aborted fine is) second.kept;
  failed = λ is. by_delivery old.delivery new.delivery Failed before.faults mid.faults now.faults first.faults second.faults is first.failed (λ fine. second.failed fine is) second.kept;
  aborts = omega (arith, first.aborts, second.aborts);
  faults = omega (arith, first.faults, second.faults);
  chunk_bytes = size ∙ first.chunk_bytes;
}

heads_same : {m n k l : ℕ} → m ∷ k ∷ [] ≡ n ∷ l ∷ [] → m ≡ n
heads_same same = cc

tails_same : {m n k l : ℕ} → m ∷ k ∷ [] ≡ n ∷ l ∷ [] → k ≡ l
tails_same same = cc

same_flag : (one other : Bool) → ◌≡◌ {A = ℕ} (if one then 1 else 0) (if other then 1 else 0) → one ≡ other
same_flag true true same = refl
same_flag false false same = refl
same_flag true false same = absurd (omega (arith, same))
same_flag false true same = absurd (omega (arith, same))

not_some : (n : ℕ) → (0 < n → ⊥) → n ≡ 0
not_some zero none = refl
not_some (suc n) none = absurd (none (omega arith))

nothing_in : (more : List Tick) → Some [] ≡ with_all (Some []) more → more ≡ []
nothing_in [] same = refl
nothing_in (t ∷ more) same = absurd (cc same)

-- a turn of the isolate, and the queues after it
module _ {S : Type 0} (base : ℕ) (funcs : List Func) (moment : Moment) (raised : List Item) (before now : Outlet) (i0 i1 : PlainIsolate) (p0 : PlainProcessor S) (calls calls' : Option (List Call)) (answer : IsoTurn)
    (way : IsUnderWay base funcs moment raised before now i0 p0)
    (went : (after : Moment) × IsNow i1.guest.machine i1.progress i1.printed.items after × Goes (whole moment i0.progress calls (shown_of i0)) (whole after i1.progress calls' (shown_of i1)) (first_phase i0.progress) answer) where
  abbrev pub acts : List Act
  acts = went.2.runs.acts

  -- the ring of the turn is that of before
  abbrev pub SameRing : Type 0
  SameRing = i1.ends.ring.ring.places ∷ (if i1.ends.ring.refuses then 1 else 0) ∷ [] ≡ i0.ends.ring.ring.places ∷ (if i0.ends.ring.refuses then 1 else 0) ∷ []

  -- samples were dropped only where its count has risen
  abbrev pub Drops : Type 0
  Drops =
      DropsWhereFull (passed_now i0.ends.ring.refuses) (fulls_now i0.ends.ring.refuses i0.ends.ring.ring i0.ends.ring.refused.items)
      (fulls_now i1.ends.ring.refuses i1.ends.ring.ring i1.ends.ring.refused.items) i0.progress.schedule.entries i1.progress.schedule.entries

  after_is : went.0 ≡ moment_on moment acts
  after_is = went.2.runs.moment

  abbrev pub more : List Item
  more = raised_on moment i0.progress acts

  kept_now : IsKept funcs (moment_on moment acts) i1.progress (raised ++ more)
  kept_now =
      subst (λ (m : Moment). IsKept funcs m i1.progress (raised ++ more)) after_is
      (turn_kept funcs (whole moment i0.progress calls (shown_of i0)) (whole went.0 i1.progress calls' (shown_of i1)) raised (record { answer = answer; goes = went.2 }) way.kept)

  -- the queues hold what was raised, and all before is taken
  pub between_now : IsBetween base raised more before.parts now.parts i1 p0
  between_now = record {
    legal = legal_at i1.progress.ending funcs (moment_on moment acts) i1.progress (raised ++ more) kept_now.stands;
    hold =
        hold_more more i0.ends.events.items i1.ends.events.items i0.ends.vm_ticks.items i1.ends.vm_ticks.items i0.ends.ring.ring.items i1.ends.ring.ring.items way.none_waits went.2.runs.queues.holds raised
        (stamped_at i1.progress.ending funcs (moment_on moment acts) i1.progress (raised ++ more) kept_now.stands);
    settled = way.settled;
  }

  -- the ring of the turn keeps its places, and whether it refuses
  same_places : SameRing → i1.ends.ring.ring.places ≡ i0.ends.ring.ring.places
  same_places same = heads_same same

  same_refusing : SameRing → i1.ends.ring.refuses ≡ i0.ends.ring.refuses
  same_refusing same = same_flag i1.ends.ring.refuses i0.ends.ring.refuses (tails_same same)

  -- both sides are as before
  pub alike_now : (i1.progress.ending ≡ None → i0.progress.ending ≡ None) → (i1.progress.ending ≡ None → i1.ends.events.spare ≡ i0.ends.events.spare) → SameRing → AreAlike i1.progress.ending i1 p0
  alike_now going spare places = record {
    spare = λ on. spare on ∙ way.alike.spare (going on);
    spare_taken = λ on. way.alike.spare_taken (going on);
    places_are = same_places places ∙ way.alike.places_are;
    places_taken = way.alike.places_taken;
  }

  hits_taken : hits_in (ticks_of more) ≡ taken_in acts
  hits_taken = hits_are_taken moment i0.progress acts

  -- a ring that takes samples has room for the one of the turn
  has_room : SameRing → length i1.ends.ring.ring.items < i1.ends.ring.ring.places
  has_room same =
      let held = hits_more more i0.ends.events.items i1.ends.events.items i0.ends.vm_ticks.items i1.ends.vm_ticks.items i0.ends.ring.ring.items i1.ends.ring.ring.items way.none_waits went.2.runs.queues.holds in
      let few = one_taken moment i0.progress went.2.last acts went.2.runs.follow in
      let taken = hits_taken in
      let places : i1.ends.ring.ring.places ≡ 2 = same_places same ∙ way.alike.places_are in
      omega (arith, held, few, taken, places)

  taken_now : SameRing → i0.ends.ring.refuses ≡ false → Drops → AreOffered false acts
  taken_now same takes drops =
      let takes_now : i1.ends.ring.refuses ≡ false = same_refusing same ∙ takes in
      let fulls = fulls_now i0.ends.ring.refuses i0.ends.ring.ring i0.ends.ring.refused.items in
      let none : 0 < drops.dropped → ⊥ = λ some.
      none_full fulls i1.ends.ring.ring i1.ends.ring.refused.items (has_room same)
      (subst (λ (b : Bool). Rose fulls (fulls_now b i1.ends.ring.ring i1.ends.ring.refused.items)) takes_now (drops.rose some)) in
      all_taken moment i0.progress acts
      (subst (λ (p : Progress). Adds i0.progress.schedule.entries p.schedule.entries 0) went.2.runs.progress
      (subst (λ (n : ℕ). Adds i0.progress.schedule.entries i1.progress.schedule.entries n) (not_some drops.dropped none) drops.adds))

  refused_now : SameRing → i0.ends.ring.refuses ≡ true → AreOffered true acts
  refused_now same is =
      let passed = went.2.runs.queues.passed in
      let nothing : Some [] ≡ with_all (Some []) passed.ring_more =
      subst (λ (b : Bool). passed_now b ≡ with_all (Some []) passed.ring_more) (same_refusing same ∙ is)
      (subst (λ (b : Bool). passed_now i1.ends.ring.refuses ≡ with_all (passed_now b) passed.ring_more) is passed.ring) in
      let hits = joined_hits passed.vm_more passed.ring_more (ticks_of more) passed.no_hits passed.hits passed.joined in
      let none = ap length (nothing_in passed.ring_more nothing) in
      let taken = hits_taken in
      all_refused acts (omega (arith, hits, none, taken))

  offered_now : (refusing : Bool) → i0.ends.ring.refuses ≡ refusing → SameRing → Drops → AreOffered refusing acts
  offered_now true is same drops = refused_now same is
  offered_now false is same drops = taken_now same is drops

  -- once all of it is taken
  module _ (ends : Ends (QueueValue EventRecord) (QueueValue Tick) TurnRing) (p2 : PlainProcessor S) (later : Outlet) where
    turned_with : IsIsolate i1.guest.machine i1.progress → SameRing → ends.ring.refuses ≡ i1.ends.ring.refuses → Drops
        → IsHanded base (raised ++ more) before.parts later.parts (record i1 { ends = ends }) p2 → AreAlike i1.progress.ending (record i1 { ends = ends }) p2
        → GoesOnTo p0.course.filing p2.course.filing now.aborts now.faults later.aborts later.faults → later.chunk_bytes ≡ now.chunk_bytes
        → HasTurned base funcs moment raised before later i0 (record i1 { ends = ends }) p2 calls calls' answer
    turned_with ready ring refuses drops handed alike refusing size = record {
      last = went.2.last;
      acts = acts;
      follow = went.2.runs.follow;
      over = subst (λ (p : Progress). IsOver (moment_on moment acts) p went.2.last) went.2.runs.progress (subst (λ (m : Moment). IsOver m i1.progress went.2.last) after_is went.2.over);
      progress = went.2.runs.progress;
      head = subst (λ (p : Progress). SameHead i0.progress.schedule p.schedule) (sym went.2.runs.progress) (keep_heads moment i0.progress acts);
      calls_are = went.2.runs.calls;
      answers = went.2.answer_is;
      offered = offered_now i0.ends.ring.refuses refl ring drops;
      refuses = refuses ∙ same_refusing ring;
      way = record {
        kept = kept_now;
        now_is = subst (λ (m : Moment). IsNow i1.guest.machine i1.progress i1.printed.items m) after_is went.1;
        ready = ready;
        alike = alike;
        none_waits = handed.none_waits;
        settled = handed.settled;
        counted = counted_then p0.course.filing p2.course.filing before now later way.counted refusing size;
      };
    }

  pub has_turned : (i2 : PlainIsolate) (p2 : PlainProcessor S) (later : Outlet) → i2 ≡ record i1 { ends = i2.ends } → IsIsolate i1.guest.machine i1.progress → SameRing → i2.ends.ring.refuses ≡ i1.ends.ring.refuses → Drops
      → IsHanded base (raised ++ more) before.parts later.parts i2 p2 → AreAlike i1.progress.ending i2 p2
      → GoesOnTo p0.course.filing p2.course.filing now.aborts now.faults later.aborts later.faults → later.chunk_bytes ≡ now.chunk_bytes
      → HasTurned base funcs moment raised before later i0 i2 p2 calls calls' answer
  has_turned i2 p2 later same ready ring refuses drops handed alike refusing size =
      subst (λ (i : PlainIsolate). HasTurned base funcs moment raised before later i0 i p2 calls calls' answer) (sym same)
      (turned_with i2.ends p2 later ready ring refuses drops (subst (λ (i : PlainIsolate). IsHanded base (raised ++ more) before.parts later.parts i p2) same handed)
      (subst (λ (i : PlainIsolate). AreAlike i1.progress.ending i p2) same alike) refusing size)
