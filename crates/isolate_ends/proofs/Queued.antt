-- What goes into the queues and what is told to the ports, put together.
use Rattle.std.proofs.Common.{◌≡◌, ℕ, suc, ◌+◌, List, [], ◌∷◌, ◌++◌, length, refl, ap, sym, subst, ◌∙◌, ⊎_elim, inl, inr}
use Rattle.std.specs.Prelude.{Option, Some, None, true, false}
use Rattle.std.proofs.lemmas.List.{append_assoc, append-nil}
use Rattle.code_event.specs.declared.event.CodeEvent.{CodeEvent}
use Rattle.code_event.specs.declared.event.EventRecord.{EventRecord}
use Rattle.code_event.specs.declared.tick.Item.{Item}
use Rattle.code_event.specs.declared.tick.Item.TheVariants as item
use Rattle.code_event.specs.declared.tick.Tick.{Tick}
use Rattle.code_layout.proofs.Standing.{all_both}
use Rattle.pipe_core.proofs.StampedRest.{events_of-append, ticks_of-append}
use Rattle.pipe_core.specs.CoreOrder.{IsJoined}
use Rattle.pipe_core.specs.Observed.{appended}
use Rattle.pipe_core.specs.Stamps.{events_of, ticks_of}
use Rattle.isolate_acts.proofs.Stamped.{numbered-append}
use Rattle.isolate_acts.specs.Acts.{numbered}
use Rattle.isolate_acts.specs.Calls.{Call, with_calls}
use Rattle.isolate_ends.specs.Queues.{Lists, Shown, GotMore, HaveMore, with_all}

pub none_more : {A : Type 0} (before : Option (List A)) → before ≡ with_all before []
none_more None = refl
none_more (Some xs) = ap (λ ys. Some ys) (sym (append-nil xs))

pub one_more : {A : Type 0} (before : Option (List A)) (x : A) → appended before x ≡ with_all before (x ∷ [])
one_more None x = refl
one_more (Some xs) x = refl

pub calls_twice : (calls : Option (List Call)) (one other : List Call) → with_calls (with_calls calls one) other ≡ with_calls calls (one ++ other)
calls_twice None one other = refl
calls_twice (Some xs) one other = ap (λ ys. Some ys) (append_assoc xs one other)

pub all_twice : {A : Type 0} (before : Option (List A)) (one other : List A) → with_all (with_all before one) other ≡ with_all before (one ++ other)
all_twice None one other = refl
all_twice (Some xs) one other = ap (λ ys. Some ys) (append_assoc xs one other)

got_event : (before after : Lists) (e : EventRecord) → after.events ≡ appended before.events e → after.vm_ticks ≡ before.vm_ticks → after.ring ≡ before.ring → GotMore before after (item.Event e ∷ [])
got_event before after e events vm_ticks ring = record {
  events = events ∙ one_more before.events e;
  vm_more = [];
  ring_more = [];
  vm_ticks = vm_ticks ∙ none_more before.vm_ticks;
  ring = ring ∙ none_more before.ring;
  joined = (refl, refl);
  no_hits = tt;
  hits = tt;
}

got_tick : (before after : Lists) (t : Tick) → t.hit ≡ false → after.events ≡ before.events → after.vm_ticks ≡ appended before.vm_ticks t → after.ring ≡ before.ring → GotMore before after (item.Tick t ∷ [])
got_tick before after t no_hit events vm_ticks ring = record {
  events = events ∙ none_more before.events;
  vm_more = t ∷ [];
  ring_more = [];
  vm_ticks = vm_ticks ∙ one_more before.vm_ticks t;
  ring = ring ∙ none_more before.ring;
  joined = inl ([], refl, (refl, refl));
  no_hits = (no_hit, tt);
  hits = tt;
}

got_sample : (before after : Lists) (t : Tick) → t.hit ≡ true → after.events ≡ before.events → after.vm_ticks ≡ before.vm_ticks → after.ring ≡ appended before.ring t → GotMore before after (item.Tick t ∷ [])
got_sample before after t is_hit events vm_ticks ring = record {
  events = events ∙ none_more before.events;
  vm_more = [];
  ring_more = t ∷ [];
  vm_ticks = vm_ticks ∙ none_more before.vm_ticks;
  ring = ring ∙ one_more before.ring t;
  joined = inr ([], refl, (refl, refl));
  no_hits = tt;
  hits = (is_hit, tt);
}

got_nothing : (before after : Lists) → after.events ≡ before.events → after.vm_ticks ≡ before.vm_ticks → after.ring ≡ before.ring → GotMore before after []
got_nothing before after events vm_ticks ring = record {
  events = events ∙ none_more before.events;
  vm_more = [];
  ring_more = [];
  vm_ticks = vm_ticks ∙ none_more before.vm_ticks;
  ring = ring ∙ none_more before.ring;
  joined = (refl, refl);
  no_hits = tt;
  hits = tt;
}

-- one event more
pub have_event : (before after : Shown) (e : EventRecord)
    → after.passed.events ≡ appended before.passed.events e → after.passed.vm_ticks ≡ before.passed.vm_ticks → after.passed.ring ≡ before.passed.ring
    → after.holds.events ≡ appended before.holds.events e → after.holds.vm_ticks ≡ before.holds.vm_ticks → after.holds.ring ≡ before.holds.ring
    → HaveMore before after (item.Event e ∷ [])
have_event before after e a b c d f g = record { passed = got_event before.passed after.passed e a b c; holds = got_event before.holds after.holds e d f g }

-- one tick of the engine more
pub have_tick : (before after : Shown) (t : Tick) → t.hit ≡ false
    → after.passed.events ≡ before.passed.events → after.passed.vm_ticks ≡ appended before.passed.vm_ticks t → after.passed.ring ≡ before.passed.ring
    → after.holds.events ≡ before.holds.events → after.holds.vm_ticks ≡ appended before.holds.vm_ticks t → after.holds.ring ≡ before.holds.ring
    → HaveMore before after (item.Tick t ∷ [])
have_tick before after t no_hit a b c d f g = record { passed = got_tick before.passed after.passed t no_hit a b c; holds = got_tick before.holds after.holds t no_hit d f g }

-- one sample more
pub have_sample : (before after : Shown) (t : Tick) → t.hit ≡ true
    → after.passed.events ≡ before.passed.events → after.passed.vm_ticks ≡ before.passed.vm_ticks → after.passed.ring ≡ appended before.passed.ring t
    → after.holds.events ≡ before.holds.events → after.holds.vm_ticks ≡ before.holds.vm_ticks → after.holds.ring ≡ appended before.holds.ring t
    → HaveMore before after (item.Tick t ∷ [])
have_sample before after t is_hit a b c d f g = record { passed = got_sample before.passed after.passed t is_hit a b c; holds = got_sample before.holds after.holds t is_hit d f g }

-- nothing more
pub have_nothing : (before after : Shown)
    → after.passed.events ≡ before.passed.events → after.passed.vm_ticks ≡ before.passed.vm_ticks → after.passed.ring ≡ before.passed.ring
    → after.holds.events ≡ before.holds.events → after.holds.vm_ticks ≡ before.holds.vm_ticks → after.holds.ring ≡ before.holds.ring
    → HaveMore before after []
have_nothing before after a b c d f g = record { passed = got_nothing before.passed after.passed a b c; holds = got_nothing before.holds after.holds d f g }

pub have_none : (before after : Shown) → after ≡ before → HaveMore before after []
have_none before after same =
    have_nothing before after (ap (λ (s : Shown). s.passed.events) same) (ap (λ (s : Shown). s.passed.vm_ticks) same) (ap (λ (s : Shown). s.passed.ring) same)
    (ap (λ (s : Shown). s.holds.events) same) (ap (λ (s : Shown). s.holds.vm_ticks) same) (ap (λ (s : Shown). s.holds.ring) same)

joined_both : {A : Type 0} (a b xs c d ys : List A) → IsJoined a b xs → IsJoined c d ys → IsJoined (a ++ c) (b ++ d) (xs ++ ys)
joined_both a b [] c d ys one other = subst (λ l. IsJoined (l ++ c) (b ++ d) ys) (sym one.0) (subst (λ l. IsJoined c (l ++ d) ys) (sym one.1) other)
joined_both {A} a b (x ∷ xs) c d ys one other =
    ⊎_elim
    (λ (l : (rest : List A) × (a ≡ x ∷ rest) × IsJoined rest b xs). inl (l.0 ++ c, ap (λ (z : List A). z ++ c) l.1, joined_both l.0 b xs c d ys l.2 other))
    (λ (r : (rest : List A) × (b ≡ x ∷ rest) × IsJoined a rest xs). inr (r.0 ++ d, ap (λ (z : List A). z ++ d) r.1, joined_both a r.0 xs c d ys r.2 other)) one

got_both : (a b c : Lists) (xs ys : List Item) → GotMore a b xs → GotMore b c ys → GotMore a c (xs ++ ys)
got_both a b c xs ys one other = record {
  events = other.events ∙ ap (λ z. with_all z (events_of ys)) one.events ∙ all_twice a.events (events_of xs) (events_of ys) ∙ ap (with_all a.events) (sym (events_of-append xs ys));
  vm_more = one.vm_more ++ other.vm_more;
  ring_more = one.ring_more ++ other.ring_more;
  vm_ticks = other.vm_ticks ∙ ap (λ z. with_all z other.vm_more) one.vm_ticks ∙ all_twice a.vm_ticks one.vm_more other.vm_more;
  ring = other.ring ∙ ap (λ z. with_all z other.ring_more) one.ring ∙ all_twice a.ring one.ring_more other.ring_more;
  joined =
      subst (IsJoined (one.vm_more ++ other.vm_more) (one.ring_more ++ other.ring_more)) (sym (ticks_of-append xs ys))
      (joined_both one.vm_more one.ring_more (ticks_of xs) other.vm_more other.ring_more (ticks_of ys) one.joined other.joined);
  no_hits = all_both (λ (t : Tick). t.hit ≡ false) one.vm_more other.vm_more one.no_hits other.no_hits;
  hits = all_both (λ (t : Tick). t.hit ≡ true) one.ring_more other.ring_more one.hits other.hits;
}

-- what was put in, and what was put in after it
pub have_both : (a b c : Shown) (xs ys : List Item) → HaveMore a b xs → HaveMore b c ys → HaveMore a c (xs ++ ys)
have_both a b c xs ys one other = record { passed = got_both a.passed b.passed c.passed xs ys one.passed other.passed; holds = got_both a.holds b.holds c.holds xs ys one.holds other.holds }

-- of a list of events one more is put in
pub have_next : (before between after : Shown) (number ticks : ℕ) (events : List CodeEvent) (e : CodeEvent)
    → HaveMore before between (numbered number ticks events)
    → HaveMore between after (item.Event (record { number = suc (number + length events); ticks_before = ticks; event = e }) ∷ [])
    → HaveMore before after (numbered number ticks (events ++ e ∷ []))
have_next before between after number ticks events e had put =
    subst (HaveMore before after) (sym (numbered-append number ticks events (e ∷ [])))
    (have_both before between after (numbered number ticks events) (item.Event (record { number = suc (number + length events); ticks_before = ticks; event = e }) ∷ []) had put)
