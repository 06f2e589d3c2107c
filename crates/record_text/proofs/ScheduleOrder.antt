-- The rule of order: its test, and that the last entry decides it.
use Rattle.std.proofs.Common.{◌≡◌, ◌∙◌, ℕ, ◌≤◌, List, [], ◌∷◌, ◌++◌, Bool, true, false, not, ◌&&◌, ◌||◌, ◌==◌, leb, Option, Some, None, refl, sym, ap, subst, arith, ◌↔◌}
use Rattle.std.specs.List.{AllByRecursion, list_all}
use Rattle.std.proofs.Math.Bool.{or-false, and-false}
use Rattle.std.proofs.lemmas.Bool.{and_parts, and_from, not-true, not_from_false, leb-true, le-leb, eqb-true, eq-eqb, both_ways}
use Rattle.std.proofs.lemmas.List.Folds.{list_all-append}
use Rattle.code_event.proofs.EachElement.{all_mapped, all_of_second, all_pushed}
use Rattle.run_schedule.specs.declared.schedule.What.{What}
use Rattle.run_schedule.specs.declared.schedule.What.TheVariants.{Sampled, Dropped, Start, Stop, End}
use Rattle.run_schedule.specs.declared.schedule.ScheduleEntry.{ScheduleEntry}
use Rattle.run_schedule.specs.Schedule.{is_sample, is_end, has_end, MayStandBehind, IsInOrder}
use Rattle.run_schedule.specs.ScheduleParts.{port_of}
use Rattle.record_text.specs.ScheduleRules.{has_later_port, may_share_step, may_stand_behind, is_in_order, is_at_last_step}
use Rattle.record_text.specs.ScheduleDraft.{AreInOrder}

-- ---- the test is the rule

share_by : (same share : Bool) → (not same || share) ≡ true → same ≡ true → share ≡ true
share_by true share h e = h
share_by false share h e = absurd cc

share_test : (same share : Bool) → (same ≡ true → share ≡ true) → (not same || share) ≡ true
share_test true share h = h refl
share_test false share h = refl

ports_by : (p q : Option ℕ) (earlier later : ℕ) → has_later_port p q ≡ true → p ≡ Some earlier → q ≡ Some later → earlier ≤ later
ports_by (Some m) (Some n) earlier later h one other = let a : m ≡ earlier = cc in let b : n ≡ later = cc in rw (← a, ← b) (leb-true m n h)
ports_by (Some m) None earlier later h one other = absurd cc
ports_by None q earlier later h one other = absurd cc

ports_test : (p q : Option ℕ) → ((earlier later : ℕ) → p ≡ Some earlier → q ≡ Some later → earlier ≤ later) → has_later_port p q ≡ true
ports_test (Some m) (Some n) h = le-leb m n (h m n refl refl)
ports_test (Some m) None h = refl
ports_test None q h = refl

behind_from : (entry before : ScheduleEntry) → may_stand_behind entry before ≡ true → MayStandBehind entry before
behind_from entry before h =
    let a = and_parts (leb before.step entry.step && leb before.time entry.time && not (is_end before.what)) (not (before.step == entry.step) || may_share_step before.what entry.what) h in
    let b = and_parts (leb before.step entry.step && leb before.time entry.time) (not (is_end before.what)) a.0 in
    let c = and_parts (leb before.step entry.step) (leb before.time entry.time) b.0 in
    let share : before.step ≡ entry.step → may_share_step before.what entry.what ≡ true =
    λ (same : before.step ≡ entry.step). share_by (before.step == entry.step) (may_share_step before.what entry.what) a.1 (eq-eqb before.step entry.step same) in
    record {
      step = leb-true before.step entry.step c.0;
      time = leb-true before.time entry.time c.1;
      going_on = not-true (is_end before.what) b.1;
      one_sample = λ same sample.
          share_by (is_sample before.what) (is_end entry.what) (and_parts (not (is_sample before.what) || is_end entry.what) (has_later_port (port_of before.what) (port_of entry.what)) (share same)).0 sample;
      ports = λ earlier later same one other.
          ports_by (port_of before.what) (port_of entry.what) earlier later (and_parts (not (is_sample before.what) || is_end entry.what) (has_later_port (port_of before.what) (port_of entry.what)) (share same)).1 one other;
    }

behind_test : (entry before : ScheduleEntry) → MayStandBehind entry before → may_stand_behind entry before ≡ true
behind_test entry before h =
    let share : before.step ≡ entry.step → may_share_step before.what entry.what ≡ true =
    λ (same : before.step ≡ entry.step). and_from (not (is_sample before.what) || is_end entry.what) (has_later_port (port_of before.what) (port_of entry.what))
    (share_test (is_sample before.what) (is_end entry.what) (h.one_sample same))
    (ports_test (port_of before.what) (port_of entry.what) (λ earlier later one other. h.ports earlier later same one other)) in
    and_from (leb before.step entry.step && leb before.time entry.time && not (is_end before.what)) (not (before.step == entry.step) || may_share_step before.what entry.what)
    (and_from (leb before.step entry.step && leb before.time entry.time) (not (is_end before.what))
    (and_from (leb before.step entry.step) (leb before.time entry.time) (le-leb before.step entry.step h.step) (le-leb before.time entry.time h.time))
    (not_from_false (is_end before.what) h.going_on))
    (share_test (before.step == entry.step) (may_share_step before.what entry.what) (λ t. share (eqb-true before.step entry.step t)))

pub order_from : (before : List ScheduleEntry) (entry : ScheduleEntry) → is_in_order before entry ≡ true → IsInOrder before entry
order_from [] entry h = tt
order_from (first ∷ before) entry h =
    let a = and_parts (may_stand_behind entry first) (list_all (may_stand_behind entry) before) h in
    (behind_from entry first a.0, order_from before entry a.1)

pub order_test : (before : List ScheduleEntry) (entry : ScheduleEntry) → IsInOrder before entry → is_in_order before entry ≡ true
order_test [] entry h = refl
order_test (first ∷ before) entry h = and_from (may_stand_behind entry first) (list_all (may_stand_behind entry) before) (behind_test entry first h.0) (order_test before entry h.1)

pub order_is_tested : (before : List ScheduleEntry) (entry : ScheduleEntry) → (is_in_order before entry ≡ true) ↔ IsInOrder before entry
order_is_tested before entry = (order_from before entry, order_test before entry)

-- ---- the last entry decides

-- what is no sample and no end is a command
has_port : (what : What) → is_sample what ≡ false → is_end what ≡ false → (port : ℕ) × (port_of what ≡ Some port)
has_port Sampled sample end = absurd cc
has_port Dropped sample end = absurd cc
has_port (Start options) sample end = (options.port, refl)
has_port (Stop port session) sample end = (port, refl)
has_port (End why) sample end = absurd cc

end_has_none : (what : What) (port : ℕ) → is_end what ≡ true → port_of what ≡ Some port → ⊥
end_has_none Sampled port end is = cc
end_has_none Dropped port end is = cc
end_has_none (Start options) port end is = cc
end_has_none (Stop p session) port end is = cc
end_has_none (End why) port end is = cc

-- the ports of three commands at one step, where the one in the middle may be anything
between : (first middle last : ScheduleEntry) → MayStandBehind middle first → MayStandBehind last middle → first.step ≡ middle.step → middle.step ≡ last.step
    → (earlier later : ℕ) → port_of first.what ≡ Some earlier → port_of last.what ≡ Some later → (sample : Bool) → is_sample middle.what ≡ sample → earlier ≤ later
between first middle last one other same_one same_other earlier later is_earlier is_later true sample = absurd (end_has_none last.what later (other.one_sample same_other sample) is_later)
between first middle last one other same_one same_other earlier later is_earlier is_later false sample =
    let port = has_port middle.what sample other.going_on in
    let low : earlier ≤ port.0 = one.ports earlier port.0 same_one is_earlier port.1 in
    let high : port.0 ≤ later = other.ports port.0 later same_other port.1 is_later in
    omega arith

-- an entry that may stand behind one which stands behind another may stand behind that too
behind_both : (first middle last : ScheduleEntry) → MayStandBehind middle first → MayStandBehind last middle → MayStandBehind last first
behind_both first middle last one other =
    let low : first.step ≤ middle.step = one.step in
    let high : middle.step ≤ last.step = other.step in
    let early : first.time ≤ middle.time = one.time in
    let late : middle.time ≤ last.time = other.time in
    record {
      step = omega arith;
      time = omega arith;
      going_on = one.going_on;
      one_sample = λ same sample.
          let same_one : first.step ≡ middle.step = omega arith in
          absurd (both_ways (is_end middle.what) other.going_on (one.one_sample same_one sample));
      ports = λ earlier later same is_earlier is_later.
          let same_one : first.step ≡ middle.step = omega arith in
          let same_other : middle.step ≡ last.step = omega arith in
          between first middle last one other same_one same_other earlier later is_earlier is_later (is_sample middle.what) refl;
    }

-- the last of entries that are in order stands behind the others
last_behind : (before : List ScheduleEntry) (last : ScheduleEntry) → AreInOrder (before ++ last ∷ []) → AllByRecursion (MayStandBehind last) before
last_behind [] last are = tt
last_behind (first ∷ before) last are = ((all_of_second (λ later. MayStandBehind later first) before (last ∷ []) are.0).0, last_behind before last are.1)

decided_by : (before : List ScheduleEntry) (last entry : ScheduleEntry) (t : Bool) → AreInOrder (before ++ last ∷ []) → may_stand_behind entry last ≡ t → t ≡ is_in_order (before ++ last ∷ []) entry
decided_by before last entry true are e =
    let others = all_mapped (MayStandBehind last) (MayStandBehind entry) before (λ first behind. behind_both first last entry behind (behind_from entry last e)) (last_behind before last are) in
    sym (list_all-append (may_stand_behind entry) before (last ∷ []) ∙ rw (order_test before entry others, e) refl)
decided_by before last entry false are e = sym (list_all-append (may_stand_behind entry) before (last ∷ []) ∙ rw e (and-false (is_in_order before entry)))

-- an entry keeps the rule after all of these where it keeps it after the last
pub last_decides : (entries before : List ScheduleEntry) (last entry : ScheduleEntry) → entries ≡ before ++ last ∷ [] → AreInOrder entries → may_stand_behind entry last ≡ is_in_order entries entry
last_decides entries before last entry is are =
    decided_by before last entry (may_stand_behind entry last) (subst AreInOrder is are) refl ∙ ap (λ (z : List ScheduleEntry). is_in_order z entry) (sym is)

end_of : (before : List ScheduleEntry) (last : ScheduleEntry) → AllByRecursion (MayStandBehind last) before → has_end (before ++ last ∷ []) ≡ is_end last.what
end_of [] last all = or-false (is_end last.what)
end_of (first ∷ before) last all = rw all.0.going_on (end_of before last all.1)

-- there is an end where the last entry is one
pub last_ends : (entries before : List ScheduleEntry) (last : ScheduleEntry) → entries ≡ before ++ last ∷ [] → AreInOrder entries → is_end last.what ≡ has_end entries
last_ends entries before last is are = sym (ap has_end is ∙ end_of before last (last_behind before last (subst AreInOrder is are)))

last_step : (before : List ScheduleEntry) (last : ScheduleEntry) (step : ℕ) → (last.step == step) ≡ is_at_last_step (before ++ last ∷ []) step
last_step [] last step = refl
last_step (first ∷ []) last step = refl
last_step (first ∷ next ∷ before) last step = last_step (next ∷ before) last step

pub last_is_at : (entries before : List ScheduleEntry) (last : ScheduleEntry) (step : ℕ) → entries ≡ before ++ last ∷ [] → (last.step == step) ≡ is_at_last_step entries step
last_is_at entries before last step is = last_step before last step ∙ ap (λ (z : List ScheduleEntry). is_at_last_step z step) (sym is)

-- entries in order, with one more that keeps the rule
pub in_order_more : (before : List ScheduleEntry) (entry : ScheduleEntry) → AreInOrder before → IsInOrder before entry → AreInOrder (before ++ entry ∷ [])
in_order_more [] entry are behind = (tt, tt)
in_order_more (first ∷ before) entry are behind = (all_pushed (λ later. MayStandBehind later first) before entry are.0 behind.0, in_order_more before entry are.1 behind.1)
