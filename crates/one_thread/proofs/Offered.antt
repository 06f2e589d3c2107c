-- In a turn at most one sample is taken, and none is dropped by a ring with room for it.
use Rattle.std.proofs.Common.{◌≡◌, ℕ, suc, ◌+◌, ◌<◌, ◌≤◌, List, [], ◌∷◌, ◌++◌, length, refl, ap, sym, subst, ◌∙◌, inl, inr, arith}
use Rattle.std.proofs.Math.Dec.{lit≤}
use Rattle.std.proofs.lemmas.List.Sums.{sum_by-append}
use Rattle.std.specs.List.{AllByRecursion}
use Rattle.std.specs.Prelude.{Bool, true, false, cond, count_by, map, not, ◌&&◌, ◌==◌, if◌then◌else◌}
use Rattle.code_event.specs.declared.event.CodeEvent.{CodeEvent}
use Rattle.code_event.specs.declared.event.CodeEvent.TheVariants as event
use Rattle.code_event.specs.declared.event.Command.TheVariants as command
use Rattle.code_event.specs.declared.event.Command.{Command}
use Rattle.code_event.specs.declared.tick.Item.{Item}
use Rattle.code_event.specs.declared.tick.Item.TheVariants as item
use Rattle.code_event.specs.declared.tick.Tick.{Tick}
use Rattle.pipe_core.proofs.StampedRest.{ticks_of-append}
use Rattle.pipe_core.specs.CoreOrder.{IsJoined}
use Rattle.pipe_core.specs.Stamps.{ticks_of}
use Rattle.run_schedule.specs.declared.limits.TheConstants.{MAX_PORT}
use Rattle.run_schedule.specs.declared.schedule.ScheduleEntry.{ScheduleEntry}
use Rattle.run_schedule.specs.declared.schedule.What.TheVariants.{Dropped}
use Rattle.isolate_acts.specs.Acts.{Act, passes, starts, stops, refuses, cuts_off, asks, samples, steps, ends, ends_short, act_after, act_raises, cut_marks, given_up_tick, given_up_ticks, is_seen_giving_up, moment_after, numbered, progress_on, raised_on, raised_short}
use Rattle.isolate_acts.specs.Phases.{Phase, at_port, asking, sampling, stepping, closing, must_end, over, LeadTo, MayAct, after_command, after_end, after_ports, first_phase, most_commands, unless_ended}
use Rattle.isolate_acts.specs.Progress.{Moment, Progress, entry_now, entry_time, goes_on, is_filled, some_runs}
use Rattle.isolate_ends.specs.Offered.{AreOffered, IsOffered}
use Rattle.isolate_ends.specs.Runs.{Adds, is_dropped}

-- the act takes a sample
abbrev pub is_taken : Act → Bool
is_taken (samples now is_in) = is_in
is_taken other = false

-- the number of samples that acts take
abbrev pub taken_in : List Act → ℕ
taken_in acts = count_by is_taken acts

-- the number of hits among ticks
abbrev pub hits_in : List Tick → ℕ
hits_in ticks = count_by (λ (t : Tick). t.hit) ticks

hits_in-append : (xs ys : List Tick) → hits_in (xs ++ ys) ≡ hits_in xs + hits_in ys
hits_in-append xs ys = sum_by-append (λ (t : Tick). cond t.hit 1 0) xs ys

numbered_ticks : (number ticks : ℕ) (events : List CodeEvent) → ticks_of (numbered number ticks events) ≡ []
numbered_ticks number ticks [] = refl
numbered_ticks number ticks (event ∷ events) = numbered_ticks (suc number) ticks events

short_hits : (p : Progress) (events : List CodeEvent) (now : ℕ) → hits_in (ticks_of (raised_short p events now)) ≡ 0
short_hits p events now = ap hits_in (numbered_ticks p.events p.ticks (events ++ event.Finish (entry_time p now) false ∷ []))

given_hits : (is_seen : Bool) (t : Tick) → t.hit ≡ false → hits_in (ticks_of (map (λ t. item.Tick t) (if is_seen then t ∷ [] else []))) ≡ 0
given_hits true t no_hit = ap (λ (b : Bool). 0 + cond b 1 0) no_hit
given_hits false t no_hit = refl

step_hits : (moment after : Moment) (p : Progress) (events : List CodeEvent) → hits_in (ticks_of (act_raises moment p (steps after events))) ≡ 0
step_hits moment after p events =
    let given : List Item = map (λ t. item.Tick t) (given_up_ticks moment after p (length events)) in
    let all = ap hits_in (ticks_of-append (numbered p.events p.ticks events) given) ∙ ap (λ (l : List Tick). hits_in (l ++ ticks_of given)) (numbered_ticks p.events p.ticks events) in
    all ∙ given_hits (is_seen_giving_up moment p) (given_up_tick after p (length events)) refl

-- the hits that an act raises are the samples that it takes
act_hits : (moment : Moment) (p : Progress) (act : Act) → hits_in (ticks_of (act_raises moment p act)) ≡ cond (is_taken act) 1 0
act_hits moment p (samples now true) = refl
act_hits moment p (samples now false) = refl
act_hits moment p (passes port) = refl
act_hits moment p (starts options now is_taken) = refl
act_hits moment p (stops port number now is_taken) = refl
act_hits moment p (refuses port given why is_taken) = refl
act_hits moment p (cuts_off port given is_marked now is_taken) = short_hits p (cut_marks p given is_marked now) now
act_hits moment p (asks is_asked) = refl
act_hits moment p (steps after events) = step_hits moment after p events
act_hits moment p (ends why now) = refl
act_hits moment p (ends_short events now) = short_hits p events now

first_taken : (act : Act) (acts : List Act) → taken_in (act ∷ acts) ≡ cond (is_taken act) 1 0 + taken_in acts
first_taken act acts = sum_by-append (λ (a : Act). cond (is_taken a) 1 0) (act ∷ []) acts ∙ ap (λ (n : ℕ). n + taken_in acts) (none_first (cond (is_taken act) 1 0)) where
  none_first : (n : ℕ) → 0 + n ≡ n
  none_first n = omega arith

first_hit : (t : Tick) (ticks : List Tick) → hits_in (t ∷ ticks) ≡ cond t.hit 1 0 + hits_in ticks
first_hit t ticks = hits_in-append (t ∷ []) ticks ∙ ap (λ (n : ℕ). n + hits_in ticks) (none_first (cond t.hit 1 0)) where
  none_first : (n : ℕ) → 0 + n ≡ n
  none_first n = omega arith

-- so are those that a run of acts raises
pub hits_are_taken : (moment : Moment) (p : Progress) (acts : List Act) → hits_in (ticks_of (raised_on moment p acts)) ≡ taken_in acts
hits_are_taken moment p [] = refl
hits_are_taken moment p (act ∷ acts) =
    let then_ = moment_after moment act in
    let after = act_after moment p act in
    let raised = act_raises moment p act in
    let more = raised_on then_ after acts in
    let one = act_hits moment p act in
    let rest = hits_are_taken then_ after acts in
    let all : hits_in (ticks_of (raised ++ more)) ≡ hits_in (ticks_of raised) + hits_in (ticks_of more) = ap hits_in (ticks_of-append raised more) ∙ hits_in-append (ticks_of raised) (ticks_of more) in
    let taken = first_taken act acts in
    omega (arith, all, one, rest, taken)

-- where the hits of a list of ticks are in the one queue, and the others in the other, the one has as many
pub joined_hits : (vm_ticks ring xs : List Tick) → AllByRecursion (λ (t : Tick). t.hit ≡ false) vm_ticks → AllByRecursion (λ (t : Tick). t.hit ≡ true) ring → IsJoined vm_ticks ring xs
    → hits_in xs ≡ length ring
joined_hits vm_ticks ring [] no_hits hits joined = sym (ap length joined.1)
joined_hits vm_ticks ring (x ∷ xs) no_hits hits joined = elim joined [
  | inl one ↦
      let are = subst (AllByRecursion (λ (t : Tick). t.hit ≡ false)) one.1 no_hits in
      let none : ◌≡◌ {A = ℕ} (cond x.hit 1 0) 0 = ap (λ (b : Bool). cond b 1 0) are.0 in
      let rest = joined_hits one.0 ring xs are.1 hits one.2 in
      let all = first_hit x xs in
      omega (arith, none, rest, all)
  | inr other ↦
      let are = subst (AllByRecursion (λ (t : Tick). t.hit ≡ true)) other.1 hits in
      let one : ◌≡◌ {A = ℕ} (cond x.hit 1 0) 1 = ap (λ (b : Bool). cond b 1 0) are.0 in
      let rest = joined_hits vm_ticks other.0 xs no_hits are.1 other.2 in
      let all = first_hit x xs in
      let long : length ring ≡ length other.0 + 1 = ap length other.1 ∙ suc_is (length other.0) in
      omega (arith, one, rest, all, long)
] where
  suc_is : (n : ℕ) → suc n ≡ n + 1
  suc_is n = omega arith

-- the most samples that are taken from a phase on
abbrev most : Phase → ℕ
most (at_port port commands) = 1
most asking = 1
most sampling = 1
most stepping = 0
most closing = 0
most (must_end later) = most later
most over = 0

most_one : (q : Phase) → most q ≤ 1
most_one (at_port port commands) = lit≤ tt
most_one asking = lit≤ tt
most_one sampling = lit≤ tt
most_one stepping = lit≤ tt
most_one closing = lit≤ tt
most_one (must_end later) = most_one later
most_one over = lit≤ tt

zero_le : (n : ℕ) → 0 ≤ n
zero_le n = omega arith

end_fewer : (later : Phase) → most (after_end later) ≤ most later
end_fewer (at_port port commands) = lit≤ tt
end_fewer asking = lit≤ tt
end_fewer sampling = lit≤ tt
end_fewer stepping = lit≤ tt
end_fewer closing = lit≤ tt
end_fewer (must_end later) = zero_le (most later)
end_fewer over = lit≤ tt

none_after : (b : Bool) → most (if b then must_end stepping else stepping) ≡ 0
none_after true = refl
none_after false = refl

no_more : (n m : ℕ) → n ≤ m → 0 + n ≤ m
no_more n m fewer = omega (arith, fewer)

one_at_most : (is_in : Bool) (n : ℕ) → n ≡ 0 → cond is_in 1 0 + n ≤ 1
one_at_most true n none = omega (arith, none)
one_at_most false n none = omega (arith, none)

-- the sample that an act takes, and the most of the next phase, are at most those of its phase
act_few : (moment : Moment) (p : Progress) (phase next : Phase) (act : Act) → MayAct moment p phase act next → cond (is_taken act) 1 0 + most next ≤ most phase
act_few moment p (at_port port commands) next (passes from) may = no_more _ _ (most_one next)
act_few moment p (at_port port commands) next (starts options now is_taken) may = no_more _ _ (most_one next)
act_few moment p (at_port port commands) next (stops from number now is_taken) may = no_more _ _ (most_one next)
act_few moment p (at_port port commands) next (refuses from given why is_taken) may = no_more _ _ (most_one next)
act_few moment p (at_port port commands) next (cuts_off from given is_marked now is_taken) may = no_more _ _ (most_one next)
act_few moment p asking next (asks is_asked) may = no_more _ _ (most_one next)
act_few moment p sampling next (samples now is_in) may = one_at_most is_in (most next) (ap most may.2 ∙ none_after _)
act_few moment p stepping next (steps after events) may = subst (λ (q : Phase). 0 + most q ≤ 0) (sym may.3) (lit≤ tt)
act_few moment p stepping next (ends_short events now) may = subst (λ (q : Phase). 0 + most q ≤ 0) (sym may.2) (lit≤ tt)
act_few moment p closing next (ends why now) may = subst (λ (q : Phase). 0 + most q ≤ 0) (sym may.2) (lit≤ tt)
act_few moment p (must_end later) next (ends why now) may = subst (λ (q : Phase). 0 + most q ≤ most later) (sym may.2) (no_more _ _ (end_fewer later))
act_few moment p phase next act may = absurd may

-- a turn takes at most one sample
pub few_taken : (moment : Moment) (p : Progress) (phase last : Phase) (acts : List Act) → LeadTo moment p phase acts last → taken_in acts ≤ most phase
few_taken moment p phase last [] lead = zero_le (most phase)
few_taken moment p phase last (act ∷ acts) lead =
    let one = act_few moment p phase lead.0 act lead.1 in
    let rest = few_taken (moment_after moment act) (act_after moment p act) lead.0 last acts lead.2 in
    let all = first_taken act acts in
    omega (arith, one, rest, all)

pub one_taken : (moment : Moment) (p : Progress) (last : Phase) (acts : List Act) → LeadTo moment p (first_phase p) acts last → taken_in acts ≤ 1
one_taken moment p last acts lead =
    let few = few_taken moment p (first_phase p) last acts lead in
    let one = most_one (first_phase p) in
    omega (arith, few, one)

one_refused : (act : Act) → ◌≡◌ {A = ℕ} (cond (is_taken act) 1 0) 0 → IsOffered true act
one_refused (samples now true) none = absurd (omega (arith, none))
one_refused (samples now false) none = refl
one_refused (passes port) none = tt
one_refused (starts options now taken) none = tt
one_refused (stops port number now taken) none = tt
one_refused (refuses port given why taken) none = tt
one_refused (cuts_off port given is_marked now taken) none = tt
one_refused (asks is_asked) none = tt
one_refused (steps after events) none = tt
one_refused (ends why now) none = tt
one_refused (ends_short events now) none = tt

-- where none is taken, each was refused
pub all_refused : (acts : List Act) → taken_in acts ≡ 0 → AreOffered true acts
all_refused [] none = tt
all_refused (act ∷ acts) none =
    let all = first_taken act acts in
    (one_refused act (omega (arith, all, none)), all_refused acts (omega (arith, all, none)))

-- the number of samples that were dropped
abbrev dropped_in : List ScheduleEntry → ℕ
dropped_in entries = count_by (λ (entry : ScheduleEntry). is_dropped entry.what) entries

dropped_in-append : (xs ys : List ScheduleEntry) → dropped_in (xs ++ ys) ≡ dropped_in xs + dropped_in ys
dropped_in-append xs ys = sum_by-append (λ (entry : ScheduleEntry). cond (is_dropped entry.what) 1 0) xs ys

one_more : (entries : List ScheduleEntry) (entry : ScheduleEntry) → dropped_in entries ≤ dropped_in (entries ++ entry ∷ [])
one_more entries entry = omega (arith, dropped_in-append entries (entry ∷ []))

same_le : (n : ℕ) → n ≤ n
same_le n = omega arith

act_drops : (moment : Moment) (p : Progress) (act : Act) → dropped_in p.schedule.entries ≤ dropped_in (act_after moment p act).schedule.entries
act_drops moment p (passes port) = same_le (dropped_in p.schedule.entries)
act_drops moment p (starts options now is_taken) = one_more p.schedule.entries _
act_drops moment p (stops port number now is_taken) = one_more p.schedule.entries _
act_drops moment p (refuses port given why is_taken) = same_le (dropped_in p.schedule.entries)
act_drops moment p (cuts_off port given is_marked now is_taken) = one_more p.schedule.entries _
act_drops moment p (asks is_asked) = same_le (dropped_in p.schedule.entries)
act_drops moment p (samples now true) = one_more p.schedule.entries _
act_drops moment p (samples now false) = one_more p.schedule.entries _
act_drops moment p (steps after events) = same_le (dropped_in p.schedule.entries)
act_drops moment p (ends why now) = one_more p.schedule.entries _
act_drops moment p (ends_short events now) = one_more p.schedule.entries _

run_drops : (moment : Moment) (p : Progress) (acts : List Act) → dropped_in p.schedule.entries ≤ dropped_in (progress_on moment p acts).schedule.entries
run_drops moment p [] = same_le (dropped_in p.schedule.entries)
run_drops moment p (act ∷ acts) =
    let one = act_drops moment p act in
    let rest = run_drops (moment_after moment act) (act_after moment p act) acts in
    omega (arith, one, rest)

-- an act drops none, where the entries after it have no more dropped samples than those before it
none_dropped : (moment : Moment) (p : Progress) (act : Act) → dropped_in (act_after moment p act).schedule.entries ≤ dropped_in p.schedule.entries → IsOffered false act
none_dropped moment p (samples now true) few = refl
none_dropped moment p (samples now false) few = absurd (omega (arith, few, dropped_in-append p.schedule.entries (entry_now p now Dropped ∷ [])))
none_dropped moment p (passes port) few = tt
none_dropped moment p (starts options now is_taken) few = tt
none_dropped moment p (stops port number now is_taken) few = tt
none_dropped moment p (refuses port given why is_taken) few = tt
none_dropped moment p (cuts_off port given is_marked now is_taken) few = tt
none_dropped moment p (asks is_asked) few = tt
none_dropped moment p (steps after events) few = tt
none_dropped moment p (ends why now) few = tt
none_dropped moment p (ends_short events now) few = tt

run_takes : (moment : Moment) (p : Progress) (acts : List Act) → dropped_in (progress_on moment p acts).schedule.entries ≤ dropped_in p.schedule.entries → AreOffered false acts
run_takes moment p [] few = tt
run_takes moment p (act ∷ acts) few =
    let then_ = moment_after moment act in
    let after = act_after moment p act in
    let rest = run_drops then_ after acts in
    let one = act_drops moment p act in
    (none_dropped moment p act (omega (arith, rest, few)), run_takes then_ after acts (omega (arith, few, one)))

-- where no dropped sample was entered, each was taken
pub all_taken : (moment : Moment) (p : Progress) (acts : List Act) → Adds p.schedule.entries (progress_on moment p acts).schedule.entries 0 → AreOffered false acts
all_taken moment p acts adds =
    let all : dropped_in (progress_on moment p acts).schedule.entries ≡ dropped_in p.schedule.entries + dropped_in adds.more = ap dropped_in adds.added ∙ dropped_in-append p.schedule.entries adds.more in
    let none = adds.dropped_are in
    run_takes moment p acts (omega (arith, all, none))
