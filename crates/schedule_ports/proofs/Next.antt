-- The entry that comes next, of a schedule that can be followed to its end.
use Rattle.std.proofs.Common.{◌≡◌, ℕ, suc, ◌^◌, ◌<◌, ◌≤◌, List, [], ◌∷◌, ◌++◌, length, refl, ap, sym, subst, ◌∙◌, ◌⊎◌, inl, inr, arith}
use Rattle.std.proofs.lemmas.Bool.Decides.{nat_tests}
use Rattle.std.proofs.lemmas.List.{append_assoc, append-nil}
use Rattle.std.specs.List.{AllByRecursion}
use Rattle.std.specs.Prelude.{Bool, true, false, ◌==◌, None}
use Rattle.guest_program.specs.declared.instr.Func.{Func}
use Rattle.code_event.proofs.EachElement.{all_of_second}
use Rattle.run_schedule.specs.Schedule.{EachMayFollow, HasSession, IsWithinLimits, MayFollow, MayStandBehind, is_end, is_sample}
use Rattle.run_schedule.specs.ScheduleParts.{HasPort, ScheduleParts, port_of}
use Rattle.run_schedule.specs.declared.schedule.EndCause.{EndCause}
use Rattle.run_schedule.specs.declared.schedule.EndCause.TheVariants as cause
use Rattle.run_schedule.specs.declared.schedule.ScheduleEntry.{ScheduleEntry}
use Rattle.run_schedule.specs.declared.schedule.What.{What}
use Rattle.run_schedule.specs.declared.schedule.What.TheVariants.{Sampled, Dropped, Start, Stop, End}
use Rattle.isolate.specs.Fits.{IsGoing, MayComeAbout, MayEndFor}
use Rattle.isolate.specs.RunLaws.{last_time, time_behind}
use Rattle.isolate_acts.specs.Progress.{Progress, entry_now, entry_time, is_filled, running_now, some_runs}
use Rattle.schedule_ports.specs.ScheduleTurns.{IsAhead, MayReplay, with_left}

pub within_or_past : (m n : ℕ) → (m ≤ n) ⊎ (n < m)
within_or_past m n = grind arith

zero_first : (n : ℕ) → 0 ≤ n
zero_first n = omega arith

-- the rules of the entries that are left
split_rules : (s : ScheduleParts) (before entries left : List ScheduleEntry) → EachMayFollow s before (entries ++ left) → EachMayFollow s (before ++ entries) left
split_rules s before [] left each = subst (λ (l : List ScheduleEntry). EachMayFollow s l left) (sym (append-nil before)) each
split_rules s before (e ∷ entries) left each =
    subst (λ (l : List ScheduleEntry). EachMayFollow s l left) (append_assoc before (e ∷ []) entries) (split_rules s (before ++ e ∷ []) entries left each.1)

pub last_of_all : {A : Type 0} (P : A → Type 0) (xs : List A) (x : A) → AllByRecursion P (xs ++ x ∷ []) → P x
last_of_all P xs x each = (all_of_second P xs (x ∷ []) each).0

last_behind : (time : ℕ) (entry : ScheduleEntry) (entries : List ScheduleEntry) → time ≤ entry.time → AllByRecursion (MayStandBehind entry) entries → time_behind time entries ≤ entry.time
last_behind time entry [] before each = before
last_behind time entry (first ∷ entries) before each = last_behind first.time entry entries each.0.time each.1

module _ (funcs : List Func) (p : Progress) (e : ScheduleEntry) (rest : List ScheduleEntry) (may : MayReplay funcs (with_left p.schedule (e ∷ rest))) where
  rules : EachMayFollow (with_left p.schedule (e ∷ rest)) p.schedule.entries (e ∷ rest)
  rules = split_rules (with_left p.schedule (e ∷ rest)) [] p.schedule.entries (e ∷ rest) may.legal.each

  pub follows : MayFollow (with_left p.schedule (e ∷ rest)) p.schedule.entries e
  follows = rules.0

  pub comes : MayComeAbout funcs e.step e.what
  comes = (all_of_second (λ entry. MayComeAbout funcs entry.step entry.what) p.schedule.entries (e ∷ rest) may.fits).0

  pub not_short : ¬ (e.what ≡ End cause.Memory)
  not_short = (all_of_second (λ entry. ¬ (entry.what ≡ End cause.Memory)) p.schedule.entries (e ∷ rest) may.whole).0

  pub port_exists : HasPort e.what
  port_exists = (all_of_second (λ entry. HasPort entry.what) p.schedule.entries (e ∷ rest) may.in_range.ports).0

  early : e.time < 2 ^ 53
  early = (all_of_second (λ entry. entry.time < 2 ^ 53) p.schedule.entries (e ∷ rest) may.times).0

  time_is : entry_time p e.time ≡ e.time
  time_is =
      let last : last_time p.schedule.entries ≤ e.time = last_behind 0 e p.schedule.entries (zero_first e.time) follows.order in
      let small : e.time < 2 ^ 53 = early in
      omega (arith, last, small)

  -- what is entered at this step, at the time of this entry and for what it is for, is this entry
  pub entry_is : (now : ℕ) (w : What) → now ≡ e.time → e.step ≡ p.step → e.what ≡ w → entry_now p now w ≡ e
  entry_is now w time step what = (λ i. record { step = sym step i; time = (ap (entry_time p) time ∙ time_is) i; what = sym what i })

  -- nothing comes after an end
  pub none_after : is_end e.what ≡ true → rest ≡ []
  none_after ending = by_rest rest rules.1 where
    by_rest : (more : List ScheduleEntry) → EachMayFollow (with_left p.schedule (e ∷ rest)) (p.schedule.entries ++ e ∷ []) more → more ≡ []
    by_rest [] each = refl
    by_rest (next ∷ more) each =
        let behind : MayStandBehind next e = last_of_all (MayStandBehind next) p.schedule.entries e each.0.order in
        let going = behind.going_on in
        absurd (cc (ending, going))

  -- it is no end at this step, while the guest goes on, the steps are below the budget, and there is room for an entry before the end
  no_end_here : (why : EndCause) → e.what ≡ End why → e.step ≡ p.step → IsGoing funcs p.step → is_filled p ≡ false → p.step < p.schedule.budget → ⊥
  no_end_here why is at going room below =
      by_why why is
      (subst (λ (n : ℕ). MayEndFor funcs n why) at (subst (MayComeAbout funcs e.step) is comes))
      (subst (IsWithinLimits (with_left p.schedule (e ∷ rest)) p.schedule.entries e.step) is follows.limit) where
        full_not : (count limit : ℕ) → (suc count == limit) ≡ false → suc count ≡ limit → ⊥
        full_not count limit room last = grind (arith, nat_tests)

        by_why : (why : EndCause) → e.what ≡ End why → MayEndFor funcs p.step why → IsWithinLimits (with_left p.schedule (e ∷ rest)) p.schedule.entries e.step (End why) → ⊥
        by_why cause.Halt is comes limit = let over = comes.1 in cc (over, going)
        by_why cause.Overflow is comes limit = let over = comes.1 in cc (over, going)
        by_why cause.OffEnd is comes limit = let over = comes.1 in cc (over, going)
        by_why cause.Budget is comes limit = let spent = limit.1 in omega (arith, spent, at, below)
        by_why cause.Full is comes limit = let last = limit.0 in full_not (length p.schedule.entries) p.schedule.limit room last
        by_why cause.Memory is comes limit = not_short is

-- the entry that comes next at this step is for no command
abbrev pub NoCommand : ℕ → List ScheduleEntry → Type 0
NoCommand step [] = Unit {0}
NoCommand step (e ∷ left) = e.step ≡ step → port_of e.what ≡ None

-- it is for no sample
abbrev pub NoSample : ℕ → List ScheduleEntry → Type 0
NoSample step [] = Unit {0}
NoSample step (e ∷ left) = e.step ≡ step → is_sample e.what ≡ false

-- where it is for neither, the entry that comes next is at a later step
pub past_here : (funcs : List Func) (p : Progress) (left : List ScheduleEntry) → MayReplay funcs (with_left p.schedule left) → IsAhead p.step left → NoCommand p.step left → NoSample p.step left
    → IsGoing funcs p.step → is_filled p ≡ false → p.step < p.schedule.budget → IsAhead (suc p.step) left
past_here funcs p [] may ahead no_command no_sample going room below = tt
past_here funcs p (e ∷ rest) may ahead no_command no_sample going room below =
    elim (within_or_past e.step p.step) [
      | inl within ↦ let at : e.step ≡ p.step = omega (arith, within, ahead) in absurd (by_what at e.what refl)
      | inr past ↦ past
    ] where
      by_what : e.step ≡ p.step → (w : What) → e.what ≡ w → ⊥
      by_what at Sampled is = let none = no_sample at in let some = ap is_sample is in cc (none, some)
      by_what at Dropped is = let none = no_sample at in let some = ap is_sample is in cc (none, some)
      by_what at (Start options) is = let none = no_command at in let some = ap port_of is in cc (none, some)
      by_what at (Stop port number) is = let none = no_command at in let some = ap port_of is in cc (none, some)
      by_what at (End why) is = no_end_here funcs p e rest may why is at going room below

sample_runs : (p : Progress) (w : What) → is_sample w ≡ true → HasSession (running_now p) w → some_runs p ≡ false → ⊥
sample_runs p Sampled is some none = grind (arith, nat_tests, some, none)
sample_runs p Dropped is some none = grind (arith, nat_tests, some, none)
sample_runs p (Start options) is some none = cc is
sample_runs p (Stop port number) is some none = cc is
sample_runs p (End why) is some none = cc is

is_false : (b : Bool) → (b ≡ true → ⊥) → b ≡ false
is_false true not_ = absurd (not_ refl)
is_false false not_ = refl

-- while no session runs it is for no sample
pub idle : (funcs : List Func) (p : Progress) (left : List ScheduleEntry) → MayReplay funcs (with_left p.schedule left) → some_runs p ≡ false → NoSample p.step left
idle funcs p [] may none = tt
idle funcs p (e ∷ rest) may none = λ at. is_false (is_sample e.what) (λ is. sample_runs p e.what is (follows funcs p e rest may).session none)

end_no_port : (w : What) → is_end w ≡ true → port_of w ≡ None
end_no_port Sampled is = absurd (cc is)
end_no_port Dropped is = absurd (cc is)
end_no_port (Start options) is = absurd (cc is)
end_no_port (Stop port number) is = absurd (cc is)
end_no_port (End why) is = refl

end_no_sample : (w : What) → is_end w ≡ true → is_sample w ≡ false
end_no_sample Sampled is = absurd (cc is)
end_no_sample Dropped is = absurd (cc is)
end_no_sample (Start options) is = absurd (cc is)
end_no_sample (Stop port number) is = absurd (cc is)
end_no_sample (End why) is = refl

-- after an entry that was just entered, the entry that comes next
module _ (funcs : List Func) (q : Progress) (before : List ScheduleEntry) (entry : ScheduleEntry) (ends : q.schedule.entries ≡ before ++ entry ∷ []) where
  pub behind : (e : ScheduleEntry) (rest : List ScheduleEntry) → MayReplay funcs (with_left q.schedule (e ∷ rest)) → MayStandBehind e entry
  behind e rest may = last_of_all (MayStandBehind e) before entry (subst (AllByRecursion (MayStandBehind e)) ends (follows funcs q e rest may).order)

  pub ahead_after : (rest : List ScheduleEntry) → MayReplay funcs (with_left q.schedule rest) → IsAhead entry.step rest
  ahead_after [] may = tt
  ahead_after (e ∷ rest) may = (behind e rest may).step

  -- neither a command nor a sample comes at the step of a sample
  pub no_command_after : (rest : List ScheduleEntry) → MayReplay funcs (with_left q.schedule rest) → is_sample entry.what ≡ true → NoCommand entry.step rest
  no_command_after [] may is = tt
  no_command_after (e ∷ rest) may is = λ at. end_no_port e.what ((behind e rest may).one_sample (sym at) is)

  pub no_sample_after : (rest : List ScheduleEntry) → MayReplay funcs (with_left q.schedule rest) → is_sample entry.what ≡ true → NoSample entry.step rest
  no_sample_after [] may is = tt
  no_sample_after (e ∷ rest) may is = λ at. end_no_sample e.what ((behind e rest may).one_sample (sym at) is)
