-- The numbers of a schedule tell it.
use Rattle.std.proofs.Common.{◌≡◌, ℕ, ◌≤◌, List, [], ◌∷◌, refl, ap, sym, subst, ◌∙◌}
use Rattle.std.proofs.Math.Bridge.{le_prop}
use Rattle.std.specs.Prelude.{Option, Some, None, ◌==◌, if◌then◌else◌}
use Rattle.prof_base.specs.declared.ids.SessionId.{SessionId}
use Rattle.code_event.specs.ItemFile.{session}
use Rattle.code_event.specs.declared.event.Mode.{Mode}
use Rattle.code_event.specs.declared.event.Mode.TheVariants as mode
use Rattle.code_event.specs.declared.event.Options.{Options}
use Rattle.run_schedule.specs.declared.schedule.EndCause.{EndCause}
use Rattle.run_schedule.specs.declared.schedule.EndCause.TheVariants as cause
use Rattle.run_schedule.specs.declared.schedule.ScheduleEntry.{ScheduleEntry}
use Rattle.run_schedule.specs.declared.schedule.What.{What}
use Rattle.run_schedule.specs.declared.schedule.What.TheVariants.{Sampled, Dropped, Start, Stop, End}
use Rattle.schedule_ports.specs.ScheduleNumbers.{NumbersTellApart, cause_number, entry_numbers, mode_number, option_number, what_numbers}

first_same : (x y : ℕ) (xs ys : List ℕ) → x ∷ xs ≡ y ∷ ys → x ≡ y
first_same x y xs ys same = cc

rest_same : (x y : ℕ) (xs ys : List ℕ) → x ∷ xs ≡ y ∷ ys → xs ≡ ys
rest_same x y xs ys same = cc

modes : (a b : Mode) → mode_number a ≡ mode_number b → a ≡ b
modes mode.Leaf mode.Leaf same = refl
modes mode.Leaf mode.Caller same = absurd (cc same)
modes mode.Caller mode.Leaf same = absurd (cc same)
modes mode.Caller mode.Caller same = refl

options_are : (a b : Option ℕ) → option_number a ≡ option_number b → a ≡ b
options_are None None same = refl
options_are None (Some b) same = absurd (cc same)
options_are (Some a) None same = absurd (cc same)
options_are (Some a) (Some b) same = cc

-- the cause with a number
abbrev cause_at : ℕ → EndCause
cause_at n =
    if n == 0 then cause.Halt else if n == 1 then cause.Overflow else if n == 2 then cause.OffEnd else if n == 3 then cause.Budget else if n == 4 then cause.Full else cause.Memory

cause_is : (why : EndCause) → cause_at (cause_number why) ≡ why
cause_is cause.Halt = refl
cause_is cause.Overflow = refl
cause_is cause.OffEnd = refl
cause_is cause.Budget = refl
cause_is cause.Full = refl
cause_is cause.Memory = refl

causes : (a b : EndCause) → cause_number a ≡ cause_number b → a ≡ b
causes a b same = sym (cause_is a) ∙ ap cause_at same ∙ cause_is b

sessions : (a b : SessionId) → a.0 ≡ b.0 → a ≡ b
sessions a b same = ap session same

recordings : (a b : Options) → a.port ≡ b.port → a.interval ≡ b.interval → a.mode ≡ b.mode → a.max_samples ≡ b.max_samples → a ≡ b
recordings a b port interval kind most =
    let Same : ℕ → Type 0 = λ n. (l : 1 ≤ n) (h : n ≤ 1000000000) → record { port = a.port; interval = n; mode = a.mode; max_samples = a.max_samples; low = l; high = h } ≡ b in
    let own : Same b.interval = λ l h k. record { port = port k; interval = b.interval; mode = kind k; max_samples = most k; low = le_prop l b.low k; high = le_prop h b.high k } in
    subst Same (sym interval) own a.low a.high

-- two things that happened are the same, and so is what follows them
abbrev AreSame : What → What → List ℕ → List ℕ → Type 0
AreSame one other xs ys = (one ≡ other) × (xs ≡ ys)

same_whats : (one other : What) (xs ys : List ℕ) → what_numbers one xs ≡ what_numbers other ys → AreSame one other xs ys
same_whats Sampled Sampled xs ys same = (refl, rest_same 0 0 xs ys same)
same_whats Dropped Dropped xs ys same = (refl, rest_same 1 1 xs ys same)
same_whats (Start a) (Start b) xs ys same =
    let port : a.port ≡ b.port = cc in
    let interval : a.interval ≡ b.interval = cc in
    let kind : mode_number a.mode ≡ mode_number b.mode = cc in
    let most : option_number a.max_samples ≡ option_number b.max_samples = cc in
    let later : xs ≡ ys = cc in
    (ap Start (recordings a b port interval (modes a.mode b.mode kind) (options_are a.max_samples b.max_samples most)), later)
same_whats (Stop port number) (Stop from other) xs ys same =
    let ports : port ≡ from = cc in
    let numbers : number.0 ≡ other.0 = cc in
    let later : xs ≡ ys = cc in
    ((λ i. Stop (ports i) (sessions number other numbers i)), later)
same_whats (End why) (End because) xs ys same =
    let numbers : cause_number why ≡ cause_number because = cc in
    let later : xs ≡ ys = cc in
    (ap End (causes why because numbers), later)
same_whats Sampled Dropped xs ys same = absurd (cc same)
same_whats Sampled (Start b) xs ys same = absurd (cc same)
same_whats Sampled (Stop from other) xs ys same = absurd (cc same)
same_whats Sampled (End because) xs ys same = absurd (cc same)
same_whats Dropped Sampled xs ys same = absurd (cc same)
same_whats Dropped (Start b) xs ys same = absurd (cc same)
same_whats Dropped (Stop from other) xs ys same = absurd (cc same)
same_whats Dropped (End because) xs ys same = absurd (cc same)
same_whats (Start a) Sampled xs ys same = absurd (cc same)
same_whats (Start a) Dropped xs ys same = absurd (cc same)
same_whats (Start a) (Stop from other) xs ys same = absurd (cc same)
same_whats (Start a) (End because) xs ys same = absurd (cc same)
same_whats (Stop port number) Sampled xs ys same = absurd (cc same)
same_whats (Stop port number) Dropped xs ys same = absurd (cc same)
same_whats (Stop port number) (Start b) xs ys same = absurd (cc same)
same_whats (Stop port number) (End because) xs ys same = absurd (cc same)
same_whats (End why) Sampled xs ys same = absurd (cc same)
same_whats (End why) Dropped xs ys same = absurd (cc same)
same_whats (End why) (Start b) xs ys same = absurd (cc same)
same_whats (End why) (Stop from other) xs ys same = absurd (cc same)

same_entries : (one other : List ScheduleEntry) → entry_numbers one ≡ entry_numbers other → one ≡ other
same_entries [] [] same = refl
same_entries [] (b ∷ other) same = absurd (cc same)
same_entries (a ∷ one) [] same = absurd (cc same)
same_entries (a ∷ one) (b ∷ other) same =
    let step : a.step ≡ b.step = first_same a.step b.step _ _ same in
    let later = rest_same a.step b.step _ _ same in
    let time : a.time ≡ b.time = first_same a.time b.time _ _ later in
    let both = same_whats a.what b.what (entry_numbers one) (entry_numbers other) (rest_same a.time b.time _ _ later) in
    (λ i. record { step = step i; time = time i; what = both.0 i } ∷ same_entries one other both.1 i)

pub numbers_tell_apart : NumbersTellApart
numbers_tell_apart one other same =
    let base : one.base ≡ other.base = first_same one.base other.base _ _ same in
    let later = rest_same one.base other.base _ _ same in
    let ring : one.ring ≡ other.ring = first_same one.ring other.ring _ _ later in
    let then_ = rest_same one.ring other.ring _ _ later in
    let budget : one.budget ≡ other.budget = first_same one.budget other.budget _ _ then_ in
    let more = rest_same one.budget other.budget _ _ then_ in
    let limit : one.limit ≡ other.limit = first_same one.limit other.limit _ _ more in
    let entries = same_entries one.entries other.entries (rest_same one.limit other.limit _ _ more) in
    (λ i. record { base = base i; ring = ring i; budget = budget i; limit = limit i; entries = entries i })
