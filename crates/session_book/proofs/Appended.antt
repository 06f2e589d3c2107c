-- What one more mark or tick changes, at the end of a list.
use Rattle.std.proofs.Common.{◌≡◌, ℕ, ◌-◌, ◌<◌, ◌≤◌, List, [], ◌∷◌, ◌++◌, length, take, map, refl, sym, ap, ◌∙◌, append_assoc, append-nil, arith}
use Rattle.std.specs.Prelude.{Bool, true, false, cond, ◌||◌, ◌==◌, nat_lt, Option, Some, None, option_map}
use Rattle.std.specs.List.{AllByRecursion}
use Rattle.std.specs.Ordering.{nat_cmp}
use Rattle.std.proofs.lemmas.Bool.{cond-false, cond-true, cond_both}
use Rattle.std.proofs.lemmas.Bool.Decides.{nat_tests}
use Rattle.std.proofs.lemmas.List.{take-append-le, length-take, length-append, length-map, take_all}
use Rattle.std.proofs.Common.{eq-eqb, true≢false}
use Rattle.prof_base.specs.Ordered.{insert_sorted}
use Rattle.prof_base.specs.declared.ids.SessionId.{SessionId}
use Rattle.code_event.specs.DeoptReasons.{DeoptReasons}
use Rattle.code_event.specs.FileLaws.{running_on}
use Rattle.code_event.specs.ItemList.{without}
use Rattle.code_event.specs.Profile.{cut, deltas}
use Rattle.code_event.specs.Recording.{with_tick, recording_behind, ended}
use Rattle.code_event.specs.RecordingLaws.{closes}
use Rattle.code_event.specs.Seen.{Seen, started, stopped, finished, ticked}
use Rattle.code_event.specs.Subsample.{is_due, kept_since}
use Rattle.code_event.specs.declared.recording.Begun.{Begun}
use Rattle.code_event.specs.declared.seen.ResolvedTick.{ResolvedTick}
use Rattle.session_book.specs.Begun.{fresh, begun_next, begun_behind}
use Rattle.session_book.specs.Counter.{since_next, since_after}
use Rattle.session_book.proofs.Wanted.{is_wanted}
use Rattle.session_book.specs.Session.{has_room, last_time}

-- ---- marks

pub begun_behind-append : (number : ℕ) (begun : Option Begun) (seen : List Seen) (next : Seen)
    → begun_behind number begun (seen ++ next ∷ []) ≡ begun_next number (begun_behind number begun seen) next
begun_behind-append number begun [] next = refl
begun_behind-append number begun (first ∷ seen) next = begun_behind-append number (begun_next number begun first) seen next

pub running_on-append : (running : List ℕ) (seen : List Seen) (next : Seen) → running_on running (seen ++ next ∷ []) ≡ running_on (running_on running seen) (next ∷ [])
running_on-append running [] next = refl
running_on-append running (started s options time ∷ seen) next = running_on-append (insert_sorted nat_cmp s.0 running) seen next
running_on-append running (stopped s time reasons ∷ seen) next = running_on-append (without s.0 running) seen next
running_on-append running (finished time files reasons ∷ seen) next = running_on-append running seen next
running_on-append running (ticked tick ∷ seen) next = running_on-append running seen next

-- a stop that nothing before it closes ends what has begun
pub recording_behind-stopped : (number : ℕ) (begun : Option Begun) (seen : List Seen) (s : SessionId) (time : ℕ) (reasons : DeoptReasons) → s.0 ≡ number
    → AllByRecursion (λ other. closes number other ≡ false) seen
    → recording_behind number begun (seen ++ stopped s time reasons ∷ []) ≡ ended (begun_behind number begun seen) time reasons
recording_behind-stopped number begun [] s time reasons is unended = cond-true (s.0 == number) _ _ (eq-eqb s.0 number is)
recording_behind-stopped number begun (started other options start ∷ seen) s time reasons is unended =
    let whole = seen ++ stopped s time reasons ∷ [] in
    let again : Option Begun = Some (fresh options start) in
    elim (other.0 == number) as (λ (b : Bool). cond b (recording_behind number again whole) (recording_behind number begun whole) ≡ ended (begun_behind number (cond b again begun) seen) time reasons) [
      | true ↦ recording_behind-stopped number again seen s time reasons is unended.1
      | false ↦ recording_behind-stopped number begun seen s time reasons is unended.1
    ]
recording_behind-stopped number begun (stopped other end given ∷ seen) s time reasons is unended =
    cond-false (other.0 == number) _ _ unended.0 ∙ recording_behind-stopped number begun seen s time reasons is unended.1
    ∙ ap (λ b. ended (begun_behind number b seen) time reasons) (sym (cond-false (other.0 == number) _ _ unended.0))
recording_behind-stopped number begun (finished end files given ∷ seen) s time reasons is unended = absurd (true≢false unended.0)
recording_behind-stopped number begun (ticked tick ∷ seen) s time reasons is unended =
    recording_behind-stopped number (option_map (with_tick number tick) begun) seen s time reasons is unended.1

-- ---- kept ticks

pub since_after-append : (rounded : ℕ) (since : Option (List ResolvedTick)) (ticks : List ResolvedTick) (tick : ResolvedTick)
    → since_after rounded since (ticks ++ tick ∷ []) ≡ since_next rounded (since_after rounded since ticks) tick
since_after-append rounded since [] tick = refl
since_after-append rounded since (first ∷ ticks) tick = since_after-append rounded (since_next rounded since first) ticks tick

-- the tick, where it is kept
abbrev where_kept : Bool → ResolvedTick → List ResolvedTick
where_kept kept tick = cond kept (tick ∷ []) []

kept_by_tests : (rounded : ℕ) (since more : Option (List ResolvedTick)) (tick : ResolvedTick) (ticks : List ResolvedTick) (zero due : Bool)
    → cond zero (tick ∷ kept_since rounded since ticks) (cond due (tick ∷ kept_since rounded (Some []) ticks) (kept_since rounded more ticks))
    ≡ where_kept (zero || due) tick ++ kept_since rounded (cond zero since (cond due (Some []) more)) ticks
kept_by_tests rounded since more tick ticks true due = refl
kept_by_tests rounded since more tick ticks false true = refl
kept_by_tests rounded since more tick ticks false false = refl

kept_since-cons : (rounded : ℕ) (since : Option (List ResolvedTick)) (tick : ResolvedTick) (ticks : List ResolvedTick)
    → kept_since rounded since (tick ∷ ticks) ≡ where_kept (is_wanted rounded since tick) tick ++ kept_since rounded (since_next rounded since tick) ticks
kept_since-cons rounded since tick ticks =
    kept_by_tests rounded since (option_map (λ before. before ++ tick ∷ []) since) tick ticks (tick.interval == 0) (is_due rounded tick.interval since)

pub kept_since-append : (rounded : ℕ) (since : Option (List ResolvedTick)) (ticks : List ResolvedTick) (tick : ResolvedTick)
    → kept_since rounded since (ticks ++ tick ∷ []) ≡ kept_since rounded since ticks ++ where_kept (is_wanted rounded (since_after rounded since ticks) tick) tick
kept_since-append rounded since [] tick = kept_since-cons rounded since tick [] ∙ append-nil (where_kept (is_wanted rounded since tick) tick)
kept_since-append rounded since (first ∷ ticks) tick =
    let head = where_kept (is_wanted rounded since first) first in
    let next = since_next rounded since first in
    let last = where_kept (is_wanted rounded (since_after rounded next ticks) tick) tick in
    kept_since-cons rounded since first (ticks ++ tick ∷ []) ∙ ap (λ l. head ++ l) (kept_since-append rounded next ticks tick)
    ∙ sym (append_assoc head (kept_since rounded next ticks) last) ∙ ap (λ l. l ++ last) (sym (kept_since-cons rounded since first ticks))

-- ---- the first elements

pub take-push : {A : Type 0} (n : ℕ) (xs : List A) (x : A) → take n (xs ++ x ∷ []) ≡ cond (nat_lt (length (take n xs)) n) (take n xs ++ x ∷ []) (take n xs)
take-push n xs x =
    cond_both (nat_lt (length (take n xs)) n) (take n xs ++ x ∷ []) (take n xs) (λ l. take n (xs ++ x ∷ []) ≡ l)
    (λ room.
    let short : length xs < n = grind (arith, nat_tests, length-take n xs) in
    take_all n (xs ++ x ∷ []) (omega (arith, length-append xs (x ∷ []))) ∙ ap (λ l. l ++ x ∷ []) (sym (take_all n xs (omega arith))))
    (λ full.
    let long : n ≤ length xs = grind (arith, nat_tests, length-take n xs) in
    take-append-le n xs (x ∷ []) long)

pub cut-push : {A : Type 0} (most : Option ℕ) (xs : List A) (x : A) → cut most (xs ++ x ∷ []) ≡ cond (has_room most (length (cut most xs))) (cut most xs ++ x ∷ []) (cut most xs)
cut-push None xs x = refl
cut-push (Some most) xs x = take-push most xs x

pub length-cut_map : {A B : Type 0} (most : Option ℕ) (f : A → B) (xs : List A) → length (cut most (map f xs)) ≡ length (cut most xs)
length-cut_map None f xs = length-map xs f
length-cut_map (Some most) f xs = omega (arith, length-take most (map f xs), length-take most xs, length-map xs f)

-- ---- times

pub deltas-append : (before : ℕ) (times : List ℕ) (time : ℕ) → deltas before (times ++ time ∷ []) ≡ deltas before times ++ (time - last_time before times) ∷ []
deltas-append before [] time = refl
deltas-append before (first ∷ times) time = ap (λ l. (first - before) ∷ l) (deltas-append first times time)

pub last_time-append : (before : ℕ) (times : List ℕ) (time : ℕ) → last_time before (times ++ time ∷ []) ≡ time
last_time-append before [] time = refl
last_time-append before (first ∷ times) time = last_time-append first times time
