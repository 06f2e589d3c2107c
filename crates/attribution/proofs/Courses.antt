-- What is known after items that a legal list begins with.
use Rattle.std.proofs.Common.{◌≡◌, ℕ, ◌≤◌, List, [], ◌∷◌, ◌++◌, length, true, false, ◌==◌, inl, inr, refl, sym, subst, ◌∙◌, append_assoc, append-nil, arith}
use Rattle.std.proofs.lemmas.Bool.Decides.{nat_tests}
use Rattle.std.proofs.lemmas.Map.Lookups.{exact_unsigned}
use Rattle.std.specs.List.{AllByRecursion}
use Rattle.std.specs.Ordering.{nat_cmp}
use Rattle.prof_base.proofs.Ordered.{Has, has_from_contains, contains_from_has, has_put, put_has, put_keeps}
use Rattle.prof_base.specs.Ordered.{insert_sorted}
use Rattle.code_event.specs.CodeMap.{after_event}
use Rattle.code_event.specs.DeoptReasons.{DeoptReasons, reasons_after_event}
use Rattle.code_event.specs.FileLaws.{IsOpenEvent, IsOpenItem, running_on}
use Rattle.code_event.specs.ItemList.{ListSoFar, MayCome, IsLegalAfter, without}
use Rattle.code_event.specs.RecordingLaws.{closes}
use Rattle.code_event.specs.Seen.{Seen, started, stopped, finished, ticked, resolved_tick, mark, seen_behind}
use Rattle.code_event.specs.declared.code_map.Range.{Range}
use Rattle.code_event.specs.declared.event.CodeEvent.{CodeEvent}
use Rattle.code_event.specs.declared.event.CodeEvent.TheVariants.{Create, Move, NoOpt, Deopt, Delete, Start, Stop, Finish}
use Rattle.code_event.specs.declared.seen.ResolvedTick.{ResolvedTick}
use Rattle.code_event.specs.declared.tick.Item.{Item}
use Rattle.code_event.specs.declared.tick.Item.TheVariants as item
use Rattle.attribution.proofs.Without.{AreDistinct, length_put, other_test, has_without, keeps_others, without_shorter, without_one, distinct_without}

-- nothing that is seen ends the session
abbrev pub Unended : ℕ → List Seen → Type 0
Unended number seen = AllByRecursion (λ mark. closes number mark ≡ false) seen

pub unended_more : (number : ℕ) (seen more : List Seen) → Unended number seen → Unended number more → Unended number (seen ++ more)
unended_more number [] more one other = other
unended_more number (first ∷ seen) more one other = (one.0, unended_more number seen more one.1 other)

-- Of these running sessions, which stand in rising order, no more run than in the definition of legal lists, and each of those runs; each was started. A session that was not started has not ended, nor has one that runs.
pub record Knows (course : ListSoFar) (running : List ℕ) (seen : List Seen) : Type 0 where
  pub short : length running ≤ length course.running
  pub runs : (n : ℕ) → Has course.running n → Has running n
  pub distinct : AreDistinct course.running
  pub known : (n : ℕ) → Has course.running n → Has course.started n
  pub listed : (n : ℕ) → Has running n → Has course.started n
  pub fresh : (n : ℕ) → ¬ Has course.started n → Unended n seen
  pub going : (n : ℕ) → Has running n → Unended n seen

-- a start
known_start : (course : ListSoFar) (running : List ℕ) (seen : List Seen) (mark : Seen) (number time : ℕ) → ((n : ℕ) → closes n mark ≡ false) → ¬ Has course.started number → Knows course running seen
    → Knows (record { time = time; started = number ∷ course.started; running = number ∷ course.running }) (insert_sorted nat_cmp number running) (seen ++ mark ∷ [])
known_start course running seen mark number time ends new k =
    let more : (n : ℕ) → Unended n seen → Unended n (seen ++ mark ∷ []) = λ n unended. unended_more n seen (mark ∷ []) unended (ends n, tt) in
    record {
      short = omega (arith, length_put number running, k.short);
      runs = λ n h. elim h [
        | inl same ↦ subst (Has (insert_sorted nat_cmp number running)) same (put_has nat_cmp exact_unsigned number running)
        | inr old ↦ put_keeps nat_cmp number n running (k.runs n old)
      ];
      distinct = (λ h. new (k.known number h), k.distinct);
      known = λ n h. elim h [ inl same ↦ inl same | inr old ↦ inr (k.known n old) ];
      listed = λ n h. elim (has_put nat_cmp number n running h) [ inl same ↦ inl same | inr old ↦ inr (k.listed n old) ];
      fresh = λ n none. more n (k.fresh n (λ h. none (inr h)));
      going = λ n h. elim (has_put nat_cmp number n running h) [
        | inl same ↦ subst (λ m. Unended m (seen ++ mark ∷ [])) same (more number (k.fresh number new))
        | inr old ↦ more n (k.going n old)
      ];
    }

-- a number in a list is another than one that is not in it
other_than : (xs : List ℕ) (number n : ℕ) → Has xs number → ¬ Has xs n → (number == n) ≡ false
other_than xs number n h none =
    elim (number == n) as (λ b. (number == n) ≡ b → b ≡ false) [
      | true ↦ λ e. let same : number ≡ n = grind (arith, nat_tests, e) in absurd (none (subst (Has xs) same h))
      | false ↦ λ e. refl
    ] refl

-- a stop
known_stop : (course : ListSoFar) (running : List ℕ) (seen : List Seen) (mark : Seen) (number time : ℕ) → ((n : ℕ) → closes n mark ≡ (number == n)) → Has course.running number → Knows course running seen
    → Knows (record { time = time; started = course.started; running = without number course.running }) (without number running) (seen ++ mark ∷ [])
known_stop course running seen mark number time ends runs k =
    let more : (n : ℕ) → (number == n) ≡ false → Unended n seen → Unended n (seen ++ mark ∷ []) = λ n other unended. unended_more n seen (mark ∷ []) unended (ends n ∙ other, tt) in
    record {
      short = omega (arith, without_shorter number running (k.runs number runs), k.short, without_one number course.running k.distinct);
      runs = λ n h. let old = has_without number n course.running h in keeps_others number n running old.1 (k.runs n old.0);
      distinct = distinct_without number course.running k.distinct;
      known = λ n h. k.known n (has_without number n course.running h).0;
      listed = λ n h. k.listed n (has_without number n running h).0;
      fresh = λ n none. more n (other_than course.started number n (k.known number runs) none) (k.fresh n none);
      going = λ n h. let old = has_without number n running h in more n (other_test n number old.1) (k.going n old.0);
    }

-- a tick
known_tick : (course : ListSoFar) (running : List ℕ) (seen : List Seen) (tick : ResolvedTick) (time : ℕ) → Knows course running seen
    → Knows (record { time = time; started = course.started; running = course.running }) running (seen ++ ticked tick ∷ [])
known_tick course running seen tick time k = record {
  short = k.short;
  runs = k.runs;
  distinct = k.distinct;
  known = k.known;
  listed = k.listed;
  fresh = λ n none. unended_more n seen (ticked tick ∷ []) (k.fresh n none) (refl, tt);
  going = λ n h. unended_more n seen (ticked tick ∷ []) (k.going n h) (refl, tt);
}

-- nothing was seen of it
known_still : (course : ListSoFar) (running : List ℕ) (seen : List Seen) → Knows course running seen → Knows course running (seen ++ [])
known_still course running seen k = subst (Knows course running) (sym (append-nil seen)) k

-- an event that something follows
known_event : (course : ListSoFar) (running : List ℕ) (seen : List Seen) (reasons : DeoptReasons) (event : CodeEvent) (items : List Item) (Then : ListSoFar → Type 0)
    → ¬ (items ≡ []) → Knows course running seen → MayCome course event items Then
    → (next : ListSoFar) × Then next × Knows next (running_on running (mark reasons event)) (seen ++ mark reasons event) × IsOpenEvent event
known_event course running seen reasons (Create start layout) items Then some k may = (course, may, known_still course running seen k, tt)
known_event course running seen reasons (Move from to) items Then some k may = (course, may, known_still course running seen k, tt)
known_event course running seen reasons (NoOpt start reason) items Then some k may = (course, may, known_still course running seen k, tt)
known_event course running seen reasons (Deopt start reason) items Then some k may = (course, may, known_still course running seen k, tt)
known_event course running seen reasons (Delete start) items Then some k may = (course, may, known_still course running seen k, tt)
known_event course running seen reasons (Start s options time) items Then some k may = (
  record { time = time; started = s.0 ∷ course.started; running = s.0 ∷ course.running },
  may.3,
  known_start course running seen (started s options time) s.0 time (λ n. refl) (λ h. may.1 (contains_from_has course.started s.0 h)) k,
  tt,
)
known_event course running seen reasons (Stop s time) items Then some k may = (
  record { time = time; started = course.started; running = without s.0 course.running },
  may.2,
  known_stop course running seen (stopped s time reasons) s.0 time (λ n. refl) (has_from_contains course.running s.0 may.1) k,
  tt,
)
known_event course running seen reasons (Finish time files) items Then some k may = absurd (some may.1)

pub some_items : (items rest : List Item) (next : Item) → ¬ (items ++ next ∷ rest ≡ [])
some_items [] rest next e = absurd (cc e)
some_items (first ∷ items) rest next e = absurd (cc e)

pub running_on-more : (running : List ℕ) (seen more : List Seen) → running_on running (seen ++ more) ≡ running_on (running_on running seen) more
running_on-more running [] more = refl
running_on-more running (started s options time ∷ seen) more = running_on-more (insert_sorted nat_cmp s.0 running) seen more
running_on-more running (stopped s time reasons ∷ seen) more = running_on-more (without s.0 running) seen more
running_on-more running (finished time files reasons ∷ seen) more = running_on-more running seen more
running_on-more running (ticked tick ∷ seen) more = running_on-more running seen more

-- items that another follows
pub known_items : (ranges : List Range) (reasons : DeoptReasons) (course : ListSoFar) (running : List ℕ) (seen : List Seen) (items rest : List Item) (next : Item)
    → Knows course running seen → IsLegalAfter course (items ++ next ∷ rest)
    → (last : ListSoFar) × IsLegalAfter last (next ∷ rest) × Knows last (running_on running (seen_behind ranges reasons items)) (seen ++ seen_behind ranges reasons items) × AllByRecursion IsOpenItem items
known_items ranges reasons course running seen [] rest next k legal = (course, legal, known_still course running seen k, tt)
known_items ranges reasons course running seen (item.Event e ∷ items) rest next k legal =
    let after = after_event ranges e.event in
    let why = reasons_after_event ranges reasons e.event in
    let here : List Seen = mark reasons e.event in
    let later : List Seen = seen_behind after why items in
    let one = known_event course running seen reasons e.event (items ++ next ∷ rest) (λ c. IsLegalAfter c (items ++ next ∷ rest)) (some_items items rest next) k legal in
    let all = known_items after why one.0 (running_on running here) (seen ++ here) items rest next one.2 one.1 in (
      all.0,
      all.1,
      subst (λ (r : List ℕ). Knows all.0 r (seen ++ (here ++ later))) (sym (running_on-more running here later))
          (subst (Knows all.0 (running_on (running_on running here) later)) (append_assoc seen here later) all.2),
      (one.3, all.3),
    )
known_items ranges reasons course running seen (item.Tick t ∷ items) rest next k legal =
    let here : Seen = ticked (resolved_tick ranges t) in
    let later : List Seen = seen_behind ranges reasons items in
    let at : ListSoFar = record { time = t.time; started = course.started; running = course.running } in
    let all = known_items ranges reasons at running (seen ++ here ∷ []) items rest next (known_tick course running seen (resolved_tick ranges t) t.time k) legal.1 in
    (all.0, all.1, subst (Knows all.0 (running_on running later)) (append_assoc seen (here ∷ []) later) all.2, (tt, all.3))
