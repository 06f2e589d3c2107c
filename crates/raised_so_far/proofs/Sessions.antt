-- The sessions of an item list and of a schedule, through starts and stops.
use Rattle.std.proofs.Common.{◌≡◌, ℕ, zero, suc, ◌≤◌, List, [], ◌∷◌, ◌++◌, map, reverse, length, refl, ap, sym, subst, ◌∙◌, arith}
use Rattle.std.proofs.lemmas.List.{reverse-append, map-append, length-reverse, length-map, get_or-map, append-nil}
use Rattle.std.proofs.lemmas.List.Elements.{All-contains, All-from_recursion, Contains-append_left, Contains-push, filter-append}
use Rattle.std.specs.Prelude.{Bool, true, false, not, ◌==◌, filter, Contains, if◌then◌else◌}
use Rattle.prof_base.specs.declared.ids.SessionId.{SessionId}
use Rattle.code_event.proofs.EachElement.{all_mapped}
use Rattle.code_event.specs.ItemList.{ListSoFar, without}
use Rattle.code_event.specs.declared.event.Options.{Options}
use Rattle.run_schedule.specs.Schedule.{Course, Running, course_after}
use Rattle.run_schedule.specs.declared.schedule.What.TheVariants.{Start, Stop}
use Rattle.raised_so_far.specs.ItemsSoFar.{at_time, SameSessions}

reverse_first : {X : Type 0} (x : X) (xs : List X) → reverse (x ∷ xs) ≡ reverse xs ++ x ∷ []
reverse_first x xs = reverse-append (x ∷ []) xs

contains_reversed : (xs : List ℕ) (x : ℕ) → Contains xs x → Contains (reverse xs) x
contains_reversed [] x (k, below, is) = absurd (omega arith)
contains_reversed (y ∷ xs) x (zero, below, is) = subst (λ (l : List ℕ). Contains l x) (sym (reverse_first y xs)) (subst (λ (z : ℕ). Contains (reverse xs ++ z ∷ []) x) (sym is) (Contains-push (reverse xs) x))
contains_reversed (y ∷ xs) x (suc k, below, is) =
    subst (λ (l : List ℕ). Contains l x) (sym (reverse_first y xs)) (Contains-append_left (reverse xs) (y ∷ []) x (contains_reversed xs x (k, omega arith, is)))

contains_mapped : (xs : List Running) (x : Running) → Contains xs x → Contains (map (λ r. r.session) xs) x.session
contains_mapped xs x (k, below, is) =
    let long : length (map (λ (r : Running). r.session) xs) ≡ length xs = length-map xs (λ (r : Running). r.session) in
    (k, omega arith, get_or-map (λ (r : Running). r.session) xs k x x.session below ∙ ap (λ (r : Running). r.session) is)

without-append : (n : ℕ) (xs ys : List ℕ) → without n (xs ++ ys) ≡ without n xs ++ without n ys
without-append n xs ys = filter-append (λ m. not (m == n)) xs ys

-- taking a session out in either order
without_reversed : (n : ℕ) (running : List Running) → without n (reverse (map (λ r. r.session) running)) ≡ reverse (map (λ r. r.session) (filter (λ r. not (r.session == n)) running))
without_reversed n [] = refl
without_reversed n (r ∷ running) =
    let before = reverse (map (λ (x : Running). x.session) running) in
    let kept = filter (λ (x : Running). not (x.session == n)) running in
    ap (without n) (reverse_first r.session (map (λ (x : Running). x.session) running)) ∙ without-append n before (r.session ∷ [])
    ∙ ap (λ (xs : List ℕ). xs ++ without n (r.session ∷ [])) (without_reversed n running)
    ∙ elim (not (r.session == n)) as (λ (b : Bool). reverse (map (λ (x : Running). x.session) kept) ++ (if b then r.session ∷ [] else []) ≡ reverse (map (λ (x : Running). x.session) (if b then r ∷ kept else kept))) [
      | true ↦ sym (reverse_first r.session (map (λ (x : Running). x.session) kept))
      | false ↦ append-nil (reverse (map (λ (x : Running). x.session) kept))
    ]

module _ (list : ListSoFar) (course : Course) (same : SameSessions list course) where
  pub same_at : (time : ℕ) → SameSessions (at_time time list) course
  same_at time = record { numbered = same.numbered; running = same.running }

  pub is_new : ¬ Contains list.started (suc course.started)
  is_new contains =
      let most : suc course.started ≤ course.started = All-contains (λ n. n ≤ course.started) list.started (suc course.started) (All-from_recursion (λ n. n ≤ course.started) list.started same.numbered) contains in
      absurd (omega arith)

  pub as_many : length list.running ≡ length course.running
  as_many = ap (λ (xs : List ℕ). length xs) same.running ∙ length-reverse (map (λ (r : Running). r.session) course.running) ∙ length-map course.running (λ (r : Running). r.session)

  pub runs : (number port interval : ℕ) → Contains course.running (record { session = number; port = port; interval = interval }) → Contains list.running number
  runs number port interval contains =
      subst (λ (xs : List ℕ). Contains xs number) (sym same.running)
      (contains_reversed (map (λ (r : Running). r.session) course.running) number (contains_mapped course.running (record { session = number; port = port; interval = interval }) contains))

  pub same_started : (time : ℕ) (options : Options)
      → SameSessions (record { time = time; started = suc course.started ∷ list.started; running = suc course.started ∷ list.running }) (course_after course (Start options))
  same_started time options =
      let r : Running = record { session = suc course.started; port = options.port; interval = options.interval } in
      let split : map (λ (x : Running). x.session) (course.running ++ r ∷ []) ≡ map (λ (x : Running). x.session) course.running ++ suc course.started ∷ [] = map-append (λ (x : Running). x.session) course.running (r ∷ []) in
      let turned : reverse (map (λ (x : Running). x.session) course.running ++ suc course.started ∷ []) ≡ suc course.started ∷ reverse (map (λ (x : Running). x.session) course.running) =
      reverse-append (map (λ (x : Running). x.session) course.running) (suc course.started ∷ []) in
      record {
        numbered = (omega arith, all_mapped (λ n. n ≤ course.started) (λ n. n ≤ suc course.started) list.started (λ n le. omega (arith, le)) same.numbered);
        running = ap (λ (xs : List ℕ). suc course.started ∷ xs) same.running ∙ sym turned ∙ ap (λ (xs : List ℕ). reverse xs) (sym split);
      }

  pub same_stopped : (time port : ℕ) (number : SessionId)
      → SameSessions (record { time = time; started = list.started; running = without number.0 list.running }) (course_after course (Stop port number))
  same_stopped time port number = record { numbered = same.numbered; running = ap (without number.0) same.running ∙ without_reversed number.0 course.running }
