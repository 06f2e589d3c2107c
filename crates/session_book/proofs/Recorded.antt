-- What a session has recorded, as it takes a tick.
use Rattle.std.proofs.Common.{◌≡◌, ℕ, ◌-◌, List, [], ◌∷◌, ◌++◌, length, map, refl, sym, ap, ap₂, ◌∙◌, subst, append-nil}
use Rattle.std.specs.Prelude.{Bool, true, false, cond, Option, None}
use Rattle.std.specs.List.{AllZip}
use Rattle.std.proofs.lemmas.Bool.{cond-false, cond-true}
use Rattle.std.proofs.lemmas.List.{map-append}
use Rattle.prof_base.specs.Interval.{rounded_of}
use Rattle.code_event.specs.Profile.{visit_of, visits_of, cut, deltas}
use Rattle.code_event.specs.Recording.{is_for}
use Rattle.code_event.specs.Subsample.{kept}
use Rattle.code_event.specs.Symbolizer.{path, leaf_line}
use Rattle.code_event.specs.declared.event.Mode.{Mode}
use Rattle.code_event.specs.declared.event.Mode.TheVariants.{Leaf, Caller}
use Rattle.code_event.specs.declared.path.PathPair.{PathPair}
use Rattle.code_event.specs.declared.recording.Begun.{Begun}
use Rattle.code_event.specs.declared.seen.ResolvedFrame.{ResolvedFrame}
use Rattle.code_event.specs.declared.seen.ResolvedTick.{ResolvedTick}
use Rattle.code_event.specs.declared.tick.Tick.{Tick}
use Rattle.code_event.specs.declared.visit.Visit.{Visit}
use Rattle.profile_tree.specs.Grown.{StandsFor as IsTreeOf, Names}
use Rattle.session_book.specs.Counter.{keeps, counted, IsLeft, since_after}
use Rattle.session_book.proofs.Wanted.{is_wanted}
use Rattle.session_book.specs.Session.{paths_over, seen_tick, path_in, has_room, last_time, paths_kept, times_of, HasKept, HasBegun, Keeps, TakesTick}
use Rattle.session_book.specs.declared.session.Session.{Session}
use Rattle.session_book.proofs.Appended.{since_after-append, kept_since-append, cut-push, length-cut_map, deltas-append, last_time-append}
use Rattle.session_book.proofs.Samples.{zip_lengths}
use Rattle.session_book.proofs.Counting.{keeps_wanted, rounded_stays, left_counted}

path_over : (mode : Mode) (frames : List ResolvedFrame) → path_in mode (paths_over frames) ≡ path mode frames
path_over Leaf frames = refl
path_over Caller frames = refl

paths_kept-append : (mode : Mode) (ticks : List ResolvedTick) (tick : ResolvedTick) → paths_kept mode (ticks ++ tick ∷ []) ≡ paths_kept mode ticks ++ path mode tick.frames ∷ []
paths_kept-append mode ticks tick =
    ap (map (λ (visit : Visit). visit.path)) (map-append (visit_of mode) ticks (tick ∷ [])) ∙ map-append (λ (visit : Visit). visit.path) (visits_of mode ticks) (visit_of mode tick ∷ [])

-- as many paths as times are listed
length_listed : (most : Option ℕ) (mode : Mode) (ticks : List ResolvedTick) → length (cut most (paths_kept mode ticks)) ≡ length (cut most (times_of ticks))
length_listed most mode ticks =
    length-cut_map most (λ (visit : Visit). visit.path) (visits_of mode ticks) ∙ length-cut_map most (visit_of mode) ticks ∙ sym (length-cut_map most (λ (tick : ResolvedTick). tick.time) ticks)

deltas_by : (room : Bool) (start : ℕ) (times : List ℕ) (time : ℕ) → cond room (deltas start times ++ (time - last_time start times) ∷ []) (deltas start times) ≡ deltas start (cond room (times ++ time ∷ []) times)
deltas_by true start times time = sym (deltas-append start times time)
deltas_by false start times time = refl

last_by : (room : Bool) (start : ℕ) (times : List ℕ) (time : ℕ) → cond room time (last_time start times) ≡ last_time start (cond room (times ++ time ∷ []) times)
last_by true start times time = sym (last_time-append start times time)
last_by false start times time = refl

-- one more kept tick
kept_one_more : (old new : Session) (tick : Tick) (frames : List ResolvedFrame) (ticks : List ResolvedTick) → Keeps tick (path old.options.mode frames) (leaf_line frames) old new
    → HasKept old ticks → HasKept new (ticks ++ seen_tick tick frames ∷ [])
kept_one_more old new tick frames ticks k h =
    let most = old.options.max_samples in
    let mode = old.options.mode in
    let seen : ResolvedTick = seen_tick tick frames in
    let more : List ResolvedTick = ticks ++ seen ∷ [] in
    let paths = paths_kept mode ticks in
    let times = times_of ticks in
    let count : length old.sampled.samples ≡ length (cut most paths) = zip_lengths (Names old.sampled.tree) old.sampled.samples (cut most paths) h.samples in
    let room = has_room most (length old.sampled.samples) in
    let room_paths : room ≡ has_room most (length (cut most paths)) = ap (has_room most) count in
    let room_times : room ≡ has_room most (length (cut most times)) = room_paths ∙ ap (has_room most) (length_listed most mode ticks) in
    let all_paths : cond room (cut most paths ++ path mode frames ∷ []) (cut most paths) ≡ cut most (paths_kept mode more) =
    ap (λ b. cond b (cut most paths ++ path mode frames ∷ []) (cut most paths)) room_paths ∙ sym (cut-push most paths (path mode frames)) ∙ ap (cut most) (sym (paths_kept-append mode ticks seen)) in
    let all_times : cond room (cut most times ++ tick.time ∷ []) (cut most times) ≡ cut most (times_of more) =
    ap (λ b. cond b (cut most times ++ tick.time ∷ []) (cut most times)) room_times ∙ sym (cut-push most times tick.time)
    ∙ ap (cut most) (sym (map-append (λ (t : ResolvedTick). t.time) ticks (seen ∷ []))) in
    record {
      tree = subst (IsTreeOf new.sampled.tree) (sym (map-append (visit_of mode) ticks (seen ∷ [])) ∙ ap (λ o. visits_of o.mode more) (sym k.options)) (k.tree (visits_of mode ticks) h.tree);
      samples = subst (AllZip (Names new.sampled.tree) new.sampled.samples) (all_paths ∙ ap (λ o. cut o.max_samples (paths_kept o.mode more)) (sym k.options)) (k.samples (cut most paths) h.samples);
      deltas = k.deltas ∙ ap₂ (λ ds l. cond room (ds ++ (tick.time - l) ∷ []) ds) h.deltas h.last ∙ deltas_by room old.start (cut most times) tick.time ∙ ap (deltas old.start) all_times
          ∙ ap₂ (λ s o. deltas s (cut o.max_samples (times_of more))) (sym k.start) (sym k.options);
      last = k.last ∙ ap (λ l. cond room tick.time l) h.last ∙ last_by room old.start (cut most times) tick.time ∙ ap (last_time old.start) all_times
          ∙ ap₂ (λ s o. last_time s (cut o.max_samples (times_of more))) (sym k.start) (sym k.options);
    }

-- a session with one more tick
abbrev pub one_more : ResolvedTick → Begun → Begun
one_more tick begun = record begun { ticks = begun.ticks ++ tick ∷ [] }

-- the ticks that are kept after one more, by the counter
kept_by : (base : ℕ) (session : Session) (begun : Begun) (tick : ResolvedTick) → HasBegun base session begun
    → kept base (one_more tick begun) ≡ kept base begun ++ cond (keeps session.counter.left tick.interval) (tick ∷ []) []
kept_by base session begun tick h =
    let rounded = rounded_of base begun.options.interval in
    let test : keeps session.counter.left tick.interval ≡ is_wanted rounded (since_after rounded None begun.ticks) tick =
    keeps_wanted session.counter (since_after session.counter.rounded None begun.ticks) tick h.left ∙ ap (λ r. is_wanted r (since_after r None begun.ticks) tick) h.rounded in
    kept_since-append rounded None begun.ticks tick ∙ ap (λ b. kept base begun ++ cond b (tick ∷ []) []) (sym test)

-- all but the kept ticks
counted_on : (base : ℕ) (old new : Session) (begun : Begun) (tick : ResolvedTick) → new.options ≡ old.options → new.start ≡ old.start
    → new.counter ≡ counted old.counter tick.interval → HasBegun base old begun → HasKept new (kept base (one_more tick begun)) → HasBegun base new (one_more tick begun)
counted_on base old new begun tick options start counter h all =
    let rounded : new.counter.rounded ≡ old.counter.rounded = ap (λ c. c.rounded) counter ∙ rounded_stays old.counter tick.interval in
    record {
      options = options ∙ h.options;
      start = start ∙ h.start;
      rounded = rounded ∙ h.rounded;
      left = subst (λ c. IsLeft c (since_after new.counter.rounded None (begun.ticks ++ tick ∷ []))) (sym counter)
          (subst (IsLeft (counted old.counter tick.interval)) (sym (since_after-append old.counter.rounded None begun.ticks tick) ∙ ap (λ r. since_after r None (begun.ticks ++ tick ∷ [])) (sym rounded))
          (left_counted old.counter (since_after old.counter.rounded None begun.ticks) tick h.left));
      kept = all;
    }

-- the counter is not part of what is kept
recounted : (old : Session) (counter : _) (ticks : List ResolvedTick) → HasKept old ticks → HasKept (record old { counter = counter }) ticks
recounted old counter ticks h = record { tree = h.tree; samples = h.samples; deltas = h.deltas; last = h.last }

pub passes_by : (tick : Tick) (paths : PathPair) (session : Session) → is_for session.id.0 tick.only ≡ false → TakesTick tick paths session session
passes_by tick paths session other base begun frames same h =
    subst (HasBegun base session) (sym (cond-false (is_for session.id.0 tick.only) (one_more (seen_tick tick frames) begun) begun other)) h

pub counts_only : (tick : Tick) (paths : PathPair) (old : Session) → is_for old.id.0 tick.only ≡ true → keeps old.counter.left tick.interval ≡ false
    → TakesTick tick paths old (record old { counter = counted old.counter tick.interval })
counts_only tick paths old own drops base begun frames same h =
    let new : Session = record old { counter = counted old.counter tick.interval } in
    let seen : ResolvedTick = seen_tick tick frames in
    let ticks : kept base begun ≡ kept base (one_more seen begun) =
    sym (append-nil (kept base begun)) ∙ ap (λ b. kept base begun ++ cond b (seen ∷ []) []) (sym drops) ∙ sym (kept_by base old begun seen h) in
    subst (HasBegun base new) (sym (cond-true (is_for old.id.0 tick.only) (one_more seen begun) begun own))
    (counted_on base old new begun seen refl refl refl h (subst (HasKept new) ticks (recounted old new.counter (kept base begun) h.kept)))

pub keeps_too : (tick : Tick) (paths : PathPair) (old new : Session) → is_for old.id.0 tick.only ≡ true → keeps old.counter.left tick.interval ≡ true
    → Keeps tick (path_in old.options.mode paths) paths.leaf_line (record old { counter = counted old.counter tick.interval }) new → TakesTick tick paths old new
keeps_too tick paths old new own keeps k base begun frames same h =
    let between : Session = record old { counter = counted old.counter tick.interval } in
    let seen : ResolvedTick = seen_tick tick frames in
    let ticks : kept base begun ++ seen ∷ [] ≡ kept base (one_more seen begun) =
    ap (λ b. kept base begun ++ cond b (seen ∷ []) []) (sym keeps) ∙ sym (kept_by base old begun seen h) in
    let over : Keeps tick (path old.options.mode frames) (leaf_line frames) between new =
    subst (λ p. Keeps tick p (leaf_line frames) between new) (path_over old.options.mode frames) (subst (λ p. Keeps tick (path_in old.options.mode p) p.leaf_line between new) same k) in
    let all : HasKept new (kept base begun ++ seen ∷ []) = kept_one_more between new tick frames (kept base begun) over (recounted old between.counter (kept base begun) h.kept) in
    subst (HasBegun base new) (sym (cond-true (is_for old.id.0 tick.only) (one_more seen begun) begun own))
    (counted_on base old new begun seen k.options k.start k.counter h (subst (HasKept new) ticks all))
