-- Steps of a finished profile.
use Rattle.std.proofs.Common.{◌≡◌, ℕ, suc, ◌<◌, ◌≤◌, ◌+◌, ◌-◌, List, [], ◌∷◌, ◌++◌, length, take, map, get_or, min, refl, sym, ap, ◌∙◌, arith}
use Rattle.std.specs.Prelude.{Option, None, Some}
use Rattle.std.proofs.lemmas.List.{map_more, take-map, take_all, take_min}
use Rattle.prof_base.specs.declared.ids.SessionId.{SessionId}
use Rattle.code_event.specs.declared.seen.ResolvedFrame.{ResolvedFrame}
use Rattle.code_event.specs.declared.seen.ResolvedTick.{ResolvedTick}
use Rattle.code_event.specs.declared.recording.Recording.{Recording as ListedRecording}
use Rattle.code_event.specs.declared.profile.FinNode.{FinNode}
use Rattle.code_event.specs.DeoptReasons.{reasons_in}
use Rattle.code_event.specs.Symbolizer.{leaf_line}
use Rattle.code_event.specs.Recording.{recording_by}
use Rattle.code_event.specs.Tree.{nodes, id_of, fin_node}
use Rattle.code_event.specs.Profile.{visits_of, cut, deltas, profile_of}
use Rattle.code_event.specs.declared.path.PathStep.{PathStep}
use Rattle.code_event.specs.declared.visit.Visit.{Visit}
use Rattle.reference_profile.specs.Listed.{listed}

pub map_step : {X Y : Type 0} (f : X → Y) (xs : List X) (i : ℕ) (x : X) (old new : List Y) (y : Y) → i < length xs → x ≡ get_or xs i x → old ≡ map f (take i xs) → new ≡ old ++ y ∷ [] → y ≡ f x → new ≡ map f (take (i + 1) xs)
map_step f xs i x old new y h e o n g =
    n ∙ ap (λ ys. ys ++ y ∷ []) o ∙ ap (λ z. map f (take i xs) ++ z ∷ []) (g ∙ ap f e) ∙ sym (map_more f xs i x h)

pub leaf_line-last : (frames : List ResolvedFrame) (d : ResolvedFrame) → 1 ≤ length frames → leaf_line frames ≡ (get_or frames (length frames - 1) d).line
leaf_line-last [] d h = absurd (omega arith)
leaf_line-last (step ∷ []) d h = refl
leaf_line-last (step ∷ other ∷ frames) d h =
    let e : length (step ∷ other ∷ frames) - 1 ≡ suc (length (other ∷ frames) - 1) = omega arith in
    rw e (leaf_line-last (other ∷ frames) d (omega arith))

pub cut_map : {X Y : Type 0} (f : X → Y) (most : Option ℕ) (xs : List X) (n : ℕ) → n ≡ listed most (length xs) → map f (take n xs) ≡ cut most (map f xs)
cut_map f None xs n e = ap (map f) (take_all n xs (omega arith))
cut_map f (Some most) xs n e =
    let few : n ≡ min most (length xs) = omega arith in
    rw few (ap (map f) (take_min most xs) ∙ sym (take-map f most xs))

pub profile_is : (session : SessionId) (listed : ListedRecording) (ticks : List ResolvedTick) (visits : List Visit) (set : List (List PathStep)) (finished : List FinNode) (ids times : List ℕ) → visits ≡ visits_of listed.begun.options.mode ticks → set ≡ nodes visits
    → finished ≡ map (fin_node set visits (reasons_in listed.reasons)) set → ids ≡ cut listed.begun.options.max_samples (map (λ visit. id_of set visit.path) visits) → times ≡ deltas listed.begun.start (cut listed.begun.options.max_samples (map (λ tick. tick.time) ticks)) → record { session = session; port = listed.begun.options.port; start = listed.begun.start; end = listed.end; nodes = finished; samples = ids; deltas = times } ≡ profile_of session (recording_by listed) ticks
profile_is session listed ticks visits set finished ids times v s e f g = rw (e, f, g, s, v) refl
