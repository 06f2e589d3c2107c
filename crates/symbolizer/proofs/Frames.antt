-- Paths with more frames.
use Rattle.std.proofs.Common.{◌≡◌, ℕ, suc, ◌-◌, ◌<◌, ◌≤◌, List, [], ◌∷◌, ◌++◌, length, drop, get_or, reverse, flat_map, codes, refl, ap, sym, ◌∙◌, append-nil, arith}
use Rattle.std.proofs.lemmas.List.{append_assoc, reverse-append}
use Rattle.std.proofs.Math.Seq.{drop-cons}
use Rattle.code_event.specs.Symbolizer.{or_program, special_frame, leaf_path, caller_path, leaf_line}
use Rattle.code_event.specs.declared.path.PathPair.{PathPair}
use Rattle.code_event.specs.declared.seen.ResolvedFrame.{ResolvedFrame}
use Rattle.symbolizer.specs.Paths.{with_frame, with_frames, no_paths, paths_of}

pub with_frames-append : (paths : PathPair) (older younger : List ResolvedFrame) → with_frames paths (older ++ younger) ≡ with_frames (with_frames paths older) younger
with_frames-append paths [] younger = refl
with_frames-append paths (frame ∷ older) younger = with_frames-append (with_frame paths frame) older younger

-- frames are added oldest first, where they are listed youngest first
pub with_frames-reverse : (old between new : PathPair) (younger older : List ResolvedFrame) → between ≡ with_frames old (reverse older) → new ≡ with_frames between (reverse younger)
    → new ≡ with_frames old (reverse (younger ++ older))
with_frames-reverse old between new younger older first then =
    then ∙ ap (λ paths. with_frames paths (reverse younger)) first ∙ sym (with_frames-append old (reverse older) (reverse younger)) ∙ ap (with_frames old) (sym (reverse-append younger older))

-- the last frame's line, or this one where there are no frames
line_after : ℕ → List ResolvedFrame → ℕ
line_after line [] = line
line_after line (frame ∷ frames) = line_after frame.line frames

line_after-leaf : (frame : ResolvedFrame) (frames : List ResolvedFrame) → line_after frame.line frames ≡ leaf_line (frame ∷ frames)
unfolding line_after
line_after-leaf frame [] = refl
line_after-leaf frame (other ∷ frames) = line_after-leaf other frames

line_after-none : (frames : List ResolvedFrame) → line_after 0 frames ≡ leaf_line frames
unfolding line_after
line_after-none [] = refl
line_after-none (frame ∷ frames) = line_after-leaf frame frames

same_paths : (one other : PathPair) → one.leaf ≡ other.leaf → one.caller ≡ other.caller → one.leaf_line ≡ other.leaf_line → one ≡ other
same_paths one other leaf caller line =
    ap (λ l. record one { leaf = l }) leaf ∙ ap (λ c. record { leaf = other.leaf; caller = c; leaf_line = one.leaf_line }) caller ∙ ap (λ n. record { leaf = other.leaf; caller = other.caller; leaf_line = n }) line

-- paths that grow are those before, and those of the frames that were added
grown : (paths : PathPair) (frames : List ResolvedFrame)
    → with_frames paths frames ≡ record { leaf = paths.leaf ++ leaf_path frames; caller = paths.caller ++ caller_path paths.leaf_line frames; leaf_line = line_after paths.leaf_line frames }
unfolding line_after
grown paths [] = same_paths _ _ (sym (append-nil paths.leaf)) (sym (append-nil paths.caller)) refl
grown paths (frame ∷ frames) =
    grown (with_frame paths frame) frames
    ∙ same_paths _ _ (append_assoc paths.leaf (record { entry = frame.entry; call_line = 0 } ∷ []) (leaf_path frames))
    (append_assoc paths.caller (record { entry = frame.entry; call_line = paths.leaf_line } ∷ []) (caller_path frame.line frames)) refl

pub paths_of-with : (frames : List ResolvedFrame) → with_frames no_paths frames ≡ paths_of frames
paths_of-with frames = grown no_paths frames ∙ same_paths _ _ refl refl (line_after-none frames)

-- the frames at a list of addresses, one address earlier
pub with_frames-earlier : (old between new : PathPair) (frames_of : ℕ → List ResolvedFrame) (addresses : List ℕ) (at : ℕ) → 0 < at → at ≤ length addresses
    → between ≡ with_frames old (reverse (flat_map frames_of (drop at addresses))) → new ≡ with_frames between (reverse (frames_of (get_or addresses (at - 1) 0)))
    → new ≡ with_frames old (reverse (flat_map frames_of (drop (at - 1) addresses)))
with_frames-earlier old between new frames_of addresses at some few later pushed =
    let next : suc (at - 1) ≡ at = omega arith in
    let split : drop (at - 1) addresses ≡ get_or addresses (at - 1) 0 ∷ drop at addresses =
    drop-cons addresses (at - 1) 0 (omega arith) ∙ ap (λ n. get_or addresses (at - 1) 0 ∷ drop n addresses) next in
    with_frames-reverse old between new (frames_of (get_or addresses (at - 1) 0)) (flat_map frames_of (drop at addresses)) later pushed
    ∙ ap (λ rest. with_frames old (reverse (flat_map frames_of rest))) (sym split)

-- paths with no step are of no frame
pub or_program-none : (paths : PathPair) (frames : List ResolvedFrame) → paths ≡ with_frames no_paths frames → paths.leaf ≡ [] → or_program frames ≡ special_frame (codes "(program)")
or_program-none paths [] is none = refl
or_program-none paths (frame ∷ frames) is none =
    let some : paths.leaf ≡ leaf_path (frame ∷ frames) = ap (λ p. p.leaf) (is ∙ paths_of-with (frame ∷ frames)) in
    absurd (cc)

pub or_program-some : (paths : PathPair) (frames : List ResolvedFrame) → paths ≡ with_frames no_paths frames → (paths.leaf ≡ [] → ⊥) → or_program frames ≡ frames
or_program-some paths [] is some = absurd (some (ap (λ p. p.leaf) is))
or_program-some paths (frame ∷ frames) is some = refl
