-- Pieces that were put one after another.
use Rattle.std.proofs.Common.{◌≡◌, ℕ, ◌≤◌, List, [], ◌∷◌, ◌++◌, length, map, codes, Some, refl, arith}
use Rattle.std.proofs.lemmas.List.{append_assoc}
use Rattle.json.specs.Print.{quoted}
use Rattle.code_event.specs.FileText.{list_text, reason_text}
use Rattle.cpuprofile.specs.ProfileText.{ticks_text, all_ticks_text}
use Rattle.cpuprofile.specs.declared.profile.FileTicks.{FileTicks}

pub appended_2 : (out p1 p2 o1 o2 : List ℕ) → o1 ≡ out ++ p1 → o2 ≡ o1 ++ p2 → o2 ≡ out ++ (p1 ++ p2)
appended_2 out p1 p2 o1 o2 e1 e2 = rw (e2, e1) (simp append_assoc)

pub appended_3 : (out p1 p2 p3 o1 o2 o3 : List ℕ) → o1 ≡ out ++ p1 → o2 ≡ o1 ++ p2 → o3 ≡ o2 ++ p3 → o3 ≡ out ++ (p1 ++ p2 ++ p3)
appended_3 out p1 p2 p3 o1 o2 o3 e1 e2 e3 = rw (e3, e2, e1) (simp append_assoc)

pub appended_10 : (out p1 p2 p3 p4 p5 p6 p7 p8 p9 p10 o1 o2 o3 o4 o5 o6 o7 o8 o9 o10 : List ℕ) → o1 ≡ out ++ p1 → o2 ≡ o1 ++ p2 → o3 ≡ o2 ++ p3 → o4 ≡ o3 ++ p4 → o5 ≡ o4 ++ p5 → o6 ≡ o5 ++ p6 → o7 ≡ o6 ++ p7 → o8 ≡ o7 ++ p8 → o9 ≡ o8 ++ p9 → o10 ≡ o9 ++ p10
    → o10 ≡ out ++ (p1 ++ p2 ++ p3 ++ p4 ++ p5 ++ p6 ++ p7 ++ p8 ++ p9 ++ p10)
appended_10 out p1 p2 p3 p4 p5 p6 p7 p8 p9 p10 o1 o2 o3 o4 o5 o6 o7 o8 o9 o10 e1 e2 e3 e4 e5 e6 e7 e8 e9 e10 = rw (e10, e9, e8, e7, e6, e5, e4, e3, e2, e1) (simp append_assoc)

pub appended_11 : (out p1 p2 p3 p4 p5 p6 p7 p8 p9 p10 p11 o1 o2 o3 o4 o5 o6 o7 o8 o9 o10 o11 : List ℕ) → o1 ≡ out ++ p1 → o2 ≡ o1 ++ p2 → o3 ≡ o2 ++ p3 → o4 ≡ o3 ++ p4 → o5 ≡ o4 ++ p5 → o6 ≡ o5 ++ p6 → o7 ≡ o6 ++ p7 → o8 ≡ o7 ++ p8 → o9 ≡ o8 ++ p9 → o10 ≡ o9 ++ p10 → o11 ≡ o10 ++ p11
    → o11 ≡ out ++ (p1 ++ p2 ++ p3 ++ p4 ++ p5 ++ p6 ++ p7 ++ p8 ++ p9 ++ p10 ++ p11)
appended_11 out p1 p2 p3 p4 p5 p6 p7 p8 p9 p10 p11 o1 o2 o3 o4 o5 o6 o7 o8 o9 o10 o11 e1 e2 e3 e4 e5 e6 e7 e8 e9 e10 e11 = rw (e11, e10, e9, e8, e7, e6, e5, e4, e3, e2, e1) (simp append_assoc)

pub all_ticks_text-some : (ticks : List FileTicks) → 1 ≤ length ticks → codes ",\"positionTicks\":" ++ list_text (map ticks_text ticks) ≡ all_ticks_text ticks
all_ticks_text-some [] h = absurd (omega arith)
all_ticks_text-some (first ∷ rest) h = refl

pub reason_text-some : (reason : List ℕ) → 1 ≤ length reason → codes ",\"deoptReason\":" ++ quoted reason ≡ reason_text (Some reason)
reason_text-some [] h = absurd (omega arith)
reason_text-some (b ∷ bytes) h = refl
