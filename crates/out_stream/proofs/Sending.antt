-- A part on its way to a stream.
use Rattle.std.proofs.Common.{ℕ, ◌≡◌, ◌+◌, ◌-◌, ◌<◌, ◌≤◌, min, List, [], ◌∷◌, ◌++◌, length, map, Option, Some, None, IfSome, ap, ap₂, sym, ◌∙◌, refl, append-nil, append_assoc, arith, length-append, subst, take, drop, take-append-drop}
use Rattle.std.specs.Prelude.{sum}
use Rattle.std.proofs.lemmas.List.{map-append, length-take, length-drop}
use Rattle.std.proofs.lemmas.List.Sums.{sum_by-append}
use Rattle.std.proofs.Math.Seq.{take-append_seam, take-append-add, get_or-append_seam}
use Rattle.out_stream.specs.Cut.{cut}
use Rattle.out_stream.specs.Offers.{followed, offered, went_on}
use Rattle.out_stream.specs.Parts.{Parts, grown, GrowsByPrefix}
use Rattle.out_stream.specs.Stopped.{Stopped, stopping_answer, taken_chunks}
use Rattle.out_stream.specs.declared.stream.Chunk.TheVariants.{Continue}
use Rattle.out_stream.specs.declared.stream.Offer.{Offer}
use Rattle.out_stream.specs.declared.stream.Offer.TheVariants.{Bytes}
use Rattle.out_stream.specs.declared.stream.Undelivered.{Undelivered}
use Rattle.out_stream.specs.declared.stream.Undelivered.TheVariants.{Aborted}
use Rattle.out_stream.proofs.Cuts.{cut_of_none, cut_next}

-- a prefix of all the bytes follows what was unfinished before, in chunks of these sizes, and the rest is left
pub record Sent (size : ℕ) (all rest : List ℕ) (parts_before parts_now : Option Parts) (offers_before offers_now : Option (List Offer)) : Type 0 where
  pub prefix : List ℕ
  pub sizes : List ℕ
  pub whole : all ≡ prefix ++ rest
  pub grew : parts_now ≡ grown parts_before prefix
  pub cut_here : cut size (length all) ≡ sizes ++ cut size (length rest)
  pub counted : sum sizes ≡ length prefix
  pub heard_all : offers_now ≡ went_on offers_before sizes

grown-nil : (parts : Option Parts) → grown parts [] ≡ parts
grown-nil None = refl
grown-nil (Some (done, unfinished)) = ap (λ (bytes : List ℕ). Some (done, bytes)) (append-nil unfinished)

grown-grown : (parts : Option Parts) (xs ys : List ℕ) → grown (grown parts xs) ys ≡ grown parts (xs ++ ys)
grown-grown None xs ys = refl
grown-grown (Some (done, unfinished)) xs ys = ap (λ (bytes : List ℕ). Some (done, bytes)) (append_assoc unfinished xs ys)

followed-nil : (offers : Option (List Offer)) → followed offers [] ≡ offers
followed-nil None = refl
followed-nil (Some before) = ap Some (append-nil before)

followed-followed : (offers : Option (List Offer)) (xs ys : List Offer) → followed (followed offers xs) ys ≡ followed offers (xs ++ ys)
followed-followed None xs ys = refl
followed-followed (Some before) xs ys = ap Some (append_assoc before xs ys)

abbrev passed : ℕ → Offer
passed bytes = Bytes bytes Continue

went_on-more : (offers : Option (List Offer)) (sizes : List ℕ) (n : ℕ) → offered (went_on offers sizes) n Continue ≡ went_on offers (sizes ++ n ∷ [])
went_on-more offers sizes n = followed-followed offers (map passed sizes) (passed n ∷ []) ∙ ap (followed offers) (sym (map-append passed sizes (n ∷ [])))

sum-push : (sizes : List ℕ) (n : ℕ) → sum (sizes ++ n ∷ []) ≡ sum sizes + n
sum-push sizes n = omega (arith, sum_by-append (λ (k : ℕ). k) sizes (n ∷ []))

pub nothing_sent : (size : ℕ) (all : List ℕ) (parts : Option Parts) (offers : Option (List Offer)) → Sent size all all parts parts offers offers
nothing_sent size all parts offers = record {
  prefix = [];
  sizes = [];
  whole = refl;
  grew = sym (grown-nil parts);
  cut_here = refl;
  counted = refl;
  heard_all = sym (followed-nil offers);
}

-- the rest is cut after its first n bytes
pub next_sent : (size : ℕ) (all rest chunk after : List ℕ) (n : ℕ) (parts_before parts_now parts_next : Option Parts) (offers_before offers_now offers_next : Option (List Offer)) → Sent size all rest parts_before parts_now offers_before offers_now → 1 ≤ size → 1 ≤ length rest → n ≡ min size (length rest) → chunk ≡ take n rest → after ≡ drop n rest → parts_next ≡ grown parts_now chunk → offers_next ≡ offered offers_now (length chunk) Continue → Sent size all after parts_before parts_next offers_before offers_next
next_sent size all rest chunk after n pb pn px ob on ox sent some more is first last grew heard_it =
    let long : length chunk ≡ n = omega (arith, ap length first, length-take n rest) in
    let short : length after ≡ length rest - n = ap length last ∙ length-drop n rest in
    let joined : chunk ++ after ≡ rest = ap₂ (λ xs ys. xs ++ ys) first last ∙ take-append-drop n rest in
    let next : cut size (length rest) ≡ n ∷ cut size (length after) = cut_next size (length rest) n some more is ∙ ap (λ k. n ∷ cut size k) (sym short) in
    record {
      prefix = sent.prefix ++ chunk;
      sizes = sent.sizes ++ n ∷ [];
      whole = sent.whole ∙ ap (λ bytes. sent.prefix ++ bytes) (sym joined) ∙ sym (append_assoc sent.prefix chunk after);
      grew = grew ∙ ap (λ parts. grown parts chunk) sent.grew ∙ grown-grown pb sent.prefix chunk;
      cut_here = sent.cut_here ∙ ap (λ sizes. sent.sizes ++ sizes) next ∙ sym (append_assoc sent.sizes (n ∷ []) (cut size (length after)));
      counted = omega (arith, sum-push sent.sizes n, sent.counted, long, length-append sent.prefix chunk);
      heard_all = heard_it ∙ ap₂ (λ offers k. offered offers k Continue) sent.heard_all long ∙ went_on-more ob sent.sizes n;
    }

pub left_unfinished : (size : ℕ) (all rest : List ℕ) (pb pn : Option Parts) (ob on : Option (List Offer)) → Sent size all rest pb pn ob on → GrowsByPrefix pb pn all
left_unfinished size all rest pb pn ob on sent = (sent.prefix, (rest, sent.whole), sent.grew)

-- the chunk that was taken last is unfinished too
pub taken_unfinished : (size : ℕ) (all rest chunk : List ℕ) (n : ℕ) (pb pn px : Option Parts) (ob on : Option (List Offer)) → Sent size all rest pb pn ob on → chunk ≡ take n rest → px ≡ grown pn chunk → GrowsByPrefix pb px all
taken_unfinished size all rest chunk n pb pn px ob on sent first grew =
    let joined : chunk ++ drop n rest ≡ rest = ap (λ xs. xs ++ drop n rest) first ∙ take-append-drop n rest in
    let whole : all ≡ (sent.prefix ++ chunk) ++ drop n rest = sent.whole ∙ ap (λ bytes. sent.prefix ++ bytes) (sym joined) ∙ sym (append_assoc sent.prefix chunk (drop n rest)) in
    (sent.prefix ++ chunk, (drop n rest, whole), grew ∙ ap (λ parts. grown parts chunk) sent.grew ∙ grown-grown pb sent.prefix chunk)

pub all_sent : (size : ℕ) (all : List ℕ) (pb pn : Option Parts) (ob on : Option (List Offer)) → Sent size all [] pb pn ob on → pn ≡ grown pb all
all_sent size all pb pn ob on sent = sent.grew ∙ ap (grown pb) (sym (sent.whole ∙ append-nil sent.prefix))

pub all_heard : (size : ℕ) (all rest : List ℕ) (pb pn : Option Parts) (ob on : Option (List Offer)) → Sent size all rest pb pn ob on → length rest ≡ 0 → on ≡ went_on ob (cut size (length all))
all_heard size all rest pb pn ob on sent none =
    let over : cut size (length rest) ≡ [] = ap (cut size) none ∙ cut_of_none size in
    sent.heard_all ∙ ap (went_on ob) (sym (sent.cut_here ∙ ap (λ sizes. sent.sizes ++ sizes) over ∙ append-nil sent.sizes))

grown_not_empty : (parts : Option Parts) (bytes : List ℕ) → 0 < length bytes → IfSome (grown parts bytes) (λ p. 0 < length p.1)
grown_not_empty None bytes some = tt
grown_not_empty (Some (done, unfinished)) bytes some = omega (arith, length-append unfinished bytes)

-- what was sent may be closed
pub may_close : (size : ℕ) (all : List ℕ) (pb pn : Option Parts) (ob on : Option (List Offer)) → Sent size all [] pb pn ob on → 0 < length all → IfSome pn (λ p. 0 < length p.1)
may_close size all pb pn ob on sent some =
    let P : Option Parts → Type 0 = λ parts. IfSome parts (λ p. 0 < length p.1) in
    subst P (sym (all_sent size all pb pn ob on sent)) (grown_not_empty pb all some)

-- it stopped at the chunk of n bytes that follows the chunks of these sizes
stopped_here : (why : Undelivered) (sizes later bytes : List ℕ) (n : ℕ) (pb pn : Option Parts) (ob on : Option (List Offer)) → on ≡ offered (went_on ob sizes) n (stopping_answer why) → pn ≡ grown pb (take (sum (take (taken_chunks why (length sizes)) (sizes ++ n ∷ later))) bytes) → Stopped why (sizes ++ n ∷ later) bytes pb pn ob on
stopped_here why sizes later bytes n pb pn ob on heard_it grew = record {
  at = length sizes;
  some_left = omega (arith, length-append sizes (n ∷ later));
  offers = heard_it ∙ ap₂ (λ before k. offered (went_on ob before) k (stopping_answer why)) (sym (take-append_seam sizes (n ∷ later))) (sym (get_or-append_seam sizes n later 0));
  parts = grew;
}

taken_before : (all prefix rest sizes later : List ℕ) (n : ℕ) → all ≡ prefix ++ rest → sum sizes ≡ length prefix → take (sum (take (length sizes) (sizes ++ n ∷ later))) all ≡ prefix
taken_before all prefix rest sizes later n whole counted =
    ap₂ (λ k bytes. take k bytes) (ap sum (take-append_seam sizes (n ∷ later)) ∙ counted) whole ∙ take-append_seam prefix rest

taken_with : (all prefix rest sizes later : List ℕ) (n : ℕ) → all ≡ prefix ++ rest → sum sizes ≡ length prefix → take (sum (take (length sizes + 1) (sizes ++ n ∷ later))) all ≡ prefix ++ take n rest
taken_with all prefix rest sizes later n whole counted =
    let count : sum (take (length sizes + 1) (sizes ++ n ∷ later)) ≡ length prefix + n = ap sum (take-append-add sizes (n ∷ later) 1) ∙ omega (arith, sum-push sizes n, counted) in
    ap₂ (λ k bytes. take k bytes) count whole ∙ take-append-add prefix rest n

-- the next chunk stopped it and was not taken
pub stopped_before : (why : Undelivered) (size : ℕ) (all rest chunk : List ℕ) (n : ℕ) (pb pn px : Option Parts) (ob on ox : Option (List Offer)) → ((k : ℕ) → taken_chunks why k ≡ k) → Sent size all rest pb pn ob on → 1 ≤ size → 1 ≤ length rest → n ≡ min size (length rest) → chunk ≡ take n rest → px ≡ pn → ox ≡ offered on (length chunk) (stopping_answer why) → Stopped why (cut size (length all)) all pb px ob ox
stopped_before why size all rest chunk n pb pn px ob on ox none_taken sent some more is first stays heard_it =
    let later = cut size (length rest - n) in
    let long : length chunk ≡ n = omega (arith, ap length first, length-take n rest) in
    let sizes_are : cut size (length all) ≡ sent.sizes ++ n ∷ later = sent.cut_here ∙ ap (λ ks. sent.sizes ++ ks) (cut_next size (length rest) n some more is) in
    let taken : take (sum (take (taken_chunks why (length sent.sizes)) (sent.sizes ++ n ∷ later))) all ≡ sent.prefix = ap (λ k. take (sum (take k (sent.sizes ++ n ∷ later))) all) (none_taken (length sent.sizes)) ∙ taken_before all sent.prefix rest sent.sizes later n sent.whole sent.counted in
    let heard_here = heard_it ∙ ap₂ (λ offers k. offered offers k (stopping_answer why)) sent.heard_all long in
    let P : List ℕ → Type 0 = λ sizes. Stopped why sizes all pb px ob ox in
    subst P (sym sizes_are) (stopped_here why sent.sizes later all n pb px ob ox heard_here (stays ∙ sent.grew ∙ ap (grown pb) (sym taken)))

-- the next chunk stopped it and was taken
pub stopped_after : (size : ℕ) (all rest chunk : List ℕ) (n : ℕ) (pb pn px : Option Parts) (ob on ox : Option (List Offer)) → Sent size all rest pb pn ob on → 1 ≤ size → 1 ≤ length rest → n ≡ min size (length rest) → chunk ≡ take n rest → px ≡ grown pn chunk → ox ≡ offered on (length chunk) (stopping_answer Aborted) → Stopped Aborted (cut size (length all)) all pb px ob ox
stopped_after size all rest chunk n pb pn px ob on ox sent some more is first grew heard_it =
    let later = cut size (length rest - n) in
    let long : length chunk ≡ n = omega (arith, ap length first, length-take n rest) in
    let sizes_are : cut size (length all) ≡ sent.sizes ++ n ∷ later = sent.cut_here ∙ ap (λ ks. sent.sizes ++ ks) (cut_next size (length rest) n some more is) in
    let taken : take (sum (take (length sent.sizes + 1) (sent.sizes ++ n ∷ later))) all ≡ sent.prefix ++ chunk = taken_with all sent.prefix rest sent.sizes later n sent.whole sent.counted ∙ ap (λ bytes. sent.prefix ++ bytes) (sym first) in
    let heard_here = heard_it ∙ ap₂ (λ offers k. offered offers k (stopping_answer Aborted)) sent.heard_all long in
    let P : List ℕ → Type 0 = λ sizes. Stopped Aborted sizes all pb px ob ox in
    subst P (sym sizes_are) (stopped_here Aborted sent.sizes later all n pb px ob ox heard_here (grew ∙ ap (λ parts. grown parts chunk) sent.grew ∙ grown-grown pb sent.prefix chunk ∙ ap (grown pb) (sym taken)))
