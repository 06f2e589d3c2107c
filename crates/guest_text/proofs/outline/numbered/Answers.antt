use Rattle.std.proofs.Common.{◌≡◌, ℕ, ◌+◌, ◌≤◌, List, [], ◌∷◌, ◌++◌, length, take, get_or, Bor, Some, false, true, cond, sym, ap, ◌∙◌, bytes_eq}
use Rattle.std.specs.Option.{is_some}
use Rattle.std.proofs.lemmas.List.{map_more, length-map, length-take-le}
use Rattle.std.proofs.lemmas.Map.Text.{btree_map_updates_str}
use Rattle.guest_text.specs.OutlineDraft.{first_number}
use Rattle.guest_text.proofs.OutlineLists.{bytes_of, number_kept, number_put}
use Rattle.guest_text.proofs.outline.numbered.Goals as goal
use Rattle.guest_text.proofs.outline.numbered.Goals.{then-not-contains_key+in_ok-insert, else-not-contains_key}

no_label : Bor (List ℕ)
no_label = record { ref_ptr = (0, 0); now = [] }

count : (labels : List (Bor (List ℕ))) (number : ℕ) → number ≤ length labels → length (bytes_of (take number labels)) ≡ number
count labels number h = length-map (take number labels) (λ label. label.now) ∙ length-take-le number labels h

pub loop-number-preserved : goal.loop-number-preserved
unfolding no_label
loop-number-preserved c = λ q.
    let number = c.loop-number.number in
    let before = bytes_of (take number c.args.labels.now) in
    let label = (get_or c.args.labels.now number no_label).now in
    let more : bytes_of (take (number + 1) c.args.labels.now) ≡ before ++ label ∷ [] = map_more (λ label. label.now) c.args.labels.now number no_label c.loop-number-test.true in
    elim c.if-not-contains_key.branch [
      | then-not-contains_key+in_ok-insert w ↦
          let absent : is_some (first_number before label) ≡ false = ap is_some (sym (c.loop-number.invariant label)) ∙ sym w.if-not-contains_key.ensures in
          let put = btree_map_updates_str label c.loop-number.numbers w.insert.new.self _ w.in_ok-insert.ensures.updates q in
          let all : length before ≡ number = count c.args.labels.now number c.loop-number.auto.number-end in
          rw (w.numbers-is, more, number_put before label q number all absent)
          (put ∙ ap (λ old. cond (bytes_eq label q) (Some number) old) (c.loop-number.invariant q))
      | else-not-contains_key w ↦
          let there : is_some (first_number before label) ≡ true = ap is_some (sym (c.loop-number.invariant label)) ∙ sym w.if-not-contains_key.ensures in
          rw (w.numbers-is, more, number_kept before label q there) (c.loop-number.invariant q)
    ]
