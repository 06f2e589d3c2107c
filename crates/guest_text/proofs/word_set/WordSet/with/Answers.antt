use Rattle.std.proofs.Common.{◌≡◌, ℕ, Global, Vec, map, ap, ◌∙◌, ◌||◌, bytes_eq}
use Rattle.guest_text.specs.Draft.{is_among}
use Rattle.guest_text.proofs.WordSets.{among_inserted}
use Rattle.guest_text.proofs.word_set.WordSet.with.Goals as goal

pub returns : goal.returns
returns c = λ q.
    let view : map (λ (word : Vec ℕ Global). word.items) c.self.inside.words.keys ≡ c.args.self = c.self.view_is in
    rw c.in_ok-insert.ensures.keys
    (among_inserted (λ (word : Vec ℕ Global). word.items) c.args.word c.self.inside.words.keys q ∙ ap (λ words. bytes_eq c.args.word.items q || is_among words q) view)
