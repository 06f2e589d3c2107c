use Rattle.std.proofs.Common.{◌≡◌, ℕ, Global, Vec, map, ap, ◌∙◌}
use Rattle.guest_text.specs.Draft.{is_among}
use Rattle.guest_text.proofs.WordSets.{among_keys}
use Rattle.guest_text.proofs.word_set.WordSet.contains.Goals as goal

pub returns : goal.returns
returns c =
    let view : map (λ (word : Vec ℕ Global). word.items) c.self.inside.words.keys ≡ c.args.self.now = c.self.view_is in
    c.contains.ensures ∙ among_keys (λ (word : Vec ℕ Global). word.items) c.self.inside.words.keys c.args.word.now ∙ ap (λ words. is_among words c.args.word.now) view
