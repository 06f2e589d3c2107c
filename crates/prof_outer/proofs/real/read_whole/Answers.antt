use Rattle.std.proofs.Common.{ℕ, ◌≡◌, ◌<◌, List, [], ◌++◌, length, Option, None, Some, IfSome, option_map, take, ◌∙◌, ap, subst, arith}
use Rattle.std.proofs.lemmas.List.{length-take, take_all}
use Rattle.prof_outer.proofs.real.read_whole.Goals as goal

-- a read that got fewer bytes than it asked for got all that there are
all_read : (remaining : Option (List ℕ)) (limit : ℕ) (start bytes : List ℕ) → start ≡ [] → IfSome (option_map (take limit) remaining) (λ xs. bytes ≡ start ++ xs) → length bytes < limit → IfSome remaining (λ all. bytes ≡ all)
all_read None limit start bytes none read short = tt
all_read (Some all) limit start bytes none read short =
    let same : bytes ≡ take limit all = read ∙ ap (λ xs. xs ++ take limit all) none in
    same ∙ take_all limit all (omega (arith, length-take limit all, ap length same))

pub returns-in-Ok-clause-whole : goal.returns-in-Ok-clause-whole
returns-in-Ok-clause-whole g c =
    let remaining = g.S.Read.remaining in
    let bytes = c.read_to_end.new.buf.items in
    let P : Option (List ℕ) → Type 0 = λ r. IfSome (option_map (take c.take.result.limit) r) (λ xs. bytes ≡ c.new-bytes.result.items ++ xs) in
    let read : P (remaining c.args.source) = subst P (ap remaining c.take.ensures.inner) c.in-Ok.ensures.bytes in
    let short : length bytes < c.take.result.limit = omega (arith, c.is_within_limit.ensures.0 c.if-is_within_limit.true, ap length c.deref.ensures.value, c.take.ensures.limit) in
    all_read (remaining c.args.source) c.take.result.limit c.new-bytes.result.items bytes c.new-bytes.ensures.items read short
