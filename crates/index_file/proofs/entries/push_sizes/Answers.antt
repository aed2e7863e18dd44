use Rattle.std.proofs.Common.{◌≡◌, ◌∙◌, ap, rules, arith, ℕ, ◌<◌, ◌+◌, ◌*◌, ◌/◌, ◌^◌, ◌++◌, ◌∷◌, List, [], length, get_or, take, drop}
use Rattle.index_file.proofs.WordBytes.{chunk-at}
use Rattle.index_file.proofs.Lengths.{sizes-next}
use Rattle.index_file.proofs.entries.push_sizes.Goals as goal

pub loop-pair-preserved : goal.loop-pair-preserved
loop-pair-preserved c =
    let xs : List ℕ = c.args.sizes.now in
    let i : ℕ = c.loop-pair.pair-index in
    let within : i < length xs / 2 = omega (arith, c.as_chunks.ensures.front_len) in
    let at : get_or c.as_chunks.result.0.now i [] ≡ take 2 (drop (i * 2) xs) = ap (λ pairs. get_or pairs i []) c.as_chunks.ensures.front ∙ chunk-at 2 (length xs / 2) i xs within in
    let low : c.from.result ≡ get_or (take 2 (drop (i * 2) xs)) 0 0 = c.from.ensures ∙ ap (λ pair. get_or pair 0 0) at in
    let high : c.from-in-loop-pair.result ≡ get_or (take 2 (drop (i * 2) xs)) 1 0 = c.from-in-loop-pair.ensures ∙ ap (λ pair. get_or pair 1 0) at in
    let word : c.word_of_halves-word.result ≡ get_or (take 2 (drop (i * 2) xs)) 0 0 + 2 ^ 32 * get_or (take 2 (drop (i * 2) xs)) 1 0 = omega arith in
    let pushed : c.push.new.self.items ≡ c.loop-pair.words.items ++ c.word_of_halves-word.result ∷ [] = search rules in
    rw (pushed, word) (sizes-next c.loop-pair.words.items xs i within ∙ c.loop-pair.invariant)
