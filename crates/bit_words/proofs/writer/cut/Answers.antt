use Rattle.std.proofs.Common.{◌≡◌, ℕ, ◌+◌, ◌-◌, ◌/◌, ◌^◌, ◌<◌, List, length, take, get_or, arith, rules, ap, ◌∙◌}
use Rattle.std.proofs.lemmas.Grind.{get_or_default_zero}
use Rattle.std.proofs.lemmas.List.{length-take}
use Rattle.bit_words.proofs.Writing.{rounds_up}
use Rattle.bit_words.proofs.Cut.{value-cut, value-cut_whole}
use Rattle.bit_words.proofs.writer.cut.Goals as goal

pub returns-then-used-gt0-clause-value : goal.returns-then-used-gt0-clause-value
returns-then-used-gt0-clause-value c =
    let xs : List ℕ = c.truncate.new.self.items in
    let place : ℕ = c.len-last.result - 1 in
    let prefix : xs ≡ take ((c.args.len + 63) / 64) c.args.words.now.items = c.truncate.ensures.items ∙ ap (λ n. take n c.args.words.now.items) (rounds_up c.args.len c.div_ceil.result c.div_ceil.ensures) in
    let last : place + 1 ≡ length xs = omega (arith, ap length prefix, length-take ((c.args.len + 63) / 64) c.args.words.now.items, c.len-last.ensures) in
    let fits : get_or xs place 0 < 2 ^ 64 = search rules in
    let word : c.index_mut.result.now ≡ get_or xs place 0 = c.index_mut.ensures.value ∙ get_or_default_zero xs place c.index_mut.result.now (omega arith) in
    value-cut c.args.words.now.items xs c.args.len place c.index_mut.result.now prefix c.requires.within c.if-used-gt0.true last fits word

pub returns-else-used-gt0-clause-value : goal.returns-else-used-gt0-clause-value
returns-else-used-gt0-clause-value c =
    let prefix : c.truncate.new.self.items ≡ take ((c.args.len + 63) / 64) c.args.words.now.items = c.truncate.ensures.items ∙ ap (λ n. take n c.args.words.now.items) (rounds_up c.args.len c.div_ceil.result c.div_ceil.ensures) in
    value-cut_whole c.args.words.now.items c.truncate.new.self.items c.args.len prefix (omega arith)
