use Rattle.std.proofs.Common.{◌≡◌, ◌/◌, ◌%◌, ◌*◌, ◌++◌, replicate, ap, ◌∙◌, rules, arith}
use Rattle.bit_words.specs.Bits.{field_bits}
use Rattle.directory_places.proofs.Marks.{zeros-behind}
use Rattle.directory_places.proofs.places.put_zeros.Goals as goal

pub returns-clause-ok : goal.returns-clause-ok
returns-clause-ok c =
    let whole : c.put_whole_zeros.new.to ≡ c.args.to.now ++ replicate (64 * (c.args.count / 64)) 0 = search rules in
    let rest : c.put.new.self ≡ c.put_whole_zeros.new.to ++ field_bits (c.args.count % 64) 0 = search rules in
    rest ∙ ap (λ l. l ++ field_bits (c.args.count % 64) 0) whole
    ∙ zeros-behind c.args.to.now (64 * (c.args.count / 64)) (c.args.count % 64) c.args.count (omega arith)
