use Rattle.std.proofs.Common.{◌*◌, ◌-◌, ◌^◌, ◌%◌, ap}
use Rattle.std.proofs.lemmas.Nat.{one_shl}
use Rattle.bit_words.proofs.FieldRows.{taken-from}
use Rattle.bit_words.proofs.reader.Bits.fields_from.Goals as goal

pub invariant_of-result : goal.invariant_of-result
invariant_of-result c =
    let a = c.args in
    taken-from a.self.now.words.now a.at a.width c.word.result (1 * 2 ^ a.width % 2 ^ 64 - 1) c.requires.narrow (ap (λ v. v - 1) (one_shl a.width 64 c.requires.narrow)) c.word.ensures c.word.type_inv
