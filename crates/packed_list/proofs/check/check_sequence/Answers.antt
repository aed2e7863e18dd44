use Rattle.std.proofs.Common.{◌≡◌, ℕ, true, false, List, slice_index}
use Rattle.bit_words.specs.Bits.{bits_of}
use Rattle.bit_words.proofs.Value.{bits-bits_of}
use Rattle.bit_words.proofs.Ranges.{bit-below}
use Rattle.bit_words.proofs.AllBits.{unset_bit}
use Rattle.packed_list.proofs.check.check_sequence.Goals as goal

pub check_lone-requires-clause-flag : goal.check_lone-requires-clause-flag
check_lone-requires-clause-flag c =
    let bits : List ℕ = bits_of c.args.words.now in
    unset_bit (slice_index bits c.args.at) (bit-below bits c.args.at (bits-bits_of c.args.words.now))
    (λ one. (let t : c.bit.result ≡ true = c.bit.ensures.1 one in let f : c.bit.result ≡ false = c.if-bit.false in cc))
