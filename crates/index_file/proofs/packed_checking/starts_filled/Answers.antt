use Rattle.std.proofs.Common.{ℕ, ◌+◌, ◌-◌, ◌*◌, length, refl, sym, arith}
use Rattle.bit_words.specs.Bits.{bits_of}
use Rattle.part_cost.specs.Payload.{payload}
use Rattle.part_cost.proofs.Growth.{payload-short}
use Rattle.index_file.specs.PackedAt.{packed_bits, packed_terms, packed_directory, starts_universe}
use Rattle.index_file.proofs.PackedChecks.{one-set, none-at, place-behind}
use Rattle.index_file.proofs.packed_checking.starts_filled.Goals as goal

pub overflow_add-frame : goal.overflow_add-frame
overflow_add-frame c = omega (arith, c.requires.frame.bits, c.requires.frame.terms, c.requires.numbers.bits, c.requires.numbers.terms)

pub overflow_add-frame-2 : goal.overflow_add-frame-2
overflow_add-frame-2 c = omega (arith, c.requires.frame.bits, c.requires.frame.terms, c.requires.numbers.bits, c.requires.numbers.terms)

pub overflow_add-frame-3 : goal.overflow_add-frame-3
overflow_add-frame-3 c = omega (arith, c.requires.frame.terms, c.requires.numbers.terms)

pub payload_bits-taken-requires-clause-in_range : goal.payload_bits-taken-requires-clause-in_range
payload_bits-taken-requires-clause-in_range c = omega (arith, c.requires.frame.bits, c.requires.frame.terms, c.requires.numbers.bits, c.requires.numbers.terms)

pub packed_directory_of-requires-clause-documents : goal.packed_directory_of-requires-clause-documents
packed_directory_of-requires-clause-documents c = omega (arith, c.requires.frame.documents, c.requires.numbers.documents)

pub packed_directory_of-requires-clause-bits : goal.packed_directory_of-requires-clause-bits
packed_directory_of-requires-clause-bits c = omega (arith, c.requires.frame.bits, c.requires.numbers.bits)

pub overflow_mul-from : goal.overflow_mul-from
overflow_mul-from c =
    omega (arith, c.packed_directory_of.ensures, c.requires.frame.bits, c.requires.frame.documents, c.requires.numbers.bits, c.requires.numbers.documents)

pub overflow_add-from : goal.overflow_add-from
overflow_add-from c =
    omega (arith, c.packed_directory_of.ensures, c.payload_bits-taken.ensures, payload-short (c.args.frame.bits + c.args.frame.terms + 1) (c.args.frame.terms + 1), c.requires.frame.bits, c.requires.frame.terms, c.requires.frame.documents, c.requires.numbers.bits, c.requires.numbers.terms, c.requires.numbers.documents)

pub next_one-requires-clause-ordered : goal.next_one-requires-clause-ordered
next_one-requires-clause-ordered c =
    omega (arith, place-behind c.args.words.now c.args.frame c.packed_directory_of.result c.payload_bits-taken.result c.requires.numbers c.packed_directory_of.ensures c.payload_bits-taken.ensures, c.requires.frame.whole)

pub returns-in-None : goal.returns-in-None
returns-in-None c =
    let words = c.args.words.now in
    let end : ℕ = 64 * (length words - 4) in (
      λ t. none-at (bits_of words) (64 * c.packed_directory_of.result + c.payload_bits-taken.result)
          (64 * packed_directory words + payload (starts_universe (packed_bits words) (packed_terms words)) (packed_terms words + 1)) end end
          (place-behind words c.args.frame c.packed_directory_of.result c.payload_bits-taken.result c.requires.numbers c.packed_directory_of.ensures c.payload_bits-taken.ensures) refl
          c.in-None.ensures.none,
      λ h. refl,
    )

pub returns-in-Some : goal.returns-in-Some
returns-in-Some c =
    let words = c.args.words.now in
    let end : ℕ = 64 * (length words - 4) in (
      λ t. cc,
      λ h. absurd (one-set (bits_of words) (64 * c.packed_directory_of.result + c.payload_bits-taken.result) end c.in-Some.field-0 c.in-Some.ensures.first
          (none-at (bits_of words) (64 * packed_directory words + payload (starts_universe (packed_bits words) (packed_terms words)) (packed_terms words + 1))
          (64 * c.packed_directory_of.result + c.payload_bits-taken.result) end end
          (sym (place-behind words c.args.frame c.packed_directory_of.result c.payload_bits-taken.result c.requires.numbers c.packed_directory_of.ensures c.payload_bits-taken.ensures)) refl
          h)),
    )
