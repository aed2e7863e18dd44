use Rattle.std.proofs.Common.{◌+◌, ◌-◌, ◌*◌, ◌/◌, ◌^◌, ◌≡◌, slice_index, inl, inr, refl, subst, arith}
use Rattle.std.specs.Prelude.{◌≢◌}
use Rattle.bit_words.specs.Bits.{bits_of, HasNoOne}
use Rattle.sequence_words.specs.declared.check.Check.TheVariants.{K9}
use Rattle.index_file.specs.PackedWords.{first_list_bit}
use Rattle.index_file.specs.PackedAt.{packed_terms, packed_bits, packed_sizes, packed_directory}
use Rattle.index_file.proofs.PackedChecks.{one-set, none-at, term-as}
use Rattle.index_file.proofs.packed_checking.packed_closing_fault.Goals as goal
use Rattle.index_file.proofs.packed_checking.packed_closing_fault.Goals.{else-is_odd-via-then-is_odd+else-words-packed_directory_of-ne0, else-is_odd-via-else-is_odd}

pub overflow_add-behind : goal.overflow_add-behind
overflow_add-behind c = omega (arith, c.requires.frame.bits, c.requires.numbers.bits)

pub packed_sizes_of-to-requires : goal.packed_sizes_of-to-requires
packed_sizes_of-to-requires c = omega (arith, c.requires.frame.bits, c.requires.numbers.bits)

pub overflow_mul-to : goal.overflow_mul-to
overflow_mul-to c = omega (arith, c.packed_sizes_of-to.ensures, c.requires.frame.bits, c.requires.numbers.bits)

pub next_one-requires-clause-ordered : goal.next_one-requires-clause-ordered
next_one-requires-clause-ordered c = omega (arith, c.packed_sizes_of-to.ensures)

pub next_one-requires-clause-range : goal.next_one-requires-clause-range
next_one-requires-clause-range c = omega (arith, c.packed_sizes_of-to.ensures, c.requires.frame.whole, c.requires.numbers.bits)

pub overflow_cast-result : goal.overflow_cast-result
overflow_cast-result c = omega (arith, c.requires.frame.terms, c.requires.numbers.terms)

pub returns-in-Some-clause-some : goal.returns-in-Some-clause-some
returns-in-Some-clause-some c =
    let words = c.args.words.now in
    inl (
      (λ none. one-set (bits_of words) (128 + c.args.frame.bits) (64 * c.packed_sizes_of-to.result) c.in-Some.field-0 c.in-Some.ensures.first
          (none-at (bits_of words) (first_list_bit + packed_bits words) (128 + c.args.frame.bits) (64 * packed_sizes words) (64 * c.packed_sizes_of-to.result)
          (omega (arith, c.requires.numbers.bits)) (omega (arith, c.packed_sizes_of-to.ensures, c.requires.numbers.bits)) none)),
      term-as K9 c.args.frame.terms (packed_terms words) c.requires.numbers.terms,
    )

pub packed_directory_of-requires-clause-documents : goal.packed_directory_of-requires-clause-documents
packed_directory_of-requires-clause-documents c = omega (arith, c.requires.frame.documents, c.requires.numbers.documents)

pub packed_directory_of-requires-clause-bits : goal.packed_directory_of-requires-clause-bits
packed_directory_of-requires-clause-bits c = omega (arith, c.requires.frame.bits, c.requires.numbers.bits)

pub overflow_sub-packed_directory_of : goal.overflow_sub-packed_directory_of
overflow_sub-packed_directory_of c = omega (arith, c.packed_directory_of.ensures)

pub bounds-words-packed_directory_of : goal.bounds-words-packed_directory_of
bounds-words-packed_directory_of c =
    omega (arith, c.packed_directory_of.ensures, c.requires.frame.whole, c.requires.numbers.bits, c.requires.numbers.documents)

pub returns-then-words-packed_directory_of-ne0-clause-some : goal.returns-then-words-packed_directory_of-ne0-clause-some
returns-then-words-packed_directory_of-ne0-clause-some c =
    let words = c.args.words.now in
    let none : HasNoOne (bits_of words) (first_list_bit + packed_bits words) (64 * packed_sizes words) =
    none-at (bits_of words) (128 + c.args.frame.bits) (first_list_bit + packed_bits words) (64 * c.packed_sizes_of-to.result) (64 * packed_sizes words)
    (omega (arith, c.requires.numbers.bits)) (omega (arith, c.packed_sizes_of-to.ensures, c.requires.numbers.bits)) c.in_default.ensures.none in
    let place : c.packed_directory_of.result - 1 ≡ packed_directory c.args.words.now - 1 = omega (arith, c.packed_directory_of.ensures, c.requires.numbers.bits, c.requires.numbers.documents) in
    inr (
      (λ set. set none),
      (omega (arith, c.if-is_odd.true, c.requires.numbers.documents), subst (λ i. slice_index words i / 2 ^ 32 ≢ 0) place c.if-words-packed_directory_of-ne0.true, refl),
    )

pub returns-clause-none : goal.returns-clause-none
returns-clause-none c e =
    let words = c.args.words.now in
    let none : HasNoOne (bits_of words) (first_list_bit + packed_bits words) (64 * packed_sizes words) =
    none-at (bits_of words) (128 + c.args.frame.bits) (first_list_bit + packed_bits words) (64 * c.packed_sizes_of-to.result) (64 * packed_sizes words)
    (omega (arith, c.requires.numbers.bits)) (omega (arith, c.packed_sizes_of-to.ensures, c.requires.numbers.bits)) c.in_default.ensures.none in
    record {
      lists = none;
      sizes = λ odd.
          elim c.else-is_odd.branch [
            | else-is_odd-via-then-is_odd+else-words-packed_directory_of-ne0 w ↦
                (let place : w.packed_directory_of.result - 1 ≡ packed_directory c.args.words.now - 1 =
                omega (arith, w.packed_directory_of.ensures, c.requires.numbers.bits, c.requires.numbers.documents) in
                subst (λ i. slice_index words i / 2 ^ 32 ≡ 0) place w.if-words-packed_directory_of-ne0.false)
            | else-is_odd-via-else-is_odd w ↦ absurd (omega (arith, w.if-is_odd.false, odd, c.requires.numbers.documents))
          ];
    }
