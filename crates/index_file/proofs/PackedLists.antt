-- A list of a packed file, as it is viewed.
use Rattle.std.proofs.Common.{◌≡◌, ℕ, ◌+◌, ◌*◌, ◌<◌, ◌≤◌, List, length, refl, arith}
use Rattle.std.proofs.lemmas.Bool.{eq-eqb, ne_eqb}
use Rattle.packed_list.specs.ListStated.{list_at, no_list}
use Rattle.index_file.specs.PackedWords.{first_list_bit}
use Rattle.part_codec.specs.Laws.{ValuesStandAt}
use Rattle.index_file.specs.PackedAt.{packed_documents, packed_terms, packed_bits, start_stated, PassesPacked}
use Rattle.index_file.proofs.PackedStarts.{start-lies, next-lies, lists-within}
use Rattle.index_file.specs.PackedView.{packed_list_stated}

-- a list without postings, and another
pub empty-stated : (words : List ℕ) (t : ℕ) → start_stated words t ≡ start_stated words (t + 1) → packed_list_stated words t ≡ no_list
empty-stated words t e = rw (eq-eqb (start_stated words t) (start_stated words (t + 1)) e) refl

pub some-stated : (words : List ℕ) (t : ℕ) → (start_stated words t ≡ start_stated words (t + 1) → ⊥)
    → packed_list_stated words t ≡ list_at (packed_documents words) words (first_list_bit + start_stated words t)
some-stated words t n = rw (ne_eqb (start_stated words t) (start_stated words (t + 1)) n) refl

-- where the bits of a list begin and end
pub record LieBetween (words : List ℕ) (t : ℕ) : Type 0 where
  pub ordered : start_stated words t ≤ start_stated words (t + 1)
  pub few : start_stated words (t + 1) ≤ packed_bits words
  pub within : first_list_bit + start_stated words (t + 1) ≤ 64 * length words

pub lie-between : ValuesStandAt → (words : List ℕ) → PassesPacked words → (t : ℕ) → t < packed_terms words → LieBetween words t
lie-between values words passes t lt =
    let here = start-lies values words passes.starts t (omega (arith, lt)) in
    let there = start-lies values words passes.starts (t + 1) (omega (arith, lt)) in
    let rises = next-lies values words passes.starts t lt in
    record {
      ordered = omega (arith, here.at_least, rises);
      few = omega (arith, there.at_least, there.at_most);
      within = omega (arith, there.at_least, there.at_most, lists-within words passes.frame);
    }
