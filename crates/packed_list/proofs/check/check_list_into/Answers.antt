use Rattle.std.proofs.Common.{◌≡◌, ℕ, ◌+◌, ◌≤◌, List, length, refl, subst, arith}
use Rattle.bit_words.specs.Bits.{bits_of}
use Rattle.bit_words.proofs.Value.{length-bits_of}
use Rattle.collection_model.specs.FormatNumbers.{format_three}
use Rattle.collection_model.specs.Collection.{Posting, list_of, greatest_freq}
use Rattle.packed_list.specs.Gamma.{gamma_length, IsGammaBefore}
use Rattle.packed_list.specs.ListPlaces.{HoldsList, HoldsTail, IsTailBetween}
use Rattle.packed_list.proofs.ListPlaces.{facts-between, few-between, are-read, tail-behind, list-joined, empty-stands}
use Rattle.packed_list.proofs.check.check_list_into.Goals as goal

-- a list stands where its head was read and the rest stands behind it
joined : (n : ℕ) (bits : List ℕ) (from to m behind g last : ℕ) → n ≤ format_three.most_documents → to ≤ length bits → IsGammaBefore bits from to m → behind ≡ from + gamma_length m → IsGammaBefore bits behind to g
    → last ≡ behind + gamma_length g → HoldsTail n m g bits last to → HoldsList n bits from to
joined n bits from to m behind g last small fit count is most there h =
    let place : last ≡ from + gamma_length m + gamma_length g = omega (arith, is, there) in
    (h.0, h.1, h.2, list-joined n bits from to m g h.0 h.1 h.2 small fit count (subst (λ p. IsGammaBefore bits p to g) is most) (subst (λ p. IsTailBetween n m g bits p to h.0 h.1 h.2) place h.3))

pub returns-then-from-to-clause-list : goal.returns-then-from-to-clause-list
returns-then-from-to-clause-list g c =
    (λ t. subst (λ p. HoldsList c.args.documents (bits_of c.args.words.now) c.args.from p) c.if-from-to.true (empty-stands c.args.documents (bits_of c.args.words.now) c.args.from), λ h. refl)

-- a list that takes no bits has no postings
pub returns-then-from-to-clause-took : goal.returns-then-from-to-clause-took
returns-then-from-to-clause-took g c = λ t col ends cuts took n stands.
    g.met.L.ListSink.passes c.args.lists.now col c.args.term took
    (few-between c.args.documents (bits_of c.args.words.now) c.args.from c.args.to (list_of col c.args.term) ends cuts (omega (arith, c.ranges.documents.fits)) c.if-from-to.true (omega (arith, c.requires.range, length-bits_of c.args.words.now)) stands)

pub returns-in_default-clause-list : goal.returns-in_default-clause-list
returns-in_default-clause-list g c = (
  λ t. cc,
  λ h. (let f = facts-between c.args.documents c.args.words.now c.args.from c.args.to (omega (arith, c.ranges.documents.fits)) c.if-from-to.false c.requires.ordered c.requires.range h in
      absurd (c.in_default.ensures.none (length h.0) (greatest_freq h.0) (record { first = f.count; second = f.most }))),
)

pub returns-clause-list : goal.returns-clause-list
returns-clause-list g c =
    let n : ℕ = c.args.documents in
    let bits : List ℕ = bits_of c.args.words.now in
    let fit : c.args.to ≤ length bits = omega (arith, c.requires.range, length-bits_of c.args.words.now) in
    let small : n ≤ 4294967295 = omega (arith, c.ranges.documents.fits) in
    let m : ℕ = c.in-Some.head.first in
    let most : ℕ = c.in-Some.head.second in
    let last : ℕ = c.in-Some.head.behind in
    let behind : ℕ = c.args.from + gamma_length m in
    let read = c.in-Some.ensures.numbers in (
      λ t. joined n bits c.args.from c.args.to m behind most last small fit read.first refl read.second c.in-Some.ensures.behind (c.check_tail.ensures.tail.0 t),
      λ h. (let f = facts-between n c.args.words.now c.args.from c.args.to small c.if-from-to.false c.requires.ordered c.requires.range h in
          let are = are-read n bits c.args.from c.args.to m behind most h.0 h.1 h.2 fit read.first refl read.second f in
          c.check_tail.ensures.tail.1 (h.0, h.1, h.2, tail-behind n bits c.args.from c.args.to m behind most last h.0 h.1 h.2 refl c.in-Some.ensures.behind are f)),
    )

pub returns-clause-took : goal.returns-clause-took
returns-clause-took g c = λ t col ends cuts took same stands.
    let n : ℕ = c.args.documents in
    let bits : List ℕ = bits_of c.args.words.now in
    let list : List Posting = list_of col c.args.term in
    let fit : c.args.to ≤ length bits = omega (arith, c.requires.range, length-bits_of c.args.words.now) in
    let small : n ≤ 4294967295 = omega (arith, c.ranges.documents.fits) in
    let m : ℕ = c.in-Some.head.first in
    let most : ℕ = c.in-Some.head.second in
    let last : ℕ = c.in-Some.head.behind in
    let behind : ℕ = c.args.from + gamma_length m in
    let read = c.in-Some.ensures.numbers in
    let f = facts-between n c.args.words.now c.args.from c.args.to small c.if-from-to.false c.requires.ordered c.requires.range (list, ends, cuts, stands) in
    let are = are-read n bits c.args.from c.args.to m behind most list ends cuts fit read.first refl read.second f in
    c.check_tail.ensures.took t col ends cuts took same (tail-behind n bits c.args.from c.args.to m behind most last list ends cuts refl c.in-Some.ensures.behind are f)
