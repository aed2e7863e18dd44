use Rattle.std.proofs.Common.{◌≡◌, ℕ, ◌+◌, ◌-◌, ◌≤◌, List, length, refl, sym, subst, arith}
use Rattle.bit_words.specs.Bits.{bits_of}
use Rattle.part_cost.specs.Formats.{numbers_of}
use Rattle.part_cost.specs.Stored.{HoldsPart}
use Rattle.part_codec.specs.PartBits.{part_bits}
use Rattle.sequence_words.specs.SequenceParts.{counted_from, Restores}
use Rattle.part_directory.specs.DirectorySequence.{words_of, sequence_of}
use Rattle.part_directory.proofs.Begun.{is-alone, held-alone, held-one, restored-one, held-counted}
use Rattle.sequence_words.proofs.StatedParts.{restored-here}
use Rattle.part_directory.proofs.directory.Directory.part_alone.Goals.{then-self-eq1, else-self-eq1}
use Rattle.part_directory.proofs.directory.Directory.part_alone.Goals as goal

pub overflow_add-u : goal.overflow_add-u
overflow_add-u c =
    let k = is-alone c.args.self.now c.args.alone.now c.requires.alone in
    omega (arith, k.last, k.part.small, (c.formats_have_room.ensures c.args.self.now.format).sums)

pub at-requires : goal.at-requires
at-requires c =
    let k = is-alone c.args.self.now c.args.alone.now c.requires.alone in
    let room = (c.formats_have_room.ensures c.args.self.now.format).sums in
    let fits : (c.args.self.now.m ≤ c.if-self-eq1.counted) × (c.if-self-eq1.counted ≤ c.args.alone.now.last + 1) =
    elim c.if-self-eq1.branch [
      | then-self-eq1 w ↦ (omega (arith, w.counted-is, w.if-self-eq1.true), omega (arith, w.counted-is))
      | else-self-eq1 w ↦ (omega (arith, w.counted-is, k.part.room, k.ends, k.last), omega (arith, w.counted-is))
    ] in
    record {
      some = k.many;
      fit = fits.0;
      in_range = omega (arith, fits.1, k.last, k.part.small, room);
      words = c.args.self.now.lent;
      place = k.place;
    }

pub returns : goal.returns
returns c =
    let d = c.args.self.now in
    let a = c.args.alone.now in
    let format = numbers_of d.format in
    let words : List ℕ = words_of d in
    let xs : List ℕ = (sequence_of d).values in
    let k = is-alone d a c.requires.alone in
    let placed = c.at.result in
    let there : List ℕ = bits_of placed.bits.words.now in
    let first : ℕ = a.last + 1 - placed.u in
    let fit : d.m ≤ length xs = omega (arith, k.part.within, k.ends) in
    let facts : (placed.u ≤ a.last + 1) × (2 ≤ placed.m → placed.u ≡ a.last + 1) × HoldsPart part_bits there placed.place placed.u placed.m (counted_from first xs 0 d.m) × Restores xs 0 d.m first =
    elim c.if-self-eq1.branch [
      | then-self-eq1 w ↦
          let one : 0 + 1 ≡ d.m = omega (arith, w.if-self-eq1.true) in
          let u_is : 1 ≡ placed.u = omega (arith, c.at.ensures.u, w.counted-is) in
          let m_is : 1 ≡ placed.m = omega (arith, c.at.ensures.m, one) in
          let own : a.last ≡ first = omega (arith, u_is) in (
            omega (arith, u_is),
            (λ many. absurd (omega (arith, many, m_is))),
            subst (λ f. HoldsPart part_bits there placed.place placed.u placed.m (counted_from f xs 0 d.m)) own
                (subst (λ m. HoldsPart part_bits there placed.place placed.u m (counted_from a.last xs 0 d.m)) m_is
                (subst (λ u. HoldsPart part_bits there placed.place u 1 (counted_from a.last xs 0 d.m)) u_is (held-one there placed.place xs 0 d.m a.last one fit k.reach))),
            subst (Restores xs 0 d.m) own (restored-one xs 0 d.m a.last one fit k.reach),
          )
      | else-self-eq1 w ↦
          let many : 2 ≤ d.m = omega (arith, w.if-self-eq1.false, k.many) in
          let u_is : a.last + 1 ≡ placed.u = omega (arith, c.at.ensures.u, w.counted-is) in
          let none : 0 ≡ first = omega (arith, u_is) in (
            omega (arith, u_is),
            (λ _. sym u_is),
            held-counted d.words.now placed.bits.words.now a.place placed.place (a.last + 1) placed.u d.m placed.m xs 0 d.m first
                (sym c.at.ensures.bits) (sym c.at.ensures.place) u_is (sym c.at.ensures.m) none (held-alone format d.words.now d.m d.parts d.alone a c.requires.alone (d.stands a c.requires.alone) many),
            restored-here format words xs d.parts 0 0 first d.m k.part refl (sym none) (sym k.ends),
          )
    ] in
    record {
      from = refl;
      to = sym k.ends;
      last = sym k.last;
      u = omega (arith, k.last);
      before = facts.0;
      whole = facts.1;
      count = omega (arith, c.at.ensures.m);
      held = facts.2;
      restored = facts.3;
    }
