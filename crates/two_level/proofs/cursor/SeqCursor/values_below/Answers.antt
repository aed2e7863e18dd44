use Rattle.std.proofs.Common.{◌≡◌, ℕ, ◌≤◌, ◌+◌, ◌-◌, List, length, drop, refl, ap, ◌∙◌, subst, arith}
use Rattle.std.proofs.lemmas.List.{length-drop, length-take-le}
use Rattle.std.proofs.lemmas.Slice.{take-put_mid}
use Rattle.part_cost.specs.Formats.{numbers_of}
use Rattle.collection_model.proofs.NextBelow.{AreGiven, given-none}
use Rattle.two_level.proofs.ValuesGiven.{given-behind, of-part}
use Rattle.part_directory.proofs.HeldParts.{lies-within}
use Rattle.part_directory.proofs.Standing.{lies-there}
use Rattle.part_directory.specs.DirectorySequence.{words_of}
use Rattle.two_level.proofs.cursor.SeqCursor.values_below.Goals as goal

pub overflow_sub-self-inside : goal.overflow_sub-self-inside
overflow_sub-self-inside c =
    let s = c.self.inside in
    let d = s.directory in
    let there = lies-there (numbers_of d.format) (words_of d) d.parts s.counted s.held s.known s.value c.self.invariant.0 c.self.invariant.1 in
    let within = lies-within (numbers_of d.format) (words_of d) d.parts _ s.held s.value there in
    let fit : c.count_place-place.new.self.place ≤ d.m = subst (λ p. p.place ≤ d.m) c.self.view_is (omega (arith, within, d.count)) in
    omega (arith, fit, c.count_place-place.ensures.place, ap (λ p. p.place) c.count_place-place.ensures.same)

pub given-init : goal.given-init
given-init c =
    let s = c.self.inside in
    let d = s.directory in
    let there = lies-there (numbers_of d.format) (words_of d) d.parts s.counted s.held s.known s.value c.self.invariant.0 c.self.invariant.1 in
    let within = subst (λ p. p.place ≤ length p.sequence.values) c.self.view_is (lies-within (numbers_of d.format) (words_of d) d.parts _ s.held s.value there) in
    let count = subst (λ p. d.m ≡ length p.sequence.values) c.self.view_is d.count in
    record {
      sequence = refl;
      place = omega arith;
      within = within;
      most = omega (arith, within, count, c.min-most.ensures, c.count_place-place.ensures.place, ap (λ p. p.place) c.count_place-place.ensures.same);
      room = omega arith;
      given = given-none c.count_place-place.new.self.sequence.values c.count_place-place.new.self.place c.args.x c.args.to.now;
    }

pub given-preserved : goal.given-preserved
given-preserved c =
    let before = c.given.invariant in
    let passed = c.pass_below-count.ensures in
    let given : List ℕ = c.given.to in
    let rest : List ℕ = c.pass_below-count.new.to in
    let count : ℕ = c.given.count in
    let n : ℕ = c.pass_below-count.result in
    let xs : List ℕ = c.count_place-place.new.self.sequence.values in
    let from : ℕ = c.count_place-place.new.self.place in
    let same : c.given.self.sequence.values ≡ xs = ap (λ q. q.values) before.sequence in
    let fit : c.given.self.place + n ≤ length xs = subst (λ ys. c.given.self.place + n ≤ length ys) same passed.within in
    let room : length rest ≡ length given - count = omega (arith, passed.room, length-take-le (length given - count) (drop count given) (omega (arith, length-drop count given))) in
    let more : AreGiven xs (from + count) c.args.x rest n =
    subst (λ p. AreGiven xs p c.args.x rest n) before.place
    (subst (λ ys. AreGiven ys c.given.self.place c.args.x rest n) same (of-part c.given.self.sequence.values rest (c.given.self.place + n) c.given.self.place c.args.x n passed.within passed.values)) in
    record {
      sequence = passed.sequence ∙ before.sequence;
      place = omega (arith, passed.place, before.place);
      within = omega (arith, passed.place, fit);
      most = before.most;
      room = omega (arith, c.given.auto.to, room, passed.values.room, before.room);
      given =
          given-behind xs given rest _ from c.args.x count n before.room passed.values.room before.given more
          (take-put_mid count (length given - count) given rest (count + length rest) (let e : count + length rest ≡ count + length rest = omega arith in e) before.room);
    }
