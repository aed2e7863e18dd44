use Rattle.std.proofs.Common.{◌≡◌, ◌<◌, ℕ, List, length, sym, ap, ◌∙◌, subst, arith}
use Rattle.collection_model.specs.Marks.{AreKept}
use Rattle.part_cost.specs.Formats.{numbers_of}
use Rattle.part_directory.specs.DirectorySequence.{words_of}
use Rattle.sequence_words.specs.SequenceView.{sequence_stated, start_of_part}
use Rattle.sequence_words.proofs.StatedParts.{stated-ends, stated-start, count-ends}
use Rattle.part_directory.specs.HeldParts.{LiesIn, StandsBehind}
use Rattle.part_directory.specs.KeptWords.{words_kept_by_part}
use Rattle.two_level.specs.KeptWords.{AreKeptAt}
use Rattle.part_directory.proofs.Standing.{place-at-end}
use Rattle.two_level.proofs.Fields.{values_in, lies-own}
use Rattle.two_level.proofs.cursor.SeqCursor.keep_in_words.Goals as goal

pub keep_in_words-requires : goal.keep_in_words-requires
keep_in_words-requires c =
    let s = c.self.inside in
    let d = s.directory in
    let lies = subst (λ h. LiesIn (numbers_of d.format) (words_of d) d.parts s.counted h s.known) c.in-Some.is c.self.invariant.0 in
    record { values = ((sequence_stated (numbers_of d.format) (words_of d) d.parts).values, lies.0.values) }

pub returns-in-Some-clause-kept : goal.returns-in-Some-clause-kept
returns-in-Some-clause-kept c =
    let s = c.self.inside in
    let d = s.directory in
    let lies = subst (λ h. LiesIn (numbers_of d.format) (words_of d) d.parts s.counted h s.known) c.in-Some.is c.self.invariant.0 in
    subst (λ p. AreKept p.sequence.values c.args.first c.args.marks.now c.keep_in_words.new.marks c.keep_in_words.result) c.self.view_is
    (c.keep_in_words.ensures.kept _ lies.0.values d.stated.rising)

pub returns-in-Some-clause-words : goal.returns-in-Some-clause-words
returns-in-Some-clause-words c within =
    let s = c.self.inside in
    let d = s.directory in
    let held = c.in-Some.held in
    let format = numbers_of d.format in
    let words = words_of d in
    let v = sequence_stated format words d.parts in
    let there = lies-own s held c.in-Some.is c.self.invariant.0 c.self.invariant.1 in
    let h = there.0 in
    let start = stated-start format words d.parts held.index h.within ∙ sym h.from in
    let end = stated-ends format words d.parts held.index h.within ∙ sym h.to in
    let most = length c.args.marks.now in
    subst (λ p. AreKeptAt p c.args.first most c.keep_in_words.result) c.self.view_is
    (record {
      part = held.index;
      within = omega (arith, h.within, count-ends format words d.parts);
      from = omega (arith, start, there.1);
      to = omega (arith, end, there.2);
      count =
          c.keep_in_words.ensures.words v.values h.values
          ∙ ap (λ (i : ℕ). words_kept_by_part v.values i held.part.to c.args.first most) (sym start)
          ∙ ap (λ (j : ℕ). words_kept_by_part v.values (start_of_part v.ends held.index) j c.args.first most) (sym end);
    })

pub returns-in-Some-clause-end : goal.returns-in-Some-clause-end
returns-in-Some-clause-end c end =
    let s = c.self.inside in
    let there = lies-own s c.in-Some.held c.in-Some.is c.self.invariant.0 c.self.invariant.1 in
    let within = subst (λ p. p.place < length p.sequence.values) c.self.view_is (omega (arith, there.2, there.0.values.within)) in
    absurd (omega (arith, within, end))

pub returns-in-None-clause-words : goal.returns-in-None-clause-words
returns-in-None-clause-words c within =
    let s = c.self.inside in
    let xs : List ℕ = values_in s in
    let stands = subst (λ h. StandsBehind h xs s.counted s.value) c.in-None.is c.self.invariant.1 in
    let at = place-at-end xs s.counted s.value stands in
    let inside = subst (λ p. p.place < length p.sequence.values) (sym c.self.view_is) within in
    absurd (omega (arith, stands, at, inside))
