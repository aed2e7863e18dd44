use Rattle.std.proofs.Common.{◌≡◌, refl, ◌∙◌, ap, ℕ, ◌+◌, ◌-◌, ◌<◌, List, [], ◌∷◌, ◌++◌, length, take, get_or, set, arith}
use Rattle.std.proofs.lemmas.List.{length-set, take_more_set}
use Rattle.collection_model.specs.Collection.{Posting, docs_of, freqs_of}
use Rattle.collection_model.specs.Sequences.{postings_in}
use Rattle.interval_max.specs.declared.peaks.Peak.{Peak}
use Rattle.interval_max.proofs.Sequences.{doc-fits, doc-in, freq-fits, freq-in, in-length, past-le, past-more, sum-fits}
use Rattle.interval_max.proofs.Steps.{last-followed, last-raised, peak-of_nothing, peaks-none}
use Rattle.interval_max.proofs.peaks.sequence_peaks.Goals as goal
use Rattle.interval_max.proofs.peaks.sequence_peaks.Goals.{then-interval-last, else-interval-last}

pub loop-j-init : goal.loop-j-init
loop-j-init c = record {
  few = omega arith;
  room = refl;
  past_is = refl;
  peaks = peak-of_nothing (postings_in c.args.docs.now c.args.sums.now) 0 (peaks-none (postings_in c.args.docs.now c.args.sums.now));
}

pub overflow_cast-interval : goal.overflow_cast-interval
overflow_cast-interval c = let h = doc-fits c.args.docs.now c.args.sums.now c.requires.each c.requires.list c.loop-j.j (omega (arith, c.loop-j-test.true, c.loop-j.auto.j-end)) in omega (arith, h)

pub overflow_add-freq : goal.overflow_add-freq
overflow_add-freq c = let h = sum-fits c.args.docs.now c.args.sums.now c.requires.each c.requires.list c.loop-j.j (omega (arith, c.loop-j-test.true, c.loop-j.auto.j-end)) in omega (arith, h)

pub overflow_sub-freq : goal.overflow_sub-freq
overflow_sub-freq c = let h = past-le c.args.docs.now c.args.sums.now c.requires.each c.requires.list c.loop-j.j (omega (arith, c.loop-j-test.true, c.loop-j.auto.j-end)) in omega (arith, h, c.loop-j.invariant.past_is)

pub overflow_cast-freq : goal.overflow_cast-freq
overflow_cast-freq c = let h = freq-fits c.args.docs.now c.args.sums.now c.requires.each c.requires.list c.loop-j.j (omega (arith, c.loop-j-test.true, c.loop-j.auto.j-end)) in omega (arith, h, c.loop-j.invariant.past_is)

pub overflow_add-past : goal.overflow_add-past
overflow_add-past c = let h = sum-fits c.args.docs.now c.args.sums.now c.requires.each c.requires.list c.loop-j.j (omega (arith, c.loop-j-test.true, c.loop-j.auto.j-end)) in omega (arith, h)

pub loop-j-preserved : goal.loop-j-preserved
loop-j-preserved c =
    let docs : List ℕ = c.args.docs.now in
    let sums : List ℕ = c.args.sums.now in
    let list : List Posting = postings_in docs sums in
    let j : ℕ = c.loop-j.j in
    let so_far = c.loop-j.invariant in
    let each = c.requires.each in
    let good = c.requires.list in
    let inside : j < length docs = omega (arith, c.loop-j-test.true, c.loop-j.auto.j-end) in
    let peaks : List Peak = c.loop-j.peaks in
    let count : ℕ = c.loop-j.count in
    let last : Peak = c.loop-j.last in
    let room : count < length peaks = omega (arith, so_far.few, so_far.room, inside, c.requires.room) in
    let before : List Peak = take count peaks in
    let now = c.if-interval-last in
    let within : j < length list = omega (arith, inside, in-length docs sums each) in
    let doc : ℕ = get_or docs j 0 in
    let freq : ℕ = get_or sums j 0 + 1 - c.loop-j.past in
    let freq_is : freq ≡ get_or (freqs_of list) j 0 = ap (λ (n : ℕ). get_or sums j 0 + 1 - n) so_far.past_is ∙ freq-in docs sums each good j inside in
    let doc_is : doc ≡ get_or (docs_of list) j 0 = doc-in docs sums each good j inside in
    let longer : take (count + 1) (set peaks count last) ≡ before ++ last ∷ [] = take_more_set peaks count last room in
    record {
      few = elim now.branch [ then-interval-last w ↦ rw (w.count-is) (omega (arith, so_far.few)) | else-interval-last w ↦ rw (w.count-is) (omega (arith, so_far.few)) ];
      room = elim now.branch [ then-interval-last w ↦ rw (w.peaks-is) so_far.room | else-interval-last w ↦ rw (w.peaks-is) (length-set peaks count last ∙ so_far.room) ];
      past_is = past-more docs sums each good j inside;
      peaks = elim now.branch [
        | then-interval-last w ↦
            rw (w.count-is, w.peaks-is, w.last-is) (last-raised list j doc freq before last good within doc_is freq_is so_far.peaks w.max-greatest.result w.if-interval-last.true w.max-greatest.ensures)
        | else-interval-last w ↦
            rw (w.count-is, w.peaks-is, w.last-is, longer) (last-followed list j doc freq before last good within doc_is freq_is so_far.peaks w.if-interval-last.false)
      ];
    }
