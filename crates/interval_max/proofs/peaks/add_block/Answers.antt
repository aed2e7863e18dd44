use Rattle.std.proofs.Common.{◌≡◌, refl, ◌∙◌, ap, ℕ, ◌+◌, ◌<◌, sym, subst, List, [], ◌∷◌, ◌++◌, length, take, get_or, set, arith}
use Rattle.std.proofs.lemmas.List.{append_assoc, append-nil, length-set, take_more_set}
use Rattle.interval_max.specs.Peaks.{ArePeaksTo}
use Rattle.interval_max.specs.declared.peaks.Peak.{Peak}
use Rattle.interval_max.proofs.Steps.{last-followed, last-raised}
use Rattle.interval_max.proofs.peaks.add_block.Goals as goal
use Rattle.interval_max.proofs.peaks.add_block.Goals.{then-interval-last, else-interval-last}

pub loop-j-init : goal.loop-j-init
loop-j-init c = record {
  few = omega arith;
  room = refl;
  peaks = λ list from postings so_far.
      let e : from ≡ from + 0 = omega arith in
      let peaks : List Peak = c.pop_peak-last.new.peaks.items in
      subst (λ (ps : List Peak). ArePeaksTo list (from + 0) (ps ++ c.pop_peak-last.result ∷ [])) (sym (append-nil peaks))
      (subst (λ (n : ℕ). ArePeaksTo list n (peaks ++ c.pop_peak-last.result ∷ [])) e (c.pop_peak-last.ensures list from so_far));
}

pub loop-j-preserved : goal.loop-j-preserved
loop-j-preserved c =
    let j : ℕ = c.loop-j.j in
    let so_far = c.loop-j.invariant in
    let inside : j < length c.args.docs.now = omega (arith, c.loop-j-test.true, c.loop-j.auto.j-end) in
    let found : List Peak = c.loop-j.found in
    let count : ℕ = c.loop-j.count in
    let last : Peak = c.loop-j.last in
    let room : count < length found = omega (arith, so_far.few, so_far.room, inside, c.requires.few) in
    let peaks : List Peak = c.pop_peak-last.new.peaks.items in
    let before : List Peak = peaks ++ take count found in
    let now = c.if-interval-last in
    record {
      few = elim now.branch [ then-interval-last w ↦ rw (w.count-is) (omega (arith, so_far.few)) | else-interval-last w ↦ rw (w.count-is) (omega (arith, so_far.few)) ];
      room = elim now.branch [ then-interval-last w ↦ rw (w.found-is) so_far.room | else-interval-last w ↦ rw (w.found-is) (length-set found count last ∙ so_far.room) ];
      peaks = λ list from postings old_peaks.
          let e : from + j + 1 ≡ from + (j + 1) = omega arith in
          let within : from + j < length list = omega (arith, postings.within, inside) in
          let doc : ℕ = get_or c.args.docs.now j 0 in
          let freq : ℕ = get_or c.args.freqs.now j 0 in
          let old = so_far.peaks list from postings old_peaks in
          let longer : peaks ++ take (count + 1) (set found count last) ≡ before ++ last ∷ [] =
          ap (λ (ps : List Peak). peaks ++ ps) (take_more_set found count last room) ∙ sym (append_assoc peaks (take count found) (last ∷ [])) in
          subst (λ (n : ℕ). ArePeaksTo list n (peaks ++ take now.count now.found ++ now.last ∷ [])) e
          (elim now.branch [
            | then-interval-last w ↦
                rw (w.count-is, w.found-is, w.last-is) (last-raised list (from + j) doc freq before last postings.good within (postings.docs_are j inside) (postings.freqs_are j inside) old w.max-greatest.result w.if-interval-last.true w.max-greatest.ensures)
            | else-interval-last w ↦
                rw (w.count-is, w.found-is, w.last-is, longer) (last-followed list (from + j) doc freq before last postings.good within (postings.docs_are j inside) (postings.freqs_are j inside) old w.if-interval-last.false)
          ]);
    }

pub returns : goal.returns
returns c = λ list from postings so_far.
    let e : from + c.loop-j.j ≡ from + length c.args.docs.now = omega (arith, c.loop-j-test.false, c.loop-j.auto.j-end) in
    subst (λ (ps : List Peak). ArePeaksTo list (from + length c.args.docs.now) ps) (sym c.in_ok-push.ensures.items)
    (subst (λ (ps : List Peak). ArePeaksTo list (from + length c.args.docs.now) (ps ++ c.loop-j.last ∷ [])) (sym c.in_ok-extend_from_slice.ensures.items)
    (subst (λ (n : ℕ). ArePeaksTo list n (c.pop_peak-last.new.peaks.items ++ take c.loop-j.count c.loop-j.found ++ c.loop-j.last ∷ [])) e (c.loop-j.invariant.peaks list from postings so_far)))
