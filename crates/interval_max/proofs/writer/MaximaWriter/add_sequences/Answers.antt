use Rattle.std.proofs.Common.{◌≡◌, refl, sym, ap, ◌∙◌, subst, Bool, ℕ, ◌+◌, ◌*◌, ◌/◌, ◌<◌, ◌≤◌, ◌++◌, max, List, take, drop, length, get_or, arith}
use Rattle.std.specs.Int.{div_ceil}
use Rattle.std.specs.List.{All}
use Rattle.collection_model.specs.Collection.{Posting, docs_of}
use Rattle.collection_model.specs.Sequences.{postings_in}
use Rattle.interval_max.specs.Bytes.{byte_in, rounded_up, step_of}
use Rattle.interval_max.specs.Intervals.{greatest_in}
use Rattle.interval_max.specs.Kept.{AreMaximaIn, entry_words}
use Rattle.interval_max.specs.Peaks.{ArePeaksTo}
use Rattle.interval_max.specs.declared.peaks.Peak.{Peak}
use Rattle.interval_max.proofs.Kept.{added, still-whole}
use Rattle.interval_max.proofs.Sequences.{in-length, docs-in}
use Rattle.interval_max.proofs.Whole.{byte-fits, given-peaks, peak-le, whole-peaks}
use Rattle.interval_max.proofs.writer.MaximaWriter.add_sequences.Goals as goal
use Rattle.interval_max.proofs.writer.MaximaWriter.add_sequences.Goals.{then-len-docs+in_ok-resize, else-len-docs}
use Rattle.collection_model.proofs.Lists.{docs_of-length}

pub put_bytes-requires-clause-within : goal.put_bytes-requires-clause-within
put_bytes-requires-clause-within c =
    let docs : List ℕ = c.args.docs.now in
    let list : List Posting = postings_in docs c.args.sums.now in
    let new : List Peak = c.sequence_peaks-count.new.peaks in
    let shown : List Peak = take c.sequence_peaks-count.result c.deref.result.now in
    let long : length list ≡ length docs = in-length docs c.args.sums.now c.requires.each in
    let all : length new ≡ c.if-len-docs.self.peaks.len = omega (arith, c.sequence_peaks-count.ensures.room, c.deref_mut.ensures.len) in
    let are : ArePeaksTo list (length list) shown = given-peaks list (length docs) c.sequence_peaks-count.result c.if-len-docs.self.peaks.len new (drop (length new) c.if-len-docs.self.peaks.items) c.deref.result.now long c.deref.ensures.value all c.sequence_peaks-count.ensures.peaks in
    let below : All (λ d. d < c.args.n) (docs_of list) = subst (All (λ d. d < c.args.n)) (sym (docs-in docs c.args.sums.now c.requires.each)) c.requires.below in
    let low : (k : ℕ) → k < length list → get_or (docs_of list) k 0 ≤ c.args.n = λ k lt. let h = below k 0 (omega (arith, lt, docs_of-length list)) in omega (arith, h) in
    λ k d within. let h = are.before c.args.n low k d within in omega (arith, h)

pub put_bytes-requires-clause-bytes : goal.put_bytes-requires-clause-bytes
put_bytes-requires-clause-bytes c =
    let docs : List ℕ = c.args.docs.now in
    let list : List Posting = postings_in docs c.args.sums.now in
    let new : List Peak = c.sequence_peaks-count.new.peaks in
    let shown : List Peak = take c.sequence_peaks-count.result c.deref.result.now in
    let long : length list ≡ length docs = in-length docs c.args.sums.now c.requires.each in
    let all : length new ≡ c.if-len-docs.self.peaks.len = omega (arith, c.sequence_peaks-count.ensures.room, c.deref_mut.ensures.len) in
    let are : ArePeaksTo list (length list) shown = given-peaks list (length docs) c.sequence_peaks-count.result c.if-len-docs.self.peaks.len new (drop (length new) c.if-len-docs.self.peaks.items) c.deref.result.now long c.deref.ensures.value all c.sequence_peaks-count.ensures.peaks in
    let step : c.max-step.result ≡ step_of list = c.max-step.ensures ∙ ap (λ (n : ℕ). max n 1) (c.div_ceil.ensures ∙ ap (λ (n : ℕ). div_ceil n 255) c.requires.greatest) in
    λ k d within.
    subst (λ (s : ℕ). div_ceil (get_or shown k d).greatest s ≤ 255) (sym step) (byte-fits list (get_or shown k d).greatest (peak-le list shown are k d within))

pub returns : goal.returns
returns c = record {
  added = λ has lists holds with_it is.
      let docs : List ℕ = c.args.docs.now in
      let list : List Posting = postings_in docs c.args.sums.now in
      let new : List Peak = c.sequence_peaks-count.new.peaks in
      let shown : List Peak = take c.sequence_peaks-count.result c.deref.result.now in
      let long : length list ≡ length docs = in-length docs c.args.sums.now c.requires.each in
      let all : length new ≡ c.if-len-docs.self.peaks.len = omega (arith, c.sequence_peaks-count.ensures.room, c.deref_mut.ensures.len) in
      let are : ArePeaksTo list (length list) shown = given-peaks list (length docs) c.sequence_peaks-count.result c.if-len-docs.self.peaks.len new (drop (length new) c.if-len-docs.self.peaks.items) c.deref.result.now long c.deref.ensures.value all c.sequence_peaks-count.ensures.peaks in
      let step : c.max-step.result ≡ step_of list = c.max-step.ensures ∙ ap (λ (n : ℕ). max n 1) (c.div_ceil.ensures ∙ ap (λ (n : ℕ). div_ceil n 255) c.requires.greatest) in
      let term : ℕ = c.args.term in
      let front : List ℕ = c.args.self.now.bytes.items in
      let part : List ℕ = c.put_bytes.new.bytes.items in
      let words : List ℕ = c.args.self.now.words.items in
      let b : Bool = c.in_ok-is_each.is_each in
      let small : c.max-step.result ≤ 16843009 = omega (arith, c.max-step.ensures, c.div_ceil.ensures, c.ranges.greatest.fits) in
      let byte : (v : ℕ) → byte_in b part v * c.max-step.result ≡ rounded_up list v = λ v.
      let here : byte_in b part v ≡ div_ceil (greatest_in list v) (step_of list) = c.in_ok-is_each.ensures v ∙ ap (λ (n : ℕ). div_ceil n c.max-step.result) (whole-peaks list shown are v) ∙ ap (div_ceil (greatest_in list v)) step in
      ap (λ (n : ℕ). n * c.max-step.result) here ∙ ap (λ (n : ℕ). div_ceil (greatest_in list v) (step_of list) * n) step in
      let theirs : (v : ℕ) → byte_in b part v * c.max-step.result ≡ rounded_up (lists term) v = λ v. byte v ∙ ap (λ (l : List Posting). rounded_up l v) (sym is) in
      let step_is : c.max-step.result ≡ step_of (lists term) = step ∙ ap step_of (sym is) in
      let now : List ℕ = c.push_part.new.self.words.items in
      let old_words : c.if-len-docs.self.words.items ≡ words = elim c.if-len-docs.branch [ then-len-docs+in_ok-resize w ↦ rw (w.self-is) refl | else-len-docs w ↦ rw (w.self-is) refl ] in
      let old_bytes : c.if-len-docs.self.bytes.items ≡ front = elim c.if-len-docs.branch [ then-len-docs+in_ok-resize w ↦ rw (w.self-is) refl | else-len-docs w ↦ rw (w.self-is) refl ] in
      let count : ℕ = c.sequence_peaks-count.result in
      let words_are : now ≡ words ++ entry_words term b c.max-step.result (length front) (length front + length part) count =
      c.in_ok-push_part.ensures.words ∙ ap (λ (ws : List ℕ). ws ++ entry_words term b c.max-step.result (length c.if-len-docs.self.bytes.items) (length c.if-len-docs.self.bytes.items + length part) count) old_words
      ∙ ap (λ (bs : List ℕ). words ++ entry_words term b c.max-step.result (length bs) (length bs + length part) count) old_bytes in
      let bytes_are : c.push_part.new.self.bytes.items ≡ front ++ part = c.in_ok-push_part.ensures.bytes ∙ ap (λ (bs : List ℕ). bs ++ part) old_bytes in
      record {
        whole = subst (λ (ws : List ℕ). length ws ≡ 4 * (length ws / 4)) (sym words_are) (still-whole has lists term c.max-step.result count b front part words holds.whole holds.maxima with_it small step_is theirs);
        maxima = subst (λ (bs : List ℕ). AreMaximaIn has lists (term + 1) (length now / 4) (λ k. get_or now k 0) bs) (sym bytes_are)
            (subst (λ (ws : List ℕ). AreMaximaIn has lists (term + 1) (length ws / 4) (λ k. get_or ws k 0) (front ++ part)) (sym words_are)
            (added has lists term c.max-step.result count b front part words holds.whole holds.maxima with_it small step_is theirs));
      };
}
