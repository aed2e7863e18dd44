use Rattle.std.proofs.Common.{sym, ap, ◌∙◌, subst, ℕ, ◌*◌, ◌<◌, ◌≤◌, ◌+◌, ◌/◌, ◌≡◌, ◌++◌, max, Bool, List, length, get_or, arith}
use Rattle.std.specs.Int.{div_ceil}
use Rattle.collection_model.specs.Collection.{Posting, greatest_freq}
use Rattle.interval_max.specs.Bytes.{byte_in, rounded_up, step_of}
use Rattle.interval_max.specs.Intervals.{greatest_in}
use Rattle.interval_max.specs.Kept.{AreMaximaIn}
use Rattle.interval_max.specs.Peaks.{peak_at}
use Rattle.interval_max.specs.declared.peaks.Peak.{Peak}
use Rattle.interval_max.proofs.Kept.{added, still-whole}
use Rattle.interval_max.proofs.Whole.{byte-fits, peak-le, whole-peaks}
use Rattle.interval_max.proofs.writer.MaximaWriter.add.Goals as goal

pub put_bytes-requires-clause-bytes : goal.put_bytes-requires-clause-bytes
put_bytes-requires-clause-bytes g c =
    let list : List Posting = g.C.DocCursor.list c.args.cursor.now in
    let peaks : List Peak = c.take_peaks.new.peaks.items in
    let most : c.max_freq.result ≡ greatest_freq list = c.max_freq.ensures ∙ ap greatest_freq c.take_peaks.ensures.list in
    let step : c.max-step.result ≡ step_of list = c.max-step.ensures ∙ ap (λ (n : ℕ). max n 1) (c.div_ceil.ensures ∙ ap (λ (n : ℕ). div_ceil n 255) most) in
    let fits : (k : ℕ) (d : Peak) → k < length peaks → div_ceil (get_or peaks k d).greatest c.max-step.result ≤ 255 = λ k d within.
    subst (λ (s : ℕ). div_ceil (get_or peaks k d).greatest s ≤ 255) (sym step) (byte-fits list (get_or peaks k d).greatest (peak-le list peaks c.in_ok-take_peaks.ensures.peaks k d within)) in
    subst (λ (ps : List Peak). (k : ℕ) (d : Peak) → k < length ps → div_ceil (get_or ps k d).greatest c.max-step.result ≤ 255) (sym c.deref.ensures.value) fits

pub returns : goal.returns
returns g c = record {
  added = λ has list holds with_it is.
      let own : List Posting = g.C.DocCursor.list c.args.cursor.now in
      let term : ℕ = c.args.term in
      let peaks : List Peak = c.take_peaks.new.peaks.items in
      let front : List ℕ = c.args.self.now.bytes.items in
      let part : List ℕ = c.put_bytes.new.bytes.items in
      let words : List ℕ = c.args.self.now.words.items in
      let b : Bool = c.in_ok-is_each.is_each in
      let most : c.max_freq.result ≡ greatest_freq own = c.max_freq.ensures ∙ ap greatest_freq c.take_peaks.ensures.list in
      let step : c.max-step.result ≡ step_of own = c.max-step.ensures ∙ ap (λ (n : ℕ). max n 1) (c.div_ceil.ensures ∙ ap (λ (n : ℕ). div_ceil n 255) most) in
      let small : c.max-step.result ≤ 16843009 = omega (arith, c.max-step.ensures, c.div_ceil.ensures, c.max_freq.type_inv) in
      let byte : (v : ℕ) → byte_in b part v * c.max-step.result ≡ rounded_up own v = λ v.
      let told : peak_at c.deref.result.now v ≡ greatest_in own v = ap (λ (ps : List Peak). peak_at ps v) c.deref.ensures.value ∙ whole-peaks own peaks c.in_ok-take_peaks.ensures.peaks v in
      let here : byte_in b part v ≡ div_ceil (greatest_in own v) (step_of own) = c.in_ok-is_each.ensures v ∙ ap (λ (n : ℕ). div_ceil n c.max-step.result) told ∙ ap (div_ceil (greatest_in own v)) step in
      ap (λ (n : ℕ). n * c.max-step.result) here ∙ ap (λ (n : ℕ). div_ceil (greatest_in own v) (step_of own) * n) step in
      let theirs : (v : ℕ) → byte_in b part v * c.max-step.result ≡ rounded_up (list term) v = λ v. byte v ∙ ap (λ (l : List Posting). rounded_up l v) (sym is) in
      let step_is : c.max-step.result ≡ step_of (list term) = step ∙ ap step_of (sym is) in
      let now : List ℕ = c.push_part.new.self.words.items in
      record {
        whole = subst (λ (ws : List ℕ). length ws ≡ 4 * (length ws / 4)) (sym c.in_ok-push_part.ensures.words) (still-whole has list term c.max-step.result c.len-count.result b front part words holds.whole holds.maxima with_it small step_is theirs);
        maxima = subst (λ (bs : List ℕ). AreMaximaIn has list (term + 1) (length now / 4) (λ k. get_or now k 0) bs) (sym c.in_ok-push_part.ensures.bytes)
            (subst (λ (ws : List ℕ). AreMaximaIn has list (term + 1) (length ws / 4) (λ k. get_or ws k 0) (front ++ part)) (sym c.in_ok-push_part.ensures.words)
            (added has list term c.max-step.result c.len-count.result b front part words holds.whole holds.maxima with_it small step_is theirs));
      };
}
