use Rattle.std.proofs.Common.{◌≡◌, sym, ap, subst, ◌∙◌, ℕ, ◌≤◌, min, leb, length, List, take, arith}
use Rattle.std.specs.List.{count_by, reduce}
use Rattle.std.specs.Option.{unwrap_or}
use Rattle.std.proofs.lemmas.List.{get_or-take, length-take-le}
use Rattle.std.proofs.lemmas.Iterator.{YieldsList-from_slice}
use Rattle.std.proofs.lemmas.Iterator.Consumers.{min_from_yields_List}
use Rattle.collection_model.proofs.Lists.{freqs-of_postings}
use Rattle.cursor_api.proofs.Frequencies.{least-reduce, first-count}
use Rattle.cursor_api.proofs.plain.PlainCursorDocCursor.common_freq.Goals as goal

pub returns-then-count-self : goal.returns-then-count-self
returns-then-count-self c = λ some.
    let s = c.args.self.now in
    let freqs : List ℕ = s.freqs.now in
    let k : ℕ = c.args.k in
    let within : k ≤ length freqs = c.if-count-self.true in
    let first : List ℕ = take k freqs in
    let picked = min_from_yields_List {v = λ x. x.now} c.iter.result c.min.result c.min.ensures.ran (YieldsList-from_slice first c.iter.ensures.rest) in
    let least : c.unwrap_or.result ≡ unwrap_or (reduce min first) 0 = c.unwrap_or.ensures ∙ ap (λ o. unwrap_or o 0) (c.copied.ensures ∙ picked) in
    let count : k ≤ count_by (λ x. leb c.unwrap_or.result x) freqs =
    first-count c.unwrap_or.result k freqs within (λ j lt. omega (arith, least, least-reduce first j (omega (arith, length-take-le k freqs within)), get_or-take k freqs j 0 lt)) in
    subst (λ (xs : List ℕ). k ≤ count_by (λ x. leb c.unwrap_or.result x) xs) (sym (freqs-of_postings s.docs.now freqs s.same_length)) count
