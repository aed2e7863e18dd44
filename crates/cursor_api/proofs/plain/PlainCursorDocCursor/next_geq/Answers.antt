use Rattle.std.proofs.Common.{◌≡◌, ◌≤◌, ◌+◌, ◌-◌, sym, ap, subst, ◌∙◌, List, ℕ, length, drop, get_or, arith, length-drop}
use Rattle.std.specs.List.Sorted.{IsStrictlyIncreasing, IsNonDecreasingBy}
use Rattle.std.proofs.lemmas.List.{get_or-drop, take_rest}
use Rattle.collection_model.specs.Collection.{docs_of, postings_of}
use Rattle.collection_model.proofs.Lists.{docs-of_postings}
use Rattle.cursor_api.specs.NextGeq.{IsFirstFrom}
use Rattle.cursor_api.specs.Postings.{postings-length}
use Rattle.cursor_api.specs.Laws.{IsNextGeq}
use Rattle.cursor_api.proofs.Places.{next_geq-one, rising-from}
use Rattle.cursor_api.proofs.plain.PlainCursorDocCursor.next_geq.Goals as goal

-- the place that a search of the rest of the documents gives is the next place
is-next : (docs freqs : List ℕ) (at d r : ℕ) → length docs ≡ length freqs → at ≤ length docs → IsFirstFrom (drop at docs) d r → IsNextGeq (postings_of docs freqs) at d (at + r)
is-next docs freqs at d r same within first =
    let count : length (drop at docs) ≡ length docs - at = length-drop at docs in
    let bound : r ≤ length (drop at docs) = first.within in
    let docs-same : docs_of (postings_of docs freqs) ≡ docs = docs-of_postings docs freqs same in
    let read : (k j : ℕ) → at + j ≡ k → get_or (docs_of (postings_of docs freqs)) k 0 ≡ get_or (drop at docs) j 0 = λ k j e. ap (λ xs. get_or xs k 0) docs-same ∙ ap (λ i. get_or docs i 0) (sym e) ∙ sym (get_or-drop at docs j 0) in
    record {
      at_or_after = omega arith;
      within = omega (arith, postings-length docs freqs same);
      passed = λ k from before. omega (arith, first.passed (k - at) (omega arith), read k (k - at) (omega arith));
      reached = λ inside. omega (arith, first.reached (omega (arith, postings-length docs freqs same)), read (at + r) r (omega arith));
    }

pub gallop-passed-requires : goal.gallop-passed-requires
gallop-passed-requires c =
    let s = c.args.self.now in
    let rising = subst IsStrictlyIncreasing (docs-of_postings s.docs.now s.freqs.now s.same_length) s.lent.rising in
    record { rising = subst (IsNonDecreasingBy (λ x. x)) (sym (take_rest s.docs.now s.at)) (rising-from s.docs.now s.at rising) }

pub returns-clause-place : goal.returns-clause-place
returns-clause-place c =
    let s = c.args.self.now in
    let first = subst (λ (rest : List ℕ). IsFirstFrom rest c.args.d c.gallop-passed.result) (take_rest s.docs.now s.at) c.gallop-passed.ensures in
    next_geq-one _ _ _ _ (is-next s.docs.now s.freqs.now s.at c.args.d c.gallop-passed.result s.same_length s.within first)
