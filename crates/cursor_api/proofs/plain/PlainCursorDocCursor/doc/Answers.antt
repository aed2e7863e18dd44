use Rattle.std.proofs.Common.{◌≡◌, ℕ, ◌<◌, ◌≤◌, sym, ap, ◌∙◌, Option, Some, None, List, length, Bor, MatchOption}
use Rattle.std.specs.List.{slice_get, HoldsAt}
use Rattle.std.specs.Option.{option_copied}
use Rattle.std.proofs.lemmas.Option.{slice_get_past, slice_get-get_or}
use Rattle.cursor_api.proofs.Lists.{postings-doc}
use Rattle.cursor_api.proofs.plain.PlainCursorDocCursor.doc.Goals as goal

-- what `get` gives, copied
got-copied : (docs : List ℕ) (k : ℕ) (o : Option (Bor ℕ)) → MatchOption o (length docs ≤ k) (λ x. (k < length docs) × HoldsAt (λ y. x.now ≡ y) docs k) → option_copied o ≡ slice_get docs k
got-copied docs k None past = sym (slice_get_past docs k past)
got-copied docs k (Some x) is = ap Some (is.1 x.now) ∙ sym (slice_get-get_or docs k x.now is.0)

pub returns : goal.returns
returns c =
    let s = c.args.self.now in
    c.copied.ensures ∙ got-copied s.docs.now s.at c.get.result c.get.ensures.lookup.3 ∙ postings-doc s.docs.now s.freqs.now s.at s.same_length
