use Rattle.std.proofs.Common.{◌<◌, ap, ◌∙◌, length, arith}
use Rattle.std.specs.List.{slice_get}
use Rattle.std.proofs.lemmas.Option.{slice_get-get_or}
use Rattle.collection_model.proofs.Lists.{freqs-of_postings}
use Rattle.cursor_api.specs.Postings.{postings-length}
use Rattle.cursor_api.proofs.plain.PlainCursorDocCursor.freq.Goals as goal

pub bounds-self-self : goal.bounds-self-self
bounds-self-self c = let s = c.args.self.now in omega (arith, c.requires, s.same_length, postings-length s.docs.now s.freqs.now s.same_length)

pub returns-clause-value : goal.returns-clause-value
returns-clause-value c =
    let s = c.args.self.now in
    let within : s.at < length s.freqs.now = omega (arith, c.requires, s.same_length, postings-length s.docs.now s.freqs.now s.same_length) in
    ap (λ xs. slice_get xs s.at) (freqs-of_postings s.docs.now s.freqs.now s.same_length) ∙ slice_get-get_or s.freqs.now s.at 0 within
