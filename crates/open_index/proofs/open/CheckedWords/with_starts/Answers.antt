use Rattle.std.proofs.Common.{◌≡◌, ◌∙◌, ap, rules}
use Rattle.index_file.specs.IndexView.{index_stated, with_starts, starts_of}
use Rattle.open_index.proofs.open.CheckedWords.with_starts.Goals as goal

pub returns : goal.returns
returns c =
    let words = c.self.inside.words.items in
    let same : c.deref.result.now ≡ c.self.inside.words.items = search rules in
    ap (with_starts (index_stated words)) (c.in_ok-starts.ensures.starts ∙ c.list_starts.ensures.of_index ∙ ap (λ w. starts_of (index_stated w)) same)
    ∙ ap (λ i. with_starts i (starts_of i)) c.self.view_is
