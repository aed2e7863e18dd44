use Rattle.std.proofs.Common.{◌∙◌, sym, ap, subst, length}
use Rattle.index_file.specs.Builder.{StandsFor}
use Rattle.index_file.specs.PackedWords.{packed_words}
use Rattle.index_file.proofs.EmptyLists.{empty-same}
use Rattle.index_file.proofs.packed_tail.PackedTail.count_words.Goals as goal

pub returns : goal.returns
returns c cs of stands count =
    let s = c.self.inside in
    c.count_words.ensures cs of (subst (λ b. StandsFor b cs) (sym c.self.view_is) stands) count
    ∙ ap (λ n. length (packed_words n cs of)) (sym (empty-same s.lists s.tail).1 ∙ ap (λ b. b.documents) c.self.view_is)
