use Rattle.std.proofs.Common.{◌≡◌, ◌∙◌, sym, ap, subst}
use Rattle.std.specs.Prelude.{IfOk}
use Rattle.index_file.specs.Builder.{StandsFor}
use Rattle.index_file.specs.PackedWords.{packed_words}
use Rattle.index_file.proofs.EmptyLists.{empty-same}
use Rattle.index_file.proofs.packed_tail.PackedTail.into_words.Goals as goal

pub returns-then-has_no_bits : goal.returns-then-has_no_bits
returns-then-has_no_bits c cs stands =
    let s = c.self.inside in
    subst (λ n. IfOk c.into_empty_words.result (λ words. words.items ≡ packed_words n cs c.args.sizes.now)) (sym (empty-same s.lists s.tail).1 ∙ ap (λ b. b.documents) c.self.view_is)
    (c.into_empty_words.ensures cs (subst (λ b. StandsFor b cs) (sym c.self.view_is) stands))
