use Rattle.std.proofs.Common.{◌≡◌, ◌∙◌, length, sym, ap, subst, arith}
use Rattle.collection_model.specs.FormatNumbers.{Plain}
use Rattle.part_cost.specs.Formats.{numbers_of}
use Rattle.part_cost.specs.declared.formats.Format.TheVariants.{Three}
use Rattle.index_file.specs.PackedWords.{packed_words}
use Rattle.index_file.specs.FileWords.{words_of_file}
use Rattle.index_file.specs.Builder.{StandsFor, built_of}
use Rattle.index_file.proofs.AddedBoth.{plain-counted, packed-half}
use Rattle.index_file.proofs.builder.Builder.count_words.Goals as goal

pub returns-in-One : goal.returns-in-One
returns-in-One c cs of stands count =
    let s = c.self.inside in
    let kind : (numbers_of c.self.inside.format).kind ≡ Plain = ap (λ f. (numbers_of f).kind) c.in-One.is in
    let at : StandsFor (built_of c.self.inside.format c.self.inside.plain c.self.inside.packed) cs = subst (λ b. StandsFor b cs) (sym c.self.view_is) stands in
    let whole : c.count_words.result ≡ length (words_of_file (numbers_of c.self.inside.format) c.self.inside.plain.documents cs of) =
    omega (arith, c.count_words.ensures, plain-counted s.format s.plain s.packed cs of kind c.self.invariant.plain_format at, count) in
    whole ∙ ap (λ b. length (words_of_file (numbers_of b.format) b.documents cs of)) c.self.view_is

pub returns-in-Two : goal.returns-in-Two
returns-in-Two c cs of stands count =
    let s = c.self.inside in
    let kind : (numbers_of c.self.inside.format).kind ≡ Plain = ap (λ f. (numbers_of f).kind) c.in-Two.is in
    let at : StandsFor (built_of c.self.inside.format c.self.inside.plain c.self.inside.packed) cs = subst (λ b. StandsFor b cs) (sym c.self.view_is) stands in
    let whole : c.count_words-in-Two.result ≡ length (words_of_file (numbers_of c.self.inside.format) c.self.inside.plain.documents cs of) =
    omega (arith, c.count_words-in-Two.ensures, plain-counted s.format s.plain s.packed cs of kind c.self.invariant.plain_format at, count) in
    whole ∙ ap (λ b. length (words_of_file (numbers_of b.format) b.documents cs of)) c.self.view_is

pub returns-in-Three : goal.returns-in-Three
returns-in-Three c cs of stands count =
    let s = c.self.inside in
    let at : StandsFor (built_of c.self.inside.format c.self.inside.plain c.self.inside.packed) cs = subst (λ b. StandsFor b cs) (sym c.self.view_is) stands in
    let here : StandsFor (built_of Three c.self.inside.plain c.self.inside.packed) cs = subst (λ f. StandsFor (built_of f s.plain s.packed) cs) c.in-Three.is at in
    c.count_words-in-Three.ensures cs of (packed-half s.plain s.packed cs c.self.invariant.packed_format c.self.invariant.same_documents here) count
    ∙ ap (λ n. length (packed_words n cs of)) c.self.invariant.same_documents
    ∙ ap (λ f. length (words_of_file (numbers_of f) s.plain.documents cs of)) (sym c.in-Three.is)
    ∙ ap (λ b. length (words_of_file (numbers_of b.format) b.documents cs of)) c.self.view_is
