use Rattle.std.proofs.Common.{◌≡◌, ◌∙◌, sym, ap, subst}
use Rattle.std.proofs.lemmas.Result.{IfOk-weaker}
use Rattle.collection_model.specs.FormatNumbers.{Plain}
use Rattle.part_cost.specs.Formats.{numbers_of}
use Rattle.part_cost.specs.declared.formats.Format.TheVariants.{Three}
use Rattle.index_file.specs.PlainWords.{plain_words}
use Rattle.index_file.specs.PackedWords.{packed_words}
use Rattle.index_file.specs.FileWords.{words_of_file}
use Rattle.index_file.specs.Builder.{StandsFor, built_of}
use Rattle.index_file.proofs.AddedBoth.{plain-written, plain-half, packed-half}
use Rattle.index_file.proofs.builder.Builder.into_words.Goals as goal

pub returns-in-One : goal.returns-in-One
returns-in-One c cs stands =
    let s = c.self.inside in
    let sizes = c.args.sizes.now in
    let kind : (numbers_of c.self.inside.format).kind ≡ Plain = ap (λ f. (numbers_of f).kind) c.in-One.is in
    let at : StandsFor (built_of c.self.inside.format c.self.inside.plain c.self.inside.packed) cs = subst (λ b. StandsFor b cs) (sym c.self.view_is) stands in
    IfOk-weaker c.into_words.result (λ words. words.items ≡ plain_words (numbers_of s.plain.format) s.plain.documents cs sizes) (λ words. words.items ≡ words_of_file (numbers_of c.args.self.format) c.args.self.documents cs sizes)
    (λ words is. is ∙ plain-written s.format s.plain cs sizes kind c.self.invariant.plain_format ∙ ap (λ b. words_of_file (numbers_of b.format) b.documents cs sizes) c.self.view_is)
    (c.into_words.ensures cs (plain-half s.format s.plain s.packed cs kind c.self.invariant.plain_format at))

pub returns-in-Two : goal.returns-in-Two
returns-in-Two c cs stands =
    let s = c.self.inside in
    let sizes = c.args.sizes.now in
    let kind : (numbers_of c.self.inside.format).kind ≡ Plain = ap (λ f. (numbers_of f).kind) c.in-Two.is in
    let at : StandsFor (built_of c.self.inside.format c.self.inside.plain c.self.inside.packed) cs = subst (λ b. StandsFor b cs) (sym c.self.view_is) stands in
    IfOk-weaker c.into_words-in-Two.result (λ words. words.items ≡ plain_words (numbers_of s.plain.format) s.plain.documents cs sizes) (λ words. words.items ≡ words_of_file (numbers_of c.args.self.format) c.args.self.documents cs sizes)
    (λ words is. is ∙ plain-written s.format s.plain cs sizes kind c.self.invariant.plain_format ∙ ap (λ b. words_of_file (numbers_of b.format) b.documents cs sizes) c.self.view_is)
    (c.into_words-in-Two.ensures cs (plain-half s.format s.plain s.packed cs kind c.self.invariant.plain_format at))

pub returns-in-Three : goal.returns-in-Three
returns-in-Three c cs stands =
    let s = c.self.inside in
    let sizes = c.args.sizes.now in
    let at : StandsFor (built_of c.self.inside.format c.self.inside.plain c.self.inside.packed) cs = subst (λ b. StandsFor b cs) (sym c.self.view_is) stands in
    let here : StandsFor (built_of Three c.self.inside.plain c.self.inside.packed) cs = subst (λ f. StandsFor (built_of f s.plain s.packed) cs) c.in-Three.is at in
    IfOk-weaker c.into_words-in-Three.result (λ words. words.items ≡ packed_words s.packed.documents cs sizes) (λ words. words.items ≡ words_of_file (numbers_of c.args.self.format) c.args.self.documents cs sizes)
    (λ words is. is ∙ ap (λ n. packed_words n cs sizes) c.self.invariant.same_documents ∙ ap (λ f. words_of_file (numbers_of f) s.plain.documents cs sizes) (sym c.in-Three.is)
    ∙ ap (λ b. words_of_file (numbers_of b.format) b.documents cs sizes) c.self.view_is)
    (c.into_words-in-Three.ensures cs (packed-half s.plain s.packed cs c.self.invariant.packed_format c.self.invariant.same_documents here))
