use Rattle.std.proofs.Common.{◌≡◌, refl, ◌∙◌, sym, ap, subst, rules, ◌/◌, ◌++◌, ◌∷◌, [], length}
use Rattle.part_cost.specs.Formats.{numbers_of}
use Rattle.index_file.specs.FileWords.{end_magic, sizes_words, plain_words}
use Rattle.index_file.specs.Builder.{StandsForPlain}
use Rattle.index_file.proofs.Files.{file-words}
use Rattle.index_file.proofs.plain_builder.PlainBuilder.into_words.Goals as goal

pub returns : goal.returns
returns c = λ cs stands.
    let s = c.self.inside in
    let written : c.extend_from_slice-2.new.self.items ≡ s.words.items ++ sizes_words c.args.sizes.now ++ s.directory.items ++ (s.documents ∷ (length s.directory.items / 4) ∷ length s.words.items ∷ end_magic ∷ []) = search rules in
    written
    ∙ file-words s.format s.documents _ _ s.words.items s.directory.items c.args.sizes.now cs c.self.invariant.opening (subst (λ b. StandsForPlain b cs) (sym c.self.view_is) stands) refl refl
    ∙ ap (λ b. plain_words (numbers_of b.format) b.documents cs c.args.sizes.now) c.self.view_is
