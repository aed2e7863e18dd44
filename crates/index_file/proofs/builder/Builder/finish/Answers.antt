use Rattle.std.proofs.Common.{◌≡◌, ◌∙◌, ap, subst, rules, arith, ◌≤◌, List, length, refl, IfOk, Err}
use Rattle.std.proofs.lemmas.Result.{IfOk-weaker}
use Rattle.part_cost.specs.Formats.{numbers_of}
use Rattle.index_file.specs.declared.builder.FinishError.TheVariants.{TooLarge}
use Rattle.index_file.specs.FileWords.{CutList, words_of_file}
use Rattle.index_file.specs.Builder.{StandsFor, most_words}
use Rattle.index_file.proofs.builder.Builder.finish.Goals as goal

pub returns-then-count-gt-MOST_WORDS-clause-would_be : goal.returns-then-count-gt-MOST_WORDS-clause-would_be
returns-then-count-gt-MOST_WORDS-clause-would_be c = λ n is cs stands.
    let same : n ≡ c.count_words-count.result = cc in
    same ∙ c.count_words-count.ensures cs c.args.sizes.now stands refl

pub returns-then-count-gt-MOST_WORDS-clause-refused : goal.returns-then-count-gt-MOST_WORDS-clause-refused
returns-then-count-gt-MOST_WORDS-clause-refused c = λ cs stands large. ap (λ n. Err (TooLarge n)) (c.count_words-count.ensures cs c.args.sizes.now stands refl)

pub returns-clause-within : goal.returns-clause-within
returns-clause-within c =
    let cs : List CutList = c.self.invariant.stands.0 in
    let stands : StandsFor c.args.self cs = subst (λ b. StandsFor b cs) c.self.view_is c.self.invariant.stands.1 in
    let words : IfOk c.map_err.result (λ words. words.items ≡ words_of_file (numbers_of c.args.self.format) c.args.self.documents cs c.args.sizes.now) = search rules in
    let few : length (words_of_file (numbers_of c.args.self.format) c.args.self.documents cs c.args.sizes.now) ≤ most_words = omega (arith, c.count_words-count.ensures cs c.args.sizes.now stands refl) in
    IfOk-weaker c.map_err.result (λ words. words.items ≡ words_of_file (numbers_of c.args.self.format) c.args.self.documents cs c.args.sizes.now) (λ words. length words.items ≤ most_words) (λ v is. omega (arith, ap length is, few)) words

pub returns-clause-refused : goal.returns-clause-refused
returns-clause-refused c = λ cs stands large. absurd (omega (arith, large, c.count_words-count.ensures cs c.args.sizes.now stands refl))
