use Rattle.std.proofs.Common.{◌≡◌, refl}
use Rattle.pef_report.specs.Generated.{generated}
use Rattle.commands.specs.Texts.{generate_format}
use Rattle.commands.proofs.WordsMade.{are_index, words_made, generate_refused, generate_ended}
use Rattle.commands.proofs.generate.generate.Goals as goal

pub returns-in_err-words-clause-leaves : goal.returns-in_err-words-clause-leaves
returns-in_err-words-clause-leaves g c = λ d i e e'.
    generate_refused c.args.collection.seed c.args.collection.documents c.args.collection.terms d i _ e e' _ _ c.generated_words.result c.from_residual.result
    c.generated_words.ensures.too_large c.in_err-words.was c.from_residual.ensures.1

pub known-index-requires-clause-index : goal.known-index-requires-clause-index
known-index-requires-clause-index g c =
    rw c.deref.ensures.value (are_index (words_made generate_format (λ built. built ≡ generated c.args.collection.seed c.args.collection.documents c.args.collection.terms) _ refl _ _ c.in_ok-words.ensures.words))

pub returns-clause-leaves : goal.returns-clause-leaves
returns-clause-leaves g c = λ d i e e'.
    generate_ended c.args.collection.seed c.args.collection.documents c.args.collection.terms d i _ e e' _ _ c.one_index.ensures _ c.in_ok-words.words.items
    (words_made generate_format (λ built. built ≡ generated c.args.collection.seed c.args.collection.documents c.args.collection.terms) _ refl _ _ c.in_ok-words.ensures.words) c.known-index.result
    (rw c.deref.ensures.value at c.known-index.ensures.spells) c.print_generated.result c.after_printing.result c.print_generated.ensures c.after_printing.ensures
