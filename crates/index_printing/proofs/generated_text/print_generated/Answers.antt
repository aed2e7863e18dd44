-- The text is made and written, or not.
use Rattle.std.proofs.Common.{subst, rules, List, ℕ, inr}
use Rattle.part_cost.specs.Formats.{numbers_of}
use Rattle.io_traits.specs.Helpers.{WritesAll}
use Rattle.command_model.specs.GeneratedText.{IsGeneratedText}
use Rattle.index_printing.proofs.PrintedLine.{printed-or-not}
use Rattle.index_printing.proofs.generated_text.print_generated.Goals as goal

pub returns : goal.returns
returns g c =
    let i = c.args.index.now in
    let told : IsGeneratedText (numbers_of i.format) i.collection i.parts c.in_ok-text.text.items = search rules in
    let P : List ℕ → Type 0 = λ text. WritesAll (g.O.Sink.state c.args.out.now) (g.O.Sink.state c.write_all_own.new.sink) text c.write_all_own.result in
    inr (c.in_ok-text.text.items, told, printed-or-not c.in_ok-text.text.items _ _ _ (subst P c.as_slice.ensures.value c.write_all_own.ensures))
