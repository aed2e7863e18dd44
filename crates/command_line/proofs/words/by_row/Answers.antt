use Rattle.std.proofs.Common.{arith}
use Rattle.std.proofs.lemmas.List.{drop-map, take-map}
use Rattle.std.specs.Prelude.{string_bytes}
use Rattle.command_line.proofs.Found.{counted_texts}
use Rattle.command_line.proofs.words.by_row.Goals as goal

pub returns-then-count-row : goal.returns-then-count-row
returns-then-count-row c = grind (arith, counted_texts c.args.words.now)

pub returns-in_err-value_in : goal.returns-in_err-value_in
returns-in_err-value_in c = grind (arith, counted_texts c.args.words.now, drop-map string_bytes c.texts_before-count.result c.args.words.now)

pub returns : goal.returns
returns c = grind (arith, counted_texts c.args.words.now, take-map string_bytes c.texts_before-count.result c.args.words.now, drop-map string_bytes c.texts_before-count.result c.args.words.now)
