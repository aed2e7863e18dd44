use Rattle.std.proofs.Common.{rules}
use Rattle.command_model.specs.GeneratedText.{top_line}
use Rattle.index_printing.proofs.generated_text.top_line.Goals as goal

pub returns : goal.returns
unfolding top_line
returns c = search rules
