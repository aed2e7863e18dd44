use Rattle.text_replies.proofs.TextEnds.{unbegun}
use Rattle.text_replies.proofs.text.answer_joined.Goals as goal

pub returns-in-Err : goal.returns-in-Err
returns-in-Err g c = unbegun _ _ _ _
