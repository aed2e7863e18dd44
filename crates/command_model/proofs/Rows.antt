use Rattle.std.proofs.Common.{refl, sym, [], ◌∷◌, ◌++◌, Some, append_assoc, append-nil}
use Rattle.std.specs.Prelude.{codes}
use Rattle.collection_model.specs.Collection.{Collection}
use Rattle.query_text.specs.Lines.{text_lines}
use Rattle.query_text.specs.Texts.{next_text, list_text}
use Rattle.command_model.specs.Replies.{IsReply, AreReplies}

-- three documents of sizes 4, 0 and 7, and one list
abbrev small : Collection
small = record { documents = 3; lists = (record { doc = 0; freq = 1 } ∷ record { doc = 2; freq = 5 } ∷ []) ∷ []; sizes = 4 ∷ 0 ∷ 7 ∷ [] }

next-1 : IsReply small (codes "next 0 1") (next_text (Some (2, 5)))
next-1 = refl

next-3 : IsReply small (codes "next 0 3") (codes "end\n")
next-3 = refl

or-0 : IsReply small (codes "or 0 0") (list_text (0 ∷ 2 ∷ []))
or-0 = refl

no-term : IsReply small (codes "and") (list_text [])
no-term = refl

near-0 : IsReply small (codes "near 0") (codes "bad verb\n")
near-0 = refl

-- the replies to three lines, the last without a newline
three-replies : AreReplies small (text_lines (codes "next 0 1\nnext 0 3\nand 0")) (next_text (Some (2, 5)) ++ codes "end\n" ++ list_text (0 ∷ 2 ∷ []))
three-replies = (
  next_text (Some (2, 5)),
  codes "end\n" ++ list_text (0 ∷ 2 ∷ []),
  refl,
  (codes "end\n", list_text (0 ∷ 2 ∷ []), refl, (list_text (0 ∷ 2 ∷ []), [], refl, refl, sym (append-nil (list_text (0 ∷ 2 ∷ [])))), refl),
  append_assoc (next_text (Some (2, 5))) (codes "end\n") (list_text (0 ∷ 2 ∷ [])),
)

no-text : AreReplies small (text_lines []) []
no-text = refl
