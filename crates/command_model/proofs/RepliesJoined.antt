-- Replies to lines, one after the other.
use Rattle.std.proofs.Common.{refl, sym, ◌∙◌, ap, subst, ℕ, List, [], ◌∷◌, ◌++◌, append_assoc, append-nil}
use Rattle.collection_model.specs.Collection.{Collection}
use Rattle.command_model.specs.Replies.{IsReply, AreReplies}

-- the reply to one line
pub one-reply : (c : Collection) (line text : List ℕ) → IsReply c line text → AreReplies c (line ∷ []) text
one-reply c line text is = (text, [], is, refl, sym (append-nil text))

-- the replies to some lines and then to more
pub replies-append : (c : Collection) (lines more : List (List ℕ)) (text next : List ℕ) →
    AreReplies c lines text → AreReplies c more next → AreReplies c (lines ++ more) (text ++ next)
replies-append c [] more text next r s = let P : List ℕ → Type 0 = λ t. AreReplies c more (t ++ next) in subst P (sym r) s
replies-append c (line ∷ lines) more text next (first, rest, is, are, e) s =
    (first, rest ++ next, is, replies-append c lines more rest next are s, ap (λ t. t ++ next) e ∙ append_assoc first rest next)
