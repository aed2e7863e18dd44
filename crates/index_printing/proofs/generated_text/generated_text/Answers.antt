-- The line alone, or the line and four replies.
use Rattle.std.proofs.Common.{◌≡◌, sym, ap, ◌∙◌, subst, List, ℕ, [], ◌∷◌, ◌++◌, arith}
use Rattle.collection_model.specs.Collection.{Collection}
use Rattle.part_cost.specs.Formats.{numbers_of}
use Rattle.command_model.specs.Replies.{IsReply}
use Rattle.index_printing.proofs.AskedLines.{GetsReplies, gets-one, asked-nothing, asked-four}
use Rattle.index_printing.proofs.generated_text.generated_text.Goals.{then-terms-gt0+in_ok-next+in_ok-top+in_ok-push_reply+in_ok-push_replies, else-terms-gt0}
use Rattle.index_printing.proofs.generated_text.generated_text.Goals as goal

pub returns : goal.returns
returns c =
    let i = c.args.index.now in
    let line : List ℕ = c.into_bytes-text.result.items in
    let counted = ap (λ v. v.items) c.into_bytes-text.ensures.value ∙ c.in_ok-counts_line.ensures in
    elim c.if-terms-gt0.branch [
      | then-terms-gt0+in_ok-next+in_ok-top+in_ok-push_reply+in_ok-push_replies w ↦
          let next : List ℕ = w.deref.result.now in
          let top : List ℕ = w.deref-then-terms-gt0.result.now in
          let mid : List ℕ = w.push_reply.new.text.items in
          let First : Collection → Type 0 = λ k. (reply : List ℕ) × IsReply k next reply × (mid ≡ line ++ reply) in
          let Tops : List ℕ → Type 0 = λ text. GetsReplies i.collection (top ∷ top ∷ top ∷ []) mid text in
          asked-four (numbers_of i.format) i.collection i.parts line next top mid c.if-terms-gt0.text.items (omega (arith, w.if-terms-gt0.true, c.terms.ensures)) counted
          (w.deref.ensures ∙ w.in_ok-next.ensures) (w.deref-then-terms-gt0.ensures ∙ w.in_ok-top.ensures)
          (gets-one i.collection next line mid (subst First w.new-lists.ensures.collection w.in_ok-push_reply.ensures))
          (subst Tops (sym (ap (λ t. t.items) w.text-is)) w.in_ok-push_replies.ensures)
      | else-terms-gt0 w ↦
          asked-nothing (numbers_of i.format) i.collection i.parts c.if-terms-gt0.text.items (omega (arith, w.if-terms-gt0.false, c.terms.ensures)) (ap (λ t. t.items) w.text-is ∙ counted)
    ]
