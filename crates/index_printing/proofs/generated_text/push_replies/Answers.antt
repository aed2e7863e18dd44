use Rattle.std.proofs.Common.{◌≡◌, subst, ℕ, List, ◌++◌, length, replicate, arith}
use Rattle.collection_model.specs.Collection.{Collection}
use Rattle.command_model.specs.Replies.{IsReply}
use Rattle.index_printing.proofs.AskedLines.{GetsReplies, gets-none, gets-more}
use Rattle.index_printing.proofs.generated_text.push_replies.Goals as goal

pub loop-plan-init : goal.loop-plan-init
loop-plan-init c = gets-none c.args.index.now.collection c.args.text.now.items

pub loop-plan-preserved : goal.loop-plan-preserved
loop-plan-preserved c =
    let Next : Collection → Type 0 = λ k. (reply : List ℕ) × IsReply k c.args.line.now reply × (c.push_reply.new.text.items ≡ c.loop-plan.text.items ++ reply) in
    gets-more c.args.index.now.collection c.args.line.now c.loop-plan.plan-index _ _ _ c.loop-plan.invariant (subst Next c.new.ensures.collection c.in_ok-push_reply.ensures)

pub returns : goal.returns
returns c =
    let all : c.loop-plan.plan-index ≡ length c.args.plans.now = omega (arith, c.loop-plan-test.false, c.loop-plan.auto.plan-index-end) in
    let P : ℕ → Type 0 = λ n. GetsReplies c.args.index.now.collection (replicate n c.args.line.now) c.args.text.now.items c.loop-plan.text.items in
    subst P all c.loop-plan.invariant
