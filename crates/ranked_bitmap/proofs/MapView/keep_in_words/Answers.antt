use Rattle.std.proofs.Common.{refl, arith}
use Rattle.collection_model.proofs.Marks.{kept-more}
use Rattle.ranked_bitmap.proofs.Kept.{word-tells}
use Rattle.ranked_bitmap.proofs.Views.{within-held}
use Rattle.ranked_bitmap.proofs.MapView.keep_in_words.Goals as goal

pub get-requires-clause-range : goal.get-requires-clause-range
get-requires-clause-range g c =
    omega (arith, within-held g.row.B c.args.self.now c.requires.held.0 c.requires.held.1, c.saturating_sub-whole.ensures, c.min-words.ensures, c.loop-i-test.true)

pub loop-i-preserved : goal.loop-i-preserved
loop-i-preserved g c ys h =
    let so_far = c.loop-i.invariant ys h in
    let i = c.loop-i.i in
    kept-more ys c.args.from c.args.marks.now c.loop-i.marks _ i c.get.result _ (omega (arith, so_far.count, c.min-words.ensures, c.loop-i-test.true)) so_far refl refl
    (word-tells g.row.B c.args.self.now ys h c.args.from i _ c.get.result (omega (arith, c.saturating_sub-whole.ensures, c.min-words.ensures, c.loop-i-test.true)) refl c.get.ensures)
