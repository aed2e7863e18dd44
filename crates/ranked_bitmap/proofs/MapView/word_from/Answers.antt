use Rattle.std.proofs.Common.{◌≡◌, ◌+◌, ◌*◌, sym, ap, ◌∙◌, arith}
use Rattle.collection_model.specs.Marks.{has_number}
use Rattle.ranked_bitmap.proofs.Kept.{word-tells}
use Rattle.ranked_bitmap.proofs.Views.{within-held}
use Rattle.ranked_bitmap.proofs.MapView.word_from.Goals as goal

pub get-requires-clause-range : goal.get-requires-clause-range
get-requires-clause-range g c =
    omega (arith, within-held g.row.B c.args.self.now c.requires.held.0 c.requires.held.1, c.requires.within)

pub returns : goal.returns
returns g c ys h k lt =
    let first : k ≡ 64 * 0 + k = omega arith in
    ap (λ n. has_number (c.args.from + n) ys) first
    ∙ sym (word-tells g.row.B c.args.self.now ys h c.args.from 0 _ c.get.result (omega (arith, c.requires.within)) (omega arith) c.get.ensures k lt)
