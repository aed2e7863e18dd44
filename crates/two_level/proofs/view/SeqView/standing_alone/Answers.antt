use Rattle.std.proofs.Common.{ℕ, ◌+◌, List, [], ◌∷◌, ap, ◌∙◌}
use Rattle.bit_words.specs.Bits.{bits_of}
use Rattle.part_cost.specs.Formats.{numbers_of}
use Rattle.part_directory.proofs.Begun.{one-value, more-values}
use Rattle.two_level.proofs.view.SeqView.standing_alone.Goals as goal

pub returns-clause-one : goal.returns-clause-one
returns-clause-one c one =
    c.standing_alone.ensures
    ∙ ap (λ (xs : List ℕ). record { format = numbers_of c.args.format; values = xs; ends = c.args.m ∷ [] }) (one-value (bits_of c.args.words.now) c.args.m (record { place = c.args.place; last = c.args.last }) one)
    ∙ ap (λ (n : ℕ). record { format = numbers_of c.args.format; values = c.args.last ∷ []; ends = n ∷ [] }) one

pub returns-clause-more : goal.returns-clause-more
returns-clause-more c ys many held =
    c.standing_alone.ensures
    ∙ ap (λ (xs : List ℕ). record { format = numbers_of c.args.format; values = xs; ends = c.args.m ∷ [] })
    (more-values (bits_of c.args.words.now) c.args.m (record { place = c.args.place; last = c.args.last }) many ∙ c.one_list_at_place.ensures.values (bits_of c.args.words.now) c.args.place (c.args.last + 1) c.args.m ys held)
