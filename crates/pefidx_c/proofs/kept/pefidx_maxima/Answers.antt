use Rattle.std.proofs.Common.{sym, subst, ℕ, List}
use Rattle.index_file.specs.IndexView.{index_stated, word_count}
use Rattle.index_intervals.specs.LongLists.{AreIndexMaxima}
use Rattle.pefidx_c.specs.Asked.{collection_in}
use Rattle.pefidx_c.proofs.StatedMaxima.{stated-maxima}
use Rattle.pefidx_c.proofs.kept.pefidx_maxima.Goals as goal

pub returns-in-Ok-clause-given : goal.returns-in-Ok-clause-given
returns-in-Ok-clause-given c = λ done.
    let these = stated-maxima c.args.words.now c.in-Ok.made.bytes.items c.index_of.result c.index_of.ensures.stated c.in-Ok.ensures in
    let given = subst (λ (xs : List ℕ). AreIndexMaxima (word_count (index_stated c.args.words.now)) (collection_in c.args.words.now) xs) (sym c.bytes.ensures) these in
    (c.bytes.result.now, given, c.give.ensures.status, c.give.ensures.room, c.give.ensures.count)
