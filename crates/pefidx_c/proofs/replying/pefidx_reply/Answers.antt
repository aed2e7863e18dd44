use Rattle.std.proofs.Common.{refl}
use Rattle.index_file.specs.IndexView.{IndexView, word_count}
use Rattle.pefidx_c.proofs.StatedMaxima.{lent-maxima, opened-maxima}
use Rattle.pefidx_c.proofs.replying.pefidx_reply.Goals as goal

pub new-by_intervals-requires : goal.new-by_intervals-requires
new-by_intervals-requires c =
    let i : IndexView = c.index_of-index.result in
    let opened = opened-maxima c.args.words.now c.args.maxima.now i c.index_of-index.ensures.stated c.requires.maxima in
    lent-maxima (word_count i) (word_count i) i.collection i.collection c.args.maxima.now c.new.result.bytes.now
    (c.takes_maxima.ensures c.if-not-takes_maxima.false) opened refl refl c.new.ensures
