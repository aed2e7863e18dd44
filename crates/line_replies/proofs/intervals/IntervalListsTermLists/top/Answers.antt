use Rattle.index_file.specs.IndexView.{word_count}
use Rattle.line_replies.proofs.intervals.IntervalListsTermLists.top.Goals as goal

pub top_by_intervals-requires-clause-maxima : goal.top_by_intervals-requires-clause-maxima
top_by_intervals-requires-clause-maxima c = (word_count c.args.self.now.lists.index.now, c.args.self.now.of_index)
