use Rattle.line_replies.proofs.intervals.JoinedIntervalsTermLists.top.Goals as goal

pub top_by_intervals-requires-clause-maxima : goal.top_by_intervals-requires-clause-maxima
top_by_intervals-requires-clause-maxima c = (c.args.self.now.words, c.args.self.now.of_lists)
