use Rattle.index_file.proofs.laws.sequence_laws.Goals as goal

pub returns : goal.returns
returns c v = record {
  pass = c.sequences_pass_checks.ensures v;
  one = c.one_sequence.ensures v;
  state = c.words_state_their_sequence.ensures v;
  rise = c.sequences_of_a_list_rise.ensures;
  give = c.sequences_give_their_list.ensures;
}
