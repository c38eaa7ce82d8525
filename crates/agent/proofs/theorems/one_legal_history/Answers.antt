use Rattle.agent.proofs.theorems.one_legal_history.Goals as goal

pub returns : goal.returns
returns c = record {
  histories = c.tables_have_histories.ensures;
  words = c.words_show_seats.ensures;
  lists = c.sorted_entries_run.ensures;
  legal = c.one_lists_are_legal.ensures;
  runs = c.legal_histories_run.ensures;
  stamps = c.stamps_cover.ensures;
  learnt = c.learnt_stands_before.ensures;
}
