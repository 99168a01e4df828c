use Rattle.lrc_explore_less.proofs.less.Less.none.Goals as goal

pub returns : goal.returns
returns c = λ task is. record {
  found = c.none.ensures.found task is;
  rows = c.none.ensures.none;
  opens = c.new.ensures.items;
  reaches = λ threads. c.new-2.ensures task.flat threads;
}
