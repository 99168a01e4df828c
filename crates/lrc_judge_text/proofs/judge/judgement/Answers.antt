use Rattle.lrc_judge_text.proofs.judge.judgement.Goals as goal

pub returns : goal.returns
returns c = record {
  holds = c.in_ok-head.head.synchronized;
  reads = c.in_ok-head.head.reads;
  head = c.in_ok-head.head.text.items;
  races = c.in_ok-races.races.items;
  race = c.in_ok-first.first;
  is_head = c.in_ok-head.ensures;
  tells_races = c.in_ok-races.ensures;
  is_first = c.in_ok-first.ensures;
  whole = c.in_ok-parts.ensures;
  status_is = c.status_of-status.ensures;
}
