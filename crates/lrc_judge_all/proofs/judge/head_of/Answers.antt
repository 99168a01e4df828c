use Rattle.lrc_judge_text.proofs.Within.{four_texts}
use Rattle.lrc_judge_all.proofs.judge.head_of.Goals as goal

pub returns : goal.returns
returns c = record {
  first = c.in_ok-synchronized.ensures.added;
  second = c.in_ok-lazy.ensures.added;
  between = c.in_ok-exact.ensures.added;
  third = c.in_ok-tell_disorders.ensures.added;
  lazily = c.in_ok-lazy.lazy;
  exactly = c.in_ok-exact.exact;
  tells_synchronization = c.in_ok-synchronized.ensures.so;
  tells_misreads = c.in_ok-lazy.ensures.so;
  tells_exactness = c.in_ok-exact.ensures.so;
  tells_disorders = c.in_ok-tell_disorders.ensures.so;
  both = c.reads_both.ensures;
  whole = four_texts _ _ _ _ _ _ _ _ _ c.new-text.ensures.items c.in_ok-synchronized.ensures.whole c.in_ok-lazy.ensures.whole
      c.in_ok-exact.ensures.whole c.in_ok-tell_disorders.ensures.whole;
}
