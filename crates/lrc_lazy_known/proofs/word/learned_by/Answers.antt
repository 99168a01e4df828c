use Rattle.lrc_lazy_known.proofs.word.learned_by.Goals as goal

pub returns-clause-learned : goal.returns-clause-learned
returns-clause-learned c = record {
  last = c.last_learned-last.ensures;
  values = c.in_ok-values.ensures.values;
  above = c.in_ok-above.ensures.above;
}

pub returns-clause-tidy : goal.returns-clause-tidy
returns-clause-tidy c = λ tidy. record { values = c.in_ok-values.ensures.rising tidy; above = c.in_ok-above.ensures.ends }
