use Rattle.lrc_races_trace.proofs.laws.one_list_is_told.Goals as goal

pub returns : goal.returns
returns c = λ events one other a b p. (λ h. (b.exact p).1 ((a.exact p).0 h), λ h. (a.exact p).1 ((b.exact p).0 h))
