use Rattle.lrc_why_laws.proofs.Leaving.{first_is_known, leaves}
use Rattle.lrc_why_laws.proofs.laws.who_knows_of_an_act_knows_where_it_is_told.Goals as goal

pub returns-clause-told : goal.returns-clause-told
returns-clause-told c = λ run i j p q a b first second apart before. let found = leaves first second apart before in (found.at, found.telling)

pub returns-clause-first : goal.returns-clause-first
returns-clause-first c = λ run i j k p q a b first second apart before telling. first_is_known first second apart before telling
