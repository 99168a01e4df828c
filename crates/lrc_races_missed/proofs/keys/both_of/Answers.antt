-- Both have numbers, or one has none.
use Rattle.lrc_races_missed.proofs.KeyFinding.{both_found, first_unknown, second_unknown}
use Rattle.lrc_races_missed.proofs.keys.both_of.Goals as goal

pub returns-in-Some-later : goal.returns-in-Some-later
returns-in-Some-later c = λ names place other known known' both.
    both_found names place other c.args.earlier c.args.later known known' c.in-Some.earlier c.in-Some-later.later c.in-Some.is c.in-Some-later.is both

pub returns-in-None-later : goal.returns-in-None-later
returns-in-None-later c = λ names place other known known' both. second_unknown names place other c.args.later known' c.in-None-later.is both

pub returns-in-None : goal.returns-in-None
returns-in-None c = λ names place other known known' both. first_unknown names place other c.args.earlier known c.in-None.is both
