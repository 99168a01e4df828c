use Rattle.lrc_lang.proofs.LexemesSteps.{keyword_is_taken, name_is_taken}
use Rattle.lrc_lang.proofs.Located.{keyword_here, name_here}
use Rattle.lrc_lang.proofs.lexer.word_at.Goals as goal

pub returns-in-Some-clause-taken : goal.returns-in-Some-clause-taken
returns-in-Some-clause-taken c = keyword_is_taken c.requires c.split_front.ensures c.in-Some.ensures

pub returns-in-None-clause-taken : goal.returns-in-None-clause-taken
returns-in-None-clause-taken c = name_is_taken c.requires c.split_front.ensures c.in-None.ensures

pub returns-in-Some-clause-here : goal.returns-in-Some-clause-here
returns-in-Some-clause-here c = keyword_here c.requires c.split_front.ensures c.in-Some.ensures

pub returns-in-None-clause-here : goal.returns-in-None-clause-here
returns-in-None-clause-here c = name_here c.requires c.split_front.ensures c.in-None.ensures
