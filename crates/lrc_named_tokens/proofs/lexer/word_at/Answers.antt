use Rattle.lrc_named_tokens.proofs.Steps.{keyword_is_taken, name_is_taken}
use Rattle.lrc_named_tokens.proofs.lexer.word_at.Goals as goal

pub returns-in-Some-clause-taken : goal.returns-in-Some-clause-taken
returns-in-Some-clause-taken c = keyword_is_taken c.requires c.split_front.ensures c.in-Some.ensures

pub returns-in-None-clause-taken : goal.returns-in-None-clause-taken
returns-in-None-clause-taken c = name_is_taken c.requires c.split_front.ensures c.in-None.ensures
