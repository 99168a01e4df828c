use Rattle.lrc_lang.proofs.LexemesExist.{next_from}
use Rattle.lrc_lang.proofs.lexer.Lexer.next_lexeme.Goals as goal

pub returns-clause-next : goal.returns-clause-next
returns-clause-next c = next_from c.skip.ensures.passed c.lexeme_at.ensures.taken
