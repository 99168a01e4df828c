use Rattle.lrc_lang.proofs.Located.{next_at}
use Rattle.lrc_lang.proofs.lexer.Lexer.next_met.Goals as goal

pub returns-clause-next : goal.returns-clause-next
returns-clause-next c = next_at c.skip.ensures.places c.skip.ensures.shorter c.lexeme_at.ensures.here c.lexeme_at.ensures.shorter
