use Rattle.lrc_lang.proofs.LexemesExist.{exists}
use Rattle.lrc_lang.proofs.lexemes.every_text_has_lexemes.Goals as goal

pub returns : goal.returns
returns c = exists
