use Rattle.lrc_lang.proofs.LexemesUnique.{unique}
use Rattle.lrc_lang.proofs.lexemes.lexemes_are_unique.Goals as goal

pub returns : goal.returns
returns c line text one other = unique
