use Rattle.std.proofs.Common.{refl}
use Rattle.lrc_lang.proofs.LexemesLines.{line_of_end}
use Rattle.lrc_lang.proofs.lexemes.the_end_is_on_the_last_line.Goals as goal

pub returns : goal.returns
returns c text front line inside = line_of_end inside front refl
