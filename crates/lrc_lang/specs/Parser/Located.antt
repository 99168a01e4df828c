-- The code's tokens with their positions as the definitions see them.
use Rattle.lrc_lang.specs.declared.positions.Located as code_located
use Rattle.lrc_lang.specs.Positions.{Located}
use Rattle.lrc_lang.specs.Parser.View.{lexeme_of}

abbrev pub located_of : code_located.Located → Located
located_of l = record { line = l.line; column = l.column; offset = l.offset; lexeme = lexeme_of l.lexeme }
