use Rattle.lrc_named_tokens.proofs.Exist.{exists}
use Rattle.lrc_named_tokens.proofs.lexemes.every_text_has_lexemes.Goals as goal

pub returns : goal.returns
returns c = exists
