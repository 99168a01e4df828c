use Rattle.lrc_named_tokens.proofs.Unique.{unique}
use Rattle.lrc_named_tokens.proofs.lexemes.lexemes_are_unique.Goals as goal

pub returns : goal.returns
returns c p text one other = unique
