use Rattle.lrc_named_tokens.specs.Lexemes.{keyword_text}
use Rattle.lrc_named_expected.proofs.kind.keyword_text.Goals as goal

pub returns : goal.returns
returns c = c.unquoted.ensures (keyword_text c.args.keyword) c.keyword_phrase.ensures
