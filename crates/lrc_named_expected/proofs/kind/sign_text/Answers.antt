use Rattle.lrc_named_tokens.specs.Lexemes.{sign_text}
use Rattle.lrc_named_expected.proofs.kind.sign_text.Goals as goal

pub returns : goal.returns
returns c = c.unquoted.ensures (sign_text c.args.sign) c.sign_phrase.ensures
