use Rattle.lrc_lang.specs.Lexemes.{sign_text}
use Rattle.lrc_lint_fault.proofs.fault.sign_text.Goals as goal

pub returns : goal.returns
returns c = c.unquoted.ensures (sign_text c.args.sign) c.phrase.ensures
