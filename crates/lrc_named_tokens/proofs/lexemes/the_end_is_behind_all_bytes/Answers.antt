use Rattle.std.proofs.Common.{refl, arith}
use Rattle.lrc_named_tokens.proofs.Ends.{place_of_end}
use Rattle.lrc_named_tokens.proofs.lexemes.the_end_is_behind_all_bytes.Goals as goal

pub returns-clause-line : goal.returns-clause-line
returns-clause-line c text front p inside = (place_of_end inside front refl).line

pub returns-clause-offset : goal.returns-clause-offset
returns-clause-offset c text front p inside = omega (arith, (place_of_end inside front refl).offset)
