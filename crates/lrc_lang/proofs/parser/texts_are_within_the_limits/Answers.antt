use Rattle.lrc_lang.proofs.Shared.{text_shared}
use Rattle.lrc_lang.proofs.Sizes.{text_sizes}
use Rattle.lrc_lang.proofs.parser.texts_are_within_the_limits.Goals as goal

pub returns-clause-sizes : goal.returns-clause-sizes
returns-clause-sizes c = text_sizes

pub returns-clause-shared : goal.returns-clause-shared
returns-clause-shared c = text_shared
