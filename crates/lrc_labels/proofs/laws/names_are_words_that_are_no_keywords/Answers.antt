use Rattle.lrc_labels.proofs.Words.{name_is, is_name_of}
use Rattle.lrc_labels.proofs.laws.names_are_words_that_are_no_keywords.Goals as goal

pub returns : goal.returns
returns c = λ bytes. (name_is bytes, is_name_of bytes)
