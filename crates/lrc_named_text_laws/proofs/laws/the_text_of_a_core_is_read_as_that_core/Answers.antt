-- By its tokens.
use Rattle.lrc_named_text_laws.proofs.Reading.{read_as}
use Rattle.lrc_named_text_laws.proofs.laws.the_text_of_a_core_is_read_as_that_core.Goals as goal

pub returns : goal.returns
returns c = λ words locks declared lines statements p small_words small_locks labelled fit spelled is.
    read_as words locks declared lines statements p small_words small_locks labelled fit spelled is
