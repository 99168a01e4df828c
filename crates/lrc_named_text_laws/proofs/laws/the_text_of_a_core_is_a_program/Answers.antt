-- No token of it has a fault.
use Rattle.lrc_named_text_laws.proofs.Faultless.{is_text}
use Rattle.lrc_named_text_laws.proofs.laws.the_text_of_a_core_is_a_program.Goals as goal

pub returns : goal.returns
returns c = λ words locks privates declared lines statements some few_words few_locks labelled fit spelled none few fits.
    is_text words locks privates declared lines statements some few_words few_locks labelled fit spelled none few fits
