use Rattle.lrc_lazy_known.specs.Effect.{word_of}
use Rattle.lrc_lazy_known.proofs.Giving.{gives_read}
use Rattle.lrc_lazy_known.proofs.laws.a_read_may_give_what_is_kept.Goals as goal

pub returns : goal.returns
returns c = λ nodes locks gone run node word value knowledge are own kept.
    gives_read nodes locks gone run node word value are own (word_of knowledge word) (kept word)
