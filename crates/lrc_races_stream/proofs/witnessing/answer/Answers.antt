-- What is printed is of what is kept.
use Rattle.lrc_races_stream.specs.Witness.{lacking}
use Rattle.lrc_races_stream.proofs.AnswerLemmas.{answer_of}
use Rattle.lrc_races_stream.proofs.witnessing.answer.Goals as goal

pub returns-in-Ok : goal.returns-in-Ok
returns-in-Ok c = answer_of c.args.kept.now c.args.first c.args.second c.in-Ok.status _ _ _ _ c.deref.ensures.value c.deref-2.ensures.value
    c.new-text.ensures.items c.in-Ok.ensures

pub returns-in-Err : goal.returns-in-Err
returns-in-Err c = lacking
