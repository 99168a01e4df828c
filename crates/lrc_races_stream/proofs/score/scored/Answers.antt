-- What is scored is what was kept.
use Rattle.std.proofs.Common.{subst, sym}
use Rattle.lrc_races_scored.specs.declared.traced.Traced.{Traced}
use Rattle.lrc_races_witness.specs.Relations.{AreByLine}
use Rattle.lrc_races_stream.specs.Score.{lacking}
use Rattle.lrc_races_stream.proofs.ScoreLemmas.{score_of}
use Rattle.lrc_races_stream.proofs.score.scored.Goals as goal

pub push_score-requires : goal.push_score-requires
push_score-requires c = subst (λ (traced : Traced). AreByLine traced.events.items) (sym c.replace-traced.ensures.value) c.requires

pub returns-in-Ok : goal.returns-in-Ok
returns-in-Ok c =
    score_of c.args.sought c.args.claims.now c.args.kept.now c.replace-traced.result c.args.last c.in-Ok.status _ _ c.new-text.ensures.items
    c.replace-traced.ensures.value c.in-Ok.ensures

pub returns-in-Err : goal.returns-in-Err
returns-in-Err c = lacking
