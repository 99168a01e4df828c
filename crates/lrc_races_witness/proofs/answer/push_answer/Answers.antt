-- A sure race is shown, and others are refused.
use Rattle.lrc_races_witness.specs.Answer.{shown, refused}
use Rattle.lrc_races_witness.proofs.Rivals.{sure_on}
use Rattle.lrc_races_witness.proofs.answer.push_answer.Goals as goal

pub returns-in-Sure : goal.returns-in-Sure
returns-in-Sure c =
    let on = sure_on c.in_ok-relation.ensures c.in-Sure.is in
    shown on.one on.other on.race c.in_ok-push_reordering.ensures

pub returns : goal.returns
returns c = refused c.in_ok-relation.ensures c.in_default.not-Sure c.in_ok-push_refusal.ensures
