use Rattle.std.proofs.Common.{sym}
use Rattle.lrc_why.specs.Spread.{alone, unsaid, nobody, others}
use Rattle.lrc_why.proofs.spread.forward.Goals as goal

pub returns-then-nodes-lt2 : goal.returns-then-nodes-lt2
returns-then-nodes-lt2 c = alone c.if-nodes-lt2.true

pub returns-then-not-is_told_of : goal.returns-then-not-is_told_of
returns-then-not-is_told_of c = unsaid (sym c.if-not-is_told_of.ensures)

pub returns-in_default : goal.returns-in_default
returns-in_default c = nobody c.if-nodes-lt2.false (sym c.if-not-is_told_of.ensures) c.in_default.ensures

pub returns : goal.returns
returns c = others c.if-nodes-lt2.false (sym c.if-not-is_told_of.ensures)
    (record { from = c.in-Some.ensures; learners = c.in_ok-learners.ensures; never = c.in_ok-never.ensures })
