use Rattle.lrc_trace.specs.declared.act.Act.{Act}
use Rattle.lrc_trace.specs.declared.act.Deed.TheVariants.{Quiet}
use Rattle.lrc_trace.proofs.Positions.{Does-read, Does-deed, Does-one_deed}
use Rattle.lrc_step.proofs.given.given_at.Goals as goal

pub returns-in_ok-given-in-Read : goal.returns-in_ok-given-in-Read
returns-in_ok-given-in-Read c =
    let quiet : Act = record { node = 0; deed = Quiet } in
    c.in_ok-given-in-Read.ensures c.in-Read.field-1
    (_, Does-deed c.in-Read.is (Does-read c.args.acts.now c.args.position quiet c.requires.within))

pub returns-in_default : goal.returns-in_default
returns-in_default c = λ (word, value, done).
    let quiet : Act = record { node = 0; deed = Quiet } in
    absurd (c.in_default.not-Read word value (Does-one_deed (Does-read c.args.acts.now c.args.position quiet c.requires.within) done.1))
