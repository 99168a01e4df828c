-- A read is judged; of another act nothing is asked.
use Rattle.lrc_trace.specs.declared.act.Act.{Act}
use Rattle.lrc_trace.specs.declared.act.Deed.TheVariants.{Quiet}
use Rattle.lrc_trace.proofs.Positions.{Does-read, Does-deed, Does-one_deed}
use Rattle.lrc_judge.proofs.LatestWrites.{judged}
use Rattle.lrc_judge.proofs.reading.is_allowed.Goals as goal

pub allows-requires-clause-flag : goal.allows-requires-clause-flag
allows-requires-clause-flag c =
    let quiet : Act = record { node = 0; deed = Quiet } in
    let run = c.args.acts.now in
    let here = Does-deed c.in-Read.is (Does-read run c.args.position quiet c.requires.within) in
    c.are_ordered-is_ordered.ensures run c.requires.written c.requires.nodes
    (c.requires.flags c.args.position c.in-Read.word c.in-Read.value (_, here))

pub returns-in-Read : goal.returns-in-Read
returns-in-Read c =
    let quiet : Act = record { node = 0; deed = Quiet } in
    let run = c.args.acts.now in
    let here = Does-deed c.in-Read.is (Does-read run c.args.position quiet c.requires.within) in
    judged run c.args.position _ c.in-Read.word c.in-Read.value here c.allows.result c.allows.ensures

pub returns-in_default : goal.returns-in_default
returns-in_default c = λ word value done.
    let quiet : Act = record { node = 0; deed = Quiet } in
    absurd (c.in_default.not-Read word value (Does-one_deed (Does-read c.args.acts.now c.args.position quiet c.requires.within) done.1))
