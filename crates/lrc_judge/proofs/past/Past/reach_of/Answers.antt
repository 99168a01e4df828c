-- What is handed to the act, and the act itself at its node.
use Rattle.std.proofs.Common.{sym, arith, refl}
use Rattle.lrc_trace.specs.declared.act.Act.{Act}
use Rattle.lrc_trace.specs.declared.act.Deed.TheVariants.{Quiet}
use Rattle.lrc_trace.proofs.Positions.{Does-read, Does-node}
use Rattle.lrc_judge.proofs.Gathering.{Gathers-here}
use Rattle.lrc_judge.proofs.past.Past.reach_of.Goals as goal

pub returns : goal.returns
returns c =
    let quiet : Act = record { node = 0; deed = Quiet } in
    let here = Does-node (sym c.from.ensures) (Does-read c.args.acts.now c.args.position quiet c.requires.within) in
    let below = c.requires.nodes c.args.position quiet c.requires.within in
    Gathers-here c.args.acts.now c.args.position c.from.result _ c.handed_to-reach.result _ here
    (omega (arith, c.handed_to-reach.result.full)) c.handed_to-reach.ensures refl
