use Rattle.std.proofs.Common.{get_or}
use Rattle.lrc_trace.specs.declared.act.Act.{Act}
use Rattle.lrc_trace.specs.declared.act.Deed.TheVariants.{Quiet}
use Rattle.lrc_trace.proofs.Positions.{Does-read}
use Rattle.lrc_why.proofs.parting.standing.Goals as goal

pub returns : goal.returns
returns c =
    let quiet : Act = record { node = 0; deed = Quiet } in
    let run = c.args.acts.now in
    let position = c.args.position in (
      (get_or run position quiet).node,
      ((get_or run position quiet).deed, Does-read run position quiet c.requires),
      record { locks = c.in_ok-locks.ensures; departs = c.departs_at-departs.ensures },
    )
