-- Whether one node's latest access is not reached says whether the act races.
use Rattle.std.proofs.Common.{sym, get_or}
use Rattle.std.proofs.lemmas.Bool.{false≢true}
use Rattle.lrc_trace.specs.declared.act.Act.{Act}
use Rattle.lrc_trace.specs.declared.act.Deed.TheVariants.{Quiet}
use Rattle.lrc_trace.specs.Run.{Does}
use Rattle.lrc_trace.proofs.Positions.{Does-read, Does-node, Does-deed}
use Rattle.lrc_judge.proofs.Touching.{read_races, write_races, races_access, no_access}
use Rattle.lrc_judge.proofs.accesses.races.Goals as goal
use Rattle.lrc_judge.proofs.accesses.races.Goals.{After-from-node}

-- the act at the position
abbrev act_at : After-from-node → Act
act_at c = get_or c.args.acts.now c.args.position (record { node = 0; deed = Quiet })

here : (c : After-from-node) → Does c.args.acts.now c.args.position c.from-node.result (act_at c).deed
here c = Does-node (sym c.from-node.ensures) (Does-read c.args.acts.now c.args.position (record { node = 0; deed = Quiet }) c.requires.within)

pub returns-in-Read : goal.returns-in-Read
returns-in-Read c =
    let b = (goal.at.returns-in-Read c).After-from-node in
    let r = read_races c.args.acts.now c.args.position c.from-node.result c.in-Read.word c.in-Read.field-1 c.args.reach.now
    c.requires.reach c.touched_at.result (c.touched_at.ensures c.args.acts.now c.args.position c.requires.touched) (Does-deed c.in-Read.is (here b)) in
    (λ h. r.0 (c.is_some_unreached.ensures.0 h), λ h. c.is_some_unreached.ensures.1 (r.1 h))

pub returns-in-Write : goal.returns-in-Write
returns-in-Write c =
    let b = (goal.at.returns-in-Write c).After-from-node in
    let r = write_races c.args.acts.now c.args.position c.from-node.result c.in-Write.word c.in-Write.field-1 c.args.reach.now
    c.requires.reach c.touched_at-in-Write.result
    (c.touched_at-in-Write.ensures c.args.acts.now c.args.position c.requires.touched) (Does-deed c.in-Write.is (here b)) in
    (λ h. r.0 (c.is_some_unreached-in-Write.ensures.0 h), λ h. c.is_some_unreached-in-Write.ensures.1 (r.1 h))

pub returns-in_default : goal.returns-in_default
returns-in_default c =
    let b = (goal.at.returns-in_default c).After-from-node in (
      λ h. absurd (false≢true h),
      λ (i, r).
          let (p, w, a) = races_access c.args.acts.now i c.args.position r in
          absurd (no_access c.args.acts.now c.args.position c.from-node.result (act_at b).deed (here b) c.in_default.not-Read c.in_default.not-Write p w a),
    )
