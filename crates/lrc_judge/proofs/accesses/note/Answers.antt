-- What is kept of the words, one position further.
use Rattle.std.proofs.Common.{◌<◌, sym, get_or, arith}
use Rattle.lrc_trace.specs.declared.act.Act.{Act}
use Rattle.lrc_trace.specs.declared.act.Deed.TheVariants.{Quiet}
use Rattle.lrc_trace.specs.Run.{Does}
use Rattle.lrc_trace.proofs.Positions.{Does-read, Does-node, Does-deed}
use Rattle.lrc_judge.proofs.Touching.{IsTouched-read, IsTouched-write, AreTouched-same, AreTouched-next, no_access, read_is, write_is}
use Rattle.lrc_judge.proofs.accesses.note.Goals as goal
use Rattle.lrc_judge.proofs.accesses.note.Goals.{After-from-node}

-- the act at the position
abbrev act_at : After-from-node → Act
act_at c = get_or c.args.acts.now c.args.position (record { node = 0; deed = Quiet })

here : (c : After-from-node) → Does c.args.acts.now c.args.position c.from-node.result (act_at c).deed
here c = Does-node (sym c.from-node.ensures) (Does-read c.args.acts.now c.args.position (record { node = 0; deed = Quiet }) c.requires.within)

node_within : (c : After-from-node) → c.from-node.result < 16
node_within c = let below = c.requires.nodes c.args.position (record { node = 0; deed = Quiet }) c.requires.within in omega (arith, below, c.from-node.ensures)

pub returns-in_ok-insert-in-Read : goal.returns-in_ok-insert-in-Read
returns-in_ok-insert-in-Read c =
    let b = (goal.at.returns-in_ok-insert-in-Read c).After-from-node in
    let run = c.args.acts.now in
    let n = c.args.position in
    let node = c.from-node.result in
    let word = c.in-Read.word in
    let value = c.in-Read.field-1 in
    let does = Does-deed c.in-Read.is (here b) in
    let lt = node_within b in
    let now = IsTouched-read run n node word value c.touched_at.result c.with_read-touched.result does
    (omega (arith, c.touched_at.result.all_accessed)) c.with_read-touched.ensures.accessed c.with_read-touched.ensures.written
    (c.touched_at.ensures run n c.requires.touched) in
    AreTouched-next run n word c.args.words.now c.insert.new.self c.with_read-touched.result
    c.in_ok-insert-in-Read.ensures.updates now (λ p w h. (read_is run n node word value does p w h).1) c.requires.touched

pub returns-in_ok-insert-in-Write : goal.returns-in_ok-insert-in-Write
returns-in_ok-insert-in-Write c =
    let b = (goal.at.returns-in_ok-insert-in-Write c).After-from-node in
    let run = c.args.acts.now in
    let n = c.args.position in
    let node = c.from-node.result in
    let word = c.in-Write.word in
    let value = c.in-Write.field-1 in
    let does = Does-deed c.in-Write.is (here b) in
    let lt = node_within b in
    let touched = c.touched_at-in-Write.result in
    let now = IsTouched-write run n node word value touched c.with_write-touched.result does (omega (arith, touched.all_accessed))
    (omega (arith, touched.all_written)) c.with_write-touched.ensures.accessed c.with_write-touched.ensures.written
    (c.touched_at-in-Write.ensures run n c.requires.touched) in
    AreTouched-next run n word c.args.words.now c.insert-in-Write.new.self c.with_write-touched.result
    c.in_ok-insert-in-Write.ensures.updates now (λ p w h. (write_is run n node word value does p w h).1) c.requires.touched

pub returns-in_default : goal.returns-in_default
returns-in_default c =
    let b = (goal.at.returns-in_default c).After-from-node in
    AreTouched-same c.args.acts.now c.args.position c.args.words.now
    (no_access c.args.acts.now c.args.position c.from-node.result (act_at b).deed (here b) c.in_default.not-Read c.in_default.not-Write) c.requires.touched
