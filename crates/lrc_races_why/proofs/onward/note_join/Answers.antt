-- A join joins a thread, and nothing else does.
use Rattle.lrc_races_why.proofs.Gating.{joins_noted, joins_kept}
use Rattle.lrc_races_why.proofs.onward.note_join.Goals as goal

pub returns-in_ok-gain-in-Join : goal.returns-in_ok-gain-in-Join
returns-in_ok-gain-in-Join c = λ events to n here g old.
    joins_noted events to n c.args.event here c.args.start g c.in-Join.thread c.in-Join.is c.args.joins.now.items c.gain.new.row.items
    c.in_ok-gain-in-Join.ensures old

pub returns-in_default : goal.returns-in_default
returns-in_default c = λ events to n here g old.
    joins_kept events to n c.args.event here c.args.start g c.in_default.not-Join c.args.joins.now.items old
