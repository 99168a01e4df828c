use Rattle.std.proofs.Common.{sym}
use Rattle.lrc_orders.proofs.Alike.{acts_same}
use Rattle.lrc_orders.proofs.Keeping.{put_grows}
use Rattle.lrc_exact_judge.specs.Shape.{shape_of}
use Rattle.lrc_exact_search.proofs.Meeting.{more_in_order}
use Rattle.lrc_exact_search.proofs.search.Searched.meet.Goals as goal

pub returns-clause-order : goal.returns-clause-order
returns-clause-order c =
    let i = c.in_ok-insert_full.ensures in
    more_in_order c.args.task.now.program.now (shape_of c.args.task.now.layout) c.args.self.now.runs.keys c.insert_full.new.self.keys _ _
    c.requires.order i.keys c.requires.exact i.unique

pub returns-clause-grows : goal.returns-clause-grows
returns-clause-grows c = put_grows _ c.args.self.now.runs.keys c.insert_full.new.self.keys _ c.in_ok-insert_full.ensures.keys

pub returns-clause-met : goal.returns-clause-met
returns-clause-met c =
    let s = c.in_ok-insert_full.ensures.stored in
    record { place = c.in_ok-insert_full.field-0.0; met = s.0; there = s.1; same = sym (acts_same c.args.acts.items s.0.acts.items s.2) }
