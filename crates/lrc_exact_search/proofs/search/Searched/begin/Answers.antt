use Rattle.std.proofs.Common.{◌∙◌, sym, subst}
use Rattle.lrc_orders.proofs.Alike.{acts_same}
use Rattle.lrc_exact_laws.specs.Laws.{IsExactRun}
use Rattle.lrc_exact_judge.specs.Shape.{shape_of}
use Rattle.lrc_exact_search.proofs.Meeting.{first_in_order}
use Rattle.lrc_exact_search.proofs.Standing.{none_yet}
use Rattle.lrc_exact_search.proofs.search.Searched.begin.Goals as goal

pub returns-clause-order : goal.returns-clause-order
returns-clause-order c =
    let program = c.args.task.now.program.now in
    let shape = shape_of c.args.task.now.layout in
    let i = c.in_ok-insert_full.ensures in
    let s = i.stored in
    let empty = c.new-acts.ensures.items in
    first_in_order program shape c.args.self.now.runs.keys c.insert_full.new.self.keys _ _ c.requires i.keys
    (record { place = c.in_ok-insert_full.field-0.0; met = s.0; there = s.1; same = sym (acts_same c.new-acts.result.items s.0.acts.items s.2) ∙ empty })
    (subst (IsExactRun program shape) (sym empty) (none_yet program shape)) i.unique
