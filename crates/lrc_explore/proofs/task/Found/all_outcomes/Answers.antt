use Rattle.std.proofs.Common.{◌≤◌, List}
use Rattle.std.specs.Prelude.{◌↔◌}
use Rattle.lrc_trace.specs.declared.act.Act.{Act}
use Rattle.lrc_orders_table.specs.Rows.{row_count}
use Rattle.lrc_orders.specs.Outcome.{HasOutcome, IsOutcome}
use Rattle.lrc_explore.specs.Answers.{AreGathered, AreSound, FitsSettledNoted}
use Rattle.lrc_explore.specs.Ended.{AreAllFound}
use Rattle.lrc_explore.specs.Reached.{AreFound, IsMore}
use Rattle.lrc_explore.proofs.Answering.{ok_four}
use Rattle.lrc_explore.proofs.Ending.{all_found}
use Rattle.lrc_explore.proofs.Fitting.{fits_settled_noted}
use Rattle.lrc_explore.proofs.Keys.{start_grown}
use Rattle.lrc_explore.proofs.Seeking.{exact}
use Rattle.lrc_explore.proofs.task.Found.all_outcomes.Goals as goal

pub returns-clause-all : goal.returns-clause-all
returns-clause-all c =
    let task = c.args.task.now in
    let old = c.begin.new.self in
    let new = c.gather.new.self in
    let found = c.gather.new.outcomes.keys in
    let e = c.gather.ensures in
    let say = λ (f : AreFound task new) (m : IsMore old new) (s : AreSound task found) (d : AreGathered task new.table.rows found (row_count new.table.rows)).
    all_found task new f (start_grown task old.table.rows new.table.rows m.rows c.in_ok-_traps.ensures.start) (λ k lt key at. (d k lt key at).expanded) in
    ok_four {A = AreFound task new} {B = IsMore old new} {C = AreSound task found} {D = AreGathered task new.table.rows found (row_count new.table.rows)}
    {P = AreAllFound task new} c.gather.result say e.found e.more e.sound e.done

pub returns-clause-exact : goal.returns-clause-exact
returns-clause-exact c =
    let task = c.args.task.now in
    let old = c.begin.new.self in
    let new = c.gather.new.self in
    let found = c.gather.new.outcomes.keys in
    let e = c.gather.ensures in
    let say = λ (f : AreFound task new) (m : IsMore old new) (s : AreSound task found) (d : AreGathered task new.table.rows found (row_count new.table.rows)) (notes : List Act).
    exact task new.table.rows found f.reached (start_grown task old.table.rows new.table.rows m.rows c.in_ok-_traps.ensures.start) s d c.requires.noting notes in
    ok_four {A = AreFound task new} {B = IsMore old new} {C = AreSound task found} {D = AreGathered task new.table.rows found (row_count new.table.rows)}
    {P = (notes : List Act) → (HasOutcome found notes ↔ IsOutcome task.program.now task.flat.nodes notes)} c.gather.result say e.found e.more e.sound e.done

pub returns-clause-fits : goal.returns-clause-fits
returns-clause-fits c =
    let task = c.args.task.now in
    let old = c.begin.new.self in
    let new = c.gather.new.self in
    let found = c.gather.new.outcomes.keys in
    let e = c.gather.ensures in
    let say = λ (f : AreFound task new) (m : IsMore old new) (d : AreGathered task new.table.rows found (row_count new.table.rows))
    (few : row_count new.table.rows ≤ task.most).
    fits_settled_noted task new.table.rows task.most f.reached (start_grown task old.table.rows new.table.rows m.rows c.in_ok-_traps.ensures.start)
    (λ k lt key at. (d k lt key at).expanded) few c.requires.noting in
    ok_four {A = AreFound task new} {B = IsMore old new} {C = AreGathered task new.table.rows found (row_count new.table.rows)} {D = row_count new.table.rows ≤ task.most}
    {P = FitsSettledNoted task.program.now task.flat.nodes task.most} c.gather.result say e.found e.more e.done e.fits
