use Rattle.std.proofs.Common.{◌<◌, ℕ, subst, arith}
use Rattle.std.specs.Prelude.{IfSome, Option}
use Rattle.lrc_orders.specs.declared.noted.Noted.{Noted}
use Rattle.lrc_orders_table.specs.Tables.{IsRowOf}
use Rattle.lrc_orders_less.specs.Reaches.{AreReaches, IsAlwaysUndisputed}
use Rattle.lrc_explore.proofs.Stepping.{known_at}
use Rattle.lrc_explore_less.proofs.Steps.{known_of_key, reaches_by}
use Rattle.lrc_explore_less.proofs.less.Less.undisputed.Goals as goal

pub undisputed_node-requires-clause-table : goal.undisputed_node-requires-clause-table
undisputed_node-requires-clause-table c = c.requires.sound.found.table c.means_of-means.result c.means_of-means.ensures

pub undisputed_node-requires-clause-row : goal.undisputed_node-requires-clause-row
undisputed_node-requires-clause-row c =
    known_at c.args.task.now c.args.self.now.found c.args.place c.row-row.result c.requires.sound.found c.requires.within c.row-row.ensures

pub undisputed_node-requires-clause-reaches : goal.undisputed_node-requires-clause-reaches
undisputed_node-requires-clause-reaches c =
    reaches_by c.args.task.now c.args.self.now c.args.place c.row-row.result c.means_of-means.result c.means_of-means.ensures c.requires.sound c.row-row.ensures

pub overflow_cast-result : goal.overflow_cast-result
overflow_cast-result c =
    let lt = subst (λ (o : Option ℕ). IfSome o (λ node. node < c.args.self.now.found.table.rows.nodes)) c.in-Some.is c.in_ok-found.ensures.within in
    let same = c.requires.sound.found.reached.nodes in
    omega (arith, lt, same)

pub returns-in-Some-clause-sound : goal.returns-in-Some-clause-sound
returns-in-Some-clause-sound c =
    let s = c.requires.sound in
    record {
      found = s.found;
      reaches = subst (λ f. AreReaches f c.args.self.now.found.table.rows.threads.keys c.undisputed_node.new.self) c.means_of-means.ensures.flat
          c.in_ok-found.ensures.reaches;
      trap = s.trap;
      trapless = s.trapless;
    }

pub returns-in-Some-clause-node : goal.returns-in-Some-clause-node
returns-in-Some-clause-node c =
    let lt = subst (λ (o : Option ℕ). IfSome o (λ node. node < c.args.self.now.found.table.rows.nodes)) c.in-Some.is c.in_ok-found.ensures.within in
    let same = c.requires.sound.found.reached.nodes in
    omega (arith, lt, same)

pub returns-in-Some-clause-known : goal.returns-in-Some-clause-known
returns-in-Some-clause-known c =
    let means = c.means_of-means.result in
    let table = c.args.self.now.found.table in
    let row = c.row-row.result in
    known_of_key c.args.task.now c.args.self.now c.args.place row means c.means_of-means.ensures c.requires.sound c.row-row.ensures c.in-Some.node
    (subst (λ (o : Option ℕ). IfSome o (λ node. (key : Noted) → IsRowOf means table row key → IsAlwaysUndisputed means.flat key.state node)) c.in-Some.is
    c.in_ok-found.ensures.undisputed)

pub returns-in-None-clause-sound : goal.returns-in-None-clause-sound
returns-in-None-clause-sound c =
    let s = c.requires.sound in
    record {
      found = s.found;
      reaches = subst (λ f. AreReaches f c.args.self.now.found.table.rows.threads.keys c.undisputed_node.new.self) c.means_of-means.ensures.flat
          c.in_ok-found.ensures.reaches;
      trap = s.trap;
      trapless = s.trapless;
    }
