use Rattle.std.proofs.Common.{◌+◌, ◌-◌, ◌<◌, ℕ, ◌∙◌, ap, subst, arith}
use Rattle.std.specs.Prelude.{IfSome, Option}
use Rattle.lrc_orders.specs.declared.noted.Noted.{Noted}
use Rattle.lrc_orders_table.specs.Rows.{IsRowAt, row_count}
use Rattle.lrc_orders_less.specs.Reaches.{IsAlwaysUndisputed}
use Rattle.lrc_explore_less.specs.declared.less.Less.{Less}
use Rattle.lrc_explore_less.proofs.Steps.{passing_known, widens_known}
use Rattle.lrc_explore_less.proofs.Ways.{widens_again}
use Rattle.lrc_explore_less.proofs.less.Less.pass.Goals as goal

pub returns-in_default-clause-passed : goal.returns-in_default-clause-passed
returns-in_default-clause-passed c =
    passing_known c.args.task.now c.args.self.now c.undisputed.new.self c.args.first c.requires.passing c.in_ok-node.ensures.sound c.undisputed.ensures.others

pub returns-in_default-clause-widens : goal.returns-in_default-clause-widens
returns-in_default-clause-widens c = widens_known c.args.self.now c.undisputed.new.self c.undisputed.ensures.others

pub pass_by-requires-clause-passing : goal.pass_by-requires-clause-passing
pass_by-requires-clause-passing c =
    passing_known c.args.task.now c.args.self.now c.undisputed.new.self c.args.first c.requires.passing c.in_ok-node.ensures.sound c.undisputed.ensures.others

pub pass_by-requires-clause-last : goal.pass_by-requires-clause-last
pass_by-requires-clause-last c =
    let same = ap (λ (l : Less). row_count l.found.table.rows) c.undisputed.ensures.others in
    let some = c.requires.passing.some in
    omega (arith, same, some, c.len-last.ensures.len)

pub pass_by-requires-clause-node : goal.pass_by-requires-clause-node
pass_by-requires-clause-node c = subst (λ (o : Option ℕ). IfSome o (λ node. node < c.args.task.now.flat.nodes)) c.in-Some.is c.in_ok-node.ensures.node

pub pass_by-requires-clause-known : goal.pass_by-requires-clause-known
pass_by-requires-clause-known c =
    let rows = c.undisputed.new.self.found.table.rows in
    subst (λ (o : Option ℕ). IfSome o (λ node. (key : Noted) → IsRowAt rows (c.len-last.result - 1) key → IsAlwaysUndisputed c.args.task.now.flat key.state node))
    c.in-Some.is c.in_ok-node.ensures.known

pub returns-clause-on : goal.returns-clause-on
returns-clause-on c = λ is.
    c.in_ok-pass.ensures.on is ∙ ap (λ (l : Less). row_count l.found.table.rows + 1) c.undisputed.ensures.others

pub returns-clause-widens : goal.returns-clause-widens
returns-clause-widens c =
    widens_again (widens_known c.args.self.now c.undisputed.new.self c.undisputed.ensures.others) c.in_ok-pass.ensures.widens
