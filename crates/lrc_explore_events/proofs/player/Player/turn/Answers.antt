use Rattle.std.proofs.Common.{◌≡◌, ◌∙◌, true, false, sym}
use Rattle.lrc_explore_events.proofs.Turning.{asks_otherwise, at_turn, read, stands_elsewhere}
use Rattle.lrc_explore_events.proofs.player.Player.turn.Goals as goal
use Rattle.lrc_explore_events.proofs.player.Player.turn.Goals.{else-line-statement-via-then-line-statement+else-is_asked, else-line-statement-via-else-line-statement}

pub returns-then-is_asked : goal.returns-then-is_asked
returns-then-is_asked c = λ program nodes world is statements.
    at_turn program nodes c.args.self.now world is c.args.order.now c.args.statements.now statements c.in_ok-act.act.now c.in_ok-statement.statement.now
    (read c.args.order.now c.args.self.now.acts c.in_ok-act.act.now _ c.in_ok-act.ensures.lookup.0 c.in_ok-act.ensures.lookup.1)
    (read c.args.statements.now c.args.self.now.acts c.in_ok-statement.statement.now _ c.in_ok-statement.ensures.lookup.0 c.in_ok-statement.ensures.lookup.1)
    c.line.result c.line.ensures c.ask.result c.ask.ensures c.if-line-statement.true (c.is_asked.ensures.0 c.if-is_asked.true)

pub returns-else-line-statement : goal.returns-else-line-statement
returns-else-line-statement c = λ program nodes world is statements other turn.
    let next = read c.args.order.now c.args.self.now.acts c.in_ok-act.act.now _ c.in_ok-act.ensures.lookup.0 c.in_ok-act.ensures.lookup.1 in
    let stood =
    read c.args.statements.now c.args.self.now.acts c.in_ok-statement.statement.now _ c.in_ok-statement.ensures.lookup.0 c.in_ok-statement.ensures.lookup.1 in
    elim c.else-line-statement.branch [
      | else-line-statement-via-then-line-statement+else-is_asked w ↦
          asks_otherwise program nodes c.args.self.now world is c.args.order.now c.args.statements.now statements c.in_ok-act.act.now
          c.in_ok-statement.statement.now next stood c.line.result c.line.ensures w.ask.result w.ask.ensures
          (λ asked. let never : false ≡ true = sym w.if-is_asked.false ∙ w.is_asked.ensures.1 asked in cc) other turn
      | else-line-statement-via-else-line-statement w ↦
          stands_elsewhere program nodes c.args.self.now world is c.args.order.now c.args.statements.now statements c.in_ok-act.act.now
          c.in_ok-statement.statement.now next stood c.line.result c.line.ensures w.if-line-statement.false other turn
    ]
