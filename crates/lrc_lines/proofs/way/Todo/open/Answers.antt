-- The statements that are opened come first.
use Rattle.std.proofs.Common.{refl}
use Rattle.std.proofs.lemmas.List.{take_rest}
use Rattle.lrc_lines.proofs.Passing.{todo_of_opened}
use Rattle.lrc_lines.proofs.way.Todo.open.Goals as goal

pub returns-in_ok-push-clause-ok : goal.returns-in_ok-push-clause-ok
returns-in_ok-push-clause-ok c =
    todo_of_opened c.args.statements.now c.args.lines.now c.push.new.self.items c.args.self.now.stretches.items _ c.in-len1-up.len_at_least
    c.first-item.is (take_rest c.args.statements.now 1) refl c.in_ok-push.ensures.items
