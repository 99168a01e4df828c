-- One statement.
use Rattle.std.proofs.Common.{◌≡◌, ap, refl}
use Rattle.lrc_named_core.specs.declared.tree.Statement.{Barrier}
use Rattle.lrc_named_core.specs.Tree.{barrier, only}
use Rattle.lrc_named_statements.specs.Statements.{from}
use Rattle.lrc_named_statements.proofs.Chain.{push_last}
use Rattle.lrc_named_statements.proofs.simple.barrier.Goals as goal

pub returns : goal.returns
returns c =
    push_last (λ b. b ≡ only (barrier (from c.args.token))) c.args.into.now.items c.push.new.self.items (Barrier c.from-origin.result)
    (barrier (from c.args.token)) (ap barrier c.from-origin.ensures) c.in_ok-push.ensures.items refl
