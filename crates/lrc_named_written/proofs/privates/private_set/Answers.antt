-- The name, where it is declared nowhere.
use Rattle.std.proofs.Common.{sym, ap, ◌∙◌}
use Rattle.lrc_named_tree.specs.View.{named_of}
use Rattle.lrc_named_names.specs.View.{declared_of}
use Rattle.lrc_named_written.specs.Privates.{undeclared}
use Rattle.lrc_named_written.proofs.Seen.{one_declared, one_undeclared}
use Rattle.lrc_named_written.proofs.privates.private_set.Goals as goal

pub returns-then-is_undeclared : goal.returns-then-is_undeclared
returns-then-is_undeclared c =
    let declared = declared_of c.args.names.now in
    ap (undeclared declared) c.in-Some.ensures ∙ one_undeclared declared (named_of c.in-Some.name).bytes (sym c.is_undeclared.ensures ∙ c.if-is_undeclared.true)

pub returns-else-is_undeclared : goal.returns-else-is_undeclared
returns-else-is_undeclared c =
    let declared = declared_of c.args.names.now in
    ap (undeclared declared) c.in-Some.ensures ∙ one_declared declared (named_of c.in-Some.name).bytes (sym c.is_undeclared.ensures ∙ c.if-is_undeclared.false)

pub returns-in-None : goal.returns-in-None
returns-in-None c = ap (undeclared (declared_of c.args.names.now)) c.in-None.ensures
