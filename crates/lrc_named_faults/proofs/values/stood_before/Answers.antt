-- Here, or in the table.
use Rattle.std.proofs.Common.{◌||◌, is_some, sym, ap, ◌∙◌}
use Rattle.lrc_named_names.specs.Names.{meaning_of}
use Rattle.lrc_named_names.specs.View.{declared_of}
use Rattle.lrc_named_faults.proofs.values.stood_before.Goals as goal

pub returns-then-stood : goal.returns-then-stood
returns-then-stood c = c.if-stood.true ∙ ap (λ b. b || is_some (meaning_of (declared_of c.args.names.now) c.args.name.now)) (sym c.if-stood.true)

pub returns-else-stood : goal.returns-else-stood
returns-else-stood c = c.is_declared.ensures ∙ ap (λ b. b || is_some (meaning_of (declared_of c.args.names.now) c.args.name.now)) (sym c.if-stood.false)
