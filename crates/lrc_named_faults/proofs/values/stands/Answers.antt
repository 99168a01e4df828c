-- The function's name, or one of the parameters.
use Rattle.std.proofs.Common.{◌||◌, map, take, sym, ap, ◌∙◌}
use Rattle.lrc_named_tree.specs.View.{named_of}
use Rattle.lrc_named_constants.specs.Well.{bytes_of, is_among}
use Rattle.lrc_named_faults.proofs.values.stands.Goals as goal

pub returns-then-is_spelled : goal.returns-then-is_spelled
returns-then-is_spelled c =
    c.if-is_spelled.true ∙ ap (λ b. b || is_among (bytes_of (map named_of (take c.args.count c.args.parameters.now.names.now))) c.args.name.now) (sym c.if-is_spelled.true ∙ c.is_spelled.ensures)

pub returns-else-is_spelled : goal.returns-else-is_spelled
returns-else-is_spelled c =
    c.has_before.ensures ∙ ap (λ b. b || is_among (bytes_of (map named_of (take c.args.count c.args.parameters.now.names.now))) c.args.name.now) (sym c.if-is_spelled.false ∙ c.is_spelled.ensures)
