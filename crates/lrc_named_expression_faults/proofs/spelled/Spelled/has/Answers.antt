-- A name that has a place is one of them.
use Rattle.std.proofs.Common.{ap, ◌∙◌}
use Rattle.std.specs.Prelude.{is_some}
use Rattle.lrc_named_expression_faults.proofs.Spelling.{placed_among}
use Rattle.lrc_named_expression_faults.proofs.spelled.Spelled.has.Goals as goal

pub returns : goal.returns
returns c =
    let spelled = c.args.self.now in
    let name = c.args.name.now in
    c.contains_key.ensures ∙ ap is_some (spelled.placed name) ∙ placed_among spelled.names.now name 0
