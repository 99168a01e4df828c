use Rattle.std.proofs.Common.{Bool, ◌∙◌, ap, ap₂}
use Rattle.lrc_races_text.specs.declared.asked.Asked.{Asked}
use Rattle.lrc_races_text.specs.declared.asked.Layout.{Layout}
use Rattle.lrc_races_text.specs.declared.asked.Sought.{Sought}
use Rattle.lrc_shell.specs.Plays.{is_grouped}
use Rattle.lrc_shell.proofs.races.asked_of.Goals as goal

abbrev made : Bool → Bool → Sought → Layout → Asked
made strict group sought layout = record { sought = sought; group = group; layout = layout; strict = strict }

pub returns : goal.returns
returns c = ap (λ (group : Bool). made c.args.racing.now.strict group c.sought_of.result c.layout_of.result) c.is_grouped.ensures
    ∙ ap₂ (made c.args.racing.now.strict (is_grouped c.args.racing.now.grouping)) c.sought_of.ensures c.layout_of.ensures
