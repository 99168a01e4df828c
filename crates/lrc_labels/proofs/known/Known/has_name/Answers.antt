use Rattle.std.proofs.Common.{◌∙◌}
use Rattle.lrc_labels.proofs.known.Known.has_name.Goals as goal

pub returns : goal.returns
returns c = c.contains.ensures ∙ c.requires.names c.args.name.now
