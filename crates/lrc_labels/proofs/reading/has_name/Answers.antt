use Rattle.std.proofs.Common.{rules, tests, ◌∙◌}
use Rattle.std.proofs.lemmas.Iterator.{YieldsList-from_slice}
use Rattle.std.proofs.lemmas.Iterator.Search.{any_from_yields_List}
use Rattle.std.specs.Str.{bytes_eq}
use Rattle.lrc_labels.specs.declared.label.Label as code_label
use Rattle.lrc_labels.specs.Reading.{Label, label_seen}
use Rattle.lrc_labels.proofs.Readings.{any_seen}
use Rattle.lrc_labels.proofs.reading.has_name.Goals as goal

pub returns : goal.returns
returns c =
    any_from_yields_List (λ (label : code_label.Label). bytes_eq label.name.now c.args.name.now) _ _ c.any.result c.any.ensures.ran
    (YieldsList-from_slice c.args.labels.now cc) (λ x b q k. search (rules, tests))
    ∙ any_seen label_seen (λ (label : Label). bytes_eq label.name c.args.name.now) c.args.labels.now
