use Rattle.std.proofs.Common.{rules, tests}
use Rattle.std.proofs.lemmas.Iterator.{YieldsList-from_slice}
use Rattle.std.proofs.lemmas.Iterator.Search.{find_from_yields_List}
use Rattle.lrc_labels.specs.declared.label.Label as code_label
use Rattle.lrc_labels.specs.Reading.{Label, label_seen}
use Rattle.lrc_labels.specs.Show.{names_lock}
use Rattle.lrc_labels.proofs.Readings.{find_in}
use Rattle.lrc_labels.proofs.show.label_of_lock.Goals as goal

pub returns : goal.returns
returns c =
    find_in _ label_seen (λ (label : Label). names_lock label.target c.args.lock) c.args.labels.now _
    (find_from_yields_List (λ (label : code_label.Label). names_lock label.target c.args.lock) _ _ c.find.result c.find.ensures.ran
    (YieldsList-from_slice c.args.labels.now cc) (λ x b q k. search (rules, tests)))
