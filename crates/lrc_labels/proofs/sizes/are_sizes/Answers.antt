use Rattle.std.proofs.Common.{rules, tests, ◌∙◌, List, ℕ, Bor}
use Rattle.std.proofs.lemmas.Iterator.{YieldsList-from_slice}
use Rattle.std.proofs.lemmas.Iterator.Search.{all_from_yields_List}
use Rattle.lrc_labels.specs.Sizes.{is_size}
use Rattle.lrc_labels.proofs.Rows.{all_seen}
use Rattle.lrc_labels.proofs.sizes.are_sizes.Goals as goal

pub returns : goal.returns
returns c =
    all_from_yields_List (λ (field : Bor (List ℕ)). is_size field.now) _ _ c.all.result c.all.ensures.ran
    (YieldsList-from_slice c.args.fields.now cc) (λ x b q k. search (rules, tests))
    ∙ all_seen (λ field. field.now) is_size c.args.fields.now
