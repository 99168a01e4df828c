use Rattle.std.proofs.Common.{rules, tests, ◌∙◌}
use Rattle.std.proofs.lemmas.Iterator.{YieldsList-from_slice}
use Rattle.std.proofs.lemmas.Iterator.Search.{any_from_yields_List}
use Rattle.lrc_lang.proofs.Names.{spells, is_among-texts}
use Rattle.lrc_private_names.proofs.names.is_among.Goals as goal

pub returns : goal.returns
returns c =
    any_from_yields_List (spells c.args.name.now) _ _ _ c.any.ensures.ran (YieldsList-from_slice c.args.names.now cc) (λ x b q k. search (rules, tests))
    ∙ is_among-texts c.args.names.now c.args.name.now
