use Rattle.std.proofs.Common.{rules, tests}
use Rattle.std.proofs.lemmas.Iterator.{YieldsList-from_slice}
use Rattle.std.proofs.lemmas.Iterator.Search.{any_from_yields_List}
use Rattle.lrc_threads.specs.declared.life.Past.{Past}
use Rattle.lrc_threads.proofs.life.parts_of.Goals as goal

pub returns-clause-ready : goal.returns-clause-ready
returns-clause-ready c =
    any_from_yields_List (λ (past : Past). past.is_ready) _ _ _ c.any-is_any_ready.ensures.ran (YieldsList-from_slice c.args.pasts.items cc)
    (λ x b q k. search (rules, tests))
