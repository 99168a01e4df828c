-- By the rules.
use Rattle.lrc_named_translation.proofs.laws.expressions_have_one_core.Goals as goal
use Rattle.lrc_named_translation.proofs.Unique.{made_unique}

pub returns : goal.returns
returns c = λ declared at known cores e taken after other before instead p q h k.
    let s = made_unique h k in (s.before, s.core, s.after)
