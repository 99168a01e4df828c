use Rattle.std.proofs.Common.{refl, sym, ◌∙◌}
use Rattle.lrc_lang.specs.Parser.Seen.{symbol_seen}
use Rattle.lrc_lang.specs.Parser.SeenBody.{outer_seen}
use Rattle.lrc_lang.proofs.Takes.{then_else, then_other}
use Rattle.lrc_lang.proofs.body.Body.follows_then.Goals as goal

pub returns-then-is_else : goal.returns-then-is_else
returns-then-is_else c = λ before first condition.
    c.if-is_else.true ∙ then_else (outer_seen c.args.self.now) before first condition (symbol_seen c.args.symbol) (c.if-is_else.ensures.0 refl)

pub returns-else-is_else : goal.returns-else-is_else
returns-else-is_else c = λ before first condition.
    c.begins.ensures _
    ∙ sym (then_other (outer_seen c.args.self.now) before first condition (symbol_seen c.args.symbol) (λ h. let t = c.if-is_else.ensures.1 h in absurd (cc)))
