use Rattle.std.proofs.Common.{refl, sym, ◌∙◌}
use Rattle.lrc_named_tokens.specs.View.{token_of}
use Rattle.lrc_named_statement.specs.Seen.{outer_seen}
use Rattle.lrc_named_statement.proofs.Takes.{branch_else, branch_other}
use Rattle.lrc_named_statement.proofs.body.Body.follows_branch.Goals as goal

pub returns-then-is_else : goal.returns-then-is_else
returns-then-is_else c = λ before branch at.
    c.if-is_else.true ∙ branch_else (outer_seen c.args.self.now) before branch at (token_of c.args.token) (c.if-is_else.ensures.0 refl)

pub returns-else-is_else : goal.returns-else-is_else
returns-else-is_else c = λ before branch at.
    c.begins.ensures _ at
    ∙ sym (branch_other (outer_seen c.args.self.now) before branch at (token_of c.args.token) (λ h. let t = c.if-is_else.ensures.1 h in absurd (cc)))
