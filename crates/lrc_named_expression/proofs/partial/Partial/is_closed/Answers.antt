use Rattle.std.proofs.Common.{◌∷◌, is_some, sym, ap, ◌∙◌}
use Rattle.lrc_named_tokens.specs.View.{token_of}
use Rattle.lrc_named_expression.specs.Partial.{close}
use Rattle.lrc_named_expression.proofs.Takes.{innermost}
use Rattle.lrc_named_expression.proofs.partial.Partial.is_closed.Goals as goal

pub returns-in-Some : goal.returns-in-Some
returns-in-Some c = λ inside at.
    let opened = innermost c.args.self.now.outer.items c.in-Some.around.now (rw c.deref.ensures.value at c.in-Some.ensures.value) in
    c.is_closed.ensures opened.0 _ inside at ∙ ap (λ outer. is_some (close outer inside at (token_of c.args.token))) (sym opened.1)
