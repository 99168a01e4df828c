-- Something stands in the block.
use Rattle.std.proofs.Common.{◌≡◌, ◌++◌, sym, subst}
use Rattle.std.specs.Prelude.{OnOk}
use Rattle.lrc_named_text.proofs.Growing.{else_more}
use Rattle.lrc_named_text.proofs.statements.push_else.Goals as goal

pub returns-in-len1-up : goal.returns-in-len1-up
returns-in-len1-up c =
    subst (λ t. OnOk c.push_divider.result (c.push_divider.new.text.items ≡ c.args.text.now.items ++ t))
    (sym (else_more c.args.indent.now c.args.otherwise.now c.in-len1-up.len_at_least)) c.push_divider.ensures
