use Rattle.std.proofs.Common.{ap, ◌∙◌}
use Rattle.std.specs.Prelude.{◌==◌, not}
use Rattle.lrc_named_statement.proofs.Takes.{closes_where_open}
use Rattle.lrc_named_statement.proofs.body.Body.closes.Goals as goal

pub returns : goal.returns
returns c = λ inside at.
    let blocks = c.args.self.now.outer in
    ap not (c.is_empty.ensures ∙ ap (λ n. n == 0) blocks.ok.0) ∙ closes_where_open blocks.items inside at
