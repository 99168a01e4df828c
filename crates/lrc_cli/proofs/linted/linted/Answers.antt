use Rattle.std.proofs.Common.{ℕ, List, subst}
use Rattle.lrc_text.specs.Parts.{whole_text}
use Rattle.lrc_cli.specs.Answer.{IsLinted}
use Rattle.lrc_cli.proofs.linted.linted.Goals as goal

pub returns-clause-ok : goal.returns-clause-ok
returns-clause-ok c =
    let linted = c.in_ok-linted.linted in
    subst (λ (file : List ℕ). IsLinted file c.args.text.now (whole_text linted.parts.items) linted.status) c.as_bytes.ensures.value c.in_ok-linted.ensures
