use Rattle.std.proofs.Common.{Bool, IfOk, sym, subst}
use Rattle.std.proofs.lemmas.Result.{IfOk-weaker}
use Rattle.lrc_cli_runs.specs.Charted.{IsDrawn, IsShownBy}
use Rattle.lrc_cli_runs.proofs.charted.drawn.Goals as goal

pub returns-in_ok-document_of : goal.returns-in_ok-document_of
returns-in_ok-document_of c =
    subst (λ (terminal : Bool). IfOk c.document_part.result (λ part. IsDrawn terminal c.args.picture.now part.items)) (sym c.if-terminal.false)
    (IfOk-weaker c.document_part.result _ _ (λ part text. (c.in_ok-document_of.field-0, is_shown, text)) c.document_part.ensures)
  where
    is_shown : IsShownBy c.args.picture.now c.in_ok-document_of.field-0
    is_shown = record {
      marks = c.in_ok-document_of.ensures.shown;
      once = c.in_ok-document_of.ensures.once;
      space = c.in_ok-document_of.ensures.space;
      root = c.in_ok-document_of.ensures.root;
    }
