use Rattle.std.proofs.Common.{Option, subst, sym}
use Rattle.std.proofs.lemmas.Result.{IfErr-weaker, IfOk-weaker}
use Rattle.clap.specs.Words.{Text}
use Rattle.lrc_cli_args.specs.Options.{HasWordMisfit, IsForm}
use Rattle.lrc_cli_args.proofs.runs.form_of.Goals as goal

pub returns-clause-ok : goal.returns-clause-ok
returns-clause-ok c =
    IfOk-weaker c.form_named.result _ _ (λ form is. record {
      messages = c.is_named-messages.result;
      part = c.part_of.result;
      asked = c.is_named-messages.ensures;
      part_is = c.part_of.ensures;
      named = subst (λ (word : Option Text). IsForm word c.is_named-messages.result c.part_of.result form) (sym c.text_of.ensures) is;
    }) c.form_named.ensures.ok

pub returns-clause-err : goal.returns-clause-err
returns-clause-err c =
    IfErr-weaker c.form_named.result _ _ (λ misfit has. (
      c.is_named-messages.result,
      c.part_of.result,
      c.is_named-messages.ensures,
      c.part_of.ensures,
      subst (λ (word : Option Text). HasWordMisfit word c.is_named-messages.result c.part_of.result misfit) (sym c.text_of.ensures) has,
    )) c.form_named.ensures.err
