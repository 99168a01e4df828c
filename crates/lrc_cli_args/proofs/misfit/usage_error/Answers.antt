use Rattle.std.proofs.Common.{subst, sym}
use Rattle.std.proofs.lemmas.Result.{IfOk-weaker}
use Rattle.clap.specs.declared.error.kind.ErrorKind.{ErrorKind}
use Rattle.lrc_cli_args.specs.CommandLine.{IsUsageKind}
use Rattle.lrc_cli_args.proofs.misfit.usage_error.Goals as goal

pub returns : goal.returns
returns c =
    IfOk-weaker c.error.result _ _
    (λ error kind_is. subst (λ (kind : ErrorKind). IsUsageKind c.args.misfit kind) (sym kind_is) c.usage_kind.ensures) c.error.ensures.kind
