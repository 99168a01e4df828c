use Rattle.std.proofs.Common.{sym, map, subst}
use Rattle.lrc_cli_args.specs.CommandLine.{IsRequestTaken}
use Rattle.lrc_cli_args.proofs.TakenLemmas.{taken}
use Rattle.lrc_cli_args.proofs.command_line.request_in.Goals as goal

pub request_from-requires : goal.request_from-requires
request_from-requires g c =
    subst IsRequestTaken (sym c.in_ok-matches.ensures.rows) (taken (map g.S.AsStr.text c.args.words.now) c.in_ok-matches.ensures.free)
