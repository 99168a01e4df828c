use Rattle.std.proofs.Common.{◌∙◌, ap, drop, is_some, map, string_bytes, subst, sym}
use Rattle.std.proofs.lemmas.List.{drop-map}
use Rattle.std.specs.IoError.{error_kind}
use Rattle.std.specs.Result.{result_map_both}
use Rattle.lrc_cli_args.specs.CommandLine.{words_meant}
use Rattle.lrc_shell.specs.Plays.{Begins, Plays}
use Rattle.lrc_shell.proofs.starting.begin.Goals as goal

pub returns-in-Ok : goal.returns-in-Ok
returns-in-Ok g c =
    let known = g.F.Sources.known c.args.sources.now in
    let terminal = is_some c.args.late in
    let out = g.W.Write.contents c.args.out.now in
    let out' = g.W.Write.contents c.play.new.out in
    let err = g.E.Write.contents c.args.err.now in
    let err' = g.E.Write.contents c.play.new.err in
    subst
    (λ arguments. Begins known terminal (result_map_both (λ given. map string_bytes given.items) error_kind arguments) out out' err err' c.play.result)
    (sym c.in-Ok.is)
    (subst (λ words. Plays known terminal (words_meant words) out out' err err' c.play.result)
    (ap (λ given. map string_bytes (drop 1 given)) c.deref.ensures.value ∙ sym (drop-map string_bytes 1 c.in-Ok.arguments.items))
    c.play.ensures)
