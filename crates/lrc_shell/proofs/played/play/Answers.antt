use Rattle.std.proofs.Common.{Bool, List, ap, drop, map, subst}
use Rattle.clap.specs.Words.{Text}
use Rattle.lrc_cli_args.specs.CommandLine.{words_meant}
use Rattle.lrc_shell.specs.Plays.{Plays}
use Rattle.lrc_shell.proofs.played.play.Goals as goal

pub returns : goal.returns
returns g c =
    let known = g.F.Sources.known c.args.sources.now in
    let out = g.W.Write.contents c.args.out.now in
    let out' = g.W.Write.contents c.play_words.new.out in
    let err = g.E.Write.contents c.args.err.now in
    let err' = g.E.Write.contents c.play_words.new.err in
    subst (λ (terminal : Bool). Plays known terminal (words_meant (map g.S.AsStr.text (drop 1 c.args.arguments.now))) out out' err err' c.play_words.result)
    c.is_some-terminal.ensures
    (subst (λ (words : List Text). Plays known c.is_some-terminal.result words out out' err err' c.play_words.result)
    (ap (λ words. words_meant (map g.S.AsStr.text words)) c.words_of.ensures) c.play_words.ensures)
