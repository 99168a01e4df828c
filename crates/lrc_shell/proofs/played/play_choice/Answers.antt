use Rattle.std.proofs.Common.{option_map, subst, sym}
use Rattle.lrc_cli_args.specs.Files.{events_of, file_of, reads_acts}
use Rattle.lrc_shell.specs.Plays.{AreEventsRead, IsTextRead, most_read, performed, unread}
use Rattle.lrc_shell_more.proofs.MoreLemmas.{same}
use Rattle.lrc_shell.proofs.played.play_choice.Goals as goal

pub returns-in-Ok : goal.returns-in-Ok
returns-in-Ok g c =
    performed c.deref.result.now (option_map (λ e. e.now) c.as_deref.result)
    (subst (IsTextRead (g.F.Sources.known c.args.sources.now) (most_read (reads_acts c.args.choice.now)) (file_of c.args.choice.now)) (sym c.deref.ensures.value) c.in-Ok.ensures.text)
    (subst (AreEventsRead (g.F.Sources.known c.args.sources.now) (events_of c.args.choice.now)) (sym c.as_deref.ensures.value) c.in-Ok.ensures.events)
    c.perform.ensures

pub returns-in-Err : goal.returns-in-Err
returns-in-Err g c =
    unread c.in-Err.unread.path.now c.in-Err.unread.error c.in-Err.ensures.err c.refuse_unread.ensures.told
    (same (g.W.Write.contents c.args.out.now)) c.refuse_unread.ensures.status
