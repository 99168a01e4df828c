use Rattle.std.proofs.Common.{◌∙◌, ◌++◌, ℕ, List, ap, map, sym, get_or}
use Rattle.lrc_text.proofs.Each.{each_more}
use Rattle.lrc_labels.specs.Reading.{Label, label_seen}
use Rattle.lrc_named_core.specs.Tree.{Trap}
use Rattle.lrc_named_core.specs.View.{trap_of}
use Rattle.lrc_explain_waits.specs.declared.stand.Stand.{Stand}
use Rattle.lrc_explain_waits.specs.Stuck.{stuck_line}
use Rattle.lrc_explain_waits.specs.Traps.{trap_at}
use Rattle.lrc_explain_waits.proofs.Standing.{no_stand}
use Rattle.lrc_explain_waits.proofs.stuck.stuck_lines.Goals as goal

pub loop-me-preserved : goal.loop-me-preserved
loop-me-preserved c =
    let labels : List Label = map label_seen c.args.labels.now in
    let traps : List Trap = map trap_of c.args.traps.now in
    let stands = c.args.stands.now in
    let me = c.loop-me.me in
    let here = get_or stands me no_stand in
    let of : ℕ → Stand → List ℕ = λ k stand. stuck_line labels (trap_at traps k) stands k stand in
    c.in_ok-push_stuck.ensures ∙ ap (λ (trap : Trap). c.loop-me.text.items ++ stuck_line labels trap stands me here) c.trap_at-trap.ensures
    ∙ ap (λ l. l ++ of me here) c.loop-me.invariant
    ∙ sym (each_more of stands me no_stand c.loop-me-test.true)
