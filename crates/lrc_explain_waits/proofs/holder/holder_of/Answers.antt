use Rattle.std.proofs.Common.{◌∙◌, ap, sym, get_or}
use Rattle.std.specs.Prelude.{slice_index}
use Rattle.lrc_trace.specs.declared.act.Act.{Act}
use Rattle.lrc_trace.specs.declared.act.Deed.TheVariants.{Quiet}
use Rattle.lrc_explain_waits.specs.Holder.{holder_after}
use Rattle.lrc_explain_waits.proofs.Holding.{holder_more}
use Rattle.lrc_explain_waits.proofs.holder.holder_of.Goals as goal

abbrev no_act : Act
no_act = record { node = 0; deed = Quiet }

pub loop-position-preserved : goal.loop-position-preserved
loop-position-preserved c =
    let lock = c.args.lock in
    let acts = c.args.acts.now in
    let lines = c.args.lines.now in
    let i = c.loop-position.position in
    let act = get_or acts i no_act in
    c.held_by-held.ensures ∙ ap (λ line. holder_after lock line c.loop-position.held act) c.line_at.ensures
    ∙ ap (λ held. holder_after lock (slice_index lines i) held act) c.loop-position.invariant
    ∙ sym (holder_more lock lines acts i no_act c.loop-position-test.true)
