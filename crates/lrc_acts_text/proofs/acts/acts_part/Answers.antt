use Rattle.std.proofs.Common.{◌∙◌, ◌++◌, ℕ, List, ap, sym, get_or}
use Rattle.std.specs.Prelude.{slice_index}
use Rattle.lrc_trace.specs.declared.act.Act.{Act}
use Rattle.lrc_trace.specs.declared.act.Deed.TheVariants.{Quiet}
use Rattle.lrc_text.specs.ActText.{act_line}
use Rattle.lrc_text.proofs.Each.{each_more}
use Rattle.lrc_acts_text.proofs.acts.acts_part.Goals as goal

abbrev no_act : Act
no_act = record { node = 0; deed = Quiet }

pub loop-position-preserved : goal.loop-position-preserved
loop-position-preserved c =
    let of : ℕ → Act → List ℕ = λ position act. act_line act (slice_index c.args.lines.now position) in
    c.in_ok-push_act_line.ensures.ok ∙ ap (λ l. l ++ of c.loop-position.position (get_or c.args.acts.now c.loop-position.position no_act)) c.loop-position.invariant
    ∙ sym (each_more of c.args.acts.now c.loop-position.position no_act c.loop-position-test.true)
