use Rattle.std.proofs.Common.{◌∙◌, ap, arith}
use Rattle.std.specs.Prelude.{cond}
use Rattle.lrc_chart_rows.specs.Rows.{has_act}
use Rattle.lrc_chart_rows.proofs.Numbering.{acts_more}
use Rattle.lrc_chart_rows.proofs.Rowing.{rows_more}
use Rattle.lrc_chart_rows.proofs.row.rows_of.Goals as goal

pub loop-position-preserved : goal.loop-position-preserved
loop-position-preserved c =
    let turns = c.args.turns.now in
    let k = c.loop-position.position in
    let turn = c.index-turns-position.result in
    let old = c.loop-position.invariant in
    let counted = acts_more turns k turn c.loop-position-test.true in
    let one = c.acts_of-acts.ensures.is ∙ ap (λ b. cond b 1 0) (c.has_act-has_act.ensures ∙ ap has_act c.index-turns-position.is) in
    record {
      rows =
          rows_more turns k turn c.loop-position.rows.items c.push_if.new.rows.items c.row_at.result c.loop-position.acts
          c.has_act-has_act.result c.shows.result c.loop-position-test.true c.index-turns-position.is c.has_act-has_act.ensures
          c.shows.ensures c.row_at.ensures old.acts old.rows c.in_ok-push_if.ensures;
      acts = omega (arith, counted, one, old.acts);
      few = omega (arith, old.few, c.acts_of-acts.ensures.few);
    }
