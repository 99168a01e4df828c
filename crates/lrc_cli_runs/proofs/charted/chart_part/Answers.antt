use Rattle.std.proofs.Common.{◌≤◌, List, ℕ, Option, length, subst}
use Rattle.lrc_chart_build.specs.Course.{rows_shown}
use Rattle.lrc_chart_build.specs.Portrait.{IsPortrait, MOST_SHOWN}
use Rattle.lrc_chart_build.specs.declared.part.Part.{Part}
use Rattle.lrc_cli_runs.specs.Charted.{source_of}
use Rattle.lrc_cli_runs.proofs.charted.chart_part.Goals as goal

pub returns-clause-ok : goal.returns-clause-ok
returns-clause-ok c = record {
  few = subst (λ (part : Part). length (rows_shown c.args.course.now part) ≤ MOST_SHOWN) c.part_of.ensures c.in_ok-picture.ensures.short;
  picture = c.in_ok-picture.picture;
  portrait =
      subst (λ (part : Part). IsPortrait c.args.title.now c.args.nodes c.args.course.now part (source_of c.args.charting c.args.text.now) c.in_ok-picture.picture) c.part_of.ensures
      (subst (λ (source : Option (List ℕ)). IsPortrait c.args.title.now c.args.nodes c.args.course.now c.part_of.result source c.in_ok-picture.picture)
      c.source_of-source.ensures c.in_ok-picture.ensures.ok);
  drawn = c.in_ok-drawn.ensures;
}
