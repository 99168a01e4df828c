use Rattle.std.proofs.Common.{[], length, map}
use Rattle.lrc_chart_build.specs.Seen.{seen_line}
use Rattle.lrc_chart_build.specs.Source.{source_at}
use Rattle.lrc_chart_build.proofs.Steps.{map_step}
use Rattle.lrc_chart_build.proofs.source.source_lines.Goals as goal

pub loop-place-preserved : goal.loop-place-preserved
loop-place-preserved c =
    let pieces = c.args.pieces.now in
    map_step (λ piece. piece.now) (source_at c.args.lines.now c.args.places.now (length pieces)) pieces c.loop-place.place _ []
    (map seen_line c.loop-place.source.items) (map seen_line c.push_line.new.source.items) c.loop-place-test.true c.loop-place.invariant
    c.in_ok-push_line.ensures
