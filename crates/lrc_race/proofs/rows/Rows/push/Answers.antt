use Rattle.std.proofs.Common.{◌<◌, ◌∙◌, ◌++◌, ◌∷◌, [], length, ap, arith}
use Rattle.lrc_race.proofs.InRows.{rows-push}
use Rattle.lrc_race.proofs.rows.Rows.push.Goals as goal

pub returns : goal.returns
returns c =
    let rows = c.self.inside.rows.items in
    let within : c.from.result < length rows = omega (arith, c.from.ensures, c.ranges.row, c.self.invariant) in
    rw (← c.self.view_is)
    (rows-push (λ row. row.items) rows c.from.result c.push.new.self c.args.place c.index_mut.result.now within
    (c.in_ok-push.ensures.items ∙ ap (λ row. row.items ++ c.args.place ∷ []) c.index_mut.ensures.value))
