-- The places of one row more, and of all of them.
use Rattle.std.proofs.Common.{◌∙◌, Vec, Global, ap, take_all}
use Rattle.std.specs.List.{flat_map}
use Rattle.lrc_race.specs.declared.places.TouchedPlace.{TouchedPlace}
use Rattle.lrc_race.proofs.rows.Rows.joined.Goals as goal

pub returns : goal.returns
returns c =
    c.loop-row.invariant
    ∙ ap (flat_map (λ (row : Vec TouchedPlace Global). row.items)) (take_all c.loop-row.row-index c.as_slice-row-items.result.now c.loop-row-test.false)
    ∙ ap (flat_map (λ (row : Vec TouchedPlace Global). row.items)) c.as_slice-row-items.ensures.value
    ∙ c.self.view_is
