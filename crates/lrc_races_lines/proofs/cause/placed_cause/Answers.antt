-- The second field, or what is behind it.
use Rattle.lrc_races_lines.specs.Cause.{in_operation, in_place, up_to_byte}
use Rattle.lrc_races_lines.proofs.cause.placed_cause.Goals as goal

pub returns-in-Some : goal.returns-in-Some
returns-in-Some c = λ feeds more none. in_operation (up_to_byte c.args.third.now c.requires) c.in-Some.ensures

pub returns-in-None : goal.returns-in-None
returns-in-None c = λ feeds more none.
    let (kind, target, spells) = c.in-None.ensures c.requires feeds in
    in_place c.requires spells (c.place_cause.ensures more (none kind target spells))
