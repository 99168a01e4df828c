use Rattle.std.proofs.Common.{◌≡◌, arith}
use Rattle.std.specs.Prelude.{Some, slice_get}
use Rattle.lrc_why.specs.declared.positions.Which.TheVariants.{RacingOf}
use Rattle.lrc_why.proofs.Telling.{asked_within, first_there}
use Rattle.lrc_why.proofs.opponents.opponent.Goals as goal

pub standing-requires-2 : goal.standing-requires-2
standing-requires-2 c =
    let racing = c.in_ok-racing.racing.items in
    let least = c.in-Some.least in
    let is : slice_get racing 0 ≡ Some least = cc in
    let lt = asked_within c.args.acts.now (RacingOf c.args.node c.args.position) least ((c.in_ok-racing.ensures.exact least).0 (first_there racing least is)) in
    omega (arith, lt, c.max-later.ensures)
