-- The words of each way to be separated.
use Rattle.std.proofs.Common.{refl}
use Rattle.lrc_races_claims.proofs.Saying.{separated_said}
use Rattle.lrc_races_claims.proofs.spelling.push_separated.Goals as goal

pub returns-in_ok-push_number-in-AllRaces-2 : goal.returns-in_ok-push_number-in-AllRaces-2
returns-in_ok-push_number-in-AllRaces-2 c =
    separated_said c.args.sought _ c.args.lesser c.args.greater c.args.text.now.items c.push_number.new.text.items c.push_number-in-AllRaces.new.text.items
    _ _ _ _ c.in-AllRaces.is c.in_ok-push_number-in-AllRaces.ensures.ok c.in_ok-push_number-in-AllRaces-2.ensures.ok refl

pub returns-in_ok-push_number-in-SureRaces-2 : goal.returns-in_ok-push_number-in-SureRaces-2
returns-in_ok-push_number-in-SureRaces-2 c =
    separated_said c.args.sought _ c.args.lesser c.args.greater c.args.text.now.items c.push_number-in-SureRaces.new.text.items
    c.push_number-in-SureRaces-2.new.text.items _ _ _ _ c.in-SureRaces.is c.in_ok-push_number-in-SureRaces.ensures.ok
    c.in_ok-push_number-in-SureRaces-2.ensures.ok refl
