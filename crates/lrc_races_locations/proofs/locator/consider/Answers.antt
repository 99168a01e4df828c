-- A rival is offered, and nothing else is.
use Rattle.std.proofs.Common.{refl}
use Rattle.lrc_races_locations.specs.Finding.{passed, offered}
use Rattle.lrc_races_locations.proofs.Offering.{is_true, is_false}
use Rattle.lrc_races_locations.proofs.locator.consider.Goals as goal

pub returns-then-not-is_rival : goal.returns-then-not-is_rival
returns-then-not-is_rival c = passed (is_false c.is_rival.result _ c.is_rival.ensures c.if-not-is_rival.true) refl refl

pub returns : goal.returns
returns c = offered (is_true c.is_rival.result _ c.is_rival.ensures c.if-not-is_rival.false) c.in_ok-offer.ensures
