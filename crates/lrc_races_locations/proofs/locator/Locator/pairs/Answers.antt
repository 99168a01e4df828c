use Rattle.std.proofs.Common.{sym, subst}
use Rattle.lrc_races_locations.specs.Located.{AreShown}
use Rattle.lrc_races_locations.proofs.Showing.{shown_all}
use Rattle.lrc_races_locations.proofs.locator.Locator.pairs.Goals as goal

pub returns : goal.returns
returns c = λ sought events h. subst (λ pairs. AreShown sought events pairs) (sym c.as_slice.ensures.value) (shown_all sought events c.args.self.now h)
