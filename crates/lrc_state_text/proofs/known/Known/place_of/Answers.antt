use Rattle.std.proofs.Common.{◌∙◌, ap, sym}
use Rattle.std.specs.Prelude.{is_some}
use Rattle.lrc_state_text.specs.Intervals.{is_same}
use Rattle.lrc_state_text.proofs.Places.{first_is, some_passes}
use Rattle.lrc_state_text.proofs.known.Known.place_of.Goals as goal

pub returns-then-is_at : goal.returns-then-is_at
returns-then-is_at c =
    sym (some_passes (is_same c.args.stored.now) c.args.self.now c.args.likely (sym c.is_at.ensures ∙ c.if-is_at.true))

pub returns : goal.returns
returns c = ap is_some c.first_place.ensures ∙ first_is (is_same c.args.stored.now) c.args.self.now
