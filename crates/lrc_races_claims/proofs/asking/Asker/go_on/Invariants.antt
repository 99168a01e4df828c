-- The events so far are taken.
use Rattle.std.proofs.Common.{◌≡◌}
use Rattle.lrc_races_claims.specs.Asking.{HasAsked}
use Rattle.lrc_races_claims.proofs.asking.Asker.go_on.Given as goal

abbrev pub invariant-loop-at : goal.invariant-loop-at
invariant-loop-at l = record {
  asked : HasAsked l.events l.at l.self;
  sought : l.self.sought ≡ l.fn.self.sought;
}
