-- An access is taken, and another event changes nothing.
use Rattle.std.proofs.Common.{inl, inr}
use Rattle.lrc_races_locations.proofs.Showing.{shown_kept}
use Rattle.lrc_races_locations.proofs.locator.Locator.take.Goals as goal

pub returns-in_ok-access-in-Read : goal.returns-in_ok-access-in-Read
returns-in_ok-access-in-Read c = λ sought events at behind old.
    c.in_ok-access-in-Read.ensures sought events at c.in-Read.is (behind c.in-Read.variable c.in-Read.is) old

pub returns-in_default : goal.returns-in_default
returns-in_default c = λ sought events at behind old.
    shown_kept sought events c.args.placed.position c.args.placed.event at
    (λ v accesses. elim accesses [ inl reads ↦ c.in_default.not-Read v reads | inr writes ↦ c.in_default.not-Write v writes ]) c.args.self.now old
