-- What is handed is a copy of the row.
use Rattle.std.proofs.Common.{List, ℕ, ◌∙◌, subst}
use Rattle.lrc_races_detector.specs.Clocks.{IsGained}
use Rattle.lrc_races_detector.proofs.clocks.Clocks.add.Goals as goal

pub returns : goal.returns
returns c =
    subst (λ (known : List ℕ). IsGained c.args.self.now c.gain.new.self c.args.to known) (c.known.ensures ∙ c.in_ok-copy.ensures ∙ c.row.ensures)
    c.in_ok-gain.ensures
