use Rattle.std.proofs.Common.{◌≡◌, ◌<◌, ℕ, true, false, sym, ◌∙◌}
use Rattle.lrc_exec.specs.States.{plain_at}
use Rattle.lrc_orders.specs.Meeting.{IsCalm, IsLeastPair, Meet}
use Rattle.lrc_explore.proofs.Seeking.{meeting_looked}
use Rattle.lrc_explore_less.proofs.less.Less.meeting.Goals as goal

pub returns-then-races : goal.returns-then-races
returns-then-races c = λ means key known of.
    let machine = plain_at means.flat key.state in
    meeting_looked c.args.races c.meeting.result (IsCalm machine) (λ (pair : ℕ × ℕ). pair.0 < pair.1) (λ pair. Meet machine pair.0 pair.1)
    (λ pair. IsLeastPair machine pair.0 pair.1) c.if-races.true (c.meeting.ensures means key known of)

pub returns-else-races : goal.returns-else-races
returns-else-races c = λ means key known of looked. let x : true ≡ false = sym looked ∙ c.if-races.false in cc
