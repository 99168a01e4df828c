use Rattle.std.proofs.Common.{ℕ, ◌+◌, sym, subst}
use Rattle.lrc_trace.specs.declared.act.Deed.TheVariants.{Arrive, Depart}
use Rattle.lrc_why.specs.declared.reasons.About.TheVariants.{Comes, GoesOn}
use Rattle.lrc_why.specs.About.{IsAbout, trapped, gives, follows, comes, goes_on}
use Rattle.lrc_why.proofs.Telling.{quiet-about}
use Rattle.lrc_why.proofs.about.about.Goals as goal

pub returns-in-Trap : goal.returns-in-Trap
returns-in-Trap c = rw c.in-Trap.is trapped

pub returns-in_ok-gift-in-Read : goal.returns-in_ok-gift-in-Read
returns-in_ok-gift-in-Read c = rw c.in-Read.is (gives c.in_ok-gift-in-Read.ensures)

pub returns-in-Acquire : goal.returns-in-Acquire
returns-in-Acquire c = rw c.in-Acquire.is (follows c.last_release.ensures)

pub returns-in-Arrive : goal.returns-in-Arrive
returns-in-Arrive c =
    rw c.in-Arrive.is (subst (λ (n : ℕ). IsAbout c.args.acts.now c.args.acting c.args.position Arrive (Comes (n + 1))) (sym c.arrives_at.ensures) comes)

pub returns-in-Depart : goal.returns-in-Depart
returns-in-Depart c =
    rw c.in-Depart.is (subst (λ (n : ℕ). IsAbout c.args.acts.now c.args.acting c.args.position Depart (GoesOn (n + 1))) (sym c.departs_at.ensures) goes_on)

pub returns-in_default : goal.returns-in_default
returns-in_default c = quiet-about c.args.acts.now c.args.acting c.args.position c.args.deed (λ x e. c.in_default.not-Trap x e)
    (λ w v e. c.in_default.not-Read w v e) (λ l e. c.in_default.not-Acquire l e) (λ e. c.in_default.not-Arrive e) (λ e. c.in_default.not-Depart e)
