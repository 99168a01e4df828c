use Rattle.std.proofs.Common.{◌≡◌, length, sym, ◌∙◌, ap, subst, refl}
use Rattle.std.specs.Prelude.{ℕ}
use Rattle.lrc_time.proofs.Times.{length-joined_same}
use Rattle.lrc_protocol.specs.Locks.{Locks}
use Rattle.lrc_control.specs.Clock.{IsClock, SameClock}
use Rattle.lrc_control.proofs.clock.Clock.learn.Goals as goal

-- a time of as many entries changes nothing of it
as_long : (me : ℕ) (before after : Locks) → after.held ≡ before.held → after.managed ≡ before.managed
    → length after.time ≡ length before.time → IsClock me before → IsClock me after
as_long me before after held managed same is = record {
  here = rw same is.here;
  few = rw same is.few;
  tokens = rw held is.tokens;
  nodes = rw (held, same) is.nodes;
  manager = rw managed is.manager;
  managing = rw (managed, same) is.managing;
  same = rw (managed, held) is.same;
}

stays : (before after : Locks) → after.held ≡ before.held → length after.time ≡ length before.time → SameClock before after
stays before after held same = record { me = rw held refl; nodes = same; locks = rw held refl }

pub invariant_of-self : goal.invariant_of-self
invariant_of-self c =
    let n = c.self.inside in
    let counted : length c.args.time.now ≡ length n.time = c.requires ∙ sym (ap (λ (l : Locks). length l.time) c.self.view_is) in
    let same = ap length c.join.ensures ∙ length-joined_same n.time c.args.time.now (sym counted) in
    as_long n.me
    (record { time = n.time; held = n.held.value; managed = n.managed })
    (record { time = c.join.new.self; held = n.held.value; managed = n.managed })
    refl refl same c.self.invariant

pub returns-clause-same : goal.returns-clause-same
returns-clause-same c =
    let n = c.self.inside in
    let counted : length c.args.time.now ≡ length n.time = c.requires ∙ sym (ap (λ (l : Locks). length l.time) c.self.view_is) in
    let same = ap length c.join.ensures ∙ length-joined_same n.time c.args.time.now (sym counted) in
    let after : Locks = record { time = c.join.new.self; held = n.held.value; managed = n.managed } in
    subst (λ (l : Locks). SameClock l after) c.self.view_is (stays _ after refl same)
