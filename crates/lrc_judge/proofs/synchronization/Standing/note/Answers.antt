-- Each arm keeps what the definition of the standing says, one position further.
use Rattle.std.proofs.Common.{◌≡◌, ℕ, ◌+◌, ◌<◌, inl, inr, length, get_or, sym, ◌∙◌, ap, arith, length-set}
use Rattle.std.specs.Prelude.{false}
use Rattle.lrc_trace.specs.declared.act.Act.{Act}
use Rattle.lrc_trace.specs.declared.act.Deed.TheVariants.{Quiet, Acquire, Release}
use Rattle.lrc_trace.specs.Run.{Does, is_arrive, is_depart, arrives_before, departs_before}
use Rattle.lrc_trace.specs.Synchronization.{Holds}
use Rattle.lrc_trace.proofs.Positions.{Does-read, Does-node, Does-deed}
use Rattle.lrc_judge.specs.Synchronization.{acquire, release}
use Rattle.lrc_trace.proofs.Counts.{counts_same, counts_next, no_arrive, no_depart}
use Rattle.lrc_trace.proofs.Locks.{AreHolders, held, holders_same, holders_acquire, holders_release}
use Rattle.lrc_judge.proofs.Deeds.{arrive_not_acquire, arrive_not_release, depart_not_acquire, depart_not_release}
use Rattle.lrc_judge.proofs.synchronization.Standing.note.Goals as goal
use Rattle.lrc_judge.proofs.synchronization.Standing.note.Goals.{After-from-node}

-- the act at the position
abbrev act_at : After-from-node → Act
act_at c = get_or c.args.acts.now c.args.position (record { node = 0; deed = Quiet })

here : (c : After-from-node) → Does c.args.acts.now c.args.position c.from-node.result (act_at c).deed
here c = Does-node (sym c.from-node.ensures) (Does-read c.args.acts.now c.args.position (record { node = 0; deed = Quiet }) c.requires.within)

node_within : (c : After-from-node) → c.from-node.result < 16
node_within c = rw c.from-node.ensures (c.requires.acts c.args.position (record { node = 0; deed = Quiet }) c.requires.within)

pub bounds-acts-position : goal.bounds-acts-position
bounds-acts-position c = c.requires.within

pub bounds-self-node : goal.bounds-self-node
bounds-self-node c = rw c.from-node.ensures (c.requires.acts c.args.position (record { node = 0; deed = Quiet }) c.requires.within)

pub bounds-self-node-in-Arrive : goal.bounds-self-node-in-Arrive
bounds-self-node-in-Arrive c = rw c.from-node.ensures (c.requires.acts c.args.position (record { node = 0; deed = Quiet }) c.requires.within)

pub bounds-self-node-in-Depart : goal.bounds-self-node-in-Depart
bounds-self-node-in-Depart c = rw c.from-node.ensures (c.requires.acts c.args.position (record { node = 0; deed = Quiet }) c.requires.within)

pub bounds-self-node-in-Depart-2 : goal.bounds-self-node-in-Depart-2
bounds-self-node-in-Depart-2 c = rw c.from-node.ensures (c.requires.acts c.args.position (record { node = 0; deed = Quiet }) c.requires.within)

-- a table keeps its length
pub invariant_of-self : goal.invariant_of-self
invariant_of-self c = record {
  all_locks = length-set c.args.self.now.holder c.from.result _ ∙ c.args.self.now.all_locks;
  all_arrives = c.args.self.now.all_arrives;
  all_departs = c.args.self.now.all_departs;
}

pub invariant_of-self-in-Release : goal.invariant_of-self-in-Release
invariant_of-self-in-Release c = record {
  all_locks = length-set c.args.self.now.holder c.from-in-Release.result _ ∙ c.args.self.now.all_locks;
  all_arrives = c.args.self.now.all_arrives;
  all_departs = c.args.self.now.all_departs;
}

pub invariant_of-self-in-Arrive : goal.invariant_of-self-in-Arrive
invariant_of-self-in-Arrive c = record {
  all_locks = c.args.self.now.all_locks;
  all_arrives = length-set c.args.self.now.arrives c.from-node.result _ ∙ c.args.self.now.all_arrives;
  all_departs = c.args.self.now.all_departs;
}

pub invariant_of-self-in-Depart : goal.invariant_of-self-in-Depart
invariant_of-self-in-Depart c = record {
  all_locks = c.args.self.now.all_locks;
  all_arrives = c.args.self.now.all_arrives;
  all_departs = length-set c.args.self.now.departs c.from-node.result _ ∙ c.args.self.now.all_departs;
}

-- what an act of another kind leaves as it is
holder_as_before : (c : After-from-node) → ((l : ℕ) → (act_at c).deed ≡ Acquire l → ⊥)
    → ((l : ℕ) → (act_at c).deed ≡ Release l → ⊥) → AreHolders c.args.acts.now (c.args.position + 1) c.args.self.now.holder
holder_as_before c not_acquire not_release = holders_same c.args.acts.now c.args.position c.args.self.now.holder
    c.requires.standing.holder c.from-node.result (act_at c).deed (here c) not_acquire not_release

arrives_as_before : (c : After-from-node) → is_arrive (act_at c).deed ≡ false → (q : ℕ) → q < length c.args.self.now.arrives
    → get_or c.args.self.now.arrives q 0 ≡ arrives_before c.args.acts.now q (c.args.position + 1)
arrives_as_before c fails = counts_same c.args.acts.now c.args.position c.from-node.result (act_at c).deed
    (here c) is_arrive c.args.self.now.arrives fails c.requires.standing.arrives

departs_as_before : (c : After-from-node) → is_depart (act_at c).deed ≡ false → (q : ℕ) → q < length c.args.self.now.departs
    → get_or c.args.self.now.departs q 0 ≡ departs_before c.args.acts.now q (c.args.position + 1)
departs_as_before c fails = counts_same c.args.acts.now c.args.position c.from-node.result (act_at c).deed
    (here c) is_depart c.args.self.now.departs fails c.requires.standing.departs

pub returns-in-Acquire : goal.returns-in-Acquire
returns-in-Acquire c =
    let b = (goal.at.returns-in-Acquire c).After-from-node in
    let e = c.in-Acquire.is in
    let is : (act_at b).deed ≡ Acquire c.from.result = e ∙ ap (λ l. Acquire l) (sym c.from.ensures) in
    record {
      holder = rw (← c.from-node.ensures)
          (holders_acquire c.args.acts.now c.args.position c.args.self.now.holder c.requires.standing.holder c.from-node.result
          (act_at b).deed (here b) c.from.result is (λ q h. c.requires.allowed (acquire (Does-deed is (here b)) h)));
      arrives = arrives_as_before b (ap is_arrive e);
      departs = departs_as_before b (ap is_depart e);
    }

pub returns-in-Release : goal.returns-in-Release
returns-in-Release c =
    let b = (goal.at.returns-in-Release c).After-from-node in
    let e = c.in-Release.is in
    let lock = c.from-in-Release.result in
    let is : (act_at b).deed ≡ Release lock = e ∙ ap (λ l. Release l) (sym c.from-in-Release.ensures) in
    let mine : Holds c.args.acts.now c.args.position c.from-node.result lock =
    elim (held c.args.acts.now c.args.position c.args.self.now.holder c.requires.standing.holder c.from-node.result lock
    (omega (arith, c.args.self.now.all_locks))) [
      | inl h ↦ h
      | inr other ↦ absurd (c.requires.allowed (release (Does-deed is (here b)) other))
    ] in
    record {
      holder = holders_release c.args.acts.now c.args.position c.args.self.now.holder c.requires.standing.holder
          c.from-node.result (act_at b).deed (here b) lock is mine;
      arrives = arrives_as_before b (ap is_arrive e);
      departs = departs_as_before b (ap is_depart e);
    }

pub returns-in-Arrive : goal.returns-in-Arrive
returns-in-Arrive c =
    let b = (goal.at.returns-in-Arrive c).After-from-node in
    let e = c.in-Arrive.is in
    let within = node_within b in
    record {
      holder = holder_as_before b (arrive_not_acquire e) (arrive_not_release e);
      arrives = counts_next c.args.acts.now c.args.position c.from-node.result (act_at b).deed
          (here b) is_arrive c.args.self.now.arrives (ap is_arrive e) (omega (arith, c.args.self.now.all_arrives)) c.requires.standing.arrives;
      departs = departs_as_before b (ap is_depart e);
    }

pub returns-in-Depart : goal.returns-in-Depart
returns-in-Depart c =
    let b = (goal.at.returns-in-Depart c).After-from-node in
    let e = c.in-Depart.is in
    let within = node_within b in
    record {
      holder = holder_as_before b (depart_not_acquire e) (depart_not_release e);
      arrives = arrives_as_before b (ap is_arrive e);
      departs = counts_next c.args.acts.now c.args.position c.from-node.result (act_at b).deed
          (here b) is_depart c.args.self.now.departs (ap is_depart e) (omega (arith, c.args.self.now.all_departs)) c.requires.standing.departs;
    }

pub returns-in_default : goal.returns-in_default
returns-in_default c =
    let b = (goal.at.returns-in_default c).After-from-node in
    record {
      holder = holder_as_before b c.in_default.not-Acquire c.in_default.not-Release;
      arrives = arrives_as_before b (no_arrive (act_at b).deed c.in_default.not-Arrive);
      departs = departs_as_before b (no_depart (act_at b).deed c.in_default.not-Depart);
    }
