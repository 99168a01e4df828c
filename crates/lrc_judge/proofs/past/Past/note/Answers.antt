-- Each arm keeps what the definition of the past says, one position further.
use Rattle.std.proofs.Common.{◌≡◌, ℕ, ◌+◌, ◌<◌, ◌≤◌, List, length, get_or, set, max, sym, arith, ◌∙◌, ap, length-set}
use Rattle.std.specs.Prelude.{true, false}
use Rattle.std.proofs.lemmas.List.{length_push, get_or_default}
use Rattle.lrc_trace.specs.declared.act.Act.{Act}
use Rattle.lrc_trace.specs.declared.act.Deed.TheVariants.{Quiet, Release, Arrive}
use Rattle.lrc_trace.specs.Run.{Does, is_arrive, is_depart, arrives_before, departs_before}
use Rattle.lrc_trace.proofs.Positions.{Does-read, Does-node}
use Rattle.lrc_judge.specs.declared.reach.Reach.{Reach}
use Rattle.lrc_judge.specs.Past.{EachGathers, Acted, Released, Arrived}
use Rattle.lrc_judge.proofs.Deeds.{arrive_not_release, depart_not_arrive, depart_not_release, release_not_arrive}
use Rattle.lrc_judge.proofs.NextPast.{acted_next, released_next, released_same, arrived_next, arrived_push, arrived_same}
use Rattle.lrc_trace.proofs.Counts.{bound_same, bound_next, counts_same, counts_next, no_arrive, no_depart}
use Rattle.lrc_judge.proofs.past.Past.note.Goals as goal
use Rattle.lrc_judge.proofs.past.Past.note.Goals.{After-from-node}

-- the act at the position
abbrev act_at : After-from-node → Act
act_at c = get_or c.args.acts.now c.args.position (record { node = 0; deed = Quiet })

here : (c : After-from-node) → Does c.args.acts.now c.args.position c.from-node.result (act_at c).deed
here c = Does-node (sym c.from-node.ensures) (Does-read c.args.acts.now c.args.position (record { node = 0; deed = Quiet }) c.requires.within)

node_within : (c : After-from-node) → c.from-node.result < 16
node_within c = rw c.from-node.ensures (c.requires.nodes c.args.position (record { node = 0; deed = Quiet }) c.requires.within)

pub bounds-acts-position : goal.bounds-acts-position
bounds-acts-position c = c.requires.within

pub bounds-self-node : goal.bounds-self-node
bounds-self-node c = rw c.from-node.ensures (c.requires.nodes c.args.position (record { node = 0; deed = Quiet }) c.requires.within)

pub bounds-self-node-in-Arrive : goal.bounds-self-node-in-Arrive
bounds-self-node-in-Arrive c = rw c.from-node.ensures (c.requires.nodes c.args.position (record { node = 0; deed = Quiet }) c.requires.within)

pub bounds-self-node-in-Arrive-2 : goal.bounds-self-node-in-Arrive-2
bounds-self-node-in-Arrive-2 c = rw c.from-node.ensures (c.requires.nodes c.args.position (record { node = 0; deed = Quiet }) c.requires.within)

pub bounds-self-node-in-Depart : goal.bounds-self-node-in-Depart
bounds-self-node-in-Depart c = rw c.from-node.ensures (c.requires.nodes c.args.position (record { node = 0; deed = Quiet }) c.requires.within)

pub bounds-self-node-in-Depart-2 : goal.bounds-self-node-in-Depart-2
bounds-self-node-in-Depart-2 c = rw c.from-node.ensures (c.requires.nodes c.args.position (record { node = 0; deed = Quiet }) c.requires.within)

-- a table keeps its length
pub invariant_of-self : goal.invariant_of-self
invariant_of-self c = record {
  all_acted = length-set c.args.self.now.acted c.from-node.result c.args.reach ∙ c.args.self.now.all_acted;
  all_released = c.args.self.now.all_released;
  all_arrives = c.args.self.now.all_arrives;
  all_departs = c.args.self.now.all_departs;
}

pub invariant_of-self-in_default : goal.invariant_of-self-in_default
invariant_of-self-in_default c = record {
  all_acted = length-set c.args.self.now.acted c.from-node.result c.args.reach ∙ c.args.self.now.all_acted;
  all_released = c.args.self.now.all_released;
  all_arrives = c.args.self.now.all_arrives;
  all_departs = c.args.self.now.all_departs;
}

pub invariant_of-self-in-Depart : goal.invariant_of-self-in-Depart
invariant_of-self-in-Depart c = record {
  all_acted = length-set c.args.self.now.acted c.from-node.result c.args.reach ∙ c.args.self.now.all_acted;
  all_released = c.args.self.now.all_released;
  all_arrives = c.args.self.now.all_arrives;
  all_departs = length-set c.args.self.now.departs c.from-node.result _ ∙ c.args.self.now.all_departs;
}

pub invariant_of-self-then-number-len : goal.invariant_of-self-then-number-len
invariant_of-self-then-number-len c = record {
  all_acted = length-set c.args.self.now.acted c.from-node.result c.args.reach ∙ c.args.self.now.all_acted;
  all_released = c.args.self.now.all_released;
  all_arrives = length-set c.args.self.now.arrives c.from-node.result _ ∙ c.args.self.now.all_arrives;
  all_departs = c.args.self.now.all_departs;
}

pub invariant_of-self-else-number-len : goal.invariant_of-self-else-number-len
invariant_of-self-else-number-len c = record {
  all_acted = length-set c.args.self.now.acted c.from-node.result c.args.reach ∙ c.args.self.now.all_acted;
  all_released = c.args.self.now.all_released;
  all_arrives = length-set c.args.self.now.arrives c.from-node.result _ ∙ c.args.self.now.all_arrives;
  all_departs = c.args.self.now.all_departs;
}

acted : (c : After-from-node) → EachGathers c.args.acts.now (Acted c.args.acts.now (c.args.position + 1))
    (set c.args.self.now.acted c.from-node.result c.args.reach)
acted c = acted_next c.args.acts.now c.args.position c.from-node.result (act_at c).deed
    (here c) c.args.self.now.acted c.args.reach c.requires.past.acted c.requires.reach

-- the tables and counts that an act of another kind leaves as they are
released_as_before : (c : After-from-node) → ((l : ℕ) → (act_at c).deed ≡ Release l → ⊥)
    → EachGathers c.args.acts.now (Released c.args.acts.now (c.args.position + 1)) c.args.self.now.released.items
released_as_before c other = released_same c.args.acts.now c.args.position c.from-node.result (act_at c).deed
    (here c) c.args.self.now.released.items other c.requires.past.released

arrived_as_before : (c : After-from-node) → ((act_at c).deed ≡ Arrive → ⊥)
    → EachGathers c.args.acts.now (Arrived c.args.acts.now (c.args.position + 1)) c.args.self.now.arrived.items
arrived_as_before c other = arrived_same c.args.acts.now c.args.position c.from-node.result (act_at c).deed
    (here c) c.args.self.now.arrived.items other c.requires.past.arrived

kept_as_before : (c : After-from-node) → is_arrive (act_at c).deed ≡ false → (q : ℕ)
    → arrives_before c.args.acts.now q (c.args.position + 1) ≤ length c.args.self.now.arrived.items
kept_as_before c fails = bound_same c.args.acts.now c.args.position c.from-node.result (act_at c).deed (here c) is_arrive
    (length c.args.self.now.arrived.items) fails c.requires.past.all_kept

arrives_as_before : (c : After-from-node) → is_arrive (act_at c).deed ≡ false → (q : ℕ) → q < length c.args.self.now.arrives
    → get_or c.args.self.now.arrives q 0 ≡ arrives_before c.args.acts.now q (c.args.position + 1)
arrives_as_before c fails = counts_same c.args.acts.now c.args.position c.from-node.result (act_at c).deed
    (here c) is_arrive c.args.self.now.arrives fails c.requires.past.arrives

departs_as_before : (c : After-from-node) → is_depart (act_at c).deed ≡ false → (q : ℕ) → q < length c.args.self.now.departs
    → get_or c.args.self.now.departs q 0 ≡ departs_before c.args.acts.now q (c.args.position + 1)
departs_as_before c fails = counts_same c.args.acts.now c.args.position c.from-node.result (act_at c).deed
    (here c) is_depart c.args.self.now.departs fails c.requires.past.departs

-- the count of the node that arrives or departs goes up
arrives_more : (c : After-from-node) → is_arrive (act_at c).deed ≡ true → (q : ℕ)
    → q < length (set c.args.self.now.arrives c.from-node.result (get_or c.args.self.now.arrives c.from-node.result 0 + 1))
    → get_or (set c.args.self.now.arrives c.from-node.result (get_or c.args.self.now.arrives c.from-node.result 0 + 1)) q 0 ≡
    arrives_before c.args.acts.now q (c.args.position + 1)
arrives_more c passes =
    let within = node_within c in
    counts_next c.args.acts.now c.args.position c.from-node.result (act_at c).deed
    (here c) is_arrive c.args.self.now.arrives passes (omega (arith, c.args.self.now.all_arrives)) c.requires.past.arrives

departs_more : (c : After-from-node) → is_depart (act_at c).deed ≡ true → (q : ℕ)
    → q < length (set c.args.self.now.departs c.from-node.result (get_or c.args.self.now.departs c.from-node.result 0 + 1))
    → get_or (set c.args.self.now.departs c.from-node.result (get_or c.args.self.now.departs c.from-node.result 0 + 1)) q 0 ≡
    departs_before c.args.acts.now q (c.args.position + 1)
departs_more c passes =
    let within = node_within c in
    counts_next c.args.acts.now c.args.position c.from-node.result (act_at c).deed
    (here c) is_depart c.args.self.now.departs passes (omega (arith, c.args.self.now.all_departs)) c.requires.past.departs

-- the number of an arrive
number_is : (c : After-from-node) → get_or c.args.self.now.arrives c.from-node.result 0 ≡ arrives_before c.args.acts.now c.from-node.result c.args.position
number_is c = let within = node_within c in c.requires.past.arrives c.from-node.result (omega (arith, c.args.self.now.all_arrives))

pub returns-in_default : goal.returns-in_default
returns-in_default c =
    let b = (goal.at.returns-in_default c).After-from-node in
    let deed = (act_at b).deed in
    record {
      acted = acted b;
      released = released_as_before b c.in_default.not-Release;
      arrived = arrived_as_before b c.in_default.not-Arrive;
      all_kept = kept_as_before b (no_arrive deed c.in_default.not-Arrive);
      arrives = arrives_as_before b (no_arrive deed c.in_default.not-Arrive);
      departs = departs_as_before b (no_depart deed c.in_default.not-Depart);
    }

pub returns-in-Depart : goal.returns-in-Depart
returns-in-Depart c =
    let b = (goal.at.returns-in-Depart c).After-from-node in
    let e = c.in-Depart.is in
    record {
      acted = acted b;
      released = released_as_before b (depart_not_release e);
      arrived = arrived_as_before b (depart_not_arrive e);
      all_kept = kept_as_before b (ap is_arrive e);
      arrives = arrives_as_before b (ap is_arrive e);
      departs = departs_more b (ap is_depart e);
    }

-- what is joined, read from the table
joined_from_table : (table : List Reach) (i : ℕ) (found reach joined : Reach) → found ≡ get_or table i found → i < length table
    → ((p : ℕ) → get_or joined.latest p 0 ≡ max (get_or found.latest p 0) (get_or reach.latest p 0)) → (p : ℕ)
    → get_or joined.latest p 0 ≡ max (get_or (get_or table i joined).latest p 0) (get_or reach.latest p 0)
joined_from_table table i found reach joined is within e p = e p
    ∙ ap (λ (r : Reach). max (get_or r.latest p 0) (get_or reach.latest p 0)) (is ∙ get_or_default table i found joined within)

pub returns-in-Release : goal.returns-in-Release
returns-in-Release c =
    let b = (goal.at.returns-in-Release c).After-from-node in
    let e = c.in-Release.is in
    let run = c.args.acts.now in
    let table = c.args.self.now.released.items in
    let within : c.from-lock.result < length table = omega (arith, c.args.self.now.all_released) in
    let is : (act_at b).deed ≡ Release c.from-lock.result = e ∙ ap (λ l. Release l) (sym c.from-lock.ensures) in
    let joined = joined_from_table table c.from-lock.result c.index.result.now c.args.reach c.joined.result c.index.ensures within c.joined.ensures in
    record {
      acted = acted b;
      released = released_next run c.args.position c.from-node.result (act_at b).deed
          (here b) table c.from-lock.result c.args.reach c.joined.result is within c.requires.past.released c.requires.reach joined;
      arrived = arrived_as_before b (release_not_arrive e);
      all_kept = kept_as_before b (ap is_arrive e);
      arrives = arrives_as_before b (ap is_arrive e);
      departs = departs_as_before b (ap is_depart e);
    }

pub returns-then-number-len : goal.returns-then-number-len
returns-then-number-len c =
    let b = (goal.at.returns-then-number-len c).After-from-node in
    let e = c.in-Arrive.is in
    let table = c.args.self.now.arrived.items in
    let number = get_or c.args.self.now.arrives c.from-node.result 0 in
    let at = number_is b in
    let within : number < length table = omega (arith, c.len.ensures, c.if-number-len.true) in
    let joined = joined_from_table table number c.index-then-number-len.result.now c.args.reach c.joined-then-number-len.result
    c.index-then-number-len.ensures within c.joined-then-number-len.ensures in
    let long = length-set table number c.joined-then-number-len.result in
    record {
      acted = acted b;
      released = released_as_before b (arrive_not_release e);
      arrived = arrived_next c.args.acts.now c.args.position c.from-node.result (act_at b).deed
          (here b) table number e at c.requires.past.arrived c.args.reach c.requires.reach c.joined-then-number-len.result within joined;
      all_kept = bound_next c.args.acts.now c.args.position c.from-node.result (act_at b).deed (here b) is_arrive (length table) _
          (ap is_arrive e) (omega arith) (omega arith) c.requires.past.all_kept;
      arrives = arrives_more b (ap is_arrive e);
      departs = departs_as_before b (ap is_depart e);
    }

pub returns-in_ok-push-in-Arrive : goal.returns-in_ok-push-in-Arrive
returns-in_ok-push-in-Arrive c =
    let b = (goal.at.returns-in_ok-push-in-Arrive c).After-from-node in
    let e = c.in-Arrive.is in
    let table = c.args.self.now.arrived.items in
    let number = get_or c.args.self.now.arrives c.from-node.result 0 in
    let at = number_is b in
    let bound = c.requires.past.all_kept c.from-node.result in
    let last : number ≡ length table = omega (arith, c.len.ensures, c.if-number-len.false) in
    let pushed = c.in_ok-push-in-Arrive.ensures.items in
    let long = length_push table c.args.reach in
    record {
      acted = acted b;
      released = released_as_before b (arrive_not_release e);
      arrived = rw pushed (arrived_push c.args.acts.now c.args.position c.from-node.result (act_at b).deed
          (here b) table number e at c.requires.past.arrived c.args.reach c.requires.reach last c.requires.past.all_kept);
      all_kept = rw pushed (bound_next c.args.acts.now c.args.position c.from-node.result (act_at b).deed (here b) is_arrive
          (length table) _ (ap is_arrive e) (omega arith) (omega arith) c.requires.past.all_kept);
      arrives = arrives_more b (ap is_arrive e);
      departs = departs_as_before b (ap is_depart e);
    }
