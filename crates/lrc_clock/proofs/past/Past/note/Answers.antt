-- Each arm keeps what the definition of the past says, one act further.
use Rattle.std.proofs.Common.{◌≡◌, ◌≤◌, ◌+◌, ◌<◌, ◌++◌, ◌∷◌, [], ℕ, List, ap, refl, sym, ◌∙◌, arith, length, set}
use Rattle.std.specs.Prelude.{Some, None, false, slice_index, slice_index_or}
use Rattle.std.proofs.lemmas.Result.{on_ok_weaker}
use Rattle.lrc_trace.specs.declared.act.Act.{Act}
use Rattle.lrc_trace.specs.declared.act.Deed.{Deed}
use Rattle.lrc_trace.specs.declared.act.Deed.TheVariants.{Release, Arrive}
use Rattle.lrc_trace.specs.Run.{is_arrive, is_depart, arrives_before, departs_before}
use Rattle.lrc_trace.proofs.Counts.{no_arrive, no_depart}
use Rattle.lrc_time.specs.Time.{zeros}
use Rattle.lrc_clock.specs.Times.{arrived_time, released_time, time_before}
use Rattle.lrc_clock.proofs.Computing.{arrived-length}
use Rattle.lrc_clock.specs.Past.{IsTimeAt}
use Rattle.lrc_clock.proofs.NextPast.{arrived-next, arrived-rest, before-other, before-own, bound-next, bound-same, counts-next}
use Rattle.lrc_clock.proofs.NextPast.{counts-same, next-long, released-other, released-own, table-next, table-same}
use Rattle.lrc_clock.proofs.past.Past.note.Goals as goal
use Rattle.lrc_clock.proofs.past.Past.note.Goals.{After-from-node}

-- the lock that a release names
released_lock : {a b : ℕ} → Release a ≡ Release b → a ≡ b
released_lock e = ap lock_of e
  where
    lock_of : Deed → ℕ
    lock_of (Release l) = l
    lock_of _ = 0

pub join_at-requires-clause-long : goal.join_at-requires-clause-long
join_at-requires-clause-long c = ap length c.requires.time ∙ next-long c.requires.keeps c.args.act c.requires.node

pub join_at-requires-clause-entries : goal.join_at-requires-clause-entries
join_at-requires-clause-entries c =
    let number = slice_index c.args.self.now.arrives c.from-node.result in
    ap length (c.requires.past.arrived number) ∙ arrived-length c.requires.keeps number (length c.args.acts.now)

module _ (c : After-from-node) where
  abbrev nodes : ℕ
  nodes = c.args.nodes

  abbrev grown : List Act
  grown = c.args.acts.now ++ c.args.act ∷ []

  abbrev later : List (List ℕ)
  later = c.args.times.now ++ c.args.time.now ∷ []

  -- the node's time stands last
  acted : (q : ℕ) → q < length (set c.args.self.now.acted c.from-node.result (Some (length c.args.times.now)))
      → IsTimeAt nodes later (slice_index_or (set c.args.self.now.acted c.from-node.result (Some (length c.args.times.now))) q None)
      (time_before nodes grown later q (length grown))
  acted =
      let timed = c.requires.keeps.timed in
      table-next nodes c.args.acts.now c.args.times.now c.args.act c.args.time.now timed c.args.self.now.acted
      (λ q. time_before nodes c.args.acts.now c.args.times.now q (length c.args.acts.now))
      (λ q. time_before nodes grown later q (length grown))
      c.requires.past.acted c.from-node.result (length c.args.times.now) refl
      (ap (λ q. time_before nodes grown later q (length grown)) c.from-node.ensures
      ∙ before-own nodes c.args.acts.now c.args.times.now c.args.act c.args.time.now timed)
      (λ q other. before-other nodes c.args.acts.now c.args.times.now c.args.act c.args.time.now timed q
      (λ e. other (e ∙ sym c.from-node.ensures)))

  -- what an act of another kind leaves as it is
  released-stays : ((l : ℕ) → c.args.act.deed ≡ Release l → ⊥) → (l : ℕ) → l < length c.args.self.now.released
      → IsTimeAt nodes later (slice_index_or c.args.self.now.released l None) (released_time nodes grown later l (length grown))
  released-stays other =
      let timed = c.requires.keeps.timed in
      table-same nodes c.args.acts.now c.args.times.now c.args.act c.args.time.now timed c.args.self.now.released
      (λ l. released_time nodes c.args.acts.now c.args.times.now l (length c.args.acts.now))
      (λ l. released_time nodes grown later l (length grown))
      c.requires.past.released
      (λ l. released-other nodes c.args.acts.now c.args.times.now c.args.act c.args.time.now timed l (other l))

  arrived-stays : (c.args.act.deed ≡ Arrive → ⊥) → (number : ℕ)
      → slice_index_or c.args.self.now.arrived.items number (zeros nodes) ≡ arrived_time nodes grown later number (length grown)
  arrived-stays other number =
      c.requires.past.arrived number
      ∙ sym (arrived-rest nodes c.args.acts.now c.args.times.now c.args.act c.args.time.now c.requires.keeps.timed number
      (λ is same. other is))

  kept-stays : is_arrive c.args.act.deed ≡ false → (q : ℕ) → arrives_before grown q (length grown) ≤ length c.args.self.now.arrived.items
  kept-stays fails = bound-same nodes c.args.acts.now c.args.times.now c.args.act c.args.time.now c.requires.keeps.timed is_arrive
      (length c.args.self.now.arrived.items) fails c.requires.past.kept

  arrives-stay : is_arrive c.args.act.deed ≡ false → (q : ℕ) → q < length c.args.self.now.arrives
      → slice_index c.args.self.now.arrives q ≡ arrives_before grown q (length grown)
  arrives-stay fails = counts-same nodes c.args.acts.now c.args.times.now c.args.act c.args.time.now c.requires.keeps.timed is_arrive
      c.args.self.now.arrives fails c.requires.past.arrives

  departs-stay : is_depart c.args.act.deed ≡ false → (q : ℕ) → q < length c.args.self.now.departs
      → slice_index c.args.self.now.departs q ≡ departs_before grown q (length grown)
  departs-stay fails = counts-same nodes c.args.acts.now c.args.times.now c.args.act c.args.time.now c.requires.keeps.timed is_depart
      c.args.self.now.departs fails c.requires.past.departs

  node_within : c.from-node.result < 16
  node_within = let lt = c.requires.node in let few = c.requires.few in omega (arith, lt, few, c.from-node.ensures)

pub returns-in_default : goal.returns-in_default
returns-in_default c =
    let b = (goal.at.returns-in_default c).After-from-node in
    let deed = c.args.act.deed in
    record {
      acted = acted b;
      released = released-stays b c.in_default.not-Release;
      arrived = arrived-stays b c.in_default.not-Arrive;
      kept = kept-stays b (no_arrive deed c.in_default.not-Arrive);
      arrives = arrives-stay b (no_arrive deed c.in_default.not-Arrive);
      departs = departs-stay b (no_depart deed c.in_default.not-Depart);
    }

pub returns-in-Depart : goal.returns-in-Depart
returns-in-Depart c =
    let b = (goal.at.returns-in-Depart c).After-from-node in
    let e = c.in-Depart.is in
    let within = node_within b in
    record {
      acted = acted b;
      released = released-stays b (λ l r. (cc));
      arrived = arrived-stays b (λ a. (cc));
      kept = kept-stays b (ap is_arrive e);
      arrives = arrives-stay b (ap is_arrive e);
      departs = counts-next c.args.nodes c.args.acts.now c.args.times.now c.args.act c.args.time.now c.requires.keeps.timed is_depart
          c.from-node.result c.from-node.ensures c.args.self.now.departs (ap is_depart e)
          (omega (arith, within, c.args.self.now.all_departs))
          c.requires.past.departs;
    }

pub returns-in-Release : goal.returns-in-Release
returns-in-Release c =
    let b = (goal.at.returns-in-Release c).After-from-node in
    let e = c.in-Release.is in
    let run = c.args.acts.now in
    let times = c.args.times.now in
    let time = c.args.time.now in
    let timed = c.requires.keeps.timed in
    let is : c.args.act.deed ≡ Release c.from.result = e ∙ ap (λ l. Release l) (sym c.from.ensures) in
    record {
      acted = acted b;
      released = table-next c.args.nodes run times c.args.act time timed c.args.self.now.released
          (λ l. released_time c.args.nodes run times l (length run))
          (λ l. released_time c.args.nodes (run ++ c.args.act ∷ []) (times ++ time ∷ []) l (length (run ++ c.args.act ∷ [])))
          c.requires.past.released c.from.result (length times) refl
          (released-own c.args.nodes run times c.args.act time timed c.from.result is)
          (λ l other. released-other c.args.nodes run times c.args.act time timed l (λ r. other (released_lock (sym r ∙ is))));
      arrived = arrived-stays b (λ a. (cc));
      kept = kept-stays b (ap is_arrive e);
      arrives = arrives-stay b (ap is_arrive e);
      departs = departs-stay b (ap is_depart e);
    }

pub returns-in-Arrive : goal.returns-in-Arrive
returns-in-Arrive c =
    let b = (goal.at.returns-in-Arrive c).After-from-node in
    let e = c.in-Arrive.is in
    let run = c.args.acts.now in
    let times = c.args.times.now in
    let time = c.args.time.now in
    let timed = c.requires.keeps.timed in
    let node = c.from-node.result in
    let within = node_within b in
    let number = slice_index c.args.self.now.arrives node in
    let wide : node < length c.args.self.now.arrives = omega (arith, within, c.args.self.now.all_arrives) in
    let counted : arrives_before run c.args.act.node (length run) ≡ number =
    ap (λ q. arrives_before run q (length run)) (sym c.from-node.ensures) ∙ sym (c.requires.past.arrives node wide) in
    on_ok_weaker c.join_at.result (λ joins. let kept = joins.kept in let there = joins.there in record {
      acted = acted b;
      released = released-stays b (λ l r. (cc));
      arrived = arrived-next c.args.nodes run times c.args.act time timed c.args.self.now.arrived.items _ number e counted
          c.requires.past.arrived joins;
      kept = bound-next c.args.nodes run times c.args.act time timed is_arrive (length c.args.self.now.arrived.items) _ (ap is_arrive e)
          kept (omega arith) c.requires.past.kept;
      arrives = counts-next c.args.nodes run times c.args.act time timed is_arrive
          node c.from-node.ensures c.args.self.now.arrives (ap is_arrive e) wide c.requires.past.arrives;
      departs = departs-stay b (ap is_depart e);
    }) c.join_at.ensures
