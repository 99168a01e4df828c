-- The pairs of one later position.
use Rattle.std.proofs.Common.{◌≡◌, ℕ, ◌<◌, ◌⊎◌, List, length, inl, inr, refl, sym, subst, ◌∙◌}
use Rattle.std.specs.Prelude.{◌↔◌, None, Some, All, Contains}
use Rattle.lrc_trace.specs.declared.act.Act.{Act}
use Rattle.lrc_trace.specs.declared.act.Deed.{Deed}
use Rattle.lrc_trace.specs.declared.act.Deed.TheVariants.{Quiet, Print, Read, Write, Acquire, Release, Arrive, Depart, Trap, End}
use Rattle.lrc_trace.specs.Run.{Does}
use Rattle.lrc_trace.specs.Conflict.{Accesses, Races}
use Rattle.lrc_trace.proofs.Positions.{Does-one_node, Does-one_deed, Does-within}
use Rattle.lrc_judge.specs.declared.TheConstants.{NODES}
use Rattle.lrc_judge.specs.declared.lanes.Lane.{Lane}
use Rattle.lrc_judge.specs.declared.lanes.Entry.{Entry}
use Rattle.lrc_judge.specs.declared.lanes.Pair.{Pair}
use Rattle.lrc_judge.specs.declared.pairs.Conflicts.{Conflicts}
use Rattle.lrc_judge.specs.declared.entries.Told.{Told}
use Rattle.lrc_judge.specs.declared.entries.Told.TheVariants.{EachAccess, EachWrite}
use Rattle.lrc_judge.specs.Lanes.{entry, lane_of, IsEntry}
use Rattle.lrc_judge.specs.Pairs.{word_lane, AreConflictsOf, AreSearchableConflicts, IsCrossing, IsOfOthers, IsPairOfAct}
use Rattle.lrc_judge.proofs.Searching.{searchable}
use Rattle.lrc_judge.proofs.Crossing.{access_listed, entry_accesses, entry_does, entry_writes, pairs_race, write_listed}

-- both lists can be searched
pub conflicts_searchable : (run : List Act) (conflicts : Conflicts) → AreConflictsOf run conflicts → AreSearchableConflicts conflicts
conflicts_searchable run conflicts are = record {
  accesses = searchable run (IsEntry run EachAccess) conflicts.accesses.items conflicts.order are.accesses (λ l i e. entry_does e) are.order;
  writes = searchable run (IsEntry run EachWrite) conflicts.writes.items conflicts.order are.writes (λ l i e. entry_does e) are.order;
}

-- the lane of an entry is that of the deed at its position
lane_is : {run : List Act} (told : Told) (lane : Lane) (i node : ℕ) (deed : Deed) → Does run i node deed → IsEntry run told lane i
    → lane_of told node deed ≡ Some lane
lane_is told lane i node deed does e =
    let nodes : e.node ≡ node = Does-one_node e.does does in
    let deeds : e.deed ≡ deed = Does-one_deed e.does does in
    subst (λ n. lane_of told n deed ≡ Some lane) nodes (subst (λ d. lane_of told e.node d ≡ Some lane) deeds e.lane_is)

some_one : {A : Type 0} (a b : A) → Some a ≡ Some b → a ≡ b
some_one a b e = cc

module _ (run : List Act) (conflicts : Conflicts) (are : AreConflictsOf run conflicts) (in_range : All (λ (act : Act). act.node < NODES) run) where
  abbrev accesses : List Entry
  accesses = conflicts.accesses.items

  abbrev writes : List Entry
  writes = conflicts.writes.items

  race : (pair : Pair) → (IsCrossing accesses writes conflicts.order pair ⊎ IsCrossing writes accesses conflicts.order pair)
      ↔ Races run pair.earlier pair.later
  race = pairs_race run conflicts.order are.order accesses writes are.accesses are.writes in_range

  -- a write that is listed among the writes is listed among the accesses
  of_accesses : (word node position : ℕ) (pair : Pair) → IsOfOthers writes conflicts.order word node NODES position pair
      → IsOfOthers accesses conflicts.order word node NODES position pair
  of_accesses word node position pair o =
      let listed : IsEntry run EachWrite (word_lane word o.other) pair.earlier = (are.writes.exact (word_lane word o.other) pair.earlier).0 o.of.there in
      let there : Contains accesses (entry (word_lane word o.other) pair.earlier) =
      (are.accesses.exact (word_lane word o.other) pair.earlier).1 (access_listed (entry_accesses listed)) in
      record {
        other = o.other;
        in_range = o.in_range;
        apart = o.apart;
        of = record { later = o.of.later; there = there; earlier = o.of.earlier; unordered = o.of.unordered };
      }

  -- the entry of a crossing at this position is of the deed's lane
  of_lane : (among : List Entry) (word node position : ℕ) (pair : Pair) (e : Entry) → pair.later ≡ position → e.position ≡ position
      → e.lane ≡ word_lane word node → IsOfOthers among conflicts.order e.lane.word e.lane.node NODES e.position pair
      → IsOfOthers among conflicts.order word node NODES position pair
  of_lane among word node position pair e later at lane o =
      subst (λ n. IsOfOthers among conflicts.order word node NODES n pair) at
      (subst (λ (l : Lane). IsOfOthers among conflicts.order l.word l.node NODES e.position pair) lane o)

  at_later : (from among : List Entry) (position : ℕ) (pair : Pair) (c : IsCrossing from among conflicts.order pair) → pair.later ≡ position
      → c.e.position ≡ position
  at_later from among position pair c later = sym c.others.of.later ∙ later

  -- of a read
  reads : (node word value position : ℕ) → Does run position node (Read word value) → (pair : Pair)
      → IsOfOthers writes conflicts.order word node NODES position pair ↔ ((pair.later ≡ position) × Races run pair.earlier pair.later)
  reads node word value position does pair = (
    λ o.
        let crossing : IsCrossing accesses writes conflicts.order pair = record {
          e = entry (word_lane word node) position;
          there = (are.accesses.exact (word_lane word node) position).1 (access_listed (inl (value, does)));
          others = o;
        } in
        (o.of.later, (race pair).0 (inl crossing)),
    λ (later, r). elim ((race pair).1 r) [
      | inl c ↦
          let at = at_later accesses writes position pair c later in
          let listed : IsEntry run EachAccess c.e.lane position =
          subst (λ n. IsEntry run EachAccess c.e.lane n) at ((are.accesses.exact c.e.lane c.e.position).0 c.there) in
          let lane : word_lane word node ≡ c.e.lane = some_one _ _ (lane_is EachAccess c.e.lane position node (Read word value) does listed) in
          of_lane writes word node position pair c.e later at (sym lane) c.others
      | inr c ↦
          let at = at_later writes accesses position pair c later in
          let listed : IsEntry run EachWrite c.e.lane position =
          subst (λ n. IsEntry run EachWrite c.e.lane n) at ((are.writes.exact c.e.lane c.e.position).0 c.there) in
          let none = lane_is EachWrite c.e.lane position node (Read word value) does listed in
          let never : ⊥ = cc in
          absurd never
    ],
  )

  -- of a write
  writes_too : (node word value position : ℕ) → Does run position node (Write word value) → (pair : Pair)
      → IsOfOthers accesses conflicts.order word node NODES position pair ↔ ((pair.later ≡ position) × Races run pair.earlier pair.later)
  writes_too node word value position does pair = (
    λ o.
        let crossing : IsCrossing writes accesses conflicts.order pair = record {
          e = entry (word_lane word node) position;
          there = (are.writes.exact (word_lane word node) position).1 (write_listed (value, does));
          others = o;
        } in
        (o.of.later, (race pair).0 (inr crossing)),
    λ (later, r). elim ((race pair).1 r) [
      | inl c ↦
          let at = at_later accesses writes position pair c later in
          let listed : IsEntry run EachAccess c.e.lane position =
          subst (λ n. IsEntry run EachAccess c.e.lane n) at ((are.accesses.exact c.e.lane c.e.position).0 c.there) in
          let lane : word_lane word node ≡ c.e.lane = some_one _ _ (lane_is EachAccess c.e.lane position node (Write word value) does listed) in
          of_accesses word node position pair (of_lane writes word node position pair c.e later at (sym lane) c.others)
      | inr c ↦
          let at = at_later writes accesses position pair c later in
          let listed : IsEntry run EachWrite c.e.lane position =
          subst (λ n. IsEntry run EachWrite c.e.lane n) at ((are.writes.exact c.e.lane c.e.position).0 c.there) in
          let lane : word_lane word node ≡ c.e.lane = some_one _ _ (lane_is EachWrite c.e.lane position node (Write word value) does listed) in
          of_lane accesses word node position pair c.e later at (sym lane) c.others
    ],
  )

  -- of what is no access
  no_race : (node position : ℕ) (deed : Deed) → Does run position node deed → lane_of EachAccess node deed ≡ None
      → (pair : Pair) → pair.later ≡ position → Races run pair.earlier pair.later → ⊥
  no_race node position deed does none pair later r =
      elim ((race pair).1 r) [
        | inl c ↦
            let at = at_later accesses writes position pair c later in
            let listed : IsEntry run EachAccess c.e.lane position =
            subst (λ n. IsEntry run EachAccess c.e.lane n) at ((are.accesses.exact c.e.lane c.e.position).0 c.there) in
            let some = lane_is EachAccess c.e.lane position node deed does listed in
            let never : ⊥ = cc in
            never
        | inr c ↦
            let at = at_later writes accesses position pair c later in
            let listed : IsEntry run EachWrite c.e.lane position =
            subst (λ n. IsEntry run EachWrite c.e.lane n) at ((are.writes.exact c.e.lane c.e.position).0 c.there) in
            let as_access : IsEntry run EachAccess (word_lane c.e.lane.word c.e.lane.node) position = access_listed (entry_accesses listed) in
            let some = lane_is EachAccess (word_lane c.e.lane.word c.e.lane.node) position node deed does as_access in
            let never : ⊥ = cc in
            never
      ]

  nothing : (node position : ℕ) (deed : Deed) → Does run position node deed → lane_of EachAccess node deed ≡ None
      → (pair : Pair) → ⊥ ↔ ((pair.later ≡ position) × Races run pair.earlier pair.later)
  nothing node position deed does none pair = (λ never. absurd never, λ (later, r). no_race node position deed does none pair later r)

  -- of any deed
  pub pairs_of_act : (node position : ℕ) (deed : Deed) → Does run position node deed → (pair : Pair)
      → IsPairOfAct conflicts node deed position pair ↔ ((pair.later ≡ position) × Races run pair.earlier pair.later)
  pairs_of_act node position (Read word value) does pair = reads node word value position does pair
  pairs_of_act node position (Write word value) does pair = writes_too node word value position does pair
  pairs_of_act node position Quiet does pair = nothing node position Quiet does refl pair
  pairs_of_act node position (Print v) does pair = nothing node position (Print v) does refl pair
  pairs_of_act node position (Acquire l) does pair = nothing node position (Acquire l) does refl pair
  pairs_of_act node position (Release l) does pair = nothing node position (Release l) does refl pair
  pairs_of_act node position Arrive does pair = nothing node position Arrive does refl pair
  pairs_of_act node position Depart does pair = nothing node position Depart does refl pair
  pairs_of_act node position (Trap cause) does pair = nothing node position (Trap cause) does refl pair
  pairs_of_act node position End does pair = nothing node position End does refl pair

-- no race has its later act past the end
pub nothing_races_past_the_end : (run : List Act) (pair : Pair) (later : ℕ) → pair.later ≡ later → (later < length run → ⊥)
    → Races run pair.earlier pair.later → ⊥
nothing_races_past_the_end run pair later at past r =
    let (p, q, word, c) = r.conflict in
    let within : (a : Accesses run pair.later q word) → pair.later < length run = λ a. elim a [
      | inl (v, h) ↦ Does-within h
      | inr (v, h) ↦ Does-within h
    ] in
    past (subst (λ n. n < length run) at (within c.second))
