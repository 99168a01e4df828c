-- The races that pairs of first accesses name.
use Rattle.std.proofs.Common.{◌≡◌, ℕ, ◌<◌, ◌≤◌, ◌⊎◌, ◌++◌, List, [], ◌∷◌, length, inl, inr, refl, sym, subst, ◌∙◌, arith}
use Rattle.std.specs.Prelude.{All, Contains, slice_index}
use Rattle.std.proofs.lemmas.Bool.{cases_order, lt-ltb, le-ltb}
use Rattle.lrc_trace.specs.declared.act.Act.{Act}
use Rattle.lrc_trace.specs.declared.act.Deed.{Deed}
use Rattle.lrc_trace.specs.declared.act.Deed.TheVariants.{Read, Write}
use Rattle.lrc_trace.specs.declared.race.Race.{Race}
use Rattle.lrc_trace.specs.Run.{Does}
use Rattle.lrc_trace.specs.Order.{HappensBefore}
use Rattle.lrc_trace.specs.Conflict.{Accesses, ConflictAt, Races}
use Rattle.lrc_trace.specs.Interval.{interval_at, Names, IsNamedRace}
use Rattle.lrc_trace.proofs.Positions.{Does-read, Does-one_node, Does-one_deed, Does-within}
use Rattle.lrc_trace.proofs.HappensBefore.{forward}
use Rattle.lrc_trace.proofs.Conflicts.{ConflictAt-symmetric}
use Rattle.lrc_judge.specs.declared.TheConstants.{NODES}
use Rattle.lrc_judge.specs.declared.lanes.Lane.{Lane}
use Rattle.lrc_judge.specs.declared.lanes.Entry.{Entry}
use Rattle.lrc_judge.specs.declared.lanes.Pair.{Pair}
use Rattle.lrc_judge.specs.declared.entries.Told.{Told}
use Rattle.lrc_judge.specs.declared.entries.Told.TheVariants.{EachAccess, EachWrite}
use Rattle.lrc_judge.specs.declared.order.Order.{Order}
use Rattle.lrc_judge.specs.Order.{IsOrderOf}
use Rattle.lrc_judge.specs.Adding.{Adds}
use Rattle.lrc_judge.specs.Firsts.{AreIntervals, AreFirstEntries}
use Rattle.lrc_judge.specs.Lanes.{entry, AreEntries, AreSearchable}
use Rattle.lrc_judge.specs.Pairs.{word_lane, IsCrossing}
use Rattle.lrc_judge.specs.FirstPairs.{IsPairOf}
use Rattle.lrc_judge.specs.Races.{word_of, race_of_places, IsNameOf}
use Rattle.lrc_judge.proofs.Additions.{adds-iff, adds-push}
use Rattle.lrc_judge.proofs.Searching.{searchable}
use Rattle.lrc_judge.proofs.Crossing.{entry_does, entry_accesses, entry_writes, access_listed, write_listed, crossing_races, races_crossing}
use Rattle.lrc_judge.proofs.Representing.{access_does, unordered_too}

-- ---- what a race of two places is named

pub race_same : (race : Race) (word a b i j : ℕ) → race.word ≡ word → race.node_a ≡ a → race.node_b ≡ b → race.interval_a ≡ i → race.interval_b ≡ j
    → race ≡ record { word = word; node_a = a; node_b = b; interval_a = i; interval_b = j }
race_same race word a b i j w p q x y =
    let e : ◌≡◌ {A = Race} (record {
      word = race.word;
      node_a = race.node_a;
      node_b = race.node_b;
      interval_a = race.interval_a;
      interval_b = race.interval_b;
    }) (record { word = word; node_a = a; node_b = b; interval_a = i; interval_b = j }) = cc in e

pub named_lower : (word p i q j : ℕ) → p < q → race_of_places word p i q j ≡ record { word = word; node_a = p; node_b = q; interval_a = i; interval_b = j }
named_lower word p i q j lt = rw (lt-ltb p q lt) refl

pub named_upper : (word p i q j : ℕ) → q < p → race_of_places word p i q j ≡ record { word = word; node_a = q; node_b = p; interval_a = j; interval_b = i }
named_upper word p i q j lt = rw (le-ltb p q (omega arith)) refl

pub word_is : (run : List Act) (i p w : ℕ) → Accesses run i p w → (q : ℕ) (d : Deed) → Does run i q d → word_of d ≡ w
word_is run i p w (inl (v, h)) q d does = let e : Read w v ≡ d = Does-one_deed h does in rw (← e) refl
word_is run i p w (inr (v, h)) q d does = let e : Write w v ≡ d = Does-one_deed h does in rw (← e) refl

pub accesses_within : {run : List Act} {i p w : ℕ} → Accesses run i p w → i < length run
accesses_within a = Does-within (access_does a).1

-- numbers that are others in either order, where these are not above two numbers in order
not_later : (early late i j lower upper : ℕ) → early < late → ((early ≡ i) × (late ≡ j)) ⊎ ((early ≡ j) × (late ≡ i)) → i ≤ lower → j ≤ upper
    → lower < upper → (late ≤ upper) × (early ≤ lower)
not_later early late i j lower upper lt (inl (e, l)) le le' up = (omega arith, omega arith)
not_later early late i j lower upper lt (inr (e, l)) le le' up = (omega arith, omega arith)

turned : {A B : Type 0} → A ⊎ B → B ⊎ A
turned (inl a) = inr a
turned (inr b) = inl b

module _ (run : List Act) (intervals : List ℕ) (are : AreIntervals run (length run) intervals) where
  interval_is : {i p w : ℕ} → Accesses run i p w → slice_index intervals i ≡ interval_at run p i
  interval_is {i} {p} a = let (d, does) = access_does a in are.each i p d (Does-within does) does

  -- the name of a racing pair names it
  pub pair_named : (pair : Pair) (race : Race) → Races run pair.earlier pair.later → IsNameOf run intervals pair race → IsPairOf run race pair
  pair_named pair race r name =
      let i = pair.earlier in
      let j = pair.later in
      let (p, q, word, c) = r.conflict in
      let (a, does_i) = access_does c.first in
      let (b, does_j) = access_does c.second in
      let nodes_p : name.p ≡ p = Does-one_node name.first does_i in
      let nodes_q : name.q ≡ q = Does-one_node name.second does_j in
      let words : word_of name.b ≡ word = word_is run j q word c.second name.q name.b name.second in
      let ints_i = interval_is c.first in
      let ints_j = interval_is c.second in
      let is : race ≡ race_of_places word p (interval_at run p i) q (interval_at run q j) =
      name.is ∙ rw (nodes_p, nodes_q, words, ints_i, ints_j) refl in
      elim (cases_order p q) [
        | inl same ↦ absurd (c.apart same)
        | inr (inl lower) ↦
            let e = is ∙ named_lower word p (interval_at run p i) q (interval_at run q j) lower in
            subst (λ x. IsPairOf run x pair) (sym e) (record {
              races = r;
              named = inl (record { ascending = lower; conflict = c; races = inl r; interval_a = refl; interval_b = refl });
            })
        | inr (inr upper) ↦
            let e = is ∙ named_upper word p (interval_at run p i) q (interval_at run q j) upper in
            subst (λ x. IsPairOf run x pair) (sym e) (record {
              races = r;
              named = inr (record {
                ascending = upper;
                conflict = ConflictAt-symmetric c;
                races = inr r;
                interval_a = refl;
                interval_b = refl;
              });
            })
      ]

  -- the name of a racing pair is one of the run
  pub name_is : (pair : Pair) (race : Race) → Races run pair.earlier pair.later → IsNameOf run intervals pair race → IsNamedRace run race
  name_is pair race r name = elim (pair_named pair race r name).named [
    | inl n ↦ (pair.earlier, pair.later, n)
    | inr n ↦ (pair.later, pair.earlier, n)
  ]

  -- a race that a pair's positions name is the pair's name
  pub is_name : (pair : Pair) (race : Race) → Names run race pair.earlier pair.later ⊎ Names run race pair.later pair.earlier → IsNameOf run intervals pair race
  is_name pair race (inl n) =
      let (a, does_i) = access_does n.conflict.first in
      let (b, does_j) = access_does n.conflict.second in
      let words = word_is run pair.later race.node_b race.word n.conflict.second race.node_b b does_j in
      record {
        p = race.node_a;
        q = race.node_b;
        a = a;
        b = b;
        first = does_i;
        second = does_j;
        is = race_same race (word_of b) race.node_a race.node_b (slice_index intervals pair.earlier) (slice_index intervals pair.later) (sym words) refl refl
            (n.interval_a ∙ sym (interval_is n.conflict.first)) (n.interval_b ∙ sym (interval_is n.conflict.second))
            ∙ sym (named_lower (word_of b) race.node_a (slice_index intervals pair.earlier) race.node_b (slice_index intervals pair.later) n.ascending);
      }
  is_name pair race (inr n) =
      let (a, does_j) = access_does n.conflict.first in
      let (b, does_i) = access_does n.conflict.second in
      let words = word_is run pair.later race.node_a race.word n.conflict.first race.node_a a does_j in
      record {
        p = race.node_b;
        q = race.node_a;
        a = b;
        b = a;
        first = does_i;
        second = does_j;
        is = race_same race (word_of a) race.node_a race.node_b (slice_index intervals pair.later) (slice_index intervals pair.earlier) (sym words) refl refl
            (n.interval_a ∙ sym (interval_is n.conflict.first)) (n.interval_b ∙ sym (interval_is n.conflict.second))
            ∙ sym (named_upper (word_of a) race.node_b (slice_index intervals pair.earlier) race.node_a (slice_index intervals pair.later) n.ascending);
      }

  -- ---- the pairs of first accesses

  abbrev In : List Entry → Lane → ℕ → Type 0
  In list lane i = Contains list (entry lane i)

  module _ (order : Order) (is : IsOrderOf run order) (accesses writes : List Entry) (all : AreFirstEntries run EachAccess intervals accesses)
      (some : AreFirstEntries run EachWrite intervals writes) (in_range : All (λ (act : Act). act.node < NODES) run) where
    all_entries : AreEntries (In accesses) accesses
    all_entries = record { in_order = all.in_order; exact = λ lane i. (λ h. h, λ h. h) }

    some_entries : AreEntries (In writes) writes
    some_entries = record { in_order = some.in_order; exact = λ lane i. (λ h. h, λ h. h) }

    pub pairs_sound : (pair : Pair) → IsCrossing accesses writes order pair ⊎ IsCrossing writes accesses order pair → Races run pair.earlier pair.later
    pairs_sound pair (inl c) = crossing_races run order is (In accesses) (In writes) accesses writes all_entries some_entries
        (λ l i h. entry_accesses (all.sound l i h)) (λ l i h. entry_accesses (some.sound l i h)) (λ l o i j a b. inr (entry_writes (some.sound o j b))) pair c
    pairs_sound pair (inr c) = crossing_races run order is (In writes) (In accesses) writes accesses some_entries all_entries
        (λ l i h. entry_accesses (some.sound l i h)) (λ l i h. entry_accesses (all.sound l i h)) (λ l o i j a b. inl (entry_writes (some.sound l i a))) pair c

    node_below : {i p w : ℕ} → Accesses run i p w → p < NODES
    node_below {i} {p} a =
        let (d, does) = access_does a in
        let within = Does-within does in
        let act : Act = record { node = p; deed = d } in
        let here = Does-one_node (Does-read run i act within) does in
        let below = in_range i act within in
        omega (arith, here, below)

    -- the pair is of these positions
    abbrev IsOf : ℕ → ℕ → Pair → Type 0
    IsOf i j pair = ((pair.earlier ≡ i) × (pair.later ≡ j)) ⊎ ((pair.earlier ≡ j) × (pair.later ≡ i))

    abbrev IsPairFor : Race → ℕ → ℕ → Pair → Type 0
    IsPairFor race i j pair = (IsCrossing accesses writes order pair ⊎ IsCrossing writes accesses order pair)
        × IsPairOf run race pair × IsOf i j pair

    -- of the first accesses i of node_a and j of node_b, of which this one writes
    paired : (race : Race) (these those : List Entry) → AreEntries (In these) these → AreEntries (In those) those
        → ((pair : Pair) → IsCrossing these those order pair → IsCrossing accesses writes order pair ⊎ IsCrossing writes accesses order pair)
        → ((pair : Pair) → IsCrossing those these order pair → IsCrossing accesses writes order pair ⊎ IsCrossing writes accesses order pair)
        → (i j : ℕ) → race.node_a < race.node_b → ConflictAt run i race.node_a j race.node_b race.word
        → In these (word_lane race.word race.node_a) i → In those (word_lane race.word race.node_b) j
        → (HappensBefore run i j → ⊥) → (HappensBefore run j i → ⊥)
        → race.interval_a ≡ interval_at run race.node_a i → race.interval_b ≡ interval_at run race.node_b j → (pair : Pair) × IsPairFor race i j pair
    paired race these those are others one two i j ascending c at_i at_j not_ij not_ji ia ib =
        elim (cases_order i j) [
          | inl same ↦
              let (a, does_i) = access_does c.first in
              let (b, does_j) = access_does c.second in
              absurd (c.apart (Does-one_node (subst (λ m. Does run m race.node_a a) same does_i) does_j))
          | inr (inl lower) ↦
              let pair : Pair = record { later = j; earlier = i } in
              let r : Races run i j = record { earlier = lower; conflict = (race.node_a, race.node_b, race.word, c); unordered = not_ij } in
              let names : Names run race i j = record { ascending = ascending; conflict = c; races = inl r; interval_a = ia; interval_b = ib } in
              let crossing = two pair (races_crossing run order is (In those) (In these) those these others are pair race.node_a race.node_b race.word
              (node_below c.first) c.apart at_j at_i lower not_ij) in
              (pair, (crossing, record { races = r; named = inl names }, inl (refl, refl)))
          | inr (inr upper) ↦
              let pair : Pair = record { later = i; earlier = j } in
              let r : Races run j i =
              record { earlier = upper; conflict = (race.node_b, race.node_a, race.word, ConflictAt-symmetric c); unordered = not_ji } in
              let names : Names run race i j = record { ascending = ascending; conflict = c; races = inr r; interval_a = ia; interval_b = ib } in
              let crossing = one pair (races_crossing run order is (In these) (In those) these those are others pair race.node_b race.node_a race.word
              (node_below c.second) (λ e. c.apart (sym e)) at_i at_j upper not_ji) in
              (pair, (crossing, record { races = r; named = inr names }, inr (refl, refl)))
        ]

    -- for positions that a race names there is a pair of positions that are not later
    pub pairs_complete : (race : Race) (i j : ℕ) → Names run race i j
        → (i' : ℕ) × (j' : ℕ) × (i' ≤ i) × (j' ≤ j) × ((pair : Pair) × IsPairFor race i' j' pair)
    pairs_complete race i j n =
        let c = n.conflict in
        let p = race.node_a in
        let q = race.node_b in
        let word = race.word in
        let neither : (HappensBefore run i j → ⊥) × (HappensBefore run j i → ⊥) = elim n.races [
          | inl r ↦ (r.unordered, λ h. let lt = forward h in let lt' = r.earlier in omega arith)
          | inr r ↦ (λ h. let lt = forward h in let lt' = r.earlier in omega arith, r.unordered)
        ] in
        elim c.writes [
          | inl w ↦
              let (i', at_i, le_i, ints_i) = some.complete (word_lane word p) i (write_listed w) in
              let (j', at_j, le_j, ints_j) = all.complete (word_lane word q) j (access_listed c.second) in
              let writes_i = entry_writes (some.sound (word_lane word p) i' at_i) in
              let first : Accesses run i' p word = inr writes_i in
              let second : Accesses run j' q word = entry_accesses (all.sound (word_lane word q) j' at_j) in
              let same_i = sym (interval_is first) ∙ ints_i ∙ interval_is c.first in
              let same_j = sym (interval_is second) ∙ ints_j ∙ interval_is c.second in (
                i',
                j',
                le_i,
                le_j,
                paired race writes accesses some_entries all_entries (λ pair h. inr h) (λ pair h. inl h) i' j' n.ascending
                    (record { apart = c.apart; first = first; second = second; writes = inl writes_i }) at_i at_j
                    (unordered_too run i i' j j' p q word word word word c.apart c.first first c.second second le_i same_i le_j neither.0)
                    (unordered_too run j j' i i' q p word word word word (λ e. c.apart (sym e)) c.second second c.first first le_j same_j le_i neither.1)
                    (n.interval_a ∙ sym same_i) (n.interval_b ∙ sym same_j),
              )
          | inr w ↦
              let (i', at_i, le_i, ints_i) = all.complete (word_lane word p) i (access_listed c.first) in
              let (j', at_j, le_j, ints_j) = some.complete (word_lane word q) j (write_listed w) in
              let writes_j = entry_writes (some.sound (word_lane word q) j' at_j) in
              let first : Accesses run i' p word = entry_accesses (all.sound (word_lane word p) i' at_i) in
              let second : Accesses run j' q word = inr writes_j in
              let same_i = sym (interval_is first) ∙ ints_i ∙ interval_is c.first in
              let same_j = sym (interval_is second) ∙ ints_j ∙ interval_is c.second in (
                i',
                j',
                le_i,
                le_j,
                paired race accesses writes all_entries some_entries (λ pair h. inl h) (λ pair h. inr h) i' j' n.ascending
                    (record { apart = c.apart; first = first; second = second; writes = inr writes_j }) at_i at_j
                    (unordered_too run i i' j j' p q word word word word c.apart c.first first c.second second le_i same_i le_j neither.0)
                    (unordered_too run j j' i i' q p word word word word (λ e. c.apart (sym e)) c.second second c.first first le_j same_j le_i neither.1)
                    (n.interval_a ∙ sym same_i) (n.interval_b ∙ sym same_j),
              )
        ]

    -- for a pair that a race names there is one that is not later
    pub pairs_below : (race : Race) (other : Pair) → IsPairOf run race other
        → (pair : Pair) × (IsCrossing accesses writes order pair ⊎ IsCrossing writes accesses order pair) × IsPairOf run race pair
        × (pair.later ≤ other.later) × (pair.earlier ≤ other.earlier)
    pairs_below race other o =
        let up = o.races.earlier in
        elim o.named [
          | inl n ↦
              let (i, j, le_i, le_j, found) = pairs_complete race other.earlier other.later n in
              let (pair, both) = found in
              let (crossing, of, places) = both in
              let le = not_later pair.earlier pair.later i j other.earlier other.later of.races.earlier places le_i le_j up in
              (pair, crossing, of, le.0, le.1)
          | inr n ↦
              let (i, j, le_i, le_j, found) = pairs_complete race other.later other.earlier n in
              let (pair, both) = found in
              let (crossing, of, places) = both in
              let le = not_later pair.earlier pair.later j i other.earlier other.later of.races.earlier (turned places) le_j le_i up in
              (pair, crossing, of, le.0, le.1)
        ]

-- a race that the run names is the name of a pair
pub named_pair : (run : List Act) (race : Race) → IsNamedRace run race → (pair : Pair) × IsPairOf run race pair
named_pair run race (i, j, n) = elim n.races [
  | inl r ↦ (record { later = j; earlier = i }, record { races = r; named = inl n })
  | inr r ↦ (record { later = i; earlier = j }, record { races = r; named = inr n })
]

-- a pair of acts has one name
pub name_one : (run : List Act) (intervals : List ℕ) (pair : Pair) (race other : Race) → IsNameOf run intervals pair race
    → IsNameOf run intervals pair other → race ≡ other
name_one run intervals pair race other n m =
    let nodes_p : n.p ≡ m.p = Does-one_node n.first m.first in
    let nodes_q : n.q ≡ m.q = Does-one_node n.second m.second in
    let deeds : n.b ≡ m.b = Does-one_deed n.second m.second in
    n.is ∙ rw (nodes_p, nodes_q, deeds) (sym m.is)

-- a racing pair has a name
pub name_there : (run : List Act) (intervals : List ℕ) (pair : Pair) → Races run pair.earlier pair.later → (race : Race) × IsNameOf run intervals pair race
name_there run intervals pair r =
    let (p, q, word, c) = r.conflict in
    let (a, does_i) = access_does c.first in
    let (b, does_j) = access_does c.second in
    let race = race_of_places (word_of b) p (slice_index intervals pair.earlier) q (slice_index intervals pair.later) in
    (race, record { p = p; q = q; a = a; b = b; first = does_i; second = does_j; is = refl })

-- ---- step by step

pub firsts_searchable : (run : List Act) (told : Told) (intervals : List ℕ) (firsts : List Entry) (order : Order) → AreFirstEntries run told intervals firsts
    → IsOrderOf run order → AreSearchable order firsts
firsts_searchable run told intervals firsts order are is =
    searchable run (λ lane i. Contains firsts (entry lane i)) firsts order
    (record { in_order = are.in_order; exact = λ lane i. (λ h. h, λ h. h) }) (λ l i h. entry_does (are.sound l i h)) is

-- one pair's name
pub names-push : (run : List Act) (intervals : List ℕ) (pair : Pair) (p q : ℕ) (a b : Deed) (xs ys : List Race) (race : Race) → Does run pair.earlier p a
    → Does run pair.later q b → race ≡ race_of_places (word_of b) p (slice_index intervals pair.earlier) q (slice_index intervals pair.later)
    → ys ≡ xs ++ race ∷ [] → Adds xs ys (IsNameOf run intervals pair)
names-push run intervals pair p q a b xs ys race first second is pushed =
    adds-iff xs ys (λ x. x ≡ race) (IsNameOf run intervals pair)
    (λ x same. record { p = p; q = q; a = a; b = b; first = first; second = second; is = same ∙ is })
    (λ x name.
    let nodes_p : name.p ≡ p = Does-one_node name.first first in
    let nodes_q : name.q ≡ q = Does-one_node name.second second in
    let deeds : name.b ≡ b = Does-one_deed name.second second in
    name.is ∙ rw (nodes_p, nodes_q, deeds) (sym is))
    (adds-push xs ys race pushed)
