-- The races that racing pairs of one later position name.
use Rattle.std.proofs.Common.{◌≡◌, ℕ, zero, suc, ◌<◌, ◌⊎◌, List, [], ◌∷◌, Bool, true, false, inl, inr, length, refl, sym, subst, ◌∙◌, ap, ap₂, arith}
use Rattle.std.proofs.Common.{get_or}
use Rattle.std.proofs.Common.{◌++◌}
use Rattle.std.specs.Prelude.{◌↔◌, ◌==◌, Contains, if◌then◌else◌}
use Rattle.std.specs.List.{flat_map}
use Rattle.std.proofs.lemmas.List.Elements.{Contains-get_or}
use Rattle.std.proofs.lemmas.Bool.{cases_order, eq-eqb, eqb-true}
use Rattle.std.proofs.lemmas.Option.{get_or_from_slice_get}
use Rattle.lrc_trace.specs.declared.act.Act.{Act}
use Rattle.lrc_trace.specs.declared.act.Deed.{Deed}
use Rattle.lrc_trace.specs.declared.act.Deed.TheVariants.{Quiet}
use Rattle.lrc_trace.specs.declared.race.Race.{Race}
use Rattle.lrc_trace.specs.Run.{Does, act_of}
use Rattle.lrc_trace.specs.Conflict.{Accesses, Races}
use Rattle.lrc_trace.specs.Interval.{interval_at, Names}
use Rattle.lrc_trace.proofs.Conflicts.{ConflictAt-symmetric}
use Rattle.lrc_judge.specs.declared.lanes.Pair.{Pair}
use Rattle.lrc_judge.specs.Pairs.{AreRacingPairs}
use Rattle.lrc_judge.specs.Races.{word_of, race_of_places}
use Rattle.lrc_judge.proofs.Naming.{accesses_within, named_lower, named_upper, race_same, word_is}
use Rattle.lrc_judge.proofs.Representing.{access_does}
use Rattle.lrc_acts_text.specs.Acts.{act_at}
use Rattle.lrc_explore_text.specs.LastRaces.{IsRaceEndingAt, race_ending_at, race_of_pair}

-- ---- one of a list

in_cons_at : {X : Type 0} (x : X) (xs : List X) (y : X) (k : ℕ) → k < length (x ∷ xs) → get_or (x ∷ xs) k y ≡ y → (x ≡ y) ⊎ Contains xs y
in_cons_at x xs y zero lt e = inl e
in_cons_at x xs y (suc k) lt e = inr (k, omega (arith, lt), e)

in_cons : {X : Type 0} (x : X) (xs : List X) (y : X) → Contains (x ∷ xs) y → (x ≡ y) ⊎ Contains xs y
in_cons x xs y (k, lt, e) = in_cons_at x xs y k lt e

in_head : {X : Type 0} (x : X) (xs : List X) → Contains (x ∷ xs) x
in_head x xs = (0, omega arith, refl)

in_tail : {X : Type 0} (x : X) (xs : List X) (y : X) → Contains xs y → Contains (x ∷ xs) y
in_tail x xs y (k, lt, e) = (suc k, omega (arith, lt), e)

-- what is picked from a list
module _ {X Y : Type 0} (f : X → Y) (p : X → Bool) where
  abbrev pub picked : X → List Y
  picked x = if p x then f x ∷ [] else []

  abbrev IsPicked : List X → Y → Type 0
  IsPicked xs y = (x : X) × Contains xs x × (p x ≡ true) × (f x ≡ y)

  picked_later : (x : X) (xs : List X) (y : Y) → IsPicked xs y → IsPicked (x ∷ xs) y
  picked_later x xs y (z, has, t, is) = (z, in_tail x xs z has, t, is)

  picked_one : (x : X) (xs : List X) (y : Y) (b : Bool) → p x ≡ b → (Contains (flat_map picked xs) y → IsPicked xs y)
      → Contains ((if b then f x ∷ [] else []) ++ flat_map picked xs) y → IsPicked (x ∷ xs) y
  picked_one x xs y true t more h = elim (in_cons (f x) (flat_map picked xs) y h) [
    | inl is ↦ (x, in_head x xs, t, is)
    | inr later ↦ picked_later x xs y (more later)
  ]
  picked_one x xs y false t more h = picked_later x xs y (more h)

  pub is_picked : (xs : List X) (y : Y) → Contains (flat_map picked xs) y → IsPicked xs y
  is_picked [] y (k, lt, e) = absurd (omega (arith, lt))
  is_picked (x ∷ xs) y h = picked_one x xs y (p x) refl (is_picked xs y) h

  has_later : (x : X) (xs : List X) (y : Y) (b : Bool) → Contains (flat_map picked xs) y
      → Contains ((if b then f x ∷ [] else []) ++ flat_map picked xs) y
  has_later x xs y true h = in_tail (f x) (flat_map picked xs) y h
  has_later x xs y false h = h

  has_first : (x z : X) (xs : List X) (b : Bool) → b ≡ true → x ≡ z → Contains ((if b then f x ∷ [] else []) ++ flat_map picked xs) (f z)
  has_first x z xs true e is = subst (λ y. Contains (f x ∷ flat_map picked xs) (f y)) is (in_head (f x) (flat_map picked xs))
  has_first x z xs false e is = cc

  pub has_picked : (xs : List X) (z : X) → Contains xs z → p z ≡ true → Contains (flat_map picked xs) (f z)
  has_picked [] z (k, lt, e) t = absurd (omega (arith, lt))
  has_picked (x ∷ xs) z h t = elim (in_cons x xs z h) [
    | inl is ↦ has_first x z xs (p x) (ap p is ∙ t) is
    | inr later ↦ has_later x xs (f z) (p x) (has_picked xs z later t)
  ]

-- ---- the race of two places

act_is : (run : List Act) (i p : ℕ) (d : Deed) → Does run i p d → act_at run i ≡ act_of p d
act_is run i p d does = get_or_from_slice_get run i (act_of p d) (act_of 0 Quiet) does.stands

abbrev pair_of : ℕ → ℕ → Pair
pair_of i j = record { later = j; earlier = i }

-- of accesses of one word it is by their nodes and intervals
between_is : (run : List Act) (i p j q word : ℕ) → Accesses run i p word → Accesses run j q word
    → race_of_pair run (pair_of i j) ≡ race_of_places word p (interval_at run p i) q (interval_at run q j)
between_is run i p j q word first second =
    let (a, does_i) = access_does first in
    let (b, does_j) = access_does second in
    ap₂ (λ (x y : Act). race_of_places (word_of y.deed) x.node (interval_at run x.node i) y.node (interval_at run y.node j)) (act_is run i p a does_i)
    (act_is run j q b does_j)
    ∙ ap (λ w. race_of_places w p (interval_at run p i) q (interval_at run q j)) (word_is run j q word second q b does_j)

-- a racing pair names its race
between_names : (run : List Act) (i j : ℕ) → Races run i j
    → Names run (race_of_pair run (pair_of i j)) i j ⊎ Names run (race_of_pair run (pair_of i j)) j i
between_names run i j r =
    let (p, q, word, c) = r.conflict in
    let is = between_is run i p j q word c.first c.second in
    elim (cases_order p q) [
      | inl same ↦ absurd (c.apart same)
      | inr (inl lower) ↦
          inl (subst (λ (x : Race). Names run x i j) (sym (is ∙ named_lower word p (interval_at run p i) q (interval_at run q j) lower))
          (record { ascending = lower; conflict = c; races = inl r; interval_a = refl; interval_b = refl }))
      | inr (inr upper) ↦
          inr (subst (λ (x : Race). Names run x j i) (sym (is ∙ named_upper word p (interval_at run p i) q (interval_at run q j) upper))
          (record { ascending = upper; conflict = ConflictAt-symmetric c; races = inr r; interval_a = refl; interval_b = refl }))
    ]

-- a race that a pair's positions name is the pair's
names_between : (run : List Act) (i j : ℕ) (race : Race) → Names run race i j ⊎ Names run race j i → race_of_pair run (pair_of i j) ≡ race
names_between run i j race (inl n) =
    between_is run i race.node_a j race.node_b race.word n.conflict.first n.conflict.second
    ∙ named_lower race.word race.node_a (interval_at run race.node_a i) race.node_b (interval_at run race.node_b j) n.ascending
    ∙ sym (race_same race race.word race.node_a race.node_b (interval_at run race.node_a i) (interval_at run race.node_b j) refl refl refl n.interval_a
    n.interval_b)
names_between run i j race (inr n) =
    between_is run i race.node_b j race.node_a race.word n.conflict.second n.conflict.first
    ∙ named_upper race.word race.node_b (interval_at run race.node_b i) race.node_a (interval_at run race.node_a j) n.ascending
    ∙ sym (race_same race race.word race.node_a race.node_b (interval_at run race.node_a j) (interval_at run race.node_b i) refl refl refl n.interval_a
    n.interval_b)

-- the races of the pairs with this later position are those of the act there
pub races_at_are : (run : List Act) (pairs : List Pair) (position : ℕ) (race : Race) → AreRacingPairs run pairs
    → Contains (flat_map (race_ending_at run position) pairs) race ↔ IsRaceEndingAt run position race
races_at_are run pairs position race are = (
  λ h.
      let (pair, has, at, is) = is_picked (race_of_pair run) (λ (x : Pair). x.later == position) pairs race h in
      let later : pair.later ≡ position = eqb-true pair.later position at in
      let r = subst (λ j. Races run pair.earlier j) later ((are.exact pair).0 has) in
      let same : race_of_pair run (pair_of pair.earlier position) ≡ race = ap (λ j. race_of_pair run (pair_of pair.earlier j)) (sym later) ∙ is in
      record {
        earlier = pair.earlier;
        races = r;
        names = subst (λ (x : Race). Names run x pair.earlier position ⊎ Names run x position pair.earlier) same (between_names run pair.earlier position r);
      },
  λ at.
      let has = (are.exact (pair_of at.earlier position)).1 at.races in
      subst (λ (x : Race). Contains (flat_map (race_ending_at run position) pairs) x) (names_between run at.earlier position race at.names)
      (has_picked (race_of_pair run) (λ (x : Pair). x.later == position) pairs (pair_of at.earlier position) has (eq-eqb position position refl)),
)

races_within : (run : List Act) (i j : ℕ) → Races run i j → j < length run
races_within run i j r =
    let (p, q, word, c) = r.conflict in
    accesses_within c.second

-- racing pairs are of positions of the run
pub pairs_within : (run : List Act) (pairs : List Pair) → AreRacingPairs run pairs → (k : ℕ) (d : Pair) → k < length pairs
    → ((get_or pairs k d).earlier < length run) × ((get_or pairs k d).later < length run)
pairs_within run pairs are k d lt =
    let pair : Pair = get_or pairs k d in
    let r = (are.exact pair).0 (Contains-get_or pairs k d lt) in
    let within = races_within run pair.earlier pair.later r in
    let before = r.earlier in
    (omega (arith, within, before), within)
