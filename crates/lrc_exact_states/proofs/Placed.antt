-- Two runs that each stand as themselves stand alike, where their nodes have the same, and their places stand alike.
use Rattle.std.proofs.Common.{◌≡◌, ℕ, zero, suc, ◌+◌, ◌<◌, ◌≤◌, ◌&&◌, ◌||◌, ◌⊎◌, Bool, true, false, List, [], ◌∷◌, length, inl, inr, refl, sym, subst, ap, ap₂, ◌∙◌, arith}
use Rattle.std.specs.Prelude.{◌-◌, ◌==◌, Option, Some, None, nat_le, nat_lt, option_map}
use Rattle.std.proofs.lemmas.Bool.{and_from, and_parts, both_ways, cases_Bool, cases_lt, cond-true, cond-false, eq-eqb, eqb-true, le-leb, leb-true, lt-ltb, ltb-true, or_cases, or_left, or_parts, or_right}
use Rattle.std.proofs.lemmas.Option.{none-some, same_Some}
use Rattle.lrc_trace.specs.declared.act.Act.{Act}
use Rattle.lrc_time.specs.Time.{entry, weight_of}
use Rattle.lrc_exact.specs.LocalRule.{arrived_state, released_state}
use Rattle.lrc_exact.specs.Rule.{Knowledge, Shape, State}
use Rattle.lrc_exact_states.specs.Levels.{AreChangesAlike, AreLevels, AreRising, Change, IsCapped, last_change, no_change, one_change, levels_told, Told}
use Rattle.lrc_exact_states.specs.Alike.{ArriveAlike, IsHandedAlike, handed, known_to_all, IsKnowledgeAlike, IsKnownToAll, IsStateAlike}
use Rattle.lrc_exact_states.specs.Runs.{AreRunsAlike, AreSynchronizedAlike, Base, here}
use Rattle.lrc_exact_states.specs.Key.{at_arrive, at_lock, at_node, capped_above, change_beyond, change_kept, each_from, handed_on, heights_of, is_above, is_under, known_at, Place, word_kept}
use Rattle.lrc_exact_states.proofs.By.{AreRunsAlikeBy}
use Rattle.lrc_exact_states.proofs.Kept.{capped_is, changes_same, IsAbove, words_same}
use Rattle.lrc_exact_states.proofs.Levels.{last-agree}
use Rattle.lrc_exact_states.proofs.Listed.{each_same, Has}

beyond : (time : List ℕ) (q : ℕ) → length time ≤ q → entry time q ≡ 0
beyond [] q le = refl
beyond (x ∷ xs) zero le = absurd (omega (arith, le))
beyond (x ∷ xs) (suc q) le = beyond xs q (omega (arith, le))

-- the node of a place is one of so many
abbrev pub IsPlace : ℕ → Place → Type 0
IsPlace nodes (at_node node) = node < nodes
IsPlace nodes (at_lock lock) = Unit {0}
IsPlace nodes (at_arrive number node) = Unit {0}

-- ---- a time above the floor, or not

not_above : (count : ℕ) (floor time : List ℕ) → is_above count floor time ≡ false → (q : ℕ) → q < count → entry time q ≤ entry floor q
not_above zero floor time e q lt = absurd (omega (arith, lt))
not_above (suc count) floor time e q lt =
    let parts = or_parts (nat_lt (entry floor count) (entry time count)) (is_above count floor time) e in
    elim (cases_lt q count) [
      | inl less ↦ not_above count floor time parts.1 q less
      | inr ge ↦ elim (cases_lt (entry floor count) (entry time count)) [
        | inl more ↦ absurd (both_ways (nat_lt (entry floor count) (entry time count)) parts.0 (lt-ltb (entry floor count) (entry time count) more))
        | inr le ↦
            let is : count ≡ q = omega (arith, lt, ge) in
            subst (λ k. entry time k ≤ entry floor k) is le
      ]
    ]

never_above : (count : ℕ) (floor time : List ℕ) → ((q : ℕ) → entry time q ≤ entry floor q) → is_above count floor time ≡ true → ⊥
never_above zero floor time all e = let never : ⊥ = cc in never
never_above (suc count) floor time all e = elim (or_cases (nat_lt (entry floor count) (entry time count)) (is_above count floor time) e) [
  | inl more ↦
      let lt = ltb-true (entry floor count) (entry time count) more in
      let le = all count in
      omega (arith, lt, le)
  | inr rest ↦ never_above count floor time all rest
]

-- ---- one run

module _ (shape : Shape) (cap : ℕ) (base : Base) (run : List Act) (states : List State) (r : AreRunsAlikeBy shape cap base base run run states states) where
  abbrev pub KnowsAlike : Knowledge → Knowledge → Type 0
  KnowsAlike k k' = IsKnowledgeAlike shape.nodes r.made r.made' r.level k k'

  abbrev SelfHanded : Option State → Option State → Type 0
  SelfHanded o o' = IsHandedAlike shape.nodes r.made r.made' r.level base.floor base.floor o o'

  handed_is : (o o' : Option State) → SelfHanded o o' → (k k' : Knowledge) → handed_on shape.nodes base.floor o ≡ Some k → handed_on shape.nodes base.floor o' ≡ Some k'
      → KnowsAlike k k'
  handed_is None o' h k k' e e' = absurd (none-some k e)
  handed_is (Some s) None h k k' e e' = absurd (none-some k' e')
  handed_is (Some s) (Some s') h k k' e e' = elim (cases_Bool (is_above shape.nodes base.floor s.knows.time)) [
    | inr fails ↦ absurd (none-some k (sym (cond-false (is_above shape.nodes base.floor s.knows.time) (Some s.knows) None fails) ∙ e))
    | inl holds ↦ elim (cases_Bool (is_above shape.nodes base.floor s'.knows.time)) [
      | inr fails' ↦ absurd (none-some k' (sym (cond-false (is_above shape.nodes base.floor s'.knows.time) (Some s'.knows) None fails') ∙ e'))
      | inl holds' ↦
          subst (λ (x : Knowledge). KnowsAlike x k')
          (same_Some s.knows k (sym (cond-true (is_above shape.nodes base.floor s.knows.time) (Some s.knows) None holds) ∙ e))
          (subst (λ (x : Knowledge). KnowsAlike s.knows x)
          (same_Some s'.knows k' (sym (cond-true (is_above shape.nodes base.floor s'.knows.time) (Some s'.knows) None holds') ∙ e'))
          (known (Some s) (Some s') h s s' refl refl holds))
    ]
  ]
    where
      known : (o o' : Option State) → SelfHanded o o' → (x x' : State) → o ≡ Some x → o' ≡ Some x' → is_above shape.nodes base.floor x.knows.time ≡ true
          → KnowsAlike x.knows x'.knows
      known (Some y) (Some y') (handed a) x x' is is' above =
          subst (λ (z : State). KnowsAlike z.knows x'.knows) (same_Some y x is)
          (subst (λ (z : State). KnowsAlike y.knows z.knows) (same_Some y' x' is') a)
      known o o' (known_to_all a b) x x' is is' above =
          absurd (never_above shape.nodes base.floor x.knows.time (subst (λ (p : Option State). IsKnownToAll shape.nodes base.floor p) is a).1 above)

  arrived_is : (o : Option State) → ArriveAlike shape.nodes r.made r.made' r.level o o → (k : Knowledge) → option_map (λ (s : State). s.knows) o ≡ Some k
      → KnowsAlike k k
  arrived_is None a k e = absurd (none-some k e)
  arrived_is (Some s) a k e = subst (λ (x : Knowledge). KnowsAlike x x) (same_Some s.knows k e) a

  -- what is known at a place stands as itself
  pub at_place : (p : Place) → IsPlace shape.nodes p → (k : Knowledge) → known_at shape base run states p ≡ Some k → KnowsAlike k k
  at_place (at_node q) lt k is =
      subst (λ (x : Knowledge). KnowsAlike x x) (same_Some (here shape run states q).knows k is) (r.nodes_are q lt).knows
  at_place (at_lock l) u k is = handed_is (released_state run states l (length run)) (released_state run states l (length run)) (r.locks l) k k is is
  at_place (at_arrive n q) u k is = arrived_is (arrived_state run states (n + base.first) (length run) q) (r.arrived n q) k is

  above_of : (o o' : Option Change) → AreChangesAlike cap base.floor base.floor o o' → IsAbove (weight_of base.floor) o
  above_of None None no_change = tt
  above_of (Some c) (Some c') (one_change e w) = w.above
  above_of None (Some c') a = tt
  above_of (Some c) None a = elim a [ ]

  module _ (k : Knowledge) (a : KnowsAlike k k) (q : ℕ) (lt : q < shape.nodes) where
    pub above_floor : entry base.floor q ≤ entry k.time q
    above_floor = (r.levels.above q (entry k.time q) (entry k.time q) (a.at q lt)).0

    pub rising_there : AreRising (r.made q) (entry k.time q)
    rising_there = (r.levels.rising q (entry k.time q) (entry k.time q) (a.at q lt)).0

    pub most_there : entry k.time q ≤ entry (here shape run states q).knows.time q
    most_there = (r.most q (entry k.time q) (entry k.time q) lt (a.at q lt)).0

    -- a change between two places is as the table has it, and above the floor
    pub made_there : (word first : ℕ) → last_change (k.interval q) word first (entry k.time q) ≡ last_change (r.made q) word first (entry k.time q)
    made_there word first =
        last-agree (k.interval q) word first (r.made q) (entry k.time q) (λ i less. a.made_here q (suc i) lt (omega arith) (omega (arith, less)))

    pub above_there : (m : Knowledge) → KnowsAlike m m → (word : ℕ) → entry m.time q ≤ entry k.time q
        → IsAbove (weight_of base.floor) (last_change (r.made q) word (entry m.time q) (entry k.time q))
    above_there m b word le =
        above_of (last_change (r.made q) word (entry m.time q) (entry k.time q)) (last_change (r.made' q) word (entry m.time q) (entry k.time q))
        (r.levels.changes q word (entry m.time q) (entry m.time q) (entry k.time q) (entry k.time q) (b.at q lt) (a.at q lt) le)

  -- a lock hands on what is not known to all, or nothing
  pub record IsHandedOn (o : Option State) : Type 0 where
    pub state : State
    pub is : o ≡ Some state
    pub there : handed_on shape.nodes base.floor o ≡ Some state.knows

  pub handed_or : (o : Option State) → SelfHanded o o → (IsKnownToAll shape.nodes base.floor o × (handed_on shape.nodes base.floor o ≡ None)) ⊎ IsHandedOn o
  handed_or None h = inl (tt, refl)
  handed_or (Some s) h = elim (cases_Bool (is_above shape.nodes base.floor s.knows.time)) [
    | inl holds ↦ inr (record { state = s; is = refl; there = cond-true (is_above shape.nodes base.floor s.knows.time) (Some s.knows) None holds })
    | inr fails ↦
        inl (
          (
            long,
            λ q. elim (cases_lt q shape.nodes) [
              | inl lt ↦ not_above shape.nodes base.floor s.knows.time fails q lt
              | inr ge ↦ let z = beyond s.knows.time q (omega (arith, long, ge)) in omega (arith, z)
            ],
          ),
          cond-false (is_above shape.nodes base.floor s.knows.time) (Some s.knows) None fails,
        )
  ]
    where
      width : (o o' : Option State) → SelfHanded o o' → (x : State) → o ≡ Some x → length x.knows.time ≡ shape.nodes
      width (Some y) (Some y') (handed a) x is = subst (λ (z : State). length z.knows.time ≡ shape.nodes) (same_Some y x is) a.wide
      width o o' (known_to_all a b) x is = (subst (λ (p : Option State). IsKnownToAll shape.nodes base.floor p) is a).0

      long : length s.knows.time ≡ shape.nodes
      long = width (Some s) (Some s) h s refl

-- ---- some of a list of places

abbrev some_place : (Place → Bool) → List Place → Bool
some_place test [] = false
some_place test (p ∷ ps) = test p || some_place test ps

module _ (test : Place → Bool) where
  found : (ps : List Place) → some_place test ps ≡ true → (p : Place) × Has ps p × (test p ≡ true)
  found [] e = let never : ⊥ = cc in absurd never
  found (x ∷ ps) e = elim (or_cases (test x) (some_place test ps) e) [
    | inl holds ↦ (x, inl refl, holds)
    | inr rest ↦ let (p, has, holds) = found ps rest in (p, inr has, holds)
  ]

  put : (ps : List Place) (p : Place) → Has ps p → test p ≡ true → some_place test ps ≡ true
  put [] p has holds = absurd has
  put (x ∷ ps) p (inl is) holds = or_left (test x) (some_place test ps) (subst (λ y. test y ≡ true) (sym is) holds)
  put (x ∷ ps) p (inr has) holds = or_right (test x) (some_place test ps) (put ps p has holds)

-- ---- two runs

module _ (shape : Shape) (cap : ℕ) (base base' : Base) (run run' : List Act) (states states' : List State)
    (r : AreRunsAlikeBy shape cap base base run run states states) (t : AreRunsAlikeBy shape cap base' base' run' run' states' states') where
  abbrev nodes : ℕ
  nodes = shape.nodes

  abbrev bound : ℕ
  bound = weight_of base.floor

  abbrev bound' : ℕ
  bound' = weight_of base'.floor

  abbrev known : Place → Option Knowledge
  known p = known_at shape base run states p

  abbrev known' : Place → Option Knowledge
  known' p = known_at shape base' run' states' p

  -- the places stand alike,
  pub record ArePlacesAlike : Type 0 where
    pub heights : (p : Place) → IsPlace nodes p → heights_of cap nodes base.floor (known p) ≡ heights_of cap nodes base'.floor (known' p)
    pub under : (p o : Place) → IsPlace nodes p → IsPlace nodes o → (q : ℕ) → q < nodes → is_under q (known p) (known o) ≡ is_under q (known' p) (known' o)
    pub changes : (p o : Place) → IsPlace nodes p → IsPlace nodes o → (q word : ℕ) → q < nodes
        → change_kept cap bound (change_beyond q word (known p) (known o)) ≡ change_kept cap bound' (change_beyond q word (known' p) (known' o))
    -- and those where something is known are among these
    pub places : List Place
    pub all : (p : Place) (k : Knowledge) → IsPlace nodes p → known p ≡ Some k → Has places p
    pub valid : (p : Place) → Has places p → IsPlace nodes p

  -- and the nodes have the same
  pub record AreNodesAlike : Type 0 where
    pub words : (q word : ℕ) → q < nodes → word_kept cap bound ((here shape run states q).words word) ≡ word_kept cap bound' ((here shape run' states' q).words word)
    pub before : (q word : ℕ) → q < nodes → (here shape run' states' q).before word ≡ (here shape run states q).before word

  module _ (places : ArePlacesAlike) (have : AreNodesAlike) (synchronized : AreSynchronizedAlike nodes base.first base'.first run run') where
    -- numbers that one place knows in both runs
    abbrev stands : (q a a' : ℕ) → Option Knowledge → Option Knowledge → Bool
    stands q a a' None o' = false
    stands q a a' (Some k) None = false
    stands q a a' (Some k) (Some k') = (entry k.time q == a) && (entry k'.time q == a')

    abbrev stands_at : (q a a' : ℕ) → Place → Bool
    stands_at q a a' p = stands q a a' (known p) (known' p)

    abbrev told : Told
    told q a a' = nat_lt q nodes && some_place (stands_at q a a') places.places

    record IsAt (q a a' : ℕ) : Type 0 where
      among : q < nodes
      place : Place
      is_place : IsPlace nodes place
      knows : Knowledge
      knows' : Knowledge
      is : known place ≡ Some knows
      is' : known' place ≡ Some knows'
      one : a ≡ entry knows.time q
      other : a' ≡ entry knows'.time q

    from_stands : (q a a' : ℕ) → q < nodes → (p : Place) → IsPlace nodes p → (o o' : Option Knowledge) → known p ≡ o → known' p ≡ o' → stands q a a' o o' ≡ true
        → IsAt q a a'
    from_stands q a a' lt p is_place None o' is is' e = let never : ⊥ = cc in absurd never
    from_stands q a a' lt p is_place (Some k) None is is' e = let never : ⊥ = cc in absurd never
    from_stands q a a' lt p is_place (Some k) (Some k') is is' e =
        let both = and_parts (entry k.time q == a) (entry k'.time q == a') e in
        record {
          among = lt;
          place = p;
          is_place = is_place;
          knows = k;
          knows' = k';
          is = is;
          is' = is';
          one = sym (eqb-true (entry k.time q) a both.0);
          other = sym (eqb-true (entry k'.time q) a' both.1);
        }

    from_told : (q a a' : ℕ) → levels_told told q a a' → IsAt q a a'
    from_told q a a' e =
        let both = and_parts (nat_lt q nodes) (some_place (stands_at q a a') places.places) e in
        let (p, has, holds) = found (stands_at q a a') places.places both.1 in
        from_stands q a a' (ltb-true q nodes both.0) p (places.valid p has) (known p) (known' p) refl refl holds

    to_told : (p : Place) → IsPlace nodes p → (k k' : Knowledge) → known p ≡ Some k → known' p ≡ Some k' → (q : ℕ) → q < nodes
        → levels_told told q (entry k.time q) (entry k'.time q)
    to_told p is_place k k' is is' q lt =
        and_from (nat_lt q nodes) (some_place (stands_at q (entry k.time q) (entry k'.time q)) places.places) (lt-ltb q nodes lt)
        (put (stands_at q (entry k.time q) (entry k'.time q)) places.places p (places.all p k is_place is)
        (ap₂ (stands q (entry k.time q) (entry k'.time q)) is is'
        ∙ and_from (entry k.time q == entry k.time q) (entry k'.time q == entry k'.time q) (eq-eqb (entry k.time q) (entry k.time q) refl)
        (eq-eqb (entry k'.time q) (entry k'.time q) refl)))

    mine : (p : Place) → IsPlace nodes p → (k : Knowledge) → known p ≡ Some k → KnowsAlike shape cap base run states r k k
    mine p is_place k is = at_place shape cap base run states r p is_place k is

    yours : (p : Place) → IsPlace nodes p → (k : Knowledge) → known' p ≡ Some k → KnowsAlike shape cap base' run' states' t k k
    yours p is_place k is = at_place shape cap base' run' states' t p is_place k is

    -- ---- one level

    module _ (q a a' : ℕ) (i : IsAt q a a') where
      floors : (entry base.floor q ≤ a) × (entry base'.floor q ≤ a')
      floors =
          let f = above_floor shape cap base run states r i.knows (mine i.place i.is_place i.knows i.is) q i.among in
          let f' = above_floor shape cap base' run' states' t i.knows' (yours i.place i.is_place i.knows' i.is') q i.among in
          let e = i.one in
          let e' = i.other in
          (omega (arith, f, e), omega (arith, f', e'))

      mosts : (a ≤ entry (here shape run states q).knows.time q) × (a' ≤ entry (here shape run' states' q).knows.time q)
      mosts =
          let m = most_there shape cap base run states r i.knows (mine i.place i.is_place i.knows i.is) q i.among in
          let m' = most_there shape cap base' run' states' t i.knows' (yours i.place i.is_place i.knows' i.is') q i.among in
          let e = i.one in
          let e' = i.other in
          (omega (arith, m, e), omega (arith, m', e'))

      both_rise : AreRising (r.made q) a × AreRising (t.made q) a'
      both_rise = (
        subst (λ k. AreRising (r.made q) k) (sym i.one) (rising_there shape cap base run states r i.knows (mine i.place i.is_place i.knows i.is) q i.among),
        subst (λ k. AreRising (t.made q) k) (sym i.other) (rising_there shape cap base' run' states' t i.knows' (yours i.place i.is_place i.knows' i.is') q i.among),
      )

      counts : IsCapped cap (a - entry base.floor q) (a' - entry base'.floor q)
      counts =
          let high = ap (heights_of cap nodes base.floor) (sym i.is) ∙ places.heights i.place i.is_place ∙ ap (heights_of cap nodes base'.floor) i.is' in
          let rows = same_Some (each_from 0 nodes (λ n. capped_above cap (entry base.floor n) (entry i.knows.time n)))
          (each_from 0 nodes (λ n. capped_above cap (entry base'.floor n) (entry i.knows'.time n))) high in
          let same = each_same (λ n. capped_above cap (entry base.floor n) (entry i.knows.time n)) (λ n. capped_above cap (entry base'.floor n) (entry i.knows'.time n))
          0 nodes rows q (omega arith) (let l = i.among in omega (arith, l)) in
          subst (λ k. IsCapped cap (k - entry base.floor q) (a' - entry base'.floor q)) (sym i.one)
          (subst (λ k. IsCapped cap (entry i.knows.time q - entry base.floor q) (k - entry base'.floor q)) (sym i.other)
          (capped_is cap (entry base.floor q) (entry base'.floor q) (entry i.knows.time q) (entry i.knows'.time q) same))

    -- ---- two levels

    module _ (q a a' b b' : ℕ) (i : IsAt q a a') (j : IsAt q b b') where
      same_under : nat_le (entry i.knows.time q) (entry j.knows.time q) ≡ nat_le (entry i.knows'.time q) (entry j.knows'.time q)
      same_under =
          sym (ap₂ (is_under q) i.is j.is)
          ∙ places.under i.place j.place i.is_place j.is_place q i.among
          ∙ ap₂ (is_under q) i.is' j.is'

      in_order : a ≤ b → a' ≤ b'
      in_order le =
          let e = i.one in
          let d = j.one in
          let e' = i.other in
          let d' = j.other in
          let l = leb-true (entry i.knows'.time q) (entry j.knows'.time q)
          (sym same_under ∙ le-leb (entry i.knows.time q) (entry j.knows.time q) (omega (arith, le, e, d))) in
          omega (arith, l, e', d')

      in_order' : a' ≤ b' → a ≤ b
      in_order' le =
          let e = i.one in
          let d = j.one in
          let e' = i.other in
          let d' = j.other in
          let l = leb-true (entry i.knows.time q) (entry j.knows.time q)
          (same_under ∙ le-leb (entry i.knows'.time q) (entry j.knows'.time q) (omega (arith, le, e', d'))) in
          omega (arith, l, e, d)

      changed : (word : ℕ) → a ≤ b → AreChangesAlike cap base.floor base'.floor (last_change (r.made q) word a b) (last_change (t.made q) word a' b')
      changed word le =
          let e = i.one in
          let d = j.one in
          let e' = i.other in
          let d' = j.other in
          let le' = in_order le in
          let x = entry i.knows.time q in
          let y = entry j.knows.time q in
          let x' = entry i.knows'.time q in
          let y' = entry j.knows'.time q in
          let first = mine i.place i.is_place i.knows i.is in
          let first' = yours i.place i.is_place i.knows' i.is' in
          let second = mine j.place j.is_place j.knows j.is in
          let second' = yours j.place j.is_place j.knows' j.is' in
          let kept = sym (ap₂ (λ k m. change_kept cap bound (change_beyond q word k m)) i.is j.is)
          ∙ places.changes i.place j.place i.is_place j.is_place q word i.among
          ∙ ap₂ (λ k m. change_kept cap bound' (change_beyond q word k m)) i.is' j.is' in
          let same : change_kept cap bound (last_change (r.made q) word x y) ≡ change_kept cap bound' (last_change (t.made q) word x' y') =
          ap (change_kept cap bound) (sym (made_there shape cap base run states r j.knows second q i.among word x))
          ∙ kept
          ∙ ap (change_kept cap bound') (made_there shape cap base' run' states' t j.knows' second' q i.among word x') in
          subst (λ k. AreChangesAlike cap base.floor base'.floor (last_change (r.made q) word k b) (last_change (t.made q) word a' b')) (sym i.one)
          (subst (λ k. AreChangesAlike cap base.floor base'.floor (last_change (r.made q) word x k) (last_change (t.made q) word a' b')) (sym j.one)
          (subst (λ k. AreChangesAlike cap base.floor base'.floor (last_change (r.made q) word x y) (last_change (t.made q) word k b')) (sym i.other)
          (subst (λ k. AreChangesAlike cap base.floor base'.floor (last_change (r.made q) word x y) (last_change (t.made q) word x' k)) (sym j.other)
          (changes_same cap base.floor base'.floor (last_change (r.made q) word x y) (last_change (t.made q) word x' y')
          (above_there shape cap base run states r j.knows second q i.among i.knows first word (omega (arith, le, e, d)))
          (above_there shape cap base' run' states' t j.knows' second' q i.among i.knows' first' word (omega (arith, le', e', d'))) same))))

    levels_are : AreLevels cap base.floor base'.floor r.made t.made (levels_told told)
    levels_are = record {
      above = λ q a a' x. floors q a a' (from_told q a a' x);
      counted = λ q a a' x. counts q a a' (from_told q a a' x);
      order = λ q a a' b b' x y le. in_order q a a' b b' (from_told q a a' x) (from_told q b b' y) le;
      order' = λ q a a' b b' x y le. in_order' q a a' b b' (from_told q a a' x) (from_told q b b' y) le;
      changes = λ q word a a' b b' x y le. changed q a a' b b' (from_told q a a' x) (from_told q b b' y) word le;
      rising = λ q a a' x. both_rise q a a' (from_told q a a' x);
    }

    -- ---- what is known, and handed on

    abbrev Alike : Knowledge → Knowledge → Type 0
    Alike k k' = IsKnowledgeAlike nodes r.made t.made (levels_told told) k k'

    knows_alike : (p : Place) → IsPlace nodes p → (k k' : Knowledge) → known p ≡ Some k → known' p ≡ Some k' → Alike k k'
    knows_alike p is_place k k' is is' =
        let x = mine p is_place k is in
        let y = yours p is_place k' is' in
        record {
          wide = x.wide;
          wide' = y.wide;
          at = to_told p is_place k k' is is';
          made_here = x.made_here;
          made_here' = y.made_here;
        }

    some_high : (o o' : Option Knowledge) (k : Knowledge) → heights_of cap nodes base.floor o ≡ heights_of cap nodes base'.floor o' → o ≡ Some k → o' ≡ None → ⊥
    some_high o o' k e is none =
        none-some (each_from 0 nodes (λ q. capped_above cap (entry base.floor q) (entry k.time q)))
        (sym (ap (heights_of cap nodes base'.floor) none) ∙ sym e ∙ ap (heights_of cap nodes base.floor) is)

    some_high' : (o o' : Option Knowledge) (k : Knowledge) → heights_of cap nodes base.floor o ≡ heights_of cap nodes base'.floor o' → o ≡ None → o' ≡ Some k → ⊥
    some_high' o o' k e none is =
        none-some (each_from 0 nodes (λ q. capped_above cap (entry base'.floor q) (entry k.time q)))
        (sym (ap (heights_of cap nodes base.floor) none) ∙ e ∙ ap (heights_of cap nodes base'.floor) is)

    locks_alike : (l : ℕ)
        → IsHandedAlike nodes r.made t.made (levels_told told) base.floor base'.floor (released_state run states l (length run)) (released_state run' states' l (length run'))
    locks_alike l = elim (handed_or shape cap base run states r (released_state run states l (length run)) (r.locks l)) [
      | inl (low, none) ↦ elim (handed_or shape cap base' run' states' t (released_state run' states' l (length run')) (t.locks l)) [
        | inl (low', none') ↦ known_to_all low low'
        | inr h' ↦ absurd (some_high' (known (at_lock l)) (known' (at_lock l)) h'.state.knows (places.heights (at_lock l) tt) none h'.there)
      ]
      | inr h ↦ elim (handed_or shape cap base' run' states' t (released_state run' states' l (length run')) (t.locks l)) [
        | inl (low', none') ↦ absurd (some_high (known (at_lock l)) (known' (at_lock l)) h.state.knows (places.heights (at_lock l) tt) h.there none')
        | inr h' ↦
            subst (λ (o : Option State). IsHandedAlike nodes r.made t.made (levels_told told) base.floor base'.floor o (released_state run' states' l (length run'))) (sym h.is)
            (subst (λ (o : Option State). IsHandedAlike nodes r.made t.made (levels_told told) base.floor base'.floor (Some h.state) o) (sym h'.is)
            (handed (knows_alike (at_lock l) tt h.state.knows h'.state.knows h.there h'.there)))
      ]
    ]

    arrive_alike : (n q : ℕ) (o o' : Option State) → known (at_arrive n q) ≡ option_map (λ (s : State). s.knows) o
        → known' (at_arrive n q) ≡ option_map (λ (s : State). s.knows) o' → ArriveAlike nodes r.made t.made (levels_told told) o o'
    arrive_alike n q None None is is' = tt
    arrive_alike n q None (Some s') is is' = absurd (some_high' (known (at_arrive n q)) (known' (at_arrive n q)) s'.knows (places.heights (at_arrive n q) tt) is is')
    arrive_alike n q (Some s) None is is' = absurd (some_high (known (at_arrive n q)) (known' (at_arrive n q)) s.knows (places.heights (at_arrive n q) tt) is is')
    arrive_alike n q (Some s) (Some s') is is' = knows_alike (at_arrive n q) tt s.knows s'.knows is is'

    state_alike : (q : ℕ) → q < nodes
        → IsStateAlike nodes cap base.floor base'.floor r.made t.made (levels_told told) (here shape run states q) (here shape run' states' q)
    state_alike q lt = record {
      words = λ word. words_same cap base.floor base'.floor ((here shape run states q).words word) ((here shape run' states' q).words word) (have.words q word lt);
      before = λ word. have.before q word lt;
      knows = knows_alike (at_node q) lt (here shape run states q).knows (here shape run' states' q).knows refl refl;
      marks = (r.nodes_are q lt).marks;
      marks' = (t.nodes_are q lt).marks;
    }

    pub runs_alike : AreRunsAlike shape cap base base' run run' states states'
    runs_alike = record {
      some = r.some;
      wide = r.wide;
      wide' = t.wide;
      keeps = r.keeps;
      keeps' = t.keeps;
      synchronized = synchronized;
      made = r.made;
      made' = t.made;
      told = told;
      levels = levels_are;
      most = λ q b b' lt x. mosts q b b' (from_told q b b' x);
      light = r.light;
      light' = t.light;
      nodes_are = state_alike;
      locks = locks_alike;
      arrived = λ n q.
          arrive_alike n q (arrived_state run states (n + base.first) (length run) q) (arrived_state run' states' (n + base'.first) (length run') q) refl refl;
    }
