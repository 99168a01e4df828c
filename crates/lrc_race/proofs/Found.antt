-- The races found are those of the traces.
use Rattle.std.proofs.Common.{◌≡◌, ℕ, ◌+◌, ◌<◌, ◌≤◌, ◌++◌, ◌∷◌, [], ◌∙◌, ◌≢◌, inl, inr, Bool, true, false, Some}
use Rattle.std.proofs.Common.{refl, List, length, get_or, take, ap, sym, subst, ⊎_elim, arith}
use Rattle.std.specs.Prelude.{◌↔◌, ◌⊎◌, ◌||◌, Contains, IsTrue, slice_get}
use Rattle.std.proofs.lemmas.Bool.{cases_lt, cases_order, lt-ltb, le-ltb, or_cases, or_right}
use Rattle.std.proofs.lemmas.Option.{slice_get_within}
use Rattle.std.proofs.lemmas.List.{length_push, take_more, take_all}
use Rattle.std.proofs.lemmas.List.Elements.{Contains-get_or, Contains-push_cases}
use Rattle.lrc_trace.proofs.Positions.{slice_get-front, slice_get-seam}
use Rattle.lrc_trace.specs.declared.race.Race.{Race}
use Rattle.lrc_trace.specs.declared.trace.Segment.{Segment}
use Rattle.lrc_trace.specs.Trace.{TraceRecord, has_access}
use Rattle.lrc_race.specs.declared.places.TouchedPlace.{TouchedPlace}
use Rattle.lrc_race.specs.declared.detector.Lane.{Lane}
use Rattle.lrc_judge.specs.Adding.{Adds}
use Rattle.lrc_race.specs.Places.{IsPlace}
use Rattle.lrc_race.specs.Races.{AreConflicting, AreUnordered, IsRaceOf, race_named}
use Rattle.lrc_race.specs.Pairs.{AreWithin, IsLane, AreLanes, IsRaceOfPlaces, IsRaceOfLists, IsRaceOfLanes, IsRaceOfTraces}
use Rattle.lrc_race.specs.Comparable.{AreListed}
use Rattle.lrc_judge.proofs.Additions.{adds-same, adds-iff, adds-both, IsBelow}
use Rattle.lrc_race.proofs.Same.{some_same}
use Rattle.lrc_race.proofs.Stretches.{at_contains, contains_at}

-- the race is of the i-th trace with some trace
abbrev pub IsRaceOfTrace : List TraceRecord → ℕ → Race → Type 0
IsRaceOfTrace traces i race = (j : ℕ) × (j < length traces) × IsRaceOfTraces traces i j race

-- ---- what holds of each of the first ones, and of one more

module _ {X : Type 0} (P : X → Type 0) (xs : List X) where
  pub each-more : (i : ℕ) (x : X) → i < length xs → x ≡ get_or xs i x → ((y : X) → Contains (take i xs) y → P y) → P x
      → (y : X) → Contains (take (i + 1) xs) y → P y
  each-more i x within is each so y there =
      let more : take (i + 1) xs ≡ take i xs ++ x ∷ [] = take_more xs i x within ∙ ap (λ z. take i xs ++ z ∷ []) (sym is) in
      ⊎_elim (λ old. each y old) (λ same. subst P same so)
      (Contains-push_cases (take i xs) x y (subst (λ zs. Contains zs y) more there))

  pub each-all : (n : ℕ) → length xs ≤ n → ((y : X) → Contains (take n xs) y → P y) → (y : X) → Contains xs y → P y
  each-all n long each y there = each y (subst (λ zs. Contains zs y) (sym (take_all n xs long)) there)

-- ---- lanes

-- a lane for one trace more
pub lanes-more : (traces : List TraceRecord) (lanes : List Lane) (i : ℕ) (trace : TraceRecord) (lane : Lane) → i < length traces
    → trace ≡ get_or traces i trace → AreLanes (take i traces) lanes → IsLane trace lane
    → AreLanes (take (i + 1) traces) (lanes ++ lane ∷ [])
lanes-more traces lanes i trace lane within is are here =
    let front = take i traces in
    let more : take (i + 1) traces ≡ front ++ trace ∷ [] = take_more traces i trace within ∙ ap (λ z. front ++ z ∷ []) (sym is) in
    subst (λ ts. AreLanes ts (lanes ++ lane ∷ [])) (sym more) (record {
      long = omega (arith, are.long, length_push front trace, length_push lanes lane);
      each = λ k t l t_is l_is.
          ⊎_elim
          (λ (low : k < length lanes).
          are.each k t l (sym (slice_get-front front (trace ∷ []) k (omega (arith, are.long))) ∙ t_is)
          (sym (slice_get-front lanes (lane ∷ []) k low) ∙ l_is))
          (λ (high : length lanes ≤ k).
          let last : k ≡ length lanes = omega (arith, slice_get_within (lanes ++ lane ∷ []) k l l_is, length_push lanes lane) in
          let t_same : t ≡ trace =
          some_same t trace
          (sym t_is ∙ ap (slice_get (front ++ trace ∷ [])) (last ∙ are.long) ∙ slice_get-seam front trace []) in
          let l_same : l ≡ lane =
          some_same l lane (sym l_is ∙ ap (slice_get (lanes ++ lane ∷ [])) last ∙ slice_get-seam lanes lane []) in
          rw (t_same, l_same) here)
          (cases_lt k (length lanes));
    })

-- the places of a trace are of its segments
pub places-within : (trace : TraceRecord) (is_write : Bool) (places : List TouchedPlace)
    → ((place : TouchedPlace) → Contains places place → IsPlace trace is_write place) → AreWithin trace places
places-within trace is_write places are k d within =
    let place = get_or places k d in
    let (s, is, touched) = are place (Contains-get_or places k d within) in
    slice_get_within trace.segments place.segment s is

pub writes-listed : (trace : TraceRecord) (lane : Lane) → IsLane trace lane → AreListed trace lane.writes.items
writes-listed trace lane of = record {
  within = places-within trace true lane.writes.items (λ p there. (of.writes.exact p).0 there);
  in_order = of.writes.sorted;
}

pub reads-listed : (trace : TraceRecord) (lane : Lane) → IsLane trace lane → AreListed trace lane.reads.items
reads-listed trace lane of = record {
  within = places-within trace false lane.reads.items of.reads_sound;
  in_order = of.reads_sorted;
}

-- ---- two traces

-- the races of lists, one after the other, are those of lanes
pub lanes-add : (a : TraceRecord) (first : Lane) (b : TraceRecord) (second : Lane) (rs qs ps os : List Race)
    → Adds rs qs (IsRaceOfLists a first.writes.items b second.writes.items)
    → Adds qs ps (IsRaceOfLists a first.reads.items b second.writes.items)
    → Adds ps os (IsRaceOfLists a first.writes.items b second.reads.items)
    → Adds rs os (IsRaceOfLanes a first b second)
lanes-add a first b second rs qs ps os both left right =
    let one = IsRaceOfLists a first.writes.items b second.writes.items in
    let two = IsRaceOfLists a first.reads.items b second.writes.items in
    let three = IsRaceOfLists a first.writes.items b second.reads.items in
    adds-both rs qs os one (λ race. two race ⊎ three race) (IsRaceOfLanes a first b second) (λ race h. h) (λ race h. h) both
    (adds-both qs ps os two three (λ race. two race ⊎ three race) (λ race h. h) (λ race h. h) left right)

-- what is written, or read, is in the lane
module _ (trace : TraceRecord) (lane : Lane) (of : IsLane trace lane) where
  in_writes : (is_write : Bool) (place : TouchedPlace) → is_write ≡ true → IsPlace trace is_write place → Contains lane.writes.items place
  in_writes is_write place is touched = (of.writes.exact place).1 (subst (λ w. IsPlace trace w place) is touched)

  in_lane : (is_write : Bool) (place : TouchedPlace) → IsPlace trace is_write place
      → Contains lane.reads.items place ⊎ Contains lane.writes.items place
  in_lane true place touched = inr ((of.writes.exact place).1 touched)
  in_lane false place touched = of.reads_cover place touched

-- the races of the lanes of two traces are those of the traces
module _ (traces : List TraceRecord) (i j : ℕ) (a b : TraceRecord) (first second : Lane) (later : i < j) (a_is : slice_get traces i ≡ Some a)
    (b_is : slice_get traces j ≡ Some b) (apart : a.node ≢ b.node) (of_a : IsLane a first) (of_b : IsLane b second) where
  race_of_places : (race : Race) (x y : TouchedPlace) (first_writes second_writes : Bool) → IsTrue (first_writes || second_writes)
      → IsPlace a first_writes x → IsPlace b second_writes y → IsRaceOfPlaces a x b y race → IsRaceOfTraces traces i j race
  race_of_places race x y first_writes second_writes one (s, s_is, s_touches) (t, t_is, t_touches) r =
      let s_same : s ≡ r.s = some_same s r.s (sym s_is ∙ r.first) in
      let t_same : t ≡ r.t = some_same t r.t (sym t_is ∙ r.second) in
      record {
        later = later;
        a = a;
        b = b;
        s = r.s;
        t = r.t;
        a_there = a_is;
        b_there = b_is;
        s_there = at_contains a.segments x.segment r.s r.first;
        t_there = at_contains b.segments y.segment r.t r.second;
        apart = apart;
        word = x.word;
        conflicting = record {
          first_writes = first_writes;
          second_writes = second_writes;
          one = one;
          first = subst (λ (u : Segment). IsTrue (has_access a.size u first_writes x.word)) s_same s_touches;
          second =
              subst (λ (w : ℕ). IsTrue (has_access b.size r.t second_writes w)) (sym r.word)
              (subst (λ (u : Segment). IsTrue (has_access b.size u second_writes y.word)) t_same t_touches);
        };
        unordered = r.unordered;
        named = r.named;
      }

  lanes_of_race : (race : Race) (x y : TouchedPlace) (first_writes second_writes : Bool) → IsTrue (first_writes || second_writes)
      → IsPlace a first_writes x → IsPlace b second_writes y → IsRaceOfPlaces a x b y race → IsRaceOfLanes a first b second race
  lanes_of_race race x y first_writes second_writes one x_is y_is r =
      ⊎_elim
      (λ (wrote : first_writes ≡ true).
      let x_there = in_writes a first of_a first_writes x wrote x_is in
      ⊎_elim (λ y_there. inr (inr (x, x_there, (y, y_there, r)))) (λ y_there. inl (x, x_there, (y, y_there, r)))
      (in_lane b second of_b second_writes y y_is))
      (λ (wrote : second_writes ≡ true).
      let y_there = in_writes b second of_b second_writes y wrote y_is in
      ⊎_elim (λ x_there. inr (inl (x, x_there, (y, y_there, r)))) (λ x_there. inl (x, x_there, (y, y_there, r)))
      (in_lane a first of_a first_writes x x_is))
      (or_cases first_writes second_writes one)

  pub pair-found : (rs qs : List Race) → Adds rs qs (IsRaceOfLanes a first b second) → Adds rs qs (IsRaceOfTraces traces i j)
  pair-found rs qs adds =
      adds-iff rs qs (IsRaceOfLanes a first b second) (IsRaceOfTraces traces i j)
      (λ race h.
      ⊎_elim
      (λ (x, x_there, (y, y_there, r)).
      race_of_places race x y true true refl ((of_a.writes.exact x).0 x_there) ((of_b.writes.exact y).0 y_there) r)
      (λ either.
      ⊎_elim
      (λ (x, x_there, (y, y_there, r)).
      race_of_places race x y false true refl (of_a.reads_sound x x_there) ((of_b.writes.exact y).0 y_there) r)
      (λ (x, x_there, (y, y_there, r)).
      race_of_places race x y true false refl ((of_a.writes.exact x).0 x_there) (of_b.reads_sound y y_there) r)
      either)
      h)
      (λ race r.
      let a_same : r.a ≡ a = some_same r.a a (sym r.a_there ∙ a_is) in
      let b_same : r.b ≡ b = some_same r.b b (sym r.b_there ∙ b_is) in
      let (m, m_is) = contains_at a.segments r.s (subst (λ (u : TraceRecord). Contains u.segments r.s) a_same r.s_there) in
      let (n, n_is) = contains_at b.segments r.t (subst (λ (u : TraceRecord). Contains u.segments r.t) b_same r.t_there) in
      let x : TouchedPlace = record { word = r.word; segment = m } in
      let y : TouchedPlace = record { word = r.word; segment = n } in
      let c = r.conflicting in
      let s_touches : IsTrue (has_access a.size r.s c.first_writes r.word) =
      subst (λ (u : TraceRecord). IsTrue (has_access u.size r.s c.first_writes r.word)) a_same c.first in
      let t_touches : IsTrue (has_access b.size r.t c.second_writes r.word) =
      subst (λ (u : TraceRecord). IsTrue (has_access u.size r.t c.second_writes r.word)) b_same c.second in
      lanes_of_race race x y c.first_writes c.second_writes c.one (r.s, m_is, s_touches) (r.t, n_is, t_touches)
      (record {
        s = r.s;
        t = r.t;
        first = m_is;
        second = n_is;
        word = refl;
        unordered = subst (λ (u : TraceRecord). AreUnordered a r.s u r.t) b_same (subst (λ (u : TraceRecord). AreUnordered u r.s r.b r.t) a_same r.unordered);
        named = r.named ∙ ap (λ u. race_named r.word u r.s r.b r.t) a_same ∙ ap (λ u. race_named r.word a r.s u r.t) b_same;
      }))
      adds

-- a trace does not race with one of its node
pub pair-none : (traces : List TraceRecord) (i j : ℕ) (a b : TraceRecord) (rs : List Race)
    → slice_get traces i ≡ Some a → slice_get traces j ≡ Some b → a.node ≡ b.node → Adds rs rs (IsRaceOfTraces traces i j)
pair-none traces i j a b rs a_is b_is same =
    adds-same rs (IsRaceOfTraces traces i j)
    (λ race r.
    let a_same : r.a ≡ a = some_same r.a a (sym r.a_there ∙ a_is) in
    let b_same : r.b ≡ b = some_same r.b b (sym r.b_there ∙ b_is) in
    r.apart (ap (λ (u : TraceRecord). u.node) a_same ∙ same ∙ sym (ap (λ (u : TraceRecord). u.node) b_same)))

-- ---- all traces

named_low : (word : ℕ) (a : TraceRecord) (s : Segment) (b : TraceRecord) (t : Segment) → a.node < b.node
    → race_named word a s b t ≡ record { word = word; node_a = a.node; node_b = b.node; interval_a = s.interval; interval_b = t.interval }
named_low word a s b t low = rw (lt-ltb a.node b.node low) refl

named_high : (word : ℕ) (a : TraceRecord) (s : Segment) (b : TraceRecord) (t : Segment) → b.node ≤ a.node
    → race_named word a s b t ≡ record { word = word; node_a = b.node; node_b = a.node; interval_a = t.interval; interval_b = s.interval }
named_high word a s b t high = rw (le-ltb a.node b.node high) refl

-- a race of two of the traces, the lower node first
race_of : (traces : List TraceRecord) (word : ℕ) (a : TraceRecord) (s : Segment) (b : TraceRecord) (t : Segment) → Contains traces a → Contains traces b
    → Contains a.segments s → Contains b.segments t → a.node < b.node → AreConflicting a s b t word → AreUnordered a s b t
    → IsRaceOf traces (record { word = word; node_a = a.node; node_b = b.node; interval_a = s.interval; interval_b = t.interval })
race_of traces word a s b t a_there b_there s_there t_there ascending conflicting unordered = record {
  a = a;
  b = b;
  s = s;
  t = t;
  a_there = a_there;
  b_there = b_there;
  s_there = s_there;
  t_there = t_there;
  node_a = refl;
  node_b = refl;
  interval_a = refl;
  interval_b = refl;
  ascending = ascending;
  conflicting = conflicting;
  unordered = unordered;
}

-- two segments that conflict conflict the other way round
turned : (a : TraceRecord) (s : Segment) (b : TraceRecord) (t : Segment) (word : ℕ) → AreConflicting a s b t word → AreConflicting b t a s word
turned a s b t word c = record {
  first_writes = c.second_writes;
  second_writes = c.first_writes;
  one = either c.first_writes c.second_writes c.one;
  first = c.second;
  second = c.first;
}
  where
    either : (x y : Bool) → IsTrue (x || y) → IsTrue (y || x)
    either x y h = ⊎_elim (λ left. or_right y x left) (λ right. rw right refl) (or_cases x y h)

-- the race of two traces is one of the traces
race_from : (traces : List TraceRecord) (i j : ℕ) (race : Race) → IsRaceOfTraces traces i j race → IsRaceOf traces race
race_from traces i j race r =
    let a_there = at_contains traces i r.a r.a_there in
    let b_there = at_contains traces j r.b r.b_there in
    ⊎_elim
    (λ same. absurd (r.apart same))
    (λ either.
    ⊎_elim
    (λ (low : r.a.node < r.b.node).
    let named = r.named ∙ named_low r.word r.a r.s r.b r.t low in
    rw named (race_of traces r.word r.a r.s r.b r.t a_there b_there r.s_there r.t_there low r.conflicting r.unordered))
    (λ (high : r.b.node < r.a.node).
    let named = r.named ∙ named_high r.word r.a r.s r.b r.t (omega arith) in
    rw named (race_of traces r.word r.b r.t r.a r.s b_there a_there r.t_there r.s_there high (turned r.a r.s r.b r.t r.word r.conflicting)
    (record { first = r.unordered.second; second = r.unordered.first })))
    either)
    (cases_order r.a.node r.b.node)

same_race : (race : Race) (node_a node_b interval_a interval_b : ℕ) → race.node_a ≡ node_a → race.node_b ≡ node_b
    → race.interval_a ≡ interval_a → race.interval_b ≡ interval_b
    → race ≡ record { word = race.word; node_a = node_a; node_b = node_b; interval_a = interval_a; interval_b = interval_b }
same_race race node_a node_b interval_a interval_b first second third fourth =
    let same : ◌≡◌ {A = Race} (record {
      word = race.word;
      node_a = race.node_a;
      node_b = race.node_b;
      interval_a =
          race.interval_a;
      interval_b = race.interval_b;
    })
    (record { word = race.word; node_a = node_a; node_b = node_b; interval_a = interval_a; interval_b = interval_b }) = cc in same

-- a race of two traces of which the second comes later
race_at : (traces : List TraceRecord) (race : Race) (i j word : ℕ) (a : TraceRecord) (s : Segment) (b : TraceRecord) (t : Segment) → i < j
    → slice_get traces i ≡ Some a → slice_get traces j ≡ Some b → Contains a.segments s → Contains b.segments t → a.node ≢ b.node
    → AreConflicting a s b t word → AreUnordered a s b t → race ≡ race_named word a s b t
    → (i : ℕ) × (i < length traces) × IsRaceOfTrace traces i race
race_at traces race i j word a s b t later a_there b_there s_there t_there apart conflicting unordered named = (
  i,
  slice_get_within traces i a a_there,
  (
    j,
    slice_get_within traces j b b_there,
    record {
      later = later;
      a = a;
      b = b;
      s = s;
      t = t;
      a_there = a_there;
      b_there = b_there;
      s_there = s_there;
      t_there = t_there;
      apart = apart;
      word = word;
      conflicting = conflicting;
      unordered = unordered;
      named = named;
    },
  ),
)

-- a race of the traces is one of two of them
race_to : (traces : List TraceRecord) (race : Race) → IsRaceOf traces race
    → (i : ℕ) × (i < length traces) × IsRaceOfTrace traces i race
race_to traces race r =
    let (i, i_is) = contains_at traces r.a r.a_there in
    let (j, j_is) = contains_at traces r.b r.b_there in
    let low : r.a.node < r.b.node = omega (arith, r.ascending, r.node_a, r.node_b) in
    let is = same_race race r.a.node r.b.node r.s.interval r.t.interval r.node_a r.node_b r.interval_a r.interval_b in
    ⊎_elim
    (λ (same : i ≡ j).
    let one : r.a ≡ r.b = some_same r.a r.b (sym i_is ∙ ap (slice_get traces) same ∙ j_is) in
    absurd (omega (arith, low, ap (λ (u : TraceRecord). u.node) one)))
    (λ either.
    ⊎_elim
    (λ (before : i < j).
    race_at traces race i j race.word r.a r.s r.b r.t before i_is j_is r.s_there r.t_there (λ same. omega (arith, same, low)) r.conflicting
    r.unordered (is ∙ sym (named_low race.word r.a r.s r.b r.t low)))
    (λ (after : j < i).
    race_at traces race j i race.word r.b r.t r.a r.s after j_is i_is r.t_there r.s_there (λ same. omega (arith, same, low))
    (turned r.a r.s r.b r.t race.word r.conflicting) (record { first = r.unordered.second; second = r.unordered.first })
    (is ∙ sym (named_high race.word r.b r.t r.a r.s (omega arith))))
    either)
    (cases_order i j)

-- no trace is later than itself or than an earlier one
pub below-start : (traces : List TraceRecord) (i : ℕ) (rs : List Race) → Adds rs rs (IsBelow (IsRaceOfTraces traces i) (i + 1))
below-start traces i rs =
    adds-same rs (IsBelow (IsRaceOfTraces traces i) (i + 1)) (λ race (j, below, r). absurd (omega (arith, r.later)))

-- as many as there are traces are all
pub below-all : (traces : List TraceRecord) (i n : ℕ) (rs qs : List Race) → length traces ≤ n → n ≤ length traces
    → Adds rs qs (IsBelow (IsRaceOfTraces traces i) n) → Adds rs qs (IsRaceOfTrace traces i)
below-all traces i n rs qs long short adds =
    adds-iff rs qs (IsBelow (IsRaceOfTraces traces i) n) (IsRaceOfTrace traces i)
    (λ race (j, below, r). (j, omega arith, r)) (λ race (j, below, r). (j, omega arith, r)) adds

-- what was found is what there is
pub found-all : (traces : List TraceRecord) (n : ℕ) (found : List Race) → length traces ≤ n
    → Adds [] found (IsBelow (IsRaceOfTrace traces) n) → (race : Race) → Contains found race ↔ IsRaceOf traces race
found-all traces n found long adds race = (
  λ there. ⊎_elim
      (λ (k, within, is). absurd (omega arith))
      (λ (i, below, (j, within, r)). race_from traces i j race r)
      ((adds.exact race).0 there),
  λ r. let (i, within, of) = race_to traces race r in (adds.exact race).1 (inr (i, omega arith, of)),
)
