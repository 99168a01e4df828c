-- Where the steps of an act stand in a trace in the form of RAPID: side by side, from where those of the acts before it end.
use Rattle.std.proofs.Common.{◌≡◌, ◌∙◌, ◌<◌, ◌≤◌, ◌+◌, ◌*◌, ◌-◌, ◌⊎◌, ℕ, zero, suc, inl, inr, refl, sym, ap, subst, arith}
use Rattle.std.proofs.Common.{List, [], ◌∷◌, ◌++◌, length}
use Rattle.std.specs.Prelude.{Some, slice_get}
use Rattle.std.specs.List.{flat_map, range_with_len}
use Rattle.std.proofs.lemmas.Bool.{cases_lt}
use Rattle.std.proofs.lemmas.Option.{same_Some, slice_get_within}
use Rattle.lrc_trace.specs.declared.act.Act.{Act}
use Rattle.lrc_trace.specs.declared.act.Deed.{Deed}
use Rattle.lrc_trace.specs.declared.act.Deed.TheVariants.{Quiet, Print, Read, Write, Acquire, Release, Arrive, Depart, Trap, End}
use Rattle.lrc_trace.specs.Run.{Does, arrives_before, departs_before}
use Rattle.lrc_trace.proofs.Positions.{Does-deed, Does-node, Does-one_deed, Does-one_node, slice_get-front}
use Rattle.lrc_acts_text.specs.Rapid.{RapidStep, meeting_at, passes, rapid_of, rapid_steps}
use Rattle.lrc_acts_text.proofs.Pieces.{nowhere, pieces}
use Rattle.lrc_acts_text.proofs.Steps.{Comes, acquiring, arrived, arriving, comes, departed, departing, node_is, reading, releasing, writing}

-- ---- pieces put together one after another

slice_get-back : {A : Type 0} (xs ys : List A) (k : ℕ) → slice_get (xs ++ ys) (length xs + k) ≡ slice_get ys k
slice_get-back [] ys k = ap (slice_get ys) (omega arith)
slice_get-back (x ∷ xs) ys k =
    let next : length (x ∷ xs) + k ≡ suc (length xs + k) = omega arith in
    ap (slice_get (x ∷ xs ++ ys)) next ∙ slice_get-back xs ys k

module _ {X Y : Type 0} (of : ℕ → X → List Y) where
  -- where the piece of an item begins
  abbrev start : ℕ → List X → ℕ → ℕ
  start n [] i = 0
  start n (x ∷ xs) zero = 0
  start n (x ∷ xs) (suc i) = length (of n x) + start (n + 1) xs i

  -- the item that is found there is of some piece, and so far from its start
  record Found (n : ℕ) (xs : List X) (k : ℕ) (y : Y) : Type 0 where
    item : ℕ
    value : X
    at : slice_get xs item ≡ Some value
    offset : ℕ
    is : slice_get (of (n + item) value) offset ≡ Some y
    stands : k ≡ start n xs item + offset

  found : (n : ℕ) (xs : List X) (k : ℕ) (y : Y) → slice_get (pieces of n xs) k ≡ Some y → Found n xs k y
  found n [] k y h = absurd (nowhere k y h)
  found n (x ∷ xs) k y h =
      let rest = pieces of (n + 1) xs in
      elim (cases_lt k (length (of n x))) [
        | inl low ↦
            let same : n ≡ n + 0 = omega arith in
            let here : slice_get (of n x) k ≡ Some y = sym (slice_get-front (of n x) rest k low) ∙ h in
            record {
              item = 0;
              value = x;
              at = refl;
              offset = k;
              is = subst (λ m. slice_get (of m x) k ≡ Some y) same here;
              stands = omega arith;
            }
        | inr high ↦
            let o = k - length (of n x) in
            let past : k ≡ length (of n x) + o = omega arith in
            let moved = ap (slice_get (of n x ++ rest)) past in
            let later = found (n + 1) xs o y (sym (slice_get-back (of n x) rest o) ∙ sym moved ∙ h) in
            let same : n + 1 + later.item ≡ n + suc later.item = omega arith in
            record {
              item = suc later.item;
              value = later.value;
              at = later.at;
              offset = later.offset;
              is = subst (λ m. slice_get (of m later.value) later.offset ≡ Some y) same later.is;
              stands = omega (arith, later.stands);
            }
      ]

  -- every item of a piece stands so far from its start
  stands_at : (n : ℕ) (xs : List X) (i : ℕ) (x : X) (o : ℕ) (y : Y) → slice_get xs i ≡ Some x → slice_get (of (n + i) x) o ≡ Some y
      → slice_get (pieces of n xs) (start n xs i + o) ≡ Some y
  stands_at n [] i x o y at is = absurd (nowhere i x at)
  stands_at n (z ∷ xs) zero x o y at is =
      let same : z ≡ x = same_Some z x at in
      let begin : n + 0 ≡ n = omega arith in
      let first : 0 + o ≡ o = omega arith in
      let here : slice_get (of n z) o ≡ Some y =
      subst (λ (w : X). slice_get (of n w) o ≡ Some y) (sym same) (subst (λ m. slice_get (of m x) o ≡ Some y) begin is) in
      ap (slice_get (pieces of n (z ∷ xs))) first
      ∙ slice_get-front (of n z) (pieces of (n + 1) xs) o (slice_get_within (of n z) o y here) ∙ here
  stands_at n (z ∷ xs) (suc i) x o y at is =
      let same : n + suc i ≡ n + 1 + i = omega arith in
      let later = stands_at (n + 1) xs i x o y at (subst (λ m. slice_get (of m x) o ≡ Some y) same is) in
      let apart : length (of n z) + start (n + 1) xs i + o ≡ length (of n z) + (start (n + 1) xs i + o) = omega arith in
      ap (slice_get (pieces of n (z ∷ xs))) apart ∙ slice_get-back (of n z) (pieces of (n + 1) xs) (start (n + 1) xs i + o) ∙ later

-- ---- the steps in which a node passes a lock

abbrev first_in : (xs : List RapidStep) → 0 < length xs → RapidStep
first_in [] h = absurd (omega arith)
first_in (x ∷ xs) h = x

abbrev second_in : (xs : List RapidStep) → 1 < length xs → RapidStep
second_in [] h = absurd (omega arith)
second_in (x ∷ xs) h = first_in xs (omega arith)

-- it acquires the lock, and it releases it
abbrev pub got : ℕ → ℕ → ℕ → RapidStep
got node position l = first_in (passes node position l) (omega arith)

abbrev pub gave : ℕ → ℕ → ℕ → RapidStep
gave node position l = second_in (passes node position l) (omega arith)

pub same_operation : (s t : RapidStep) → Some s ≡ Some t → s.operation ≡ t.operation
same_operation s t h = ap (λ (x : RapidStep). x.operation) (same_Some s t h)

-- ---- the steps of one act

-- a step that acquires a lock stands for an acquire of it, or its release comes next and the lock is past those of the program
abbrev GoesOn : ℕ → ℕ → ℕ → Deed → ℕ → List RapidStep → ℕ → Type 0
GoesOn locks position node deed l steps o =
    (deed ≡ Acquire l) ⊎ ((locks ≤ l) × (slice_get steps (suc o) ≡ Some (gave node position l)))

-- a step that releases a lock stands for a release of it, or its acquire came just before and the lock is past those of the program
abbrev CameFrom : ℕ → ℕ → ℕ → Deed → ℕ → List RapidStep → ℕ → Type 0
CameFrom locks position node deed l steps o =
    (deed ≡ Release l) ⊎ ((locks ≤ l) × ((b : ℕ) × (o ≡ suc b) × (slice_get steps b ≡ Some (got node position l))))

module _ (position node : ℕ) (lock : ℕ → ℕ) where
  abbrev pairs : ℕ → ℕ → List RapidStep
  pairs a n = flat_map (λ q. passes node position (lock q)) (range_with_len a n)

  pairs_next : (a n o l : ℕ) → slice_get (pairs a n) o ≡ Some (got node position l)
      → (q : ℕ) × (lock q ≡ l) × (slice_get (pairs a n) (suc o) ≡ Some (gave node position l))
  pairs_next a zero o l h = absurd (nowhere o (got node position l) h)
  pairs_next a (suc n) zero l h =
      let both = same_operation (got node position (lock a)) (got node position l) h in
      let same : lock a ≡ l = cc in
      (a, same, ap (λ m. Some (gave node position m)) same)
  pairs_next a (suc n) (suc zero) l h = let never = same_operation (gave node position (lock a)) (got node position l) h in absurd cc
  pairs_next a (suc n) (suc (suc o)) l h = pairs_next (a + 1) n o l h

  pairs_previous : (a n o l : ℕ) → slice_get (pairs a n) o ≡ Some (gave node position l)
      → (q : ℕ) × (lock q ≡ l) × ((b : ℕ) × (o ≡ suc b) × (slice_get (pairs a n) b ≡ Some (got node position l)))
  pairs_previous a zero o l h = absurd (nowhere o (gave node position l) h)
  pairs_previous a (suc n) zero l h = let never = same_operation (got node position (lock a)) (gave node position l) h in absurd cc
  pairs_previous a (suc n) (suc zero) l h =
      let both = same_operation (gave node position (lock a)) (gave node position l) h in
      let same : lock a ≡ l = cc in
      (a, same, (0, refl, ap (λ m. Some (got node position m)) same))
  pairs_previous a (suc n) (suc (suc o)) l h =
      let (q, same, (b, is, at)) = pairs_previous (a + 1) n o l h in
      (q, same, (suc (suc b), ap (λ m. suc (suc m)) is, at))

-- a lock past those of the program
past : (locks number nodes q l : ℕ) → locks + number * nodes + q ≡ l → locks ≤ l
past locks number nodes q l is = omega arith

module _ (locks nodes : ℕ) (acts : List Act) (position node : ℕ) where
  abbrev steps_of : Deed → List RapidStep
  steps_of deed = rapid_steps (meeting_at locks nodes acts node position) position node deed

  abbrev arrived_before : ℕ
  arrived_before = arrives_before acts node position

  abbrev departed_before : ℕ
  departed_before = departs_before acts node position

  position_is : {deed : Deed} {s : RapidStep} → Comes (meeting_at locks nodes acts node position) position node deed s
      → s.position ≡ position
  position_is reading = refl
  position_is writing = refl
  position_is acquiring = refl
  position_is releasing = refl
  position_is arriving = refl
  position_is arrived = refl
  position_is (departing few) = refl
  position_is (departed few) = refl

  goes_on : (deed : Deed) (o l : ℕ) → slice_get (steps_of deed) o ≡ Some (got node position l)
      → GoesOn locks position node deed l (steps_of deed) o
  goes_on (Read w value) zero l h = let never = same_operation _ _ h in absurd cc
  goes_on (Write w value) zero l h = let never = same_operation _ _ h in absurd cc
  goes_on (Acquire k) zero l h =
      let both = same_operation (got node position k) (got node position l) h in let same : k ≡ l = cc in inl (ap Acquire same)
  goes_on (Release k) zero l h = let never = same_operation _ _ h in absurd cc
  goes_on Arrive o l h =
      let (q, same, next) = pairs_next position node (λ q. locks + arrived_before * nodes + node) 0 1 o l h in
      inr (past locks arrived_before nodes node l same, next)
  goes_on Depart o l h =
      let (q, same, next) = pairs_next position node (λ q. locks + departed_before * nodes + q) 0 nodes o l h in
      inr (past locks departed_before nodes q l same, next)
  goes_on (Read w value) (suc o) l h = absurd (nowhere o (got node position l) h)
  goes_on (Write w value) (suc o) l h = absurd (nowhere o (got node position l) h)
  goes_on (Acquire k) (suc o) l h = absurd (nowhere o (got node position l) h)
  goes_on (Release k) (suc o) l h = absurd (nowhere o (got node position l) h)
  goes_on Quiet o l h = absurd (nowhere o (got node position l) h)
  goes_on (Print value) o l h = absurd (nowhere o (got node position l) h)
  goes_on (Trap cause) o l h = absurd (nowhere o (got node position l) h)
  goes_on End o l h = absurd (nowhere o (got node position l) h)

  came_from : (deed : Deed) (o l : ℕ) → slice_get (steps_of deed) o ≡ Some (gave node position l)
      → CameFrom locks position node deed l (steps_of deed) o
  came_from (Read w value) zero l h = let never = same_operation _ _ h in absurd cc
  came_from (Write w value) zero l h = let never = same_operation _ _ h in absurd cc
  came_from (Acquire k) zero l h = let never = same_operation _ _ h in absurd cc
  came_from (Release k) zero l h =
      let both = same_operation (gave node position k) (gave node position l) h in let same : k ≡ l = cc in inl (ap Release same)
  came_from Arrive o l h =
      let (q, same, previous) = pairs_previous position node (λ q. locks + arrived_before * nodes + node) 0 1 o l h in
      inr (past locks arrived_before nodes node l same, previous)
  came_from Depart o l h =
      let (q, same, previous) = pairs_previous position node (λ q. locks + departed_before * nodes + q) 0 nodes o l h in
      inr (past locks departed_before nodes q l same, previous)
  came_from (Read w value) (suc o) l h = absurd (nowhere o (gave node position l) h)
  came_from (Write w value) (suc o) l h = absurd (nowhere o (gave node position l) h)
  came_from (Acquire k) (suc o) l h = absurd (nowhere o (gave node position l) h)
  came_from (Release k) (suc o) l h = absurd (nowhere o (gave node position l) h)
  came_from Quiet o l h = absurd (nowhere o (gave node position l) h)
  came_from (Print value) o l h = absurd (nowhere o (gave node position l) h)
  came_from (Trap cause) o l h = absurd (nowhere o (gave node position l) h)
  came_from End o l h = absurd (nowhere o (gave node position l) h)

-- ---- the steps of all acts

module _ (locks nodes : ℕ) (acts : List Act) where
  abbrev of : ℕ → Act → List RapidStep
  of position act = rapid_steps (meeting_at locks nodes acts act.node position) position act.node act.deed

  abbrev steps : List RapidStep
  steps = rapid_of locks nodes acts

  -- the steps of one act
  abbrev group : ℕ → ℕ → Deed → List RapidStep
  group place node deed = rapid_steps (meeting_at locks nodes acts node place) place node deed

  -- the act that the step at k stands for, and how far the step is from the first for it
  record IsAt (k : ℕ) (s : RapidStep) : Type 0 where
    deed : Deed
    offset : ℕ
    does : Does acts s.position s.node deed
    here : slice_get (group s.position s.node deed) offset ≡ Some s
    stands : k ≡ start of 0 acts s.position + offset

  is_at : (k : ℕ) (s : RapidStep) → slice_get steps k ≡ Some s → IsAt k s
  is_at k s h =
      let f = found of 0 acts k s h in
      let begin : 0 + f.item ≡ f.item = omega arith in
      let node = f.value.node in
      let deed = f.value.deed in
      let here : slice_get (group f.item node deed) f.offset ≡ Some s =
      subst (λ m. slice_get (of m f.value) f.offset ≡ Some s) begin f.is in
      let come = comes (meeting_at locks nodes acts node f.item) f.item node deed f.offset s here in
      let place : f.item ≡ s.position = sym (position_is locks nodes acts f.item node come) in
      let own : node ≡ s.node = sym (node_is come) in
      let does : Does acts f.item node deed = record { stands = f.at } in
      record {
        deed = deed;
        offset = f.offset;
        does = subst (λ p. Does acts p s.node deed) place (Does-node own does);
        here = subst (λ p. slice_get (group p s.node deed) f.offset ≡ Some s) place
            (subst (λ n. slice_get (group f.item n deed) f.offset ≡ Some s) own here);
        stands = subst (λ p. k ≡ start of 0 acts p + f.offset) place f.stands;
      }

  in_group : (place node : ℕ) (deed : Deed) (o : ℕ) (s : RapidStep) → Does acts place node deed
      → slice_get (group place node deed) o ≡ Some s
      → slice_get steps (start of 0 acts place + o) ≡ Some s
  in_group place node deed o s does h =
      let begin : place ≡ 0 + place = omega arith in
      let act : Act = record { node = node; deed = deed } in
      stands_at of 0 acts place act o s does.stands (subst (λ m. slice_get (of m act) o ≡ Some s) begin h)

  -- where an act has one step, no other stands at its position
  pub alone : (i node : ℕ) (deed : Deed) → Does acts i node deed → length (group i node deed) ≡ 1 → (k m : ℕ) (s t : RapidStep)
      → slice_get steps k ≡ Some s → slice_get steps m ≡ Some t → s.position ≡ i → t.position ≡ i → k ≡ m
  alone i node deed does one k m s t hk hm first second = same_start (offset_is k s hk first) (offset_is m t hm second)
    where
      offset_is : (p : ℕ) (x : RapidStep) → slice_get steps p ≡ Some x → x.position ≡ i → p ≡ start of 0 acts i
      offset_is p x h at =
          let a = is_at p x h in
          let there : Does acts i x.node a.deed = subst (λ z. Does acts z x.node a.deed) at a.does in
          let here : slice_get (group i x.node a.deed) a.offset ≡ Some x =
          subst (λ z. slice_get (group z x.node a.deed) a.offset ≡ Some x) at a.here in
          let own : slice_get (group i node deed) a.offset ≡ Some x =
          subst (λ (d : Deed). slice_get (group i node d) a.offset ≡ Some x) (Does-one_deed there does)
          (subst (λ n. slice_get (group i n a.deed) a.offset ≡ Some x) (Does-one_node there does) here) in
          let within : a.offset < length (group i node deed) = slice_get_within (group i node deed) a.offset x own in
          let from : p ≡ start of 0 acts i + a.offset = subst (λ z. p ≡ start of 0 acts z + a.offset) at a.stands in
          omega arith

      same_start : k ≡ start of 0 acts i → m ≡ start of 0 acts i → k ≡ m
      same_start x y = x ∙ sym y

  -- what follows a step that acquires a lock
  pub next : (k node position l : ℕ) → slice_get steps k ≡ Some (got node position l)
      → Does acts position node (Acquire l)
      ⊎ ((locks ≤ l) × (slice_get steps (suc k) ≡ Some (gave node position l)))
  next k node position l h =
      let s = got node position l in
      let a = is_at k s h in
      let begin = start of 0 acts position in
      elim (goes_on locks nodes acts position node a.deed a.offset l a.here) [
        | inl is ↦ inl (Does-deed is a.does)
        | inr pair ↦
            let release = gave node position l in
            let after = in_group position node a.deed (suc a.offset) release a.does pair.1 in
            let there : begin + suc a.offset ≡ suc k = omega (arith, a.stands) in
            inr (pair.0, subst (λ m. slice_get steps m ≡ Some release) there after)
      ]

  -- what comes before a step that releases one
  pub previous : (k node position l : ℕ) → slice_get steps k ≡ Some (gave node position l)
      → Does acts position node (Release l)
      ⊎ ((locks ≤ l)
      × ((b : ℕ) × (k ≡ suc b) × (slice_get steps b ≡ Some (got node position l))))
  previous k node position l h =
      let s = gave node position l in
      let a = is_at k s h in
      let begin = start of 0 acts position in
      elim (came_from locks nodes acts position node a.deed a.offset l a.here) [
        | inl is ↦ inl (Does-deed is a.does)
        | inr pair ↦
            let acquire = got node position l in
            let (b, is, at) = pair.1 in
            let before = in_group position node a.deed b acquire a.does at in
            let last : k ≡ suc (begin + b) = omega (arith, a.stands) in
            inr (pair.0, (begin + b, last, before))
      ]
