-- What a walk along a node's list has gathered.
use Rattle.std.proofs.Common.{◌≡◌, ℕ, ◌+◌, ◌<◌, ◌≤◌, ◌∙◌, Bool, true, false, not, ◌&&◌, cond, eqb, eqb-true, Option, None, Some}
use Rattle.std.proofs.Common.{List, [], ◌∷◌, ◌++◌, length, get_or, map, take, reverse, refl, ap, sym, subst, arith}
use Rattle.std.specs.List.{All, AllPairs, filter}
use Rattle.std.proofs.lemmas.Bool.{leb-true, le-leb}
use Rattle.std.proofs.lemmas.List.{get_or-map, get_or-take, get_or_default, length-take-le, take-map, take_all, reverse-append, append-nil, append_assoc}
use Rattle.std.proofs.lemmas.List.Elements.{All-head, All-tail}
use Rattle.lrc_time.specs.Time.{entry, knows}
use Rattle.lrc_store.specs.Chains.{last_at}
use Rattle.lrc_store.specs.Interval.{IntervalRecord, index_of}
use Rattle.lrc_store.specs.Links.{is_newer_of}
use Rattle.lrc_store.specs.Store.{is_newer}
use Rattle.lrc_store.proofs.Chained.{Reaches, reaches, picked_more, last_at-map}

-- a filter that nothing passes
pub filter_of_none : {X : Type 0} (test : X → Bool) (xs : List X) → All (λ x. test x ≡ false) xs → filter test xs ≡ []
filter_of_none test [] fails = refl
filter_of_none test (x ∷ xs) fails =
    ap (λ b. cond b (x ∷ filter test xs) (filter test xs)) (All-head (λ y. test y ≡ false) x xs fails)
    ∙ filter_of_none test xs (All-tail (λ y. test y ≡ false) x xs fails)

abbrev pub no_interval : IntervalRecord
no_interval = record { node = 0; stamp = []; pages = [] }

module _ (node : ℕ) (since upto : List ℕ) (intervals : List IntervalRecord) (e : IntervalRecord) where
  abbrev of_node : IntervalRecord → Bool
  of_node i = eqb i.node node

  narrow : (i : IntervalRecord) → of_node i ≡ false → is_newer_of node since upto i ≡ false
  narrow i fails = ap (λ b. b && is_newer since upto i) fails

  -- the walk stands at an entry of the node's list, and what comes after it was gathered, newest first
  abbrev pub IsWalked : Option ℕ → List IntervalRecord → Type 0
  IsWalked next found =
      (bound : ℕ) × (bound ≤ length intervals)
      × Reaches of_node (is_newer_of node since upto) intervals bound next
      × (filter (is_newer_of node since upto) intervals ≡ filter (is_newer_of node since upto) (take bound intervals) ++ reverse found)

  pub walk_starts : (keys : List ℕ) (next : Option ℕ) → keys ≡ map (λ i. i.node) intervals
      → next ≡ last_at (λ other. eqb other node) keys → IsWalked next []
  walk_starts keys next linked is =
      let whole : take (length intervals) intervals ≡ intervals = take_all (length intervals) intervals (omega arith) in
      let first : next ≡ last_at of_node (take (length intervals) intervals) =
      is ∙ ap (last_at (λ other. eqb other node)) linked ∙ last_at-map (λ other. eqb other node) (λ (i : IntervalRecord). i.node) intervals
      ∙ ap (last_at of_node) (sym whole) in (
        length intervals,
        omega arith,
        subst (Reaches of_node (is_newer_of node since upto) intervals (length intervals)) (sym first)
            (reaches of_node (is_newer_of node since upto) narrow intervals e (length intervals) (omega arith)),
        sym (append-nil (filter (is_newer_of node since upto) intervals))
            ∙ ap (λ (l : List IntervalRecord). filter (is_newer_of node since upto) l ++ []) (sym whole),
      )

  pub walk_within : (at : ℕ) (found : List IntervalRecord) → IsWalked (Some at) found → at < length intervals
  walk_within at found walked = omega (arith, walked.2.0, walked.1)

  pub walk_here : (at : ℕ) (found : List IntervalRecord) → IsWalked (Some at) found → (d : IntervalRecord)
      → (get_or intervals at d).node ≡ node
  walk_here at found walked d = eqb-true _ _ (walked.2.1 d)

  -- what was gathered with the entry where the walk stands
  gathered : (at : ℕ) (found more : List IntervalRecord) (newer : Bool) → IsWalked (Some at) found → (d : IntervalRecord)
      → is_newer since upto (get_or intervals at d) ≡ newer
      → more ≡ found ++ cond newer (get_or intervals at d ∷ []) []
      → filter (is_newer_of node since upto) intervals ≡ filter (is_newer_of node since upto) (take at intervals) ++ reverse more
  gathered at found more newer walked d is is_more =
      let q = is_newer_of node since upto in
      let i = get_or intervals at d in
      let test : q i ≡ newer = ap (λ b. b && is_newer since upto i) (walked.2.1 d) ∙ is in
      let step : filter q (take (at + 1) intervals) ≡ filter q (take at intervals) ++ cond newer (i ∷ []) [] =
      picked_more of_node q narrow intervals d at newer (walk_within at found walked) test in
      walked.3 ∙ ap (λ (l : List IntervalRecord). l ++ reverse found) (walked.2.2 ∙ step)
      ∙ append_assoc (filter q (take at intervals)) (cond newer (i ∷ []) []) (reverse found)
      ∙ ap (λ (l : List IntervalRecord). filter q (take at intervals) ++ l) (turned newer i ∙ ap reverse (sym is_more))
    where
      turned : (b : Bool) (i : IntervalRecord) → cond b (i ∷ []) [] ++ reverse found ≡ reverse (found ++ cond b (i ∷ []) [])
      turned false i = ap reverse (sym (append-nil found))
      turned true i = sym (reverse-append found (i ∷ []))

  pub walk_goes_on : (at : ℕ) (found more : List IntervalRecord) (newer : Bool) (keys : List ℕ) (next : Option ℕ) (d : IntervalRecord)
      → IsWalked (Some at) found → keys ≡ map (λ i. i.node) intervals
      → next ≡ last_at (λ other. eqb other (get_or keys at 0)) (take at keys)
      → is_newer since upto (get_or intervals at d) ≡ newer
      → more ≡ found ++ cond newer (get_or intervals at d ∷ []) [] → IsWalked next more
  walk_goes_on at found more newer keys next d walked linked is_next is is_more =
      let within = walk_within at found walked in
      let key : get_or keys at 0 ≡ node =
      ap (λ (l : List ℕ). get_or l at 0) linked ∙ get_or-map (λ (i : IntervalRecord). i.node) intervals at d 0 within ∙ walk_here at found walked d in
      let here : next ≡ last_at of_node (take at intervals) =
      is_next ∙ ap (λ k. last_at (λ other. eqb other k) (take at keys)) key
      ∙ ap (λ (l : List ℕ). last_at (λ other. eqb other node) (take at l)) linked
      ∙ ap (last_at (λ other. eqb other node)) (take-map (λ (i : IntervalRecord). i.node) at intervals)
      ∙ last_at-map (λ other. eqb other node) (λ (i : IntervalRecord). i.node) (take at intervals) in (
        at,
        omega (arith, within),
        subst (Reaches of_node (is_newer_of node since upto) intervals at) (sym here)
            (reaches of_node (is_newer_of node since upto) narrow intervals d at (omega (arith, within))),
        gathered at found more newer walked d is is_more,
      )

  -- an interval before one that is known is not newer
  older : (at k : ℕ) (d : IntervalRecord) → AllPairs (λ a b. a.node ≡ b.node → index_of a < index_of b) intervals
      → at < length intervals → k < at → (get_or intervals at d).node ≡ node
      → knows since (get_or intervals at d).node (index_of (get_or intervals at d)) ≡ true
      → (b : Bool) → eqb (get_or intervals k d).node node ≡ b
      → is_newer_of node since upto (get_or intervals k d) ≡ false
  older at k d ascending within less here known false fails = narrow (get_or intervals k d) fails
  older at k d ascending within less here known true same =
      let i = get_or intervals k d in
      let j = get_or intervals at d in
      let nodes : i.node ≡ j.node = eqb-true i.node node same ∙ sym here in
      let below : index_of i < index_of j = ascending k at d less within nodes in
      let covered : index_of j ≤ entry since j.node = leb-true (index_of j) (entry since j.node) known in
      let last : entry since j.node ≡ entry since i.node = ap (entry since) (sym nodes) in
      let also : knows since i.node (index_of i) ≡ true = le-leb (index_of i) (entry since i.node) (omega (arith, below, covered, last)) in
      ap (λ b. b && is_newer since upto i) same ∙ ap (λ b. not b && knows upto i.node (index_of i)) also

  -- at an interval that is known the walk is over
  pub walk_stops : (at : ℕ) (found : List IntervalRecord) (d : IntervalRecord) → IsWalked (Some at) found
      → AllPairs (λ a b. a.node ≡ b.node → index_of a < index_of b) intervals
      → knows since (get_or intervals at d).node (index_of (get_or intervals at d)) ≡ true → IsWalked None found
  walk_stops at found d walked ascending known =
      let within = walk_within at found walked in
      let i = get_or intervals at d in
      let here = walk_here at found walked d in
      let not_newer : is_newer since upto i ≡ false = ap (λ b. not b && knows upto i.node (index_of i)) known in
      let none : filter (is_newer_of node since upto) (take at intervals) ≡ [] =
      filter_of_none (is_newer_of node since upto) (take at intervals)
      (λ k d' inside.
      let less : k < at = omega (arith, inside, length-take-le at intervals (omega (arith, within))) in
      let same : get_or (take at intervals) k d' ≡ get_or intervals k d =
      get_or-take at intervals k d' less ∙ get_or_default intervals k d' d (omega (arith, less, within)) in
      ap (is_newer_of node since upto) same
      ∙ older at k d ascending within less here known (eqb (get_or intervals k d).node node) refl) in
      (at, omega (arith, within), none, gathered at found found false walked d not_newer (sym (append-nil found)))

  -- the same of what stands behind other intervals
  abbrev pub IsWalkedBehind : List IntervalRecord → Option ℕ → List IntervalRecord → Type 0
  IsWalkedBehind before next found = (more : List IntervalRecord) × (found ≡ before ++ more) × IsWalked next more
