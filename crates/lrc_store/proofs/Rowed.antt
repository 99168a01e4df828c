-- The rows of places by which an interval is found.
use Rattle.std.proofs.Common.{◌≡◌, ◌≢◌, ℕ, zero, suc, ◌+◌, ◌<◌, ◌≤◌, ◌∙◌, Bool, true, false, not, cond, eqb, Some, List, [], ◌∷◌, ◌++◌}
use Rattle.std.proofs.Common.{length, get_or, set, map, take, drop, reverse, refl, ap, sym, subst, ⊎_elim, arith}
use Rattle.std.specs.List.{All, AllPairs, filter, slice_get}
use Rattle.std.proofs.lemmas.Bool.{true≢false, cases_eq, eq-eqb, eqb-true, ne_eqb, leb-true, le-leb}
use Rattle.std.proofs.lemmas.List.{append_assoc, append-nil, drop_more, get_or_at, get_or-set_same, get_or-set_other, length-append, length-map}
use Rattle.std.proofs.lemmas.List.{length-reverse, length-set, length-take-le, map-append, reverse-append, take-append-drop}
use Rattle.std.proofs.lemmas.List.Elements.{All-head, All-tail, filter-append}
use Rattle.std.proofs.lemmas.Option.{slice_get-get_or}
use Rattle.lrc_time.specs.Time.{entry}
use Rattle.lrc_store.specs.Interval.{IntervalRecord, index_of}
use Rattle.lrc_store.specs.Lists.{list_of, places_from}
use Rattle.lrc_store.specs.Rows.{RowRecord, AreRows, HasNoGaps, count_of_node}
use Rattle.lrc_store.specs.Store.{is_covered}
use Rattle.lrc_store.proofs.Followed.{places_from-push}

-- ---- rows

pub AreRows-push : (rows : List RowRecord) (nodes : ℕ) (keys : List ℕ) (node at : ℕ) (old row : RowRecord) → AreRows rows nodes keys
    → node < nodes → at ≡ length keys → old ≡ get_or rows node old → row.places ≡ old.places ++ at ∷ []
    → AreRows (set rows node row) nodes (keys ++ node ∷ [])
AreRows-push rows nodes keys node at old row are within is before more = record {
  count = length-set rows node row ∙ are.count;
  each = λ n d inside.
      ⊎_elim
      (λ (same : n ≡ node).
      let written : get_or (set rows node row) n d ≡ row =
      ap (λ m. get_or (set rows node row) m d) same ∙ get_or-set_same rows node row d (omega (arith, within, are.count)) in
      let had : old.places ≡ places_from node 0 keys = ap (λ (r : RowRecord). r.places) before ∙ are.each node old within in
      ap (λ (r : RowRecord). r.places) written ∙ more
      ∙ ap (λ (l : List ℕ). l ++ at ∷ []) had
      ∙ ap (λ m. places_from node 0 keys ++ m ∷ []) (omega (arith, is))
      ∙ sym (places_from-push node 0 keys node ∙ ap (λ b. places_from node 0 keys ++ cond b ((0 + length keys) ∷ []) []) (eq-eqb node node refl))
      ∙ ap (λ m. places_from m 0 (keys ++ node ∷ [])) (sym same))
      (λ (other : n ≢ node).
      ap (λ (r : RowRecord). r.places) (get_or-set_other rows node n row d other)
      ∙ are.each n d inside
      ∙ sym (places_from-push n 0 keys node
      ∙ ap (λ b. places_from n 0 keys ++ cond b ((0 + length keys) ∷ []) []) (ne_eqb node n (λ same. other (sym same)))
      ∙ append-nil (places_from n 0 keys)))
      (cases_eq n node);
}

-- ---- places

pub places_from-append : (key start : ℕ) (xs ys : List ℕ)
    → places_from key start (xs ++ ys) ≡ places_from key start xs ++ places_from key (start + length xs) ys
places_from-append key start [] ys = ap (λ n. places_from key n ys) (omega arith)
places_from-append key start (x ∷ xs) ys =
    ap (λ (l : List ℕ). cond (eqb x key) (start ∷ l) l) (places_from-append key (start + 1) xs ys)
    ∙ by_test (eqb x key) (places_from key (start + 1) xs)
    ∙ ap (λ n. cond (eqb x key) (start ∷ places_from key (start + 1) xs) (places_from key (start + 1) xs) ++ places_from key n ys) (omega arith)
  where
    by_test : (b : Bool) (rest : List ℕ)
        → cond b (start ∷ (rest ++ places_from key (start + 1 + length xs) ys)) (rest ++ places_from key (start + 1 + length xs) ys)
        ≡ cond b (start ∷ rest) rest ++ places_from key (start + 1 + length xs) ys
    by_test true rest = refl
    by_test false rest = refl

-- the first keys have no more places
pub places_from-front : (key : ℕ) (xs ys : List ℕ) → length (places_from key 0 xs) ≤ length (places_from key 0 (xs ++ ys))
places_from-front key xs ys =
    omega (arith, ap length (places_from-append key 0 xs ys), length-append (places_from key 0 xs) (places_from key (0 + length xs) ys))

-- there are as many places as intervals
pub places_from-count : (node start : ℕ) (intervals : List IntervalRecord)
    → length (places_from node start (map (λ i. i.node) intervals)) ≡ count_of_node node intervals
places_from-count node start [] = refl
places_from-count node start (i ∷ is) = by_test (eqb i.node node) (places_from-count node (start + 1) is)
  where
    by_test : (b : Bool) → length (places_from node (start + 1) (map (λ j. j.node) is)) ≡ count_of_node node is
        → length (cond b (start ∷ places_from node (start + 1) (map (λ j. j.node) is)) (places_from node (start + 1) (map (λ j. j.node) is)))
        ≡ length (cond b (i ∷ filter (λ j. eqb j.node node) is) (filter (λ j. eqb j.node node) is))
    by_test true same = ap suc same
    by_test false same = same

-- what stands behind the front of a list
slice_get_at : {X : Type 0} (pre : List X) (x : X) (rest : List X) → slice_get (pre ++ x ∷ rest) (length pre) ≡ Some x
slice_get_at pre x rest =
    slice_get-get_or (pre ++ x ∷ rest) (length pre) x (omega (arith, length-append pre (x ∷ rest)))
    ∙ ap Some (get_or_at pre x rest x (length pre) refl)

-- an interval is in its node's list behind those that were added after it
pub found_from_last : (intervals : List IntervalRecord) (at : ℕ) (d : IntervalRecord) → at < length intervals
    → slice_get (list_of (map (λ i. i.node) intervals) (get_or intervals at d).node)
    (count_of_node (get_or intervals at d).node (drop (at + 1) intervals)) ≡ Some at
found_from_last intervals at d within =
    let i = get_or intervals at d in
    let node = i.node in
    let front = map (λ (j : IntervalRecord). j.node) (take at intervals) in
    let back = map (λ (j : IntervalRecord). j.node) (drop (at + 1) intervals) in
    let split : map (λ j. j.node) intervals ≡ front ++ (node ∷ back) =
    ap (map (λ (j : IntervalRecord). j.node))
    (sym (take-append-drop at intervals) ∙ ap (λ (l : List IntervalRecord). take at intervals ++ l) (drop_more intervals at d within))
    ∙ map-append (λ (j : IntervalRecord). j.node) (take at intervals) (i ∷ drop (at + 1) intervals) in
    let count : length front ≡ at = length-map (take at intervals) (λ (j : IntervalRecord). j.node) ∙ length-take-le at intervals (omega (arith, within)) in
    let a = places_from node 0 front in
    let b = places_from node (at + 1) back in
    let places : places_from node 0 (map (λ j. j.node) intervals) ≡ a ++ (at ∷ b) =
    ap (places_from node 0) split ∙ places_from-append node 0 front (node ∷ back)
    ∙ ap (λ n. a ++ places_from node n (node ∷ back)) (let e : 0 + length front ≡ at = omega (arith, count) in e)
    ∙ ap (λ c. a ++ cond c (at ∷ b) b) (eq-eqb node node refl) in
    let list : list_of (map (λ j. j.node) intervals) node ≡ reverse b ++ (at ∷ reverse a) =
    ap reverse places ∙ reverse-append a (at ∷ b) ∙ ap (λ (l : List ℕ). l ++ reverse a) (reverse-append (at ∷ []) b)
    ∙ append_assoc (reverse b) (at ∷ []) (reverse a) in
    let far : count_of_node node (drop (at + 1) intervals) ≡ length (reverse b) =
    sym (length-reverse b ∙ places_from-count node (at + 1) (drop (at + 1) intervals)) in
    ap (λ (l : List ℕ). slice_get l (count_of_node node (drop (at + 1) intervals))) list
    ∙ ap (slice_get (reverse b ++ (at ∷ reverse a))) far
    ∙ slice_get_at (reverse b) at (reverse a)

-- ---- no gaps

count-push : (node : ℕ) (intervals : List IntervalRecord) (i : IntervalRecord) (b : Bool) → eqb i.node node ≡ b
    → count_of_node node (intervals ++ i ∷ []) ≡ count_of_node node intervals + cond b 1 0
count-push node intervals i b is =
    let test : IntervalRecord → Bool = λ j. eqb j.node node in
    let parts = ap length (filter-append test intervals (i ∷ [])) ∙ length-append (filter test intervals) (filter test (i ∷ [])) in
    let one : length (filter test (i ∷ [])) ≡ cond b 1 0 = ap (λ c. length (cond c (i ∷ []) [])) is ∙ by_test b in
    omega (arith, parts, one)
  where
    by_test : (c : Bool) → length (cond c (i ∷ []) []) ≡ cond c 1 0
    by_test true = refl
    by_test false = refl

-- an interval more: the one that follows its node's last
pub HasNoGaps-push : (last later : List ℕ) (intervals : List IntervalRecord) (x : IntervalRecord) → HasNoGaps last intervals
    → index_of x ≡ entry last x.node + 1 → entry later x.node ≡ index_of x → ((n : ℕ) → n ≢ x.node → entry later n ≡ entry last n)
    → HasNoGaps later (intervals ++ x ∷ [])
HasNoGaps-push last later [] x before next here others = (omega (arith, here), tt)
HasNoGaps-push last later (i ∷ is) x before next here others = (
  ⊎_elim
      (λ (same : i.node ≡ x.node).
      let more = count-push i.node is x true (eq-eqb x.node i.node (sym same)) in
      let raised : entry later i.node ≡ index_of x = ap (entry later) same ∙ here in
      let was : entry last i.node ≡ entry last x.node = ap (entry last) same in
      omega (arith, more, raised, was, next, before.0))
      (λ (other : i.node ≢ x.node).
      let more = count-push i.node is x false (ne_eqb x.node i.node (λ same. other (sym same))) in
      omega (arith, more, others i.node other, before.0))
      (cases_eq i.node x.node),
  HasNoGaps-push last later is x before.1 next here others,
)

-- of what stays, nothing that was added after it is taken out of its node's list
count-filter : (time : List ℕ) (i : IntervalRecord) (is : List IntervalRecord) → All (λ j. i.node ≡ j.node → index_of i < index_of j) is
    → is_covered time i ≡ false → count_of_node i.node (filter (λ j. not (is_covered time j)) is) ≡ count_of_node i.node is
count-filter time i [] above stays = refl
count-filter time i (j ∷ js) above stays =
    by_test (eqb j.node i.node) refl (is_covered time j) refl
    (count-filter time i js (All-tail (λ k. i.node ≡ k.node → index_of i < index_of k) j js above) stays)
  where
    by_test : (b : Bool) → eqb j.node i.node ≡ b → (c : Bool) → is_covered time j ≡ c
        → count_of_node i.node (filter (λ k. not (is_covered time k)) js) ≡ count_of_node i.node js
        → count_of_node i.node (filter (λ k. not (is_covered time k)) (j ∷ js)) ≡ count_of_node i.node (j ∷ js)
    by_test b same false kept rest =
        let test : IntervalRecord → Bool = λ k. eqb k.node i.node in
        let others = filter (λ k. not (is_covered time k)) js in
        ap (λ c. count_of_node i.node (cond (not c) (j ∷ others) others)) kept
        ∙ ap (λ d. length (cond d (j ∷ filter test others) (filter test others))) same
        ∙ by_node b rest
        ∙ ap (λ d. length (cond d (j ∷ filter test js) (filter test js))) (sym same)
      where
        by_node : (d : Bool) → count_of_node i.node (filter (λ k. not (is_covered time k)) js) ≡ count_of_node i.node js
            → length (cond d (j ∷ filter (λ k. eqb k.node i.node) (filter (λ k. not (is_covered time k)) js))
            (filter (λ k. eqb k.node i.node) (filter (λ k. not (is_covered time k)) js)))
            ≡ length (cond d (j ∷ filter (λ k. eqb k.node i.node) js) (filter (λ k. eqb k.node i.node) js))
        by_node true same = ap suc same
        by_node false same = same
    by_test false other true gone rest =
        let test : IntervalRecord → Bool = λ k. eqb k.node i.node in
        let others = filter (λ k. not (is_covered time k)) js in
        ap (λ c. count_of_node i.node (cond (not c) (j ∷ others) others)) gone
        ∙ rest
        ∙ ap (λ d. length (cond d (j ∷ filter test js) (filter test js))) (sym other)
    by_test true same true gone rest =
        let nodes : i.node ≡ j.node = sym (eqb-true j.node i.node same) in
        let below : index_of i < index_of j = All-head (λ k. i.node ≡ k.node → index_of i < index_of k) j js above nodes in
        let covered : index_of j ≤ entry time j.node = leb-true (index_of j) (entry time j.node) gone in
        let entries : entry time j.node ≡ entry time i.node = ap (entry time) (sym nodes) in
        let also : is_covered time i ≡ true = le-leb (index_of i) (entry time i.node) (omega (arith, below, covered, entries)) in
        absurd (true≢false (sym also ∙ stays))

head_above : (i : IntervalRecord) (is : List IntervalRecord) → AllPairs (λ a b. a.node ≡ b.node → index_of a < index_of b) (i ∷ is)
    → All (λ j. i.node ≡ j.node → index_of i < index_of j) is
head_above i is ascending = λ k d within. ascending zero (suc k) d (omega arith) (omega (arith, within))

-- intervals are taken out
pub HasNoGaps-filter : (last time : List ℕ) (intervals : List IntervalRecord) → HasNoGaps last intervals
    → AllPairs (λ a b. a.node ≡ b.node → index_of a < index_of b) intervals
    → HasNoGaps last (filter (λ i. not (is_covered time i)) intervals)
HasNoGaps-filter last time [] before ascending = tt
HasNoGaps-filter last time (i ∷ is) before ascending =
    by_test (is_covered time i) refl
    (HasNoGaps-filter last time is before.1 (λ j k d less within. ascending (suc j) (suc k) d (omega (arith, less)) (omega (arith, within))))
  where
    by_test : (b : Bool) → is_covered time i ≡ b → HasNoGaps last (filter (λ j. not (is_covered time j)) is)
        → HasNoGaps last (cond (not b) (i ∷ filter (λ j. not (is_covered time j)) is) (filter (λ j. not (is_covered time j)) is))
    by_test true gone rest = rest
    by_test false stays rest =
        (ap (λ n. index_of i + n) (count-filter time i is (head_above i is ascending) stays) ∙ before.0, rest)

-- how far an interval is behind its node's last
pub HasNoGaps-at : (last : List ℕ) (intervals : List IntervalRecord) (at : ℕ) (d : IntervalRecord) → HasNoGaps last intervals
    → at < length intervals
    → index_of (get_or intervals at d) + count_of_node (get_or intervals at d).node (drop (at + 1) intervals)
    ≡ entry last (get_or intervals at d).node
HasNoGaps-at last [] at d gapless within = absurd (omega (arith, within))
HasNoGaps-at last (i ∷ is) zero d gapless within = gapless.0
HasNoGaps-at last (i ∷ is) (suc at) d gapless within =
    let next : suc at + 1 ≡ suc (at + 1) = omega arith in
    ap (λ n. index_of (get_or is at d) + count_of_node (get_or is at d).node (drop n (i ∷ is))) next
    ∙ HasNoGaps-at last is at d gapless.1 (omega (arith, within))

-- there are no more places in what is left
pub places_from-filter : (node : ℕ) (kept : IntervalRecord → Bool) (intervals : List IntervalRecord)
    → length (places_from node 0 (map (λ i. i.node) (filter kept intervals))) ≤ length (places_from node 0 (map (λ i. i.node) intervals))
places_from-filter node kept intervals =
    omega (arith, places_from-count node 0 (filter kept intervals), places_from-count node 0 intervals, fewer intervals)
  where
    fewer : (is : List IntervalRecord) → count_of_node node (filter kept is) ≤ count_of_node node is
    fewer [] = omega arith
    fewer (i ∷ is) = by_test (kept i) (eqb i.node node) refl (fewer is)
      where
        by_test : (k b : Bool) → eqb i.node node ≡ b → count_of_node node (filter kept is) ≤ count_of_node node is
            → count_of_node node (cond k (i ∷ filter kept is) (filter kept is)) ≤ count_of_node node (i ∷ is)
        by_test k b is_b rest =
            let all : count_of_node node (i ∷ is) ≡ length (cond b (i ∷ filter (λ j. eqb j.node node) is) (filter (λ j. eqb j.node node) is)) =
            ap (λ c. length (cond c (i ∷ filter (λ j. eqb j.node node) is) (filter (λ j. eqb j.node node) is))) is_b in
            subst (λ n. count_of_node node (cond k (i ∷ filter kept is) (filter kept is)) ≤ n) (sym all) (by_both k b is_b rest)
          where
            last_step : (b : Bool) → count_of_node node (filter kept is) ≤ count_of_node node is
                → length (cond b (i ∷ filter (λ j. eqb j.node node) (filter kept is)) (filter (λ j. eqb j.node node) (filter kept is)))
                ≤ length (cond b (i ∷ filter (λ j. eqb j.node node) is) (filter (λ j. eqb j.node node) is))
            last_step true rest = omega (arith, rest)
            last_step false rest = rest

            by_both : (k b : Bool) → eqb i.node node ≡ b → count_of_node node (filter kept is) ≤ count_of_node node is
                → count_of_node node (cond k (i ∷ filter kept is) (filter kept is))
                ≤ length (cond b (i ∷ filter (λ j. eqb j.node node) is) (filter (λ j. eqb j.node node) is))
            by_both false true is_b rest = omega (arith, rest)
            by_both false false is_b rest = rest
            by_both true b is_b rest =
                let mine : count_of_node node (i ∷ filter kept is) ≡ length
                (cond b (i ∷ filter (λ j. eqb j.node node) (filter kept is)) (filter (λ j. eqb j.node node) (filter kept is))) =
                ap (λ c. length (cond c (i ∷ filter (λ j. eqb j.node node) (filter kept is)) (filter (λ j. eqb j.node node) (filter kept is)))) is_b in
                subst (λ n. n ≤ length (cond b (i ∷ filter (λ j. eqb j.node node) is) (filter (λ j. eqb j.node node) is))) (sym mine) (last_step b rest)
