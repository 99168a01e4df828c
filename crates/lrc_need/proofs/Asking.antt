-- What is asked of makers: indices are put in order, and makers with none are left out.
use Rattle.std.proofs.Common.{⊎_elim, inl, inr, ◌≡◌, ◌≢◌, ℕ, zero, suc, ◌+◌, ◌<◌, ◌≤◌, true, List, [], ◌∷◌}
use Rattle.std.proofs.Common.{◌++◌, map, length, take, get_or, refl, sym, ap, ◌∙◌, subst, add-one, arith, eq-eqb}
use Rattle.std.specs.Prelude.{◌==◌, nat_lt, slice_index_or, option_to_list, Option, Some, None, cond, filter_map}
use Rattle.std.specs.List.{All, AllPairs, filter, range_with_len, cons_option, refill}
use Rattle.std.specs.List.Sorted.{IsPermutation, IsSorted}
use Rattle.std.specs.Ordering.{nat_cmp}
use Rattle.std.proofs.lemmas.Bool.{eqb-true, ne_eqb, lt-ltb, ltb-true, cases_order}
use Rattle.std.proofs.lemmas.List.{append-nil, length-map, get_or-map, map-append, take-append-le, take_all}
use Rattle.std.proofs.lemmas.List.Elements.{filter_more, filter_passes, filter_map-append, All-append, All-cons, All-filter, All-map}
use Rattle.std.proofs.lemmas.List.Kept.{AllPairs-filter}
use Rattle.std.proofs.lemmas.List.Sorted.{IsStrictWeakOrder-by_number, All-permutation}
use Rattle.lrc_store.specs.declared.key.Key.{Key}
use Rattle.lrc_store.specs.Order.{IsAscendingPart}
use Rattle.lrc_store.proofs.Orders.{Comparable, IsAscendingPart-ascending_part, IsAscendingPart-only, IsAscendingPart-from_sort}
use Rattle.lrc_protocol.proofs.Numbers.{ranges-append}
use Rattle.lrc_store.proofs.Ranks.{is_lt-nat_cmp}
use Rattle.lrc_envelope.specs.Records.{AreIndices}
use Rattle.lrc_protocol.specs.Pages.{Asked, some_asked, indices_of, asked_of}
use Rattle.lrc_need.specs.Need.{AreAskable}

-- a maker's keys, and their indices
abbrev pub keys_by : List Key → ℕ → List Key
keys_by keys maker = filter (λ key. key.node == maker) keys

abbrev pub listed : List Key → ℕ → List ℕ
listed keys maker = map (λ key. key.index) (keys_by keys maker)

-- one key more is listed where it is the maker's
pub listed-more : (keys : List Key) (maker k : ℕ) (d : Key) → k < length keys → (get_or keys k d).node ≡ maker
    → listed (take (k + 1) keys) maker ≡ listed (take k keys) maker ++ (get_or keys k d).index ∷ []
listed-more keys maker k d within of_maker =
    ap (map (λ (key : Key). key.index)) (filter_more (λ (key : Key). key.node == maker) keys k d within
    ∙ ap (λ b. keys_by (take k keys) maker ++ cond b (get_or keys k d ∷ []) []) (eq-eqb (get_or keys k d).node maker of_maker))
    ∙ map-append (λ (key : Key). key.index) (keys_by (take k keys) maker) (get_or keys k d ∷ [])

pub listed-other : (keys : List Key) (maker k : ℕ) (d : Key) → k < length keys → (get_or keys k d).node ≢ maker
    → listed (take (k + 1) keys) maker ≡ listed (take k keys) maker
listed-other keys maker k d within other =
    ap (map (λ (key : Key). key.index)) (filter_more (λ (key : Key). key.node == maker) keys k d within
    ∙ ap (λ b. keys_by (take k keys) maker ++ cond b (get_or keys k d ∷ []) []) (ne_eqb (get_or keys k d).node maker other)
    ∙ append-nil (keys_by (take k keys) maker))

-- a list that is sorted in its place
pub refill-whole : (xs ws : List ℕ) → length ws ≡ length xs → refill (length xs) xs ws ≡ ws
refill-whole xs ws same = take-append-le (length xs) ws _ (omega (arith, same)) ∙ take_all (length xs) ws (omega (arith, same))

all-filtered : (xs : List ℕ) → filter (λ index. true) xs ≡ xs
all-filtered [] = refl
all-filtered (x ∷ xs) = ap (λ l. x ∷ l) (all-filtered xs)

-- any two of them can be compared
comparable : (keys : List Key) (maker : ℕ) → AreAskable keys → AllPairs (Comparable nat_lt) (listed keys maker)
comparable keys maker are i j d less within =
    let long : length (listed keys maker) ≡ length (keys_by keys maker) = length-map (keys_by keys maker) (λ key. key.index) in
    let e : Key = record { node = 0; index = 0; page = 0 } in
    let i_in : i < length (keys_by keys maker) = omega (arith, less, within, long) in
    let j_in : j < length (keys_by keys maker) = omega (arith, within, long) in
    let a = slice_index_or (keys_by keys maker) i e in
    let b = slice_index_or (keys_by keys maker) j e in
    let by_a : a.node ≡ maker = eqb-true a.node maker (filter_passes (λ (key : Key). key.node == maker) keys i e i_in) in
    let by_b : b.node ≡ maker = eqb-true b.node maker (filter_passes (λ (key : Key). key.node == maker) keys j e j_in) in
    let apart : a.index ≢ b.index = AllPairs-filter (λ (x y : Key). x.node ≡ y.node → x.index ≢ y.index)
    (λ (key : Key). key.node == maker) keys are.once i j e less j_in (by_a ∙ sym by_b) in
    let at_i : slice_index_or (listed keys maker) i d ≡ a.index = get_or-map (λ (key : Key). key.index) (keys_by keys maker) i e d i_in in
    let at_j : slice_index_or (listed keys maker) j d ≡ b.index = get_or-map (λ (key : Key). key.index) (keys_by keys maker) j e d j_in in
    ⊎_elim
    (λ same. absurd (apart (sym at_i ∙ same ∙ at_j)))
    (λ other. ⊎_elim (λ below. inl (lt-ltb _ _ below)) (λ above. inr (lt-ltb _ _ above)) other)
    (cases_order (slice_index_or (listed keys maker) i d) (slice_index_or (listed keys maker) j d))

part : (keys : List Key) (maker : ℕ) (sorted : List ℕ) → AreAskable keys → IsPermutation (listed keys maker) sorted → IsSorted nat_cmp sorted
    → IsAscendingPart nat_lt (λ index. true) (listed keys maker) sorted
part keys maker sorted are moved up =
    IsAscendingPart-from_sort nat_lt (IsStrictWeakOrder-by_number (λ n. n)) (λ index. true) (listed keys maker) sorted (comparable keys maker are)
    (subst (λ l. IsPermutation l sorted) (sym (all-filtered (listed keys maker))) moved)
    (λ k d low within. sym (is_lt-nat_cmp (slice_index_or sorted (k + 1) d) (slice_index_or sorted k d)) ∙ up k d low within)

-- a sort gives the indices
pub sorted-indices : (keys : List Key) (maker : ℕ) (sorted : List ℕ) → AreAskable keys → IsPermutation (listed keys maker) sorted → IsSorted nat_cmp sorted
    → sorted ≡ indices_of keys maker
sorted-indices keys maker sorted are moved up =
    IsAscendingPart-only nat_lt (IsStrictWeakOrder-by_number (λ n. n)) (λ index. true) (listed keys maker) sorted (indices_of keys maker)
    (part keys maker sorted are moved up)
    (IsAscendingPart-ascending_part nat_lt (IsStrictWeakOrder-by_number (λ n. n)) (λ index. true) (listed keys maker) (comparable keys maker are))

pub sorted-AreIndices : (keys : List Key) (maker : ℕ) (sorted : List ℕ) → AreAskable keys → IsPermutation (listed keys maker) sorted → IsSorted nat_cmp sorted
    → AreIndices sorted
sorted-AreIndices keys maker sorted are moved up = record {
  begun =
      All-permutation (λ index. 1 ≤ index) (listed keys maker) sorted moved
      (All-map (λ index. 1 ≤ index) (λ (key : Key). key.index) (keys_by keys maker)
      (All-filter (λ key. key.node == maker) (λ key. 1 ≤ key.index) keys are.begun));
  ascending = λ k within.
      ltb-true _ _ ((part keys maker sorted are moved up).ascending k (k + 1) 0 (omega arith) within);
}

-- ---- makers

asked-more : (a n : ℕ) (keys : List Key)
    → filter_map (λ maker. some_asked maker (indices_of keys maker)) (range_with_len a (suc n))
    ≡ filter_map (λ maker. some_asked maker (indices_of keys maker)) (range_with_len a n) ++ option_to_list (some_asked (a + n) (indices_of keys (a + n)))
asked-more a n keys =
    ap (filter_map (λ maker. some_asked maker (indices_of keys maker))) (sym (ranges-append a n 1 (suc n) (omega arith)))
    ∙ filter_map-append (λ maker. some_asked maker (indices_of keys maker)) (range_with_len a n) ((a + n) ∷ [])
    ∙ ap (λ l. filter_map (λ maker. some_asked maker (indices_of keys maker)) (range_with_len a n) ++ l) (one (some_asked (a + n) (indices_of keys (a + n))))
  where
    one : (o : Option Asked) → cons_option o [] ≡ option_to_list o
    one None = refl
    one (Some asked) = refl

pub asked_of-more : (n : ℕ) (keys : List Key) → asked_of (n + 1) keys ≡ asked_of n keys ++ option_to_list (some_asked n (indices_of keys n))
asked_of-more n keys =
    ap (λ m. asked_of m keys) (add-one n) ∙ asked-more 0 n keys
    ∙ ap (λ m. asked_of n keys ++ option_to_list (some_asked m (indices_of keys m))) (let e : 0 + n ≡ n = omega arith in e)

some : (maker : ℕ) (indices : List ℕ) → All (λ (a : Asked). 1 ≤ length a.indices) (option_to_list (some_asked maker indices))
some maker [] = λ k d lt. absurd (omega (arith, lt))
some maker (index ∷ indices) = All-cons (λ (a : Asked). 1 ≤ length a.indices)
    (record { maker = maker; indices = index ∷ indices }) [] (omega arith) (λ k d lt. absurd (omega (arith, lt)))

pub asks-some : (maker : ℕ) (indices : List ℕ) (all : List Asked) → All (λ (a : Asked). 1 ≤ length a.indices) all
    → All (λ (a : Asked). 1 ≤ length a.indices) (all ++ option_to_list (some_asked maker indices))
asks-some maker indices all are = All-append (λ (a : Asked). 1 ≤ length a.indices) all (option_to_list (some_asked maker indices)) are (some maker indices)

-- ---- who is asked

of_maker : (maker : ℕ) (indices : List ℕ) → All (λ (a : Asked). a.maker < maker + 1) (option_to_list (some_asked maker indices))
of_maker maker [] = λ k d lt. absurd (omega (arith, lt))
of_maker maker (index ∷ indices) =
    All-cons (λ (a : Asked). a.maker < maker + 1) (record { maker = maker; indices = index ∷ indices }) [] (omega arith) (λ k d lt. absurd (omega (arith, lt)))

-- only nodes are asked
pub asked-below : (nodes : ℕ) (keys : List Key) → All (λ (a : Asked). a.maker < nodes) (asked_of nodes keys)
asked-below zero keys = λ k d lt. absurd (omega (arith, lt))
asked-below (suc n) keys =
    subst (λ m. All (λ (a : Asked). a.maker < m) (asked_of m keys)) (add-one n)
    (subst (All (λ (a : Asked). a.maker < n + 1)) (sym (asked_of-more n keys))
    (All-append (λ (a : Asked). a.maker < n + 1) (asked_of n keys) (option_to_list (some_asked n (indices_of keys n)))
    (λ k d lt. let below : (slice_index_or (asked_of n keys) k d).maker < n = asked-below n keys k d lt in omega (arith, below))
    (of_maker n (indices_of keys n))))
