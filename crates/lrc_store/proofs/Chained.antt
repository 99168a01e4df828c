-- Lemmas on lists that run through an arena.
use Rattle.std.proofs.Common.{◌≡◌, ◌≢◌, ℕ, zero, suc, ◌+◌, ◌<◌, ◌≤◌, ◌∙◌, Bool, true, false, cond, eqb, Option, None, Some, List}
use Rattle.std.proofs.Common.{[], ◌∷◌, ◌++◌, length, get_or, set, map, take, refl, ap, sym, subst, ⊎_elim, arith}
use Rattle.std.specs.List.{All, filter}
use Rattle.std.specs.Option.{option_or}
use Rattle.std.proofs.lemmas.Bool.{cases_eq, cases_lt, eq-eqb, ne_eqb}
use Rattle.std.proofs.lemmas.List.{get_or_push, get_or_append_left, get_or-set_same, get_or-set_other, length-map, length-set, length-append}
use Rattle.std.proofs.lemmas.List.{get_or-map, map_push, take_more, take_all, take-append-le, length-take-le, get_or_default, append-nil}
use Rattle.std.proofs.lemmas.List.Elements.{All-head, All-tail, All-push, All-weaker, filter-append}
use Rattle.lrc_store.specs.declared.chains.Entry.{Entry}
use Rattle.lrc_store.specs.declared.chains.TheConstants.{MOST_ENTRIES}
use Rattle.lrc_store.specs.Chains.{last_from, last_at}
use Rattle.lrc_store.specs.Linked.{IsLinked, keys_of_entries}

module _ {X : Type 0} (test : X → Bool) where
  last_or : (b c : Bool) (here next : ℕ) (rest : Option ℕ)
      → option_or (cond b (Some next) rest) (cond c (Some here) None) ≡ cond b (Some next) (option_or rest (cond c (Some here) None))
  last_or true c here next rest = refl
  last_or false c here next rest = refl

  last_from-push : (start : ℕ) (xs : List X) (x : X)
      → last_from test start (xs ++ x ∷ []) ≡ cond (test x) (Some (start + length xs)) (last_from test start xs)
  last_from-push start [] x = ap (λ n. cond (test x) (Some n) None) (omega arith)
  last_from-push start (y ∷ ys) x =
      ap (λ v. option_or v (cond (test y) (Some start) None)) (last_from-push (start + 1) ys x)
      ∙ last_or (test x) (test y) start (start + 1 + length ys) (last_from test (start + 1) ys)
      ∙ ap (λ n. cond (test x) (Some n) (last_from test start (y ∷ ys))) (omega arith)

  -- one element more
  pub last_at-push : (xs : List X) (x : X)
      → last_at test (xs ++ x ∷ []) ≡ cond (test x) (Some (length xs)) (last_at test xs)
  last_at-push xs x = last_from-push 0 xs x ∙ ap (λ n. cond (test x) (Some n) (last_at test xs)) (omega arith)

  pub last_at-push_here : (xs : List X) (x : X) → test x ≡ true → last_at test (xs ++ x ∷ []) ≡ Some (length xs)
  last_at-push_here xs x passes = last_at-push xs x ∙ ap (λ b. cond b (Some (length xs)) (last_at test xs)) passes

  pub last_at-push_other : (xs : List X) (x : X) → test x ≡ false → last_at test (xs ++ x ∷ []) ≡ last_at test xs
  last_at-push_other xs x fails = last_at-push xs x ∙ ap (λ b. cond b (Some (length xs)) (last_at test xs)) fails

  -- where nothing passes there is no last
  last_from-none : (start : ℕ) (xs : List X) → All (λ x. test x ≡ false) xs → last_from test start xs ≡ None
  last_from-none start [] fails = refl
  last_from-none start (x ∷ xs) fails =
      ap (λ v. option_or v (cond (test x) (Some start) None)) (last_from-none (start + 1) xs (All-tail (λ y. test y ≡ false) x xs fails))
      ∙ ap (λ b. cond b (Some start) None) (All-head (λ y. test y ≡ false) x xs fails)

  pub last_at-none : (xs : List X) → All (λ x. test x ≡ false) xs → last_at test xs ≡ None
  last_at-none xs fails = last_from-none 0 xs fails

-- a key beyond all has no entry
pub last_at-beyond : (newest : List (Option ℕ)) (entries : List Entry) (key : ℕ) → IsLinked newest entries
    → length newest ≤ key → last_at (λ other. eqb other key) (keys_of_entries entries) ≡ None
last_at-beyond newest entries key linked beyond =
    last_at-none (λ other. eqb other key) (keys_of_entries entries)
    (λ k d h.
    let inside : k < length entries = omega (arith, length-map entries (λ (entry : Entry). entry.key)) in
    let none : Entry = record { key = d; next = None } in
    let here : get_or (keys_of_entries entries) k d ≡ (get_or entries k none).key = get_or-map (λ (entry : Entry). entry.key) entries k none d inside in
    let below = linked.in_range k none inside in
    ne_eqb _ key (λ same. omega (arith, here, below)))

-- ---- an entry more

abbrev pub entry_with : ℕ → Option ℕ → Entry
entry_with key next = record { key = key; next = next }

pub IsLinked-push : (newest : List (Option ℕ)) (entries : List Entry) (key at : ℕ) (next : Option ℕ)
    → IsLinked newest entries → length entries < MOST_ENTRIES → key < length newest → at ≡ length entries → next ≡ get_or newest key next
    → IsLinked (set newest key (Some at)) (entries ++ entry_with key next ∷ [])
IsLinked-push newest entries key at next linked few within is_at is_next =
    let keys = keys_of_entries entries in
    let count : length keys ≡ length entries = length-map entries (λ entry. entry.key) in
    let long = length-set newest key (Some at) in
    let pushed : keys_of_entries (entries ++ entry_with key next ∷ []) ≡ keys ++ key ∷ [] =
    map_push (λ (entry : Entry). entry.key) entries (entry_with key next) in
    record {
      few = omega (arith, few, length-append entries (entry_with key next ∷ []));
      in_range =
          All-push (λ entry. entry.key < length (set newest key (Some at))) entries (entry_with key next)
          (All-weaker (λ entry. entry.key < length newest) (λ entry. entry.key < length (set newest key (Some at)))
          (λ entry h. omega (arith, long, h)) entries linked.in_range)
          (omega (arith, long));
      heads = λ k d k_in.
          rw pushed (⊎_elim
          (λ (same : k ≡ key).
          let written : get_or (set newest key (Some at)) k d ≡ Some at =
          ap (λ n. get_or (set newest key (Some at)) n d) same ∙ get_or-set_same newest key (Some at) d within in
          written ∙ ap Some (is_at ∙ sym count)
          ∙ sym (last_at-push_here (λ other. eqb other k) keys key (eq-eqb key k (sym same))))
          (λ (other : k ≢ key).
          get_or-set_other newest key k (Some at) d other
          ∙ linked.heads k d (omega (arith, long))
          ∙ sym (last_at-push_other (λ other. eqb other k) keys key (ne_eqb key k (λ same. other (sym same)))))
          (cases_eq k key));
      links = λ i d i_in.
          rw pushed (⊎_elim
          (λ (old : i < length entries).
          let here : get_or (entries ++ entry_with key next ∷ []) i d ≡ get_or entries i d = get_or_append_left entries (entry_with key next ∷ []) d i old in
          let front : take i (keys ++ key ∷ []) ≡ take i keys = take-append-le i keys (key ∷ []) (omega (arith, count)) in
          ap (λ (e : Entry). e.next) here
          ∙ linked.links i d old
          ∙ ap (λ (l : List ℕ). last_at (λ other. eqb other (get_or entries i d).key) l) (sym front)
          ∙ ap (λ (e : Entry). last_at (λ other. eqb other e.key) (take i (keys ++ key ∷ []))) (sym here))
          (λ (new : length entries ≤ i).
          let last : i ≡ length entries = omega (arith, length-append entries (entry_with key next ∷ [])) in
          let here : get_or (entries ++ entry_with key next ∷ []) i d ≡ entry_with key next = get_or_push entries (entry_with key next) d i (sym last) in
          let front : take i (keys ++ key ∷ []) ≡ keys =
          take-append-le i keys (key ∷ []) (omega (arith, count)) ∙ take_all i keys (omega (arith, count)) in
          ap (λ (e : Entry). e.next) here
          ∙ is_next ∙ linked.heads key next within
          ∙ ap (λ (l : List ℕ). last_at (λ other. eqb other key) l) (sym front)
          ∙ ap (λ (e : Entry). last_at (λ other. eqb other e.key) (take i (keys ++ key ∷ []))) (sym here))
          (cases_lt i (length entries)));
    }

-- ---- along a list

-- how many entries there are up to this one
abbrev pub reach : Option ℕ → ℕ
reach None = 0
reach (Some at) = suc at

-- the last element whose image passes
last_from-map : {X Y : Type 0} (test : Y → Bool) (f : X → Y) (start : ℕ) (xs : List X)
    → last_from test start (map f xs) ≡ last_from (λ x. test (f x)) start xs
last_from-map test f start [] = refl
last_from-map test f start (x ∷ xs) =
    ap (λ v. option_or v (cond (test (f x)) (Some start) None)) (last_from-map test f (start + 1) xs)

pub last_at-map : {X Y : Type 0} (test : Y → Bool) (f : X → Y) (xs : List X)
    → last_at test (map f xs) ≡ last_at (λ x. test (f x)) xs
last_at-map test f xs = last_from-map test f 0 xs

-- what the place of the last that passes says of the first elements: nothing after it passes
abbrev pub Reaches : {X : Type 0} → (X → Bool) → (X → Bool) → List X → ℕ → Option ℕ → Type 0
Reaches test picked xs n None = filter picked (take n xs) ≡ []
Reaches test picked xs n (Some at) =
    (at < n) × ((d : _) → test (get_or xs at d) ≡ true) × (filter picked (take n xs) ≡ filter picked (take (at + 1) xs))

module _ {X : Type 0} (test picked : X → Bool) (narrow : (x : X) → test x ≡ false → picked x ≡ false) (xs : List X) (e : X) where
  reaches_more : (n : ℕ) → n < length xs → Reaches test picked xs n (last_at test (take n xs))
      → (b : Bool) → test (get_or xs n e) ≡ b → Reaches test picked xs (n + 1) (last_at test (take (n + 1) xs))
  reaches_more n within before true passes =
      let more : take (n + 1) xs ≡ take n xs ++ get_or xs n e ∷ [] = take_more xs n e within in
      let last : last_at test (take (n + 1) xs) ≡ Some n =
      ap (last_at test) more ∙ last_at-push_here test (take n xs) (get_or xs n e) passes ∙ ap Some (length-take-le n xs (omega arith)) in
      subst (Reaches test picked xs (n + 1)) (sym last)
      (omega arith, (λ d. ap test (get_or_default xs n d e within) ∙ passes), refl)
  reaches_more n within before false fails =
      let more : take (n + 1) xs ≡ take n xs ++ get_or xs n e ∷ [] = take_more xs n e within in
      let last : last_at test (take (n + 1) xs) ≡ last_at test (take n xs) =
      ap (last_at test) more ∙ last_at-push_other test (take n xs) (get_or xs n e) fails in
      let same : filter picked (take (n + 1) xs) ≡ filter picked (take n xs) =
      ap (filter picked) more ∙ filter-append picked (take n xs) (get_or xs n e ∷ [])
      ∙ ap (λ b. filter picked (take n xs) ++ cond b (get_or xs n e ∷ []) []) (narrow (get_or xs n e) fails)
      ∙ append-nil (filter picked (take n xs)) in
      subst (Reaches test picked xs (n + 1)) (sym last) (longer (last_at test (take n xs)) same before)
    where
      longer : (r : Option ℕ) → filter picked (take (n + 1) xs) ≡ filter picked (take n xs) → Reaches test picked xs n r
          → Reaches test picked xs (n + 1) r
      longer None same h = same ∙ h
      longer (Some at) same h = (omega (arith, h.0), h.1, same ∙ h.2)

  pub reaches : (n : ℕ) → n ≤ length xs → Reaches test picked xs n (last_at test (take n xs))
  reaches zero within = refl
  reaches (suc n) within =
      let here = reaches_more n (omega arith) (reaches n (omega arith)) (test (get_or xs n e)) refl in
      let next : n + 1 ≡ suc n = omega arith in
      subst (λ m. Reaches test picked xs m (last_at test (take m xs))) next here

  -- one element is picked or not
  pub picked_more : (at : ℕ) (b : Bool) → at < length xs → picked (get_or xs at e) ≡ b
      → filter picked (take (at + 1) xs) ≡ filter picked (take at xs) ++ cond b (get_or xs at e ∷ []) []
  picked_more at b within is =
      ap (filter picked) (take_more xs at e within) ∙ filter-append picked (take at xs) (get_or xs at e ∷ [])
      ∙ ap (λ v. filter picked (take at xs) ++ cond v (get_or xs at e ∷ []) []) is

-- the last of the first n elements is one of them
reach_of : {X : Type 0} (test : X → Bool) (xs : List X) (n : ℕ) (next : Option ℕ) → Reaches test test xs n next → reach next ≤ n
reach_of test xs n None h = omega arith
reach_of test xs n (Some at) h = omega (arith, h.0)

pub reach-taken : {X : Type 0} (test : X → Bool) (xs : List X) (e : X) (n : ℕ) → n ≤ length xs
    → reach (last_at test (take n xs)) ≤ n
reach-taken test xs e n within =
    reach_of test xs n (last_at test (take n xs)) (reaches test test (λ x fails. fails) xs e n within)
