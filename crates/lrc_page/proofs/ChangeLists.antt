-- Lemmas on changes, for the crates above too.
use Rattle.std.proofs.Common.{ℕ, zero, suc, ◌≡◌, ◌≢◌, ◌+◌, ◌-◌, ◌<◌, ◌≤◌, ◌⊎◌, ◌∙◌, ◌↔◌, Bool, true, false, not, cond, eqb, List, [], ◌∷◌, ◌++◌}
use Rattle.std.proofs.Common.{length, map, get_or, set, take, Option, None, Some, refl, ap, subst, sym, inl, inr, ⊎_elim, arith}
use Rattle.std.specs.Prelude.{filter, unwrap_or, All, Contains, fold}
use Rattle.std.specs.Option.{option_or, ForSome}
use Rattle.std.specs.List.{enumerate_from}
use Rattle.std.proofs.lemmas.Bool.{and_parts, and_from, cases_eq, eqb-true, eqb-false, eq-eqb, ne_eqb, not-true}
use Rattle.std.proofs.lemmas.List.{length-map, length-set, length-take-le, take_more, map-append, append-nil, get_or-map, get_or-set_other}
use Rattle.std.proofs.lemmas.List.Elements.{filter-append, All-filter, filter_passes, All-contains, All-head, All-tail}
use Rattle.std.proofs.lemmas.List.FromFn.{length-enumerate_from, get_or-enumerate_from}
use Rattle.std.proofs.lemmas.List.Kept.{AllPairs-filter}
use Rattle.std.proofs.lemmas.List.Quantifiers.{all_pairs_push}
use Rattle.std.proofs.lemmas.Grind.{get_or-set_at, same_number_lists}
use Rattle.std.proofs.lemmas.Option.{cond_some, slice_get_within, get_or_from_slice_get, slice_get-get_or}
use Rattle.lrc_page.specs.declared.changes.Change.{Change}
use Rattle.std.specs.Cmp.Lexicographic.{pointwise, pointwise_decides}
use Rattle.lrc_page.specs.Changes.{same_change, every_word, changes_between, change_at, applied, last_change, IsAscending}

-- a change
abbrev pub change : ℕ → ℕ → Change
change offset value = record { offset = offset; value = value }

abbrev as_change : ℕ × ℕ → Change
as_change word = change word.0 word.1

pub same_parts : (c d : Change) → c.offset ≡ d.offset → c.value ≡ d.value → c ≡ d
same_parts c d offsets values = ap (λ n. change n c.value) offsets ∙ ap (λ v. change d.offset v) values

same_change-decides : (c d : Change) → (same_change c d ≡ true → c ≡ d) × (c ≡ d → same_change c d ≡ true)
same_change-decides c d = (
  (λ holds.
      let parts = and_parts (eqb c.offset d.offset) (eqb c.value d.value) holds in
      same_parts c d (eqb-true c.offset d.offset parts.0) (eqb-true c.value d.value parts.1)),
  (λ equal.
      and_from _ _ (eq-eqb c.offset d.offset (ap (λ (x : Change). x.offset) equal))
      (eq-eqb c.value d.value (ap (λ (x : Change). x.value) equal))),
)

-- the test of two lists tells whether they are the same
pub same_changes : (xs ys : List Change) → (pointwise same_change xs ys ≡ true → xs ≡ ys) × (xs ≡ ys → pointwise same_change xs ys ≡ true)
same_changes = pointwise_decides same_change-decides

-- ---- every word of a page

pub length-every_word : (page : List ℕ) → length (every_word page) ≡ length page
length-every_word page = length-map (enumerate_from 0 page) as_change ∙ length-enumerate_from 0 page

pub get_or-every_word : (page : List ℕ) (i : ℕ) (d : Change) → i < length page
    → get_or (every_word page) i d ≡ change i (get_or page i 0)
get_or-every_word page i d within =
    let long : i < length (enumerate_from 0 page) = omega (arith, length-enumerate_from 0 page) in
    get_or-map as_change (enumerate_from 0 page) i (0, 0) d long
    ∙ ap as_change (get_or-enumerate_from 0 page i (0, 0) within)
    ∙ ap (λ n. change n (get_or page i 0)) (omega arith)

pub contains-every_word : (page : List ℕ) (i : ℕ) → i < length page → Contains (every_word page) (change i (get_or page i 0))
contains-every_word page i within =
    (i, omega (arith, length-every_word page), get_or-every_word page i (change i (get_or page i 0)) within)

-- ---- a list of changes by offsets

-- a change to an offset, if it is the one asked for
abbrev here : Change → ℕ → Option ℕ
here c offset = cond (eqb c.offset offset) (Some c.value) None

option_or-none : (o : Option ℕ) → option_or o None ≡ o
option_or-none None = refl
option_or-none (Some x) = refl

option_or-assoc : (a b c : Option ℕ) → option_or (option_or a b) c ≡ option_or a (option_or b c)
option_or-assoc None b c = refl
option_or-assoc (Some x) b c = refl

pub change_at-append : (xs ys : List Change) (offset : ℕ)
    → change_at (xs ++ ys) offset ≡ option_or (change_at ys offset) (change_at xs offset)
change_at-append [] ys offset = sym (option_or-none (change_at ys offset))
change_at-append (x ∷ xs) ys offset =
    ap (λ o. option_or o (here x offset)) (change_at-append xs ys offset)
    ∙ option_or-assoc (change_at ys offset) (change_at xs offset) (here x offset)

-- an offset that no change names
pub change_at-unnamed : (cs : List Change) (offset : ℕ) → All (λ c. c.offset ≢ offset) cs → change_at cs offset ≡ None
change_at-unnamed [] offset others = refl
change_at-unnamed (c ∷ cs) offset others =
    rw (
      change_at-unnamed cs offset (All-tail (λ d. d.offset ≢ offset) c cs others),
      ne_eqb c.offset offset (All-head (λ d. d.offset ≢ offset) c cs others),
    ) refl

contains-first : (c : Change) (cs : List Change) (d : Change) → c ≡ d → Contains (c ∷ cs) d
contains-first c cs d same = (0, omega arith, same)

contains-later : (c : Change) (cs : List Change) (d : Change) → Contains cs d → Contains (c ∷ cs) d
contains-later c cs d member = (suc member.0, omega (arith, member.1), member.2)

option_or-some : (a b : Option ℕ) (v : ℕ) → option_or a b ≡ Some v → (a ≡ Some v) ⊎ ((a ≡ None) × (b ≡ Some v))
option_or-some None b v given = inr (refl, given)
option_or-some (Some x) b v given = inl given

option_cases : (o : Option ℕ) → (o ≡ None) ⊎ ((v : ℕ) × (o ≡ Some v))
option_cases None = inl refl
option_cases (Some v) = inr (v, refl)

-- what the changes give to an offset is one of them
pub contains-change_at : (cs : List Change) (offset value : ℕ) → change_at cs offset ≡ Some value
    → Contains cs (change offset value)
contains-change_at [] offset value given = absurd (cc)
contains-change_at (c ∷ cs) offset value given =
    ⊎_elim
    (λ (later : change_at cs offset ≡ Some value).
    contains-later c cs (change offset value) (contains-change_at cs offset value later))
    (λ (first : (change_at cs offset ≡ None) × (here c offset ≡ Some value)).
    let parts = cond_some (eqb c.offset offset) c.value value first.1 in
    let same : c.offset ≡ offset = eqb-true c.offset offset parts.0 in
    contains-first c cs (change offset value) (same_parts c (change offset value) same parts.1))
    (option_or-some (change_at cs offset) (here c offset) value given)

-- an offset that only changes with one value name
pub change_at-named : (cs : List Change) (offset value : ℕ)
    → All (λ c. c.offset ≡ offset → c.value ≡ value) cs → Contains cs (change offset value)
    → change_at cs offset ≡ Some value
change_at-named [] offset value only member = absurd (omega (arith, member.1))
change_at-named (c ∷ cs) offset value only (zero, within, same) =
    let named : c.offset ≡ offset = ap (λ (d : Change). d.offset) same in
    let given : c.value ≡ value = ap (λ (d : Change). d.value) same in
    ⊎_elim
    (λ (unnamed : change_at cs offset ≡ None). rw (unnamed, eq-eqb c.offset offset named) (ap Some given))
    (λ (later : (v : ℕ) × (change_at cs offset ≡ Some v)).
    let member : Contains cs (change offset later.0) = contains-change_at cs offset later.0 later.1 in
    let others = All-tail (λ (d : Change). d.offset ≡ offset → d.value ≡ value) c cs only in
    let agrees = All-contains (λ (d : Change). d.offset ≡ offset → d.value ≡ value) cs (change offset later.0) others member refl in
    rw later.1 (ap Some agrees))
    (option_cases (change_at cs offset))
change_at-named (c ∷ cs) offset value only (suc k, within, same) =
    let others = All-tail (λ (d : Change). d.offset ≡ offset → d.value ≡ value) c cs only in
    rw (change_at-named cs offset value others (k, omega (arith, within), same)) refl

-- ---- what the changes do to a page

pub length-applied : (page : List ℕ) (cs : List Change) → length (applied page cs) ≡ length page
length-applied page cs = length-map (every_word page) (λ c. unwrap_or (change_at cs c.offset) c.value) ∙ length-every_word page

pub get_or-applied : (page : List ℕ) (cs : List Change) (offset : ℕ) → offset < length page
    → get_or (applied page cs) offset 0 ≡ unwrap_or (change_at cs offset) (get_or page offset 0)
get_or-applied page cs offset within =
    get_or-map (λ (c : Change). unwrap_or (change_at cs c.offset) c.value) (every_word page) offset (change 0 0) 0
    (omega (arith, length-every_word page))
    ∙ ap (λ (c : Change). unwrap_or (change_at cs c.offset) c.value) (get_or-every_word page offset (change 0 0) within)

pub applied-nil : (page : List ℕ) → applied page [] ≡ page
applied-nil page = same_number_lists _ _ (length-applied page []) (λ k h. get_or-applied page [] k (omega (arith, length-applied page [])))

unwrap_or-option_or : (a b : Option ℕ) (d : ℕ) → unwrap_or (option_or a b) d ≡ unwrap_or a (unwrap_or b d)
unwrap_or-option_or None b d = refl
unwrap_or-option_or (Some x) b d = refl

-- to apply one list of changes after another is to apply both as one list
pub applied-append : (page : List ℕ) (xs ys : List Change) → applied page (xs ++ ys) ≡ applied (applied page xs) ys
applied-append page xs ys =
    let long = length-applied page xs in
    same_number_lists _ _
    (length-applied page (xs ++ ys) ∙ sym (length-applied (applied page xs) ys ∙ long))
    (λ k h.
    let within : k < length page = omega (arith, length-applied page (xs ++ ys)) in
    get_or-applied page (xs ++ ys) k within
    ∙ ap (λ o. unwrap_or o (get_or page k 0)) (change_at-append xs ys k)
    ∙ unwrap_or-option_or (change_at ys k) (change_at xs k) (get_or page k 0)
    ∙ ap (λ v. unwrap_or (change_at ys k) v) (sym (get_or-applied page xs k within))
    ∙ sym (get_or-applied (applied page xs) ys k (omega arith)))

-- to apply one change is to write it
pub applied-one : (page : List ℕ) (c : Change) → applied page (c ∷ []) ≡ set page c.offset c.value
applied-one page c =
    same_number_lists _ _ (length-applied page (c ∷ []) ∙ sym (length-set page c.offset c.value))
    (λ k h.
    let within : k < length page = omega (arith, length-applied page (c ∷ [])) in
    get_or-applied page (c ∷ []) k within
    ∙ ⊎_elim
    (λ (same : c.offset ≡ k).
    let at_k : get_or (set page c.offset c.value) k 0 ≡ c.value = get_or-set_at page c.offset k c.value 0 (sym same) (omega arith) in
    rw (eq-eqb c.offset k same) (sym at_k))
    (λ (other : c.offset ≡ k → ⊥).
    rw (ne_eqb c.offset k other) (sym (get_or-set_other page c.offset k c.value 0 (λ e. other (sym e)))))
    (cases_eq c.offset k))

-- to apply one change more is to write it too
pub applied-push : (page : List ℕ) (cs : List Change) (c : Change)
    → applied page (cs ++ c ∷ []) ≡ set (applied page cs) c.offset c.value
applied-push page cs c = applied-append page cs (c ∷ []) ∙ applied-one (applied page cs) c

-- a page to which the changes were written so far is as long as before
pub length-applied-so_far : (start page : List ℕ) (cs : List Change) (k : ℕ) → page ≡ applied start (take k cs)
    → length page ≡ length start
length-applied-so_far start page cs k so_far = ap length so_far ∙ length-applied start (take k cs)

-- several lists of changes, one after another, word by word
pub length-fold-applied : (page : List ℕ) (lists : List (List Change)) → length (fold applied page lists) ≡ length page
length-fold-applied page [] = refl
length-fold-applied page (cs ∷ lists) = length-fold-applied (applied page cs) lists ∙ length-applied page cs

pub get_or-fold-applied : (page : List ℕ) (lists : List (List Change)) (offset : ℕ) → offset < length page
    → get_or (fold applied page lists) offset 0
    ≡ fold (λ value cs. unwrap_or (change_at cs offset) value) (get_or page offset 0) lists
get_or-fold-applied page [] offset within = refl
get_or-fold-applied page (cs ∷ lists) offset within =
    get_or-fold-applied (applied page cs) lists offset (omega (arith, length-applied page cs))
    ∙ ap (λ start. fold (λ value ds. unwrap_or (change_at ds offset) value) start lists) (get_or-applied page cs offset within)

-- a loop that writes the changes in turn, one turn on
pub applied-more : (start before after : List ℕ) (cs : List Change) (k : ℕ) (d : Change) → k < length cs
    → before ≡ applied start (take k cs) → after ≡ set before (get_or cs k d).offset (get_or cs k d).value
    → after ≡ applied start (take (k + 1) cs)
applied-more start before after cs k d within so_far written =
    let c = get_or cs k d in
    written
    ∙ ap (λ page. set page c.offset c.value) so_far
    ∙ sym (applied-push start (take k cs) c)
    ∙ ap (applied start) (sym (take_more cs k d within))

-- ---- the changes between a twin and a page

-- the twin has another value at the change's offset
abbrev differs : List ℕ → Change → Bool
differs twin c = not (eqb (get_or twin c.offset 0) c.value)

contains-filter : (p : Change → Bool) (cs : List Change) (c : Change) → p c ≡ true → Contains cs c → Contains (filter p cs) c
contains-filter p [] c passes member = absurd (omega (arith, member.1))
contains-filter p (x ∷ xs) c passes (zero, within, same) =
    let first : p x ≡ true = ap p same ∙ passes in
    rw first (contains-first x (filter p xs) c same)
contains-filter p (x ∷ xs) c passes (suc k, within, same) =
    let later : Contains (filter p xs) c = contains-filter p xs c passes (k, omega (arith, within), same) in
    elim (p x) as (λ b. Contains (cond b (x ∷ filter p xs) (filter p xs)) c)
    [ true ↦ contains-later x (filter p xs) c later | false ↦ later ]

-- a change to a word has the page's value there
abbrev IsOf : List ℕ → Change → Type 0
IsOf page c = (c.offset < length page) × (c.value ≡ get_or page c.offset 0)

each-every_word : (page : List ℕ) → All (IsOf page) (every_word page)
each-every_word page k d h =
    let within : k < length page = omega (arith, length-every_word page) in
    rw (get_or-every_word page k d within) (within, refl)

ascending-every_word : (page : List ℕ) → IsAscending (every_word page)
ascending-every_word page i j d before within =
    let second : j < length page = omega (arith, length-every_word page) in
    rw (get_or-every_word page i d (omega arith), get_or-every_word page j d second) before

pub ascending-between : (twin page : List ℕ) → IsAscending (changes_between twin page)
ascending-between twin page =
    AllPairs-filter (λ (c d : Change). c.offset < d.offset) (differs twin) (every_word page) (ascending-every_word page)

-- a change to a word has the page's value there, and the twin has another
abbrev pub IsDifference : List ℕ → List ℕ → Change → Type 0
IsDifference twin page c =
    (c.offset < length page) × (c.value ≡ get_or page c.offset 0) × (get_or twin c.offset 0 ≢ c.value)

pub each-between : (twin page : List ℕ) → All (IsDifference twin page) (changes_between twin page)
each-between twin page k d h =
    let of_page = All-filter (differs twin) (IsOf page) (every_word page) (each-every_word page) k d h in
    let passes = filter_passes (differs twin) (every_word page) k d h in
    (of_page.0, of_page.1, eqb-false _ _ (not-true _ passes))

-- the changes between a twin and a page name no offset at which the two agree
pub change_at-between_same : (twin page : List ℕ) (offset : ℕ) → get_or twin offset 0 ≡ get_or page offset 0
    → change_at (changes_between twin page) offset ≡ None
change_at-between_same twin page offset same =
    change_at-unnamed (changes_between twin page) offset
    (λ k d h named.
    let facts = each-between twin page k d h in
    facts.2 (ap (λ n. get_or twin n 0) named ∙ same ∙ ap (λ n. get_or page n 0) (sym named) ∙ sym facts.1))

-- they give the page's value where the two differ
pub change_at-between_differs : (twin page : List ℕ) (offset : ℕ) → offset < length page
    → get_or twin offset 0 ≢ get_or page offset 0
    → change_at (changes_between twin page) offset ≡ Some (get_or page offset 0)
change_at-between_differs twin page offset within differ =
    change_at-named (changes_between twin page) offset (get_or page offset 0)
    (λ k d h named. let facts = each-between twin page k d h in facts.1 ∙ ap (λ n. get_or page n 0) named)
    (contains-filter (differs twin) (every_word page) (change offset (get_or page offset 0))
    (ap not (ne_eqb _ _ differ)) (contains-every_word page offset within))

-- they turn the twin into the page
pub applied-between : (twin page : List ℕ) → length twin ≡ length page → applied twin (changes_between twin page) ≡ page
applied-between twin page long =
    same_number_lists _ _ (length-applied twin (changes_between twin page) ∙ long)
    (λ k h.
    let within : k < length twin = omega (arith, length-applied twin (changes_between twin page)) in
    get_or-applied twin (changes_between twin page) k within
    ∙ ⊎_elim
    (λ (same : get_or twin k 0 ≡ get_or page k 0). rw (change_at-between_same twin page k same) same)
    (λ (differ : get_or twin k 0 ≡ get_or page k 0 → ⊥).
    rw (change_at-between_differs twin page k (omega arith) differ) refl)
    (cases_eq (get_or twin k 0) (get_or page k 0)))

-- they are the differences, and nothing else
pub contains-between : (twin page : List ℕ) (offset value : ℕ)
    → Contains (changes_between twin page) (change offset value)
    ↔ ((offset < length page) × (get_or page offset 0 ≡ value) × (get_or twin offset 0 ≢ value))
contains-between twin page offset value = (
  (λ member.
      let facts = All-contains (IsDifference twin page) (changes_between twin page) (change offset value) (each-between twin page) member in
      (facts.0, sym facts.1, facts.2)),
  (λ facts.
      contains-filter (differs twin) (every_word page) (change offset value) (ap not (ne_eqb _ _ facts.2))
      (rw (← facts.1) (contains-every_word page offset facts.0))),
)

-- ---- the changes found so far

pub enumerate_from-push : {X : Type 0} (n : ℕ) (xs : List X) (x : X)
    → enumerate_from n (xs ++ x ∷ []) ≡ enumerate_from n xs ++ (n + length xs, x) ∷ []
enumerate_from-push n [] x = let k : n ≡ n + 0 = omega arith in ap (λ i. (i, x) ∷ []) k
enumerate_from-push n (y ∷ ys) x =
    let place : (n + 1) + length ys ≡ n + suc (length ys) = omega arith in
    ap (λ l. (n, y) ∷ l)
    (enumerate_from-push (n + 1) ys x ∙ ap (λ i. enumerate_from (n + 1) ys ++ (i, x) ∷ []) place)

every_word-push : (page : List ℕ) (value : ℕ) → every_word (page ++ value ∷ []) ≡ every_word page ++ change (length page) value ∷ []
every_word-push page value =
    let place : 0 + length page ≡ length page = omega arith in
    ap (map as_change) (enumerate_from-push 0 page value)
    ∙ map-append as_change (enumerate_from 0 page) ((0 + length page, value) ∷ [])
    ∙ ap (λ i. every_word page ++ change i value ∷ []) place

changes_between-push : (twin page : List ℕ) (value : ℕ)
    → changes_between twin (page ++ value ∷ []) ≡ changes_between twin page ++ filter (differs twin) (change (length page) value ∷ [])
changes_between-push twin page value =
    ap (filter (differs twin)) (every_word-push page value)
    ∙ filter-append (differs twin) (every_word page) (change (length page) value ∷ [])

changes_between-more : (twin page : List ℕ) (i : ℕ) → i < length page
    → changes_between twin (take (i + 1) page) ≡ changes_between twin (take i page) ++ filter (differs twin) (change i (get_or page i 0) ∷ [])
changes_between-more twin page i within =
    ap (changes_between twin) (take_more page i 0 within)
    ∙ changes_between-push twin (take i page) (get_or page i 0)
    ∙ ap (λ n. changes_between twin (take i page) ++ filter (differs twin) (change n (get_or page i 0) ∷ []))
    (length-take-le i page (omega arith))

-- one word more, where twin and page agree
pub changes_between-more_same : (twin page : List ℕ) (i : ℕ) → i < length page → get_or twin i 0 ≡ get_or page i 0
    → changes_between twin (take (i + 1) page) ≡ changes_between twin (take i page)
changes_between-more_same twin page i within same =
    changes_between-more twin page i within
    ∙ ap (λ b. changes_between twin (take i page) ++ cond b (change i (get_or page i 0) ∷ []) []) (ap not (eq-eqb _ _ same))
    ∙ append-nil (changes_between twin (take i page))

-- one word more, where they differ
pub changes_between-more_differs : (twin page : List ℕ) (i : ℕ) → i < length page → get_or twin i 0 ≢ get_or page i 0
    → changes_between twin (take (i + 1) page) ≡ changes_between twin (take i page) ++ change i (get_or page i 0) ∷ []
changes_between-more_differs twin page i within differ =
    changes_between-more twin page i within
    ∙ ap (λ b. changes_between twin (take i page) ++ cond b (change i (get_or page i 0) ∷ []) []) (ap not (ne_eqb _ _ differ))

-- ---- the last change

-- where all offsets are below one, the last is
pub last_below : (cs : List Change) (offset : ℕ) → All (λ c. c.offset < offset) cs
    → ForSome (last_change cs) (λ c. c.offset < offset)
last_below cs offset below last is =
    let place = length cs - 1 in
    let within : place < length cs = slice_get_within cs place last is in
    let read : get_or cs place last ≡ last = get_or_from_slice_get cs place last last is in
    let P : Change → Type 0 = λ c. c.offset < offset in
    subst P read (below place last within)

-- where the last of ascending offsets is below one, all are
pub all_below : (cs : List Change) (offset : ℕ) → IsAscending cs → ForSome (last_change cs) (λ c. c.offset < offset)
    → All (λ c. c.offset < offset) cs
all_below cs offset ascends below k d h =
    let last = get_or cs (length cs - 1) d in
    let last_is : last.offset < offset = below last (slice_get-get_or cs (length cs - 1) d (omega arith)) in
    ⊎_elim
    (λ (here_last : k ≡ length cs - 1). rw here_last last_is)
    (λ (earlier : k ≡ length cs - 1 → ⊥).
    let less : (get_or cs k d).offset < last.offset = ascends k (length cs - 1) d (omega arith) (omega arith) in
    omega arith)
    (cases_eq k (length cs - 1))

pub ascending-push : (cs : List Change) (offset value : ℕ) → IsAscending cs
    → ForSome (last_change cs) (λ c. c.offset < offset) → IsAscending (cs ++ change offset value ∷ [])
ascending-push cs offset value ascends below =
    all_pairs_push (λ (c d : Change). c.offset < d.offset) cs (change offset value) ascends (all_below cs offset ascends below)

-- the last change found among the first words is one of them
pub last_between_below : (twin page : List ℕ) (i : ℕ) → i ≤ length page
    → ForSome (last_change (changes_between twin (take i page))) (λ c. c.offset < i)
last_between_below twin page i within =
    last_below (changes_between twin (take i page)) i
    (λ k d h. omega (arith, (each-between twin (take i page) k d h).0, length-take-le i page within))
