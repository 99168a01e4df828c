-- Where items lie: one behind the other.
use Rattle.std.proofs.Common.{◌≡◌, ◌≤◌, ◌<◌, ◌+◌, ℕ, zero, suc, Bool, true, false, not, cond, List, [], ◌∷◌, ◌++◌, refl, sym, ap, subst, ◌∙◌, arith, inl, inr}
use Rattle.std.specs.Prelude.{Option, Some, None, option_map, slice_get}
use Rattle.std.specs.Str.{bytes_eq}
use Rattle.std.proofs.lemmas.Bool.{cases_order}
use Rattle.lrc_named_names.specs.Elements.{elements}
use Rattle.lrc_named_names.specs.Names.{Declared, Item, Meaning, constant, shared, lock, function, meaning_at, meaning_of, place_of}
use Rattle.lrc_named_constants.specs.Layout.{locks_in, locks_of, words_in, words_of}
use Rattle.lrc_named_address_laws.specs.Elements.{AreWithin, element_at}
use Rattle.lrc_named_address_laws.proofs.Places.{element_unique, element_within}
use Rattle.lrc_named_laws.proofs.Counting.{same_bytes}

-- the items of a kind: shared ones, and locks
abbrev pub shared_item : Meaning → Option Item
shared_item (constant n) = None
shared_item (shared item) = Some item
shared_item (lock item) = None
shared_item (function parameters body) = None

abbrev pub lock_item : Meaning → Option Item
lock_item (constant n) = None
lock_item (shared item) = None
lock_item (lock item) = Some item
lock_item (function parameters body) = None

-- how many words or locks an item has
abbrev pub room_of : Option Item → ℕ
room_of None = 0
room_of (Some item) = elements item.sizes

-- an item begins here
abbrev pub BeginsAt : ℕ → Option Item → Type 0
BeginsAt start None = Unit {0}
BeginsAt start (Some item) = item.first ≡ start

-- ---- by their names

-- what stands at the place of a name has this name
record IsNamed (declared : List Declared) (name : List ℕ) : Type 0 where
  found : Declared
  stands : slice_get declared (place_of declared name) ≡ Some found
  spelled : found.name ≡ name

behind_first : (d : Declared) (ds : List Declared) (n : ℕ) → slice_get (d ∷ ds) (1 + n) ≡ slice_get ds n
behind_first d ds n = let e : 1 + n ≡ suc n = omega arith in ap (λ i. slice_get (d ∷ ds) i) e

named_by : (d : Declared) (ds : List Declared) (name : List ℕ) (m : Meaning) (b : Bool) → bytes_eq d.name name ≡ b
    → (meaning_of ds name ≡ Some m → IsNamed ds name) → meaning_of (d ∷ ds) name ≡ Some m → IsNamed (d ∷ ds) name
named_by d ds name m true is rest means =
    let first : place_of (d ∷ ds) name ≡ 0 = ap (λ b. cond (not b) (1 + place_of ds name) 0) is in
    record { found = d; stands = ap (slice_get (d ∷ ds)) first; spelled = same_bytes d.name name is }
named_by d ds name m false is rest means =
    let behind : place_of (d ∷ ds) name ≡ 1 + place_of ds name = ap (λ b. cond (not b) (1 + place_of ds name) 0) is in
    let on : slice_get (d ∷ ds) (place_of (d ∷ ds) name) ≡ slice_get ds (place_of ds name) =
    ap (slice_get (d ∷ ds)) behind ∙ behind_first d ds (place_of ds name) in
    let h = rest (ap (option_map (λ (x : Declared). x.meaning)) (sym on) ∙ means) in
    record { found = h.found; stands = on ∙ h.stands; spelled = h.spelled }

named_at : (declared : List Declared) (name : List ℕ) (m : Meaning) → meaning_of declared name ≡ Some m → IsNamed declared name
named_at [] name m means = absurd (cc)
named_at (d ∷ ds) name m means = named_by d ds name m (bytes_eq d.name name) refl (λ h. named_at ds name m h) means

one_found : (d e : Declared) → Some d ≡ Some e → d ≡ e
one_found d e same = cc

same_name : (declared : List Declared) (name other : List ℕ) (m n : Meaning) → meaning_of declared name ≡ Some m → meaning_of declared other ≡ Some n
    → place_of declared name ≡ place_of declared other → name ≡ other
same_name declared name other m n means there one =
    let h = named_at declared name m means in
    let k = named_at declared other n there in
    let same : h.found ≡ k.found = one_found h.found k.found (sym h.stands ∙ ap (slice_get declared) one ∙ k.stands) in
    sym h.spelled ∙ ap (λ (d : Declared). d.name) same ∙ k.spelled

-- ---- of one kind

module _ (of_kind : Meaning → Option Item) where
  abbrev pub room_in : List Declared → ℕ
  room_in [] = 0
  room_in (d ∷ declared) = room_of (of_kind d.meaning) + room_in declared

  -- each item of the kind begins behind those before it
  abbrev pub AreInOrder : ℕ → List Declared → Type 0
  AreInOrder start [] = Unit {0}
  AreInOrder start (d ∷ declared) = BeginsAt start (of_kind d.meaning) × AreInOrder (start + room_of (of_kind d.meaning)) declared

  order_more : (start : ℕ) (declared : List Declared) (d : Declared) → AreInOrder start declared
      → BeginsAt (start + room_in declared) (of_kind d.meaning) → AreInOrder start (declared ++ d ∷ [])
  order_more start [] d order last = (subst (λ n. BeginsAt n (of_kind d.meaning)) (let e : start + 0 ≡ start = omega arith in e) last, tt)
  order_more start (x ∷ declared) d order last =
      let room = room_of (of_kind x.meaning) in
      let e : start + (room + room_in declared) ≡ start + room + room_in declared = omega arith in
      (order.0, order_more (start + room) declared d order.1 (subst (λ n. BeginsAt n (of_kind d.meaning)) e last))

  pub order_next : (declared : List Declared) (d : Declared) → AreInOrder 0 declared → BeginsAt (room_in declared) (of_kind d.meaning)
      → AreInOrder 0 (declared ++ d ∷ [])
  order_next declared d order last =
      order_more 0 declared d order (subst (λ n. BeginsAt n (of_kind d.meaning)) (let e : room_in declared ≡ 0 + room_in declared = omega arith in e) last)

  begins : (start : ℕ) (o : Option Item) (item : Item) → BeginsAt start o → o ≡ Some item → (item.first ≡ start) × (room_of o ≡ elements item.sizes)
  begins start (Some other) item here is = let same : other ≡ item = cc in (ap (λ (i : Item). i.first) (sym same) ∙ here, ap (λ (i : Item). elements i.sizes) same)
  begins start None item here is = absurd (cc)

  abbrev Stands : List Declared → ℕ → Item → Type 0
  Stands declared place item = (m : Meaning) × (meaning_at declared place ≡ Some m) × (of_kind m ≡ Some item)

  same_meaning : (d : Declared) (m : Meaning) → Some d.meaning ≡ Some m → d.meaning ≡ m
  same_meaning d m e = cc

  -- an item lies within the room of all
  within_room : (start : ℕ) (declared : List Declared) (place : ℕ) (item : Item) → AreInOrder start declared → Stands declared place item
      → (start ≤ item.first) × (item.first + elements item.sizes ≤ start + room_in declared)
  within_room start [] place item order stands = let e = stands.1 in absurd (cc)
  within_room start (d ∷ declared) zero item order stands =
      let h = begins start (of_kind d.meaning) item order.0 (ap of_kind (same_meaning d stands.0 stands.1) ∙ stands.2) in
      let first = h.0 in
      let room = h.1 in
      (omega (arith, first), omega (arith, first, room))
  within_room start (d ∷ declared) (suc place) item order stands =
      let h = within_room (start + room_of (of_kind d.meaning)) declared place item order.1 stands in
      let low = h.0 in
      let high = h.1 in
      (omega (arith, low), omega (arith, high))

  -- of two items the one that is declared first ends before the other one begins
  before : (start : ℕ) (declared : List Declared) (i j : ℕ) (item own : Item) → i < j → AreInOrder start declared → Stands declared i item
      → Stands declared j own → item.first + elements item.sizes ≤ own.first
  before start [] i j item own lt order stands other = let e = stands.1 in absurd (cc)
  before start (d ∷ declared) i zero item own lt order stands other = absurd (omega (arith, lt))
  before start (d ∷ declared) zero (suc j) item own lt order stands other =
      let h = begins start (of_kind d.meaning) item order.0 (ap of_kind (same_meaning d stands.0 stands.1) ∙ stands.2) in
      let k = within_room (start + room_of (of_kind d.meaning)) declared j own order.1 other in
      let first = h.0 in
      let room = h.1 in
      let low = k.0 in
      omega (arith, first, room, low)
  before start (d ∷ declared) (suc i) (suc j) item own lt order stands other =
      before (start + room_of (of_kind d.meaning)) declared i j item own (omega (arith, lt)) order.1 stands other

  same_item : (declared : List Declared) (i j : ℕ) (item own : Item) → i ≡ j → Stands declared i item → Stands declared j own → item ≡ own
  same_item declared i j item own same stands other =
      some_same (sym stands.2 ∙ ap of_kind (some_meaning (sym stands.1 ∙ ap (meaning_at declared) same ∙ other.1)) ∙ other.2)
    where
      some_same : Some item ≡ Some own → item ≡ own
      some_same e = cc

      some_meaning : Some stands.0 ≡ Some other.0 → stands.0 ≡ other.0
      some_meaning e = cc

  -- two elements at one place are one element of one item
  one_element : (declared : List Declared) (name other : List ℕ) (item own : Item) (vs ws : List ℕ) → AreInOrder 0 declared
      → Stands declared (place_of declared name) item → Stands declared (place_of declared other) own → AreWithin item.sizes vs → AreWithin own.sizes ws
      → item.first + element_at item.sizes vs ≡ own.first + element_at own.sizes ws → (name ≡ other) × (vs ≡ ws)
  one_element declared name other item own vs ws order stands there within within_own same =
      elim (cases_order (place_of declared name) (place_of declared other)) [
        | inl one ↦
            let item_is = same_item declared (place_of declared name) (place_of declared other) item own one stands there in
            let within_item = subst (λ (i : Item). AreWithin i.sizes ws) (sym item_is) within_own in
            let first = ap (λ (i : Item). i.first + element_at i.sizes ws) item_is in
            let alike : element_at item.sizes vs ≡ element_at item.sizes ws = omega (arith, same, first) in
            (same_name declared name other stands.0 there.0 stands.1 there.1 one, element_unique item.sizes vs ws within within_item alike)
        | inr apart ↦ elim apart [
          | inl less ↦
              let ends = before 0 declared (place_of declared name) (place_of declared other) item own less order stands there in
              let below = element_within item.sizes vs within in
              absurd (omega (arith, same, ends, below))
          | inr more ↦
              let ends = before 0 declared (place_of declared other) (place_of declared name) own item more order there stands in
              let below = element_within own.sizes ws within_own in
              absurd (omega (arith, same, ends, below))
        ]
      ]

  -- and each lies within the room of all
  element_below : (declared : List Declared) (name : List ℕ) (item : Item) (vs : List ℕ) → AreInOrder 0 declared → Stands declared (place_of declared name) item
      → AreWithin item.sizes vs → item.first + element_at item.sizes vs < room_in declared
  element_below declared name item vs order stands within =
      let ends = (within_room 0 declared (place_of declared name) item order stands).1 in
      let below = element_within item.sizes vs within in
      omega (arith, ends, below)

-- ---- words and locks

shared_room : (m : Meaning) → words_of m ≡ room_of (shared_item m)
shared_room (constant n) = refl
shared_room (shared item) = refl
shared_room (lock item) = refl
shared_room (function parameters body) = refl

lock_room : (m : Meaning) → locks_of m ≡ room_of (lock_item m)
lock_room (constant n) = refl
lock_room (shared item) = refl
lock_room (lock item) = refl
lock_room (function parameters body) = refl

pub words_are : (declared : List Declared) → words_in declared ≡ room_in shared_item declared
words_are [] = refl
words_are (d ∷ declared) = let one = shared_room d.meaning in let rest = words_are declared in omega (arith, one, rest)

pub locks_are : (declared : List Declared) → locks_in declared ≡ room_in lock_item declared
locks_are [] = refl
locks_are (d ∷ declared) = let one = lock_room d.meaning in let rest = locks_are declared in omega (arith, one, rest)

pub word_below : (declared : List Declared) (name : List ℕ) (item : Item) (vs : List ℕ) → AreInOrder shared_item 0 declared
    → meaning_of declared name ≡ Some (shared item) → AreWithin item.sizes vs → item.first + element_at item.sizes vs < words_in declared
word_below declared name item vs order means within =
    let below = element_below shared_item declared name item vs order (shared item, means, refl) within in
    let all = words_are declared in
    omega (arith, below, all)

pub lock_below : (declared : List Declared) (name : List ℕ) (item : Item) (vs : List ℕ) → AreInOrder lock_item 0 declared
    → meaning_of declared name ≡ Some (lock item) → AreWithin item.sizes vs → item.first + element_at item.sizes vs < locks_in declared
lock_below declared name item vs order means within =
    let below = element_below lock_item declared name item vs order (lock item, means, refl) within in
    let all = locks_are declared in
    omega (arith, below, all)

pub one_word : (declared : List Declared) (name other : List ℕ) (item own : Item) (vs ws : List ℕ) → AreInOrder shared_item 0 declared
    → meaning_of declared name ≡ Some (shared item) → meaning_of declared other ≡ Some (shared own) → AreWithin item.sizes vs → AreWithin own.sizes ws
    → item.first + element_at item.sizes vs ≡ own.first + element_at own.sizes ws → (name ≡ other) × (vs ≡ ws)
one_word declared name other item own vs ws order means there within within_own same =
    one_element shared_item declared name other item own vs ws order (shared item, means, refl) (shared own, there, refl) within within_own same

pub one_lock : (declared : List Declared) (name other : List ℕ) (item own : Item) (vs ws : List ℕ) → AreInOrder lock_item 0 declared
    → meaning_of declared name ≡ Some (lock item) → meaning_of declared other ≡ Some (lock own) → AreWithin item.sizes vs → AreWithin own.sizes ws
    → item.first + element_at item.sizes vs ≡ own.first + element_at own.sizes ws → (name ≡ other) × (vs ≡ ws)
one_lock declared name other item own vs ws order means there within within_own same =
    one_element lock_item declared name other item own vs ws order (lock item, means, refl) (lock own, there, refl) within within_own same
