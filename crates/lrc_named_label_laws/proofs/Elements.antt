-- Each element has its name, and nothing else has one.
use Rattle.std.proofs.Common.{◌≡◌, ◌≢◌, ◌∙◌, ℕ, zero, suc, ◌+◌, ◌-◌, ◌*◌, ◌/◌, ◌%◌, ◌<◌, ◌≤◌, Bool, true, false, cond, not, List, [], ◌∷◌, ◌++◌, max, refl, sym, ap, ap₂, subst, arith}
use Rattle.std.proofs.Common.{eq-eqb, le-leb, leb-true, eqb-true, mod-lt, div-add-mod', mul_assoc, add-mul, mul-zero}
use Rattle.std.specs.Prelude.{Some, None, nat_le, option_map}
use Rattle.std.specs.List.{AllByRecursion, flat_map}
use Rattle.std.specs.Str.{bytes_eq}
use Rattle.std.specs.Cmp.Derive.{both_true}
use Rattle.std.proofs.lemmas.Bool.{and_parts, false_from_ne_true}
use Rattle.std.proofs.lemmas.Nat.{div-mul-add, div_below, mod-mul-add}
use Rattle.std.proofs.lemmas.Slice.Eq.{bytes_eq-Decides}
use Rattle.lrc_labels.specs.Reading.{Label}
use Rattle.lrc_labels.specs.Show.{index_text, label_of_lock, label_of_word, name_of, names_lock, names_word}
use Rattle.lrc_labels.specs.Sizes.{indices, inner, rows}
use Rattle.lrc_named_names.specs.Elements.{elements}
use Rattle.lrc_named_names.specs.Names.{Declared, Item, Meaning, constant, function, lock, meaning_at, meaning_of, place_of, shared}
use Rattle.lrc_named_address_laws.specs.Elements.{AreWithin, element_at}
use Rattle.lrc_named_address_laws.proofs.Places.{element_within}
use Rattle.lrc_named_label_laws.specs.Labels.{label_of_locks, label_of_words, labels_as, labels_declared}
use Rattle.lrc_named_label_laws.proofs.Shape.{AreDifferent, AreSizes, BeginsAt, LieBelow, lock_behind, word_behind}
use Rattle.lrc_named_label_laws.proofs.Items.{elements_some}
use Rattle.lrc_named_label_laws.proofs.Whole.{rising}

-- ---- the place of an element, and its indices

rows_back : (front : ℕ) (sizes vs : List ℕ) → AreWithin sizes vs
    → (rows (front * elements sizes + element_at sizes vs) sizes ≡ front) × (inner (front * elements sizes + element_at sizes vs) sizes ≡ vs)
rows_back front [] [] h = (omega arith, refl)
rows_back front [] (v ∷ vs) h = absurd h
rows_back front (size ∷ sizes) [] h = absurd h
rows_back front (size ∷ sizes) (v ∷ vs) h =
    let w = elements sizes in
    let e = element_at sizes vs in
    let place = front * (size * w) + (v * w + e) in
    let one = mul_assoc front size w in
    let two = add-mul (front * size) v w in
    let split : place ≡ (front * size + v) * w + e = omega (arith, one, two) in
    let more = rows_back (front * size + v) sizes vs h.1 in
    let row : rows place sizes ≡ front * size + v = ap (λ n. rows n sizes) split ∙ more.0 in
    let some : max size 1 ≡ size = omega (arith, h.0) in (
      ap (λ n. n / max size 1) row ∙ ap (λ n. (front * size + v) / n) some ∙ div-mul-add front size v h.0,
      ap₂ ◌∷◌ (ap (λ n. n % max size 1) row ∙ ap (λ n. (front * size + v) % n) some ∙ mod-mul-add front size v h.0)
          (ap (λ n. inner n sizes) split ∙ more.1),
    )

indices_back : (size : ℕ) (sizes : List ℕ) (v : ℕ) (vs : List ℕ) → AreWithin (size ∷ sizes) (v ∷ vs)
    → indices (element_at (size ∷ sizes) (v ∷ vs)) sizes ≡ v ∷ vs
indices_back size sizes v vs h = let back = rows_back v sizes vs h.1 in ap₂ ◌∷◌ back.0 back.1

-- each place in an array is that of an element
pub record IsElement (sizes : List ℕ) (place : ℕ) : Type 0 where
  pub at : List ℕ
  pub within : AreWithin sizes at
  pub there : place ≡ element_at sizes at

some_factor : (size many place : ℕ) → place < size * many → 1 ≤ many
some_factor size zero place lt = let none = mul-zero size in absurd (omega (arith, lt, none))
some_factor size (suc many) place lt = omega arith

element_of : (sizes : List ℕ) (place : ℕ) → place < elements sizes → IsElement sizes place
element_of [] place lt = record { at = []; within = tt; there = omega (arith, lt) }
element_of (size ∷ sizes) place lt =
    let w = elements sizes in
    let some = some_factor size w place lt in
    let positive : 0 < w = omega (arith, some) in
    let rest = element_of sizes (place % w) (mod-lt place positive) in
    let whole = div-add-mod' place w in
    let last = rest.there in
    record {
      at = place / w ∷ rest.at;
      within = (div_below place w size positive lt, rest.within);
      there = sym whole ∙ ap (λ n. place / w * w + n) last;
    }

-- ---- what a name means

same_bytes : (bytes : List ℕ) → bytes_eq bytes bytes ≡ true
same_bytes bytes = (bytes_eq-Decides bytes bytes).1 refl

pub meaning_first : (d : Declared) (declared : List Declared) (name : List ℕ) → bytes_eq d.name name ≡ true → meaning_of (d ∷ declared) name ≡ Some d.meaning
meaning_first d declared name same = ap (λ b. meaning_at (d ∷ declared) (cond (not b) (1 + place_of declared name) 0)) same

pub meaning_later : (d : Declared) (declared : List Declared) (name : List ℕ) → bytes_eq d.name name ≡ false
    → meaning_of (d ∷ declared) name ≡ meaning_of declared name
meaning_later d declared name differs =
    let next : 1 + place_of declared name ≡ suc (place_of declared name) = omega arith in
    ap (λ b. meaning_at (d ∷ declared) (cond (not b) (1 + place_of declared name) 0)) differs ∙ ap (meaning_at (d ∷ declared)) next

same_meaning : {m n : Meaning} → Some m ≡ Some n → m ≡ n
same_meaning e = cc

-- another name stands behind
other_name : (d : Declared) (declared : List Declared) (name : List ℕ) (m : Meaning) → AllByRecursion (λ (other : Declared). d.name ≢ other.name) declared
    → meaning_of declared name ≡ Some m → d.name ≢ name
other_name d [] name m differ is = absurd (cc)
other_name d (one ∷ declared) name m differ is = by (other_name d declared name m differ.1) (bytes_eq one.name name) refl
  where
    by : (meaning_of declared name ≡ Some m → d.name ≢ name) → (b : Bool) → bytes_eq one.name name ≡ b → d.name ≢ name
    by later true e = λ same. differ.0 (same ∙ sym ((bytes_eq-Decides one.name name).0 e))
    by later false e = later (sym (meaning_later one declared name e) ∙ is)

-- ---- words

word_target : (first place : ℕ) (name sizes : List ℕ) → place < elements sizes → names_word (label_of_words name first sizes).target (first + place) ≡ true
word_target first place name [] lt = eq-eqb first (first + place) (omega (arith, lt))
word_target first place name (size ∷ sizes) lt =
    both_true (le-leb first (first + place) (omega arith)) (le-leb (first + place) (first + (elements (size ∷ sizes) - 1)) (omega (arith, lt)))

word_shown : (first : ℕ) (name sizes vs : List ℕ) → AreWithin sizes vs
    → name_of (first + element_at sizes vs) (label_of_words name first sizes) ≡ name ++ flat_map index_text vs
word_shown first name [] [] h = refl
word_shown first name [] (v ∷ vs) h = absurd h
word_shown first name (size ∷ sizes) [] h = absurd h
word_shown first name (size ∷ sizes) (v ∷ vs) h =
    let place = element_at (size ∷ sizes) (v ∷ vs) in
    let behind : first + place - first ≡ place = omega arith in
    ap (λ n. name ++ flat_map index_text (indices n sizes)) behind ∙ ap (λ l. name ++ flat_map index_text l) (indices_back size sizes v vs h)

-- the label of an item names its own alone
word_within : (first n : ℕ) (name sizes : List ℕ) → AreSizes sizes → names_word (label_of_words name first sizes).target n ≡ true
    → (first ≤ n) × (n < first + elements sizes)
word_within first n name [] all h = let e = eqb-true first n h in (omega (arith, e), omega (arith, e))
word_within first n name (size ∷ sizes) all h =
    let last = first + (elements (size ∷ sizes) - 1) in
    let parts = and_parts (nat_le first n) (nat_le n last) h in
    let low = leb-true first n parts.0 in
    let high = leb-true n last parts.1 in
    let some = elements_some (size ∷ sizes) all in
    (low, omega (arith, high, some))

no_word_of : (first n : ℕ) (name sizes : List ℕ) → names_word (label_of_locks name first sizes).target n ≡ false
no_word_of first n name [] = refl
no_word_of first n name (size ∷ sizes) = refl

module _ (words locks : ℕ) where
  word_least : (w k : ℕ) (declared : List Declared) (name : List ℕ) (item : Item) → LieBelow words locks w k declared
      → meaning_of declared name ≡ Some (shared item) → w ≤ item.first
  word_least w k [] name item lie is = absurd (cc)
  word_least w k (d ∷ declared) name item lie is =
      by (word_least (word_behind w d.meaning) (lock_behind k d.meaning) declared name item lie.1) (bytes_eq d.name name) refl
    where
      by : (meaning_of declared name ≡ Some (shared item) → word_behind w d.meaning ≤ item.first) → (b : Bool) → bytes_eq d.name name ≡ b → w ≤ item.first
      by later true e = (subst (BeginsAt w k) (same_meaning (sym (meaning_first d declared name e) ∙ is)) lie.0).0
      by later false e =
          let above = later (sym (meaning_later d declared name e) ∙ is) in
          let risen = rising w k d.meaning lie.0 in
          omega (arith, above, risen.0)

  -- an item in front names nothing of those behind it
  word_passes : (w k : ℕ) (name : List ℕ) (m : Meaning) (others : List Label) (n : ℕ) → BeginsAt w k m → word_behind w m ≤ n
      → label_of_word (labels_as name m ++ others) n ≡ label_of_word others n
  word_passes w k name (constant v) others n lies le = refl
  word_passes w k name (function parameters body) others n lies le = refl
  word_passes w k name (lock item) others n lies le =
      ap (λ b. cond b (Some (label_of_locks name item.first item.sizes)) (label_of_word others n)) (no_word_of item.first n name item.sizes)
  word_passes w k name (shared item) others n lies le =
      let label = label_of_words name item.first item.sizes in
      let far : names_word label.target n ≡ false =
      false_from_ne_true (names_word label.target n)
      (λ h. let inside = word_within item.first n name item.sizes lies.1 h in omega (arith, inside.1, le)) in
      ap (λ b. cond b (Some label) (label_of_word others n)) far

  abbrev WordIsCalled : ℕ → List ℕ → List Label → Type 0
  WordIsCalled n text labels = option_map (name_of n) (label_of_word labels n) ≡ Some text

  pub word_named : (w k : ℕ) (declared : List Declared) (name : List ℕ) (item : Item) (vs : List ℕ) → LieBelow words locks w k declared
      → meaning_of declared name ≡ Some (shared item) → AreWithin item.sizes vs
      → option_map (name_of (item.first + element_at item.sizes vs)) (label_of_word (labels_declared declared) (item.first + element_at item.sizes vs))
      ≡ Some (name ++ flat_map index_text vs)
  word_named w k [] name item vs lie is within = absurd (cc)
  word_named w k (d ∷ declared) name item vs lie is within =
      by (λ means. word_named (word_behind w d.meaning) (lock_behind k d.meaning) declared name item vs lie.1 means within) (bytes_eq d.name name) refl
    where
      own : WordIsCalled (item.first + element_at item.sizes vs) (name ++ flat_map index_text vs) (label_of_words name item.first item.sizes ∷ labels_declared declared)
      own =
          let n = item.first + element_at item.sizes vs in
          ap (λ b. option_map (name_of n) (cond b (Some (label_of_words name item.first item.sizes)) (label_of_word (labels_declared declared) n)))
          (word_target item.first (element_at item.sizes vs) name item.sizes (element_within item.sizes vs within))
          ∙ ap Some (word_shown item.first name item.sizes vs within)

      by : (meaning_of declared name ≡ Some (shared item)
          → WordIsCalled (item.first + element_at item.sizes vs) (name ++ flat_map index_text vs) (labels_declared declared))
          → (b : Bool) → bytes_eq d.name name ≡ b
          → WordIsCalled (item.first + element_at item.sizes vs) (name ++ flat_map index_text vs) (labels_as d.name d.meaning ++ labels_declared declared)
      by later true e =
          let n = item.first + element_at item.sizes vs in
          let means = same_meaning (sym (meaning_first d declared name e) ∙ is) in
          subst (λ l. WordIsCalled n (name ++ flat_map index_text vs) (labels_as l d.meaning ++ labels_declared declared)) (sym ((bytes_eq-Decides d.name name).0 e))
          (subst (λ m. WordIsCalled n (name ++ flat_map index_text vs) (labels_as name m ++ labels_declared declared)) (sym means) own)
      by later false e =
          let n = item.first + element_at item.sizes vs in
          let means = sym (meaning_later d declared name e) ∙ is in
          let least = word_least (word_behind w d.meaning) (lock_behind k d.meaning) declared name item lie.1 means in
          ap (option_map (name_of n)) (word_passes w k d.name d.meaning (labels_declared declared) n lie.0 (omega (arith, least)))
          ∙ later means

  -- what is no element of an item
  abbrev pub IsNoWord : List Declared → ℕ → Type 0
  IsNoWord declared n =
      (name : List ℕ) (item : Item) (vs : List ℕ) → meaning_of declared name ≡ Some (shared item) → AreWithin item.sizes vs → n ≢ item.first + element_at item.sizes vs

  word_unnamed_as : (w k : ℕ) (name : List ℕ) (m : Meaning) (others : List Label) (n : ℕ) → BeginsAt w k m
      → ((item : Item) (vs : List ℕ) → m ≡ shared item → AreWithin item.sizes vs → n ≢ item.first + element_at item.sizes vs)
      → label_of_word (labels_as name m ++ others) n ≡ label_of_word others n
  word_unnamed_as w k name (constant v) others n lies none = refl
  word_unnamed_as w k name (function parameters body) others n lies none = refl
  word_unnamed_as w k name (lock item) others n lies none =
      ap (λ b. cond b (Some (label_of_locks name item.first item.sizes)) (label_of_word others n)) (no_word_of item.first n name item.sizes)
  word_unnamed_as w k name (shared item) others n lies none =
      let label = label_of_words name item.first item.sizes in
      let far : names_word label.target n ≡ false =
      false_from_ne_true (names_word label.target n)
      (λ h.
      let inside = word_within item.first n name item.sizes lies.1 h in
      let found = element_of item.sizes (n - item.first) (omega (arith, inside.0, inside.1)) in
      let there = found.there in
      none item found.at refl found.within (omega (arith, there, inside.0))) in
      ap (λ b. cond b (Some label) (label_of_word others n)) far

  pub word_unnamed : (w k : ℕ) (declared : List Declared) (n : ℕ) → LieBelow words locks w k declared → AreDifferent declared → IsNoWord declared n
      → label_of_word (labels_declared declared) n ≡ None
  word_unnamed w k [] n lie differ none = refl
  word_unnamed w k (d ∷ declared) n lie differ none =
      word_unnamed_as w k d.name d.meaning (labels_declared declared) n lie.0
      (λ item vs means within. none d.name item vs (meaning_first d declared d.name (same_bytes d.name) ∙ ap Some means) within)
      ∙ word_unnamed (word_behind w d.meaning) (lock_behind k d.meaning) declared n lie.1 differ.1
      (λ name item vs is within.
      let apart = other_name d declared name (shared item) differ.0 is in
      none name item vs
      (meaning_later d declared name (false_from_ne_true (bytes_eq d.name name) (λ e. apart ((bytes_eq-Decides d.name name).0 e))) ∙ is) within)

-- ---- locks

lock_target : (first place : ℕ) (name sizes : List ℕ) → place < elements sizes → names_lock (label_of_locks name first sizes).target (first + place) ≡ true
lock_target first place name [] lt = eq-eqb first (first + place) (omega (arith, lt))
lock_target first place name (size ∷ sizes) lt =
    both_true (le-leb first (first + place) (omega arith)) (le-leb (first + place) (first + (elements (size ∷ sizes) - 1)) (omega (arith, lt)))

lock_shown : (first : ℕ) (name sizes vs : List ℕ) → AreWithin sizes vs
    → name_of (first + element_at sizes vs) (label_of_locks name first sizes) ≡ name ++ flat_map index_text vs
lock_shown first name [] [] h = refl
lock_shown first name [] (v ∷ vs) h = absurd h
lock_shown first name (size ∷ sizes) [] h = absurd h
lock_shown first name (size ∷ sizes) (v ∷ vs) h =
    let place = element_at (size ∷ sizes) (v ∷ vs) in
    let behind : first + place - first ≡ place = omega arith in
    ap (λ n. name ++ flat_map index_text (indices n sizes)) behind ∙ ap (λ l. name ++ flat_map index_text l) (indices_back size sizes v vs h)

-- the label of an item names its own alone
lock_within : (first n : ℕ) (name sizes : List ℕ) → AreSizes sizes → names_lock (label_of_locks name first sizes).target n ≡ true
    → (first ≤ n) × (n < first + elements sizes)
lock_within first n name [] all h = let e = eqb-true first n h in (omega (arith, e), omega (arith, e))
lock_within first n name (size ∷ sizes) all h =
    let last = first + (elements (size ∷ sizes) - 1) in
    let parts = and_parts (nat_le first n) (nat_le n last) h in
    let low = leb-true first n parts.0 in
    let high = leb-true n last parts.1 in
    let some = elements_some (size ∷ sizes) all in
    (low, omega (arith, high, some))

no_lock_of : (first n : ℕ) (name sizes : List ℕ) → names_lock (label_of_words name first sizes).target n ≡ false
no_lock_of first n name [] = refl
no_lock_of first n name (size ∷ sizes) = refl

module _ (words locks : ℕ) where
  lock_least : (w k : ℕ) (declared : List Declared) (name : List ℕ) (item : Item) → LieBelow words locks w k declared
      → meaning_of declared name ≡ Some (lock item) → k ≤ item.first
  lock_least w k [] name item lie is = absurd (cc)
  lock_least w k (d ∷ declared) name item lie is =
      by (lock_least (word_behind w d.meaning) (lock_behind k d.meaning) declared name item lie.1) (bytes_eq d.name name) refl
    where
      by : (meaning_of declared name ≡ Some (lock item) → lock_behind k d.meaning ≤ item.first) → (b : Bool) → bytes_eq d.name name ≡ b → k ≤ item.first
      by later true e = (subst (BeginsAt w k) (same_meaning (sym (meaning_first d declared name e) ∙ is)) lie.0).0
      by later false e =
          let above = later (sym (meaning_later d declared name e) ∙ is) in
          let risen = rising w k d.meaning lie.0 in
          omega (arith, above, risen.1)

  -- an item in front names nothing of those behind it
  lock_passes : (w k : ℕ) (name : List ℕ) (m : Meaning) (others : List Label) (n : ℕ) → BeginsAt w k m → lock_behind k m ≤ n
      → label_of_lock (labels_as name m ++ others) n ≡ label_of_lock others n
  lock_passes w k name (constant v) others n lies le = refl
  lock_passes w k name (function parameters body) others n lies le = refl
  lock_passes w k name (shared item) others n lies le =
      ap (λ b. cond b (Some (label_of_words name item.first item.sizes)) (label_of_lock others n)) (no_lock_of item.first n name item.sizes)
  lock_passes w k name (lock item) others n lies le =
      let label = label_of_locks name item.first item.sizes in
      let far : names_lock label.target n ≡ false =
      false_from_ne_true (names_lock label.target n)
      (λ h. let inside = lock_within item.first n name item.sizes lies.1 h in omega (arith, inside.1, le)) in
      ap (λ b. cond b (Some label) (label_of_lock others n)) far

  abbrev LockIsCalled : ℕ → List ℕ → List Label → Type 0
  LockIsCalled n text labels = option_map (name_of n) (label_of_lock labels n) ≡ Some text

  pub lock_named : (w k : ℕ) (declared : List Declared) (name : List ℕ) (item : Item) (vs : List ℕ) → LieBelow words locks w k declared
      → meaning_of declared name ≡ Some (lock item) → AreWithin item.sizes vs
      → option_map (name_of (item.first + element_at item.sizes vs)) (label_of_lock (labels_declared declared) (item.first + element_at item.sizes vs))
      ≡ Some (name ++ flat_map index_text vs)
  lock_named w k [] name item vs lie is within = absurd (cc)
  lock_named w k (d ∷ declared) name item vs lie is within =
      by (λ means. lock_named (word_behind w d.meaning) (lock_behind k d.meaning) declared name item vs lie.1 means within) (bytes_eq d.name name) refl
    where
      own : LockIsCalled (item.first + element_at item.sizes vs) (name ++ flat_map index_text vs) (label_of_locks name item.first item.sizes ∷ labels_declared declared)
      own =
          let n = item.first + element_at item.sizes vs in
          ap (λ b. option_map (name_of n) (cond b (Some (label_of_locks name item.first item.sizes)) (label_of_lock (labels_declared declared) n)))
          (lock_target item.first (element_at item.sizes vs) name item.sizes (element_within item.sizes vs within))
          ∙ ap Some (lock_shown item.first name item.sizes vs within)

      by : (meaning_of declared name ≡ Some (lock item)
          → LockIsCalled (item.first + element_at item.sizes vs) (name ++ flat_map index_text vs) (labels_declared declared))
          → (b : Bool) → bytes_eq d.name name ≡ b
          → LockIsCalled (item.first + element_at item.sizes vs) (name ++ flat_map index_text vs) (labels_as d.name d.meaning ++ labels_declared declared)
      by later true e =
          let n = item.first + element_at item.sizes vs in
          let means = same_meaning (sym (meaning_first d declared name e) ∙ is) in
          subst (λ l. LockIsCalled n (name ++ flat_map index_text vs) (labels_as l d.meaning ++ labels_declared declared)) (sym ((bytes_eq-Decides d.name name).0 e))
          (subst (λ m. LockIsCalled n (name ++ flat_map index_text vs) (labels_as name m ++ labels_declared declared)) (sym means) own)
      by later false e =
          let n = item.first + element_at item.sizes vs in
          let means = sym (meaning_later d declared name e) ∙ is in
          let least = lock_least (word_behind w d.meaning) (lock_behind k d.meaning) declared name item lie.1 means in
          ap (option_map (name_of n)) (lock_passes w k d.name d.meaning (labels_declared declared) n lie.0 (omega (arith, least)))
          ∙ later means

  -- what is no element of an item
  abbrev pub IsNoLock : List Declared → ℕ → Type 0
  IsNoLock declared n =
      (name : List ℕ) (item : Item) (vs : List ℕ) → meaning_of declared name ≡ Some (lock item) → AreWithin item.sizes vs → n ≢ item.first + element_at item.sizes vs

  lock_unnamed_as : (w k : ℕ) (name : List ℕ) (m : Meaning) (others : List Label) (n : ℕ) → BeginsAt w k m
      → ((item : Item) (vs : List ℕ) → m ≡ lock item → AreWithin item.sizes vs → n ≢ item.first + element_at item.sizes vs)
      → label_of_lock (labels_as name m ++ others) n ≡ label_of_lock others n
  lock_unnamed_as w k name (constant v) others n lies none = refl
  lock_unnamed_as w k name (function parameters body) others n lies none = refl
  lock_unnamed_as w k name (shared item) others n lies none =
      ap (λ b. cond b (Some (label_of_words name item.first item.sizes)) (label_of_lock others n)) (no_lock_of item.first n name item.sizes)
  lock_unnamed_as w k name (lock item) others n lies none =
      let label = label_of_locks name item.first item.sizes in
      let far : names_lock label.target n ≡ false =
      false_from_ne_true (names_lock label.target n)
      (λ h.
      let inside = lock_within item.first n name item.sizes lies.1 h in
      let found = element_of item.sizes (n - item.first) (omega (arith, inside.0, inside.1)) in
      let there = found.there in
      none item found.at refl found.within (omega (arith, there, inside.0))) in
      ap (λ b. cond b (Some label) (label_of_lock others n)) far

  pub lock_unnamed : (w k : ℕ) (declared : List Declared) (n : ℕ) → LieBelow words locks w k declared → AreDifferent declared → IsNoLock declared n
      → label_of_lock (labels_declared declared) n ≡ None
  lock_unnamed w k [] n lie differ none = refl
  lock_unnamed w k (d ∷ declared) n lie differ none =
      lock_unnamed_as w k d.name d.meaning (labels_declared declared) n lie.0
      (λ item vs means within. none d.name item vs (meaning_first d declared d.name (same_bytes d.name) ∙ ap Some means) within)
      ∙ lock_unnamed (word_behind w d.meaning) (lock_behind k d.meaning) declared n lie.1 differ.1
      (λ name item vs is within.
      let apart = other_name d declared name (lock item) differ.0 is in
      none name item vs
      (meaning_later d declared name (false_from_ne_true (bytes_eq d.name name) (λ e. apart ((bytes_eq-Decides d.name name).0 e))) ∙ is) within)
