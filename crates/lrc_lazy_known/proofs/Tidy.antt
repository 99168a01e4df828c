-- Knowledge that is kept in one way.
use Rattle.std.proofs.Common.{◌≡◌, ℕ, zero, suc, ◌+◌, ◌-◌, ◌<◌, ◌≤◌, List, [], ◌∷◌, ◌++◌, length, Bool, true, false, inl, inr, refl, sym, subst, ◌∙◌, ap, arith, ◌&&◌}
use Rattle.std.specs.Prelude.{Some, None, Contains, insert, nat_eq, slice_get, slice_index_or}
use Rattle.std.proofs.lemmas.Bool.{cases_lt, eq-eqb}
use Rattle.std.proofs.lemmas.List.{get_or_past, nil_from_length, same_lists, get_or_default}
use Rattle.std.proofs.lemmas.List.Elements.{Contains-append_right}
use Rattle.std.proofs.lemmas.Option.{slice_get_past, get_or_from_slice_get}
use lib.Pointwise.{pointwise}
use mathlib.Core.Bool.{beq}
use Rattle.lrc_lazy_known.specs.declared.known.Last.{Last}
use Rattle.lrc_lazy_known.specs.declared.known.Last.TheVariants.{Nothing, Value, Unordered}
use Rattle.lrc_lazy_known.specs.declared.known.Known.{Known}
use Rattle.lrc_lazy_known.specs.declared.known.KnownWord.{KnownWord}
use Rattle.lrc_lazy_known.specs.declared.known.Knowledge.{Knowledge}
use Rattle.lrc_lazy_known.specs.contracts.known.LastPartialEq.TheImpl.{eq-value as last_eq}
use Rattle.lrc_lazy_known.specs.contracts.known.KnownPartialEq.TheImpl.{eq-value as known_eq}
use Rattle.lrc_lazy_known.specs.contracts.known.KnownWordPartialEq.TheImpl.{eq-value as word_eq}
use Rattle.lrc_lazy_known.specs.contracts.known.KnowledgePartialEq.TheImpl.{eq-value as knowledge_eq}
use Rattle.lrc_lazy_known.specs.Word.{last_in, values_in, row_in, last_of, values_of, row_of, IsSame}
use Rattle.lrc_lazy_known.specs.Made.{IsNothing}
use Rattle.lrc_lazy_known.specs.Effect.{knowers_in, word_of}
use Rattle.lrc_lazy_known.specs.Tidy.{AreRisingFrom, IsRising, EndsIn, IsSomething, IsWordOfSome, IsTidyKnown, IsTidyWord, IsTidy}
use Rattle.lrc_lazy_known.proofs.Made.{get_at, contains_cons}

-- ---- rising values

pub rising_insert : (bound : ℕ) (xs : List ℕ) (i x : ℕ) → bound ≤ x → i < length xs → ((k : ℕ) → k < i → slice_index_or xs k 0 < x)
    → x < slice_index_or xs i 0 → AreRisingFrom bound xs → AreRisingFrom bound (insert xs i x)
rising_insert bound [] i x le within less more up = absurd (omega (arith, within))
rising_insert bound (y ∷ ys) zero x le within less more up = (le, (omega (arith, more), up.1))
rising_insert bound (y ∷ ys) (suc i) x le within less more up =
    let first = less 0 (omega arith) in
    (up.0, rising_insert (y + 1) ys i x (omega (arith, first)) (omega (arith, within)) (λ k lt. less (suc k) (omega (arith, lt))) more up.1)

pub rising_push : (bound : ℕ) (xs : List ℕ) (x : ℕ) → bound ≤ x → ((k : ℕ) → k < length xs → slice_index_or xs k 0 < x)
    → AreRisingFrom bound xs → AreRisingFrom bound (xs ++ x ∷ [])
rising_push bound [] x le less up = (le, tt)
rising_push bound (y ∷ ys) x le less up =
    let first = less 0 (omega arith) in
    (up.0, rising_push (y + 1) ys x (omega (arith, first)) (λ k lt. less (suc k) (omega (arith, lt))) up.1)

pub inserted_rises : (old now after : List ℕ) (place x : ℕ) → now ≡ old → after ≡ insert now place x → place < length now
    → ((k : ℕ) → k < place → slice_index_or now k 0 < x) → x < slice_index_or now place 0 → IsRising old → IsRising after
inserted_rises old now after place x same is within less more up =
    subst IsRising (sym is) (rising_insert 0 now place x (omega arith) within less more (subst IsRising (sym same) up))

pub pushed_rises : (old now after : List ℕ) (place x : ℕ) → now ≡ old → after ≡ now ++ x ∷ [] → length now ≤ place
    → ((k : ℕ) → k < place → slice_index_or now k 0 < x) → IsRising old → IsRising after
pushed_rises old now after place x same is le less up =
    subst IsRising (sym is) (rising_push 0 now x (omega arith) (λ k lt. less k (omega (arith, lt, le))) (subst IsRising (sym same) up))

least_at : (bound : ℕ) (xs : List ℕ) (k v : ℕ) → AreRisingFrom bound xs → k < length xs → slice_index_or xs k v ≡ v → bound ≤ v
least_at bound [] k v up lt e = absurd (omega (arith, lt))
least_at bound (x ∷ xs) zero v up lt e = let low = up.0 in omega (arith, low, e)
least_at bound (x ∷ xs) (suc k) v up lt e = let low = up.0 in let more = least_at (x + 1) xs k v up.1 (omega (arith, lt)) e in omega (arith, low, more)

least : (bound : ℕ) (xs : List ℕ) (v : ℕ) → AreRisingFrom bound xs → Contains xs v → bound ≤ v
least bound xs v up c = least_at bound xs c.0 v up c.1 c.2

-- each is less than all behind it
all_from : (bound : ℕ) (xs : List ℕ) (k d : ℕ) → AreRisingFrom bound xs → k < length xs → bound ≤ slice_index_or xs k d
all_from bound [] k d up lt = absurd (omega (arith, lt))
all_from bound (x ∷ xs) zero d up lt = up.0
all_from bound (x ∷ xs) (suc k) d up lt = let low = up.0 in let more = all_from (x + 1) xs k d up.1 (omega (arith, lt)) in omega (arith, low, more)

rising_from : (bound : ℕ) (xs : List ℕ) (i k d : ℕ) → AreRisingFrom bound xs → i < k → k < length xs → slice_index_or xs i d < slice_index_or xs k d
rising_from bound [] i k d up less lt = absurd (omega (arith, lt))
rising_from bound (x ∷ xs) i zero d up less lt = absurd (omega (arith, less))
rising_from bound (x ∷ xs) zero (suc k) d up less lt = let more = all_from (x + 1) xs k d up.1 (omega (arith, lt)) in omega (arith, more)
rising_from bound (x ∷ xs) (suc i) (suc k) d up less lt = rising_from (x + 1) xs i k d up.1 (omega (arith, less)) (omega (arith, lt))

pub rising_once : (values : List ℕ) (i k d : ℕ) → IsRising values → i < k → k < length values → slice_index_or values i d < slice_index_or values k d
rising_once values i k d = rising_from 0 values i k d

head_in : (x : ℕ) (xs : List ℕ) → Contains (x ∷ xs) x
head_in x xs = (0, omega arith, refl)

none_in : (v : ℕ) → Contains [] v → ⊥
none_in v c = let lt = c.1 in omega (arith, lt)

head_least : (b x : ℕ) (xs : List ℕ) (v : ℕ) → AreRisingFrom b (x ∷ xs) → Contains (x ∷ xs) v → x ≤ v
head_least b x xs v up c = elim (contains_cons x v xs c) [
  | inl e ↦ omega (arith, e)
  | inr c ↦ let low = least (x + 1) xs v up.1 c in omega (arith, low)
]

tail_in : (x y : ℕ) (xs ys : List ℕ) (v : ℕ) → x ≡ y → AreRisingFrom (x + 1) xs → (Contains (x ∷ xs) v → Contains (y ∷ ys) v) → Contains xs v → Contains ys v
tail_in x y xs ys v e up to c = elim (contains_cons y v ys (to (Contains-append_right (x ∷ []) xs v c))) [
  | inl same ↦ let low = least (x + 1) xs v up c in absurd (omega (arith, low, same, e))
  | inr c ↦ c
]

-- two rising lists of the same values are one
pub rising_one : (b c : ℕ) (xs ys : List ℕ) → AreRisingFrom b xs → AreRisingFrom c ys → ((v : ℕ) → Contains xs v → Contains ys v)
    → ((v : ℕ) → Contains ys v → Contains xs v) → xs ≡ ys
rising_one b c [] [] up on to from = refl
rising_one b c [] (y ∷ ys) up on to from = absurd (none_in y (from y (head_in y ys)))
rising_one b c (x ∷ xs) [] up on to from = absurd (none_in x (to x (head_in x xs)))
rising_one b c (x ∷ xs) (y ∷ ys) up on to from =
    let one = head_least c y ys x on (to x (head_in x xs)) in
    let other = head_least b x xs y up (from y (head_in y ys)) in
    let same : x ≡ y = omega (arith, one, other) in
    let rest = rising_one (x + 1) (y + 1) xs ys up.1 on.1 (λ v. tail_in x y xs ys v same up.1 (to v)) (λ v. tail_in y x ys xs v (sym same) on.1 (from v)) in
    cc

-- ---- lists that do not end in what says nothing

pub no_longer : {A : Type 0} (is : A → Type 0) (xs ys : List A) → EndsIn is xs
    → ((k : ℕ) (x : A) → slice_get xs k ≡ Some x → slice_get ys k ≡ None → is x → ⊥) → length xs ≤ length ys
no_longer is xs ys ends never = elim (cases_lt (length ys) (length xs)) [
  | inl lt ↦
      let found = get_at xs (length xs - 1) (omega (arith, lt)) in
      absurd (never (length xs - 1) found.0 found.1 (slice_get_past ys (length xs - 1) (omega (arith, lt))) (ends (length xs - 1) found.0 found.1 (omega (arith, lt))))
  | inr le ↦ le
]

row_no_longer : (xs ys : List Bool) → EndsIn (λ b. b ≡ true) xs → ((z : ℕ) → slice_index_or xs z false ≡ slice_index_or ys z false) → length xs ≤ length ys
row_no_longer xs ys ends same =
    no_longer (λ b. b ≡ true) xs ys ends (λ k x found none is. clash k x found (past k none) is)
  where
    past : (k : ℕ) → slice_get ys k ≡ None → slice_index_or ys k false ≡ false
    past k none = elim (cases_lt k (length ys)) [
      | inl lt ↦ let there = get_at ys k lt in let some = there.1 in cc
      | inr le ↦ get_or_past ys k false le
    ]

    clash : (k : ℕ) (x : Bool) → slice_get xs k ≡ Some x → slice_index_or ys k false ≡ false → x ≡ true → ⊥
    clash k x found none is = let here = get_or_from_slice_get xs k x false found in let e = same k in cc

-- two rows that say the same are one
pub row_one : (xs ys : List Bool) → EndsIn (λ b. b ≡ true) xs → EndsIn (λ b. b ≡ true) ys
    → ((z : ℕ) → slice_index_or xs z false ≡ slice_index_or ys z false) → xs ≡ ys
row_one xs ys one other same =
    let le = row_no_longer xs ys one same in
    let ge = row_no_longer ys xs other (λ z. sym (same z)) in
    let long : length xs ≡ length ys = omega (arith, le, ge) in
    same_lists xs ys long
    (λ k d lt. get_or_default xs k d false lt ∙ same k ∙ get_or_default ys k false d (omega (arith, lt, long)))

-- ---- what compares equal

and_true : (a b : Bool) → a ≡ true → b ≡ true → (a && b) ≡ true
and_true true b e f = f
and_true false b e f = e

pointwise_true : {A : Type 0} (E : A → A → Bool) (xs ys : List A) → length xs ≡ length ys
    → ((k : ℕ) (x y : A) → slice_get xs k ≡ Some x → slice_get ys k ≡ Some y → E x y ≡ true) → pointwise E xs ys ≡ true
pointwise_true E [] [] long each = refl
pointwise_true E [] (y ∷ ys) long each = absurd (omega (arith, long))
pointwise_true E (x ∷ xs) [] long each = absurd (omega (arith, long))
pointwise_true E (x ∷ xs) (y ∷ ys) long each =
    and_true (E x y) (pointwise E xs ys) (each 0 x y refl refl) (pointwise_true E xs ys (omega (arith, long)) (λ k u v. each (suc k) u v))

pointwise_itself : {A : Type 0} (E : A → A → Bool) → ((x : A) → E x x ≡ true) → (xs : List A) → pointwise E xs xs ≡ true
pointwise_itself E same [] = refl
pointwise_itself E same (x ∷ xs) = and_true (E x x) (pointwise E xs xs) (same x) (pointwise_itself E same xs)

beq_itself : (b : Bool) → beq b b ≡ true
beq_itself true = refl
beq_itself false = refl

last_itself : (a : Last) → last_eq.it a a ≡ true
last_itself Nothing = refl
last_itself (Value v) = eq-eqb v v refl
last_itself Unordered = refl

known_equal : (a b : Known) → a.last ≡ b.last → a.values.value.items ≡ b.values.value.items → a.above.items ≡ b.above.items → known_eq.it a b ≡ true
known_equal a b last values above =
    and_true (last_eq.it a.last b.last) _ (subst (λ x. last_eq.it a.last x ≡ true) last (last_itself a.last))
    (and_true (pointwise nat_eq a.values.value.items b.values.value.items) (pointwise beq a.above.items b.above.items)
    (subst (λ x. pointwise nat_eq a.values.value.items x ≡ true) values (pointwise_itself nat_eq (λ v. eq-eqb v v refl) a.values.value.items))
    (subst (λ x. pointwise beq a.above.items x ≡ true) above (pointwise_itself beq beq_itself a.above.items)))

-- ---- a word

same_back : (xs ys : List Known) → IsSame xs ys → IsSame ys xs
same_back xs ys same = record {
  lasts = λ k. sym (same.lasts k);
  values = λ k v. ((same.values k v).1, (same.values k v).0);
  above = λ k z. sym (same.above k z);
}

nothing_ends : EndsIn (λ (b : Bool). b ≡ true) []
nothing_ends k x found len = absurd (omega (arith, len))

module _ (xs ys : List Known) (same : IsSame xs ys) (k : ℕ) (x : Known) (tidy : IsTidyKnown x) (found : slice_get xs k ≡ Some x) where
  last_there : x.last ≡ last_of ys k
  last_there = sym (ap last_in found) ∙ sym (same.lasts k)

  values_there : (v : ℕ) → Contains x.values.value.items v → Contains (values_of ys k) v
  values_there v c = (same.values k v).1 (subst (λ o. Contains (values_in o) v) (sym found) c)

  values_here : (v : ℕ) → Contains (values_of ys k) v → Contains x.values.value.items v
  values_here v c = subst (λ o. Contains (values_in o) v) found ((same.values k v).0 c)

  row_there : (z : ℕ) → slice_index_or x.above.items z false ≡ slice_index_or (row_of ys k) z false
  row_there z = sym (ap (λ o. slice_index_or (row_in o) z false) found) ∙ sym (same.above k z)

  nothing_there : slice_get ys k ≡ None → IsNothing x
  nothing_there none = record {
    last = last_there ∙ ap last_in none;
    values = rising_one 0 0 x.values.value.items [] tidy.values tt
        (λ v c. subst (λ o. Contains (values_in o) v) none (values_there v c)) (λ v c. absurd (none_in v c));
    above = row_one x.above.items [] tidy.above nothing_ends (λ z. row_there z ∙ ap (λ o. slice_index_or (row_in o) z false) none);
  }

  known_there : (y : Known) → IsTidyKnown y → slice_get ys k ≡ Some y → known_eq.it x y ≡ true
  known_there y other at =
      known_equal x y (last_there ∙ ap last_in at)
      (rising_one 0 0 x.values.value.items y.values.value.items tidy.values other.values
      (λ v c. subst (λ o. Contains (values_in o) v) at (values_there v c))
      (λ v c. values_here v (subst (λ o. Contains (values_in o) v) (sym at) c)))
      (row_one x.above.items y.above.items tidy.above other.above (λ z. row_there z ∙ ap (λ o. slice_index_or (row_in o) z false) at))

word_no_longer : (xs ys : List Known) → IsTidyWord xs → IsSame xs ys → length xs ≤ length ys
word_no_longer xs ys tidy same =
    no_longer IsSomething xs ys tidy.ends (λ k x found none some. some (nothing_there xs ys same k x (tidy.each k x found) found none))

-- two words that say the same compare equal
pub word_one : (xs ys : List Known) → IsTidyWord xs → IsTidyWord ys → IsSame xs ys → pointwise known_eq.it xs ys ≡ true
word_one xs ys one other same =
    let le = word_no_longer xs ys one same in
    let ge = word_no_longer ys xs other (same_back xs ys same) in
    pointwise_true known_eq.it xs ys (omega (arith, le, ge))
    (λ k x y found at. known_there xs ys same k x (one.each k x found) found y (other.each k y at) at)

-- ---- knowledge

words_no_longer : (a b : Knowledge) → IsTidy a → ((word : ℕ) → IsSame (word_of a word) (word_of b word)) → length a.words.items ≤ length b.words.items
words_no_longer a b tidy same = no_longer IsWordOfSome a.words.items b.words.items tidy.ends never
  where
    never : (k : ℕ) (x : KnownWord) → slice_get a.words.items k ≡ Some x → slice_get b.words.items k ≡ None → IsWordOfSome x → ⊥
    never k x found none some =
        let is : IsSame x.knowers.items [] =
        subst (λ o. IsSame x.knowers.items (knowers_in o)) none (subst (λ o. IsSame (knowers_in o) (word_of b k)) found (same k)) in
        let le = word_no_longer x.knowers.items [] (tidy.each k x found) is in
        some (nil_from_length x.knowers.items (omega (arith, le)))

pub knowledge_one : (one other : Knowledge) → IsTidy one → IsTidy other → ((word : ℕ) → IsSame (word_of one word) (word_of other word))
    → knowledge_eq.it one other ≡ true
knowledge_one a b one other same =
    let le = words_no_longer a b one same in
    let ge = words_no_longer b a other (λ word. same_back (word_of a word) (word_of b word) (same word)) in
    pointwise_true word_eq.it a.words.items b.words.items (omega (arith, le, ge)) equal
  where
    equal : (k : ℕ) (x y : KnownWord) → slice_get a.words.items k ≡ Some x → slice_get b.words.items k ≡ Some y → word_eq.it x y ≡ true
    equal k x y found at =
        let is : IsSame x.knowers.items y.knowers.items =
        subst (λ o. IsSame x.knowers.items (knowers_in o)) at (subst (λ o. IsSame (knowers_in o) (word_of b k)) found (same k)) in
        word_one x.knowers.items y.knowers.items (one.each k x found) (other.each k y at) is
