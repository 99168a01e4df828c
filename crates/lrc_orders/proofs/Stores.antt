-- Stores of items at places, to which items are added: what holds of their items, and the list of them.
use Rattle.std.proofs.Common.{◌≡◌, ℕ, zero, suc, ◌+◌, ◌<◌, ◌≤◌, List, [], ◌∷◌, Bool, true, false, inl, inr, length, refl, sym, subst, ◌∙◌, arith}
use Rattle.std.specs.Prelude.{Some, slice_get}
use Rattle.std.specs.List.{IsDistinct, AllByRecursion}
use Rattle.std.proofs.lemmas.Bool.{cases_lt}
use Rattle.std.proofs.lemmas.Option.{same_Some}
use Rattle.lrc_orders.specs.Kept.{IsAddedAt}

-- items stay at their places as a store widens, and what is at one place is one item, but for how it is held
pub record IsStore {S A : Type 0} (At : S → ℕ → A → Type 0) (count : S → ℕ) (Wide : S → S → Type 0) (Copy : A → A → Type 0) : Type 0 where
  pub within : (s : S) (k : ℕ) (x : A) → At s k x → k < count s
  pub grown : (old new : S) (k : ℕ) (x : A) → Wide old new → At old k x → At new k x
  pub copy : (s : S) (k : ℕ) (x y : A) → At s k x → At s k y → Copy x y
  pub same : (s : S) (k : ℕ) (x y : A) → At s k y → Copy x y → At s k x

all_at : {A : Type 0} (P : A → Type 0) (xs : List A) → ((k : ℕ) (x : A) → slice_get xs k ≡ Some x → P x) → AllByRecursion P xs
all_at P [] each = tt
all_at P (x ∷ xs) each = (each 0 x refl, all_at P xs (λ k y at. each (suc k) y at))

module _ {S A : Type 0} (At : S → ℕ → A → Type 0) (count : S → ℕ) (Wide : S → S → Type 0) (Copy : A → A → Type 0) (laws : IsStore At count Wide Copy) where
  abbrev HasPlace : S → ℕ → Type 0
  HasPlace s k = (x : A) × At s k x

  -- what is at an old place was there
  pub before : (old new : S) (k : ℕ) (x : A) → Wide old new → HasPlace old k → At new k x → At old k x
  before old new k x w p at = laws.same old k x p.0 p.1 (laws.copy new k x p.0 at (laws.grown old new k p.0 w p.1))

  -- where an item is added, if it is new
  module _ (old new : S) (place : ℕ) (added : Bool) (item : A) (w : Wide old new) (full : (k : ℕ) → k < count old → HasPlace old k)
      (is : IsAddedAt (count old) (count new) place added) (at : At new place item) where
    put_last : (P : ℕ → A → Type 0) → (added ≡ true → (x : A) → Copy x item → P (count old) x) → (k : ℕ) (x : A) → At new k x → count old ≤ k
        → (b : Bool) → added ≡ b → IsAddedAt (count old) (count new) place b → P k x
    put_last P last k x here le true e put =
        let within = laws.within new k x here in
        let long = put.1 in
        let end : k ≡ count old = omega (arith, within, long, le) in
        let one : At new place x = subst (λ n. At new n x) (end ∙ sym put.0) here in
        subst (λ n. P n x) (sym end) (last e x (laws.copy new place x item one at))
    put_last P last k x here le false e put = let within = laws.within new k x here in absurd (omega (arith, within, put, le))

    -- what holds of the old ones at their places, and of the one at the end, holds of all
    pub added_all : (P : ℕ → A → Type 0) → ((k : ℕ) (x : A) → At old k x → P k x) → (added ≡ true → (x : A) → Copy x item → P (count old) x)
        → (k : ℕ) (x : A) → At new k x → P k x
    added_all P all last k x here = elim (cases_lt k (count old)) [
      | inl lt ↦ all k x (before old new k x w (full k lt) here)
      | inr le ↦ put_last P last k x here le added refl is
    ]

    full_put : (b : Bool) → IsAddedAt (count old) (count new) place b → (k : ℕ) → k < count new → HasPlace new k
    full_put true put k lt = elim (cases_lt k (count old)) [
      | inl less ↦ let p = full k less in (p.0, laws.grown old new k p.0 w p.1)
      | inr le ↦
          let long = put.1 in
          let end : place ≡ k = put.0 ∙ omega (arith, lt, le, long) in
          (item, subst (λ n. At new n item) end at)
    ]
    full_put false put k lt = let p = full k (omega (arith, lt, put)) in (p.0, laws.grown old new k p.0 w p.1)

    pub full_more : (k : ℕ) → k < count new → HasPlace new k
    full_more = full_put added is

  -- the items of a list are at the places from one on
  abbrev AreFrom : S → ℕ → List A → Type 0
  AreFrom s first list = (k : ℕ) (x : A) → slice_get list k ≡ Some x → At s (first + k) x

  from_more : (s : S) (first : ℕ) (x : A) (list : List A) → At s first x → AreFrom s (first + 1) list → AreFrom s first (x ∷ list)
  from_more s first x list at more zero y there = subst (At s (first + 0)) (same_Some x y there) (subst (λ n. At s n x) (omega arith) at)
  from_more s first x list at more (suc k) y there = subst (λ n. At s n y) (omega arith) (more k y there)

  -- so many of them, from a place on
  pub record Listed (s : S) (first so_many : ℕ) : Type 0 where
    pub list : List A
    pub long : length list ≡ so_many
    pub from : AreFrom s first list

  listed_from : (s : S) (first so_many : ℕ) → ((k : ℕ) → k < first + so_many → HasPlace s k) → Listed s first so_many
  listed_from s first zero full = record { list = []; long = refl; from = λ k x there. cc }
  listed_from s first (suc so_many) full =
      let p = full first (omega arith) in
      let rest = listed_from s (first + 1) so_many (λ k lt. full k (omega (arith, lt))) in
      record {
        list = p.0 ∷ rest.list;
        long = let e = rest.long in omega (arith, e);
        from = from_more s first p.0 rest.list p.1 rest.from;
      }

  -- where items at two places are not equal, those of the list are not
  distinct_from : (E : A → A → Bool) (s : S) → ((i j : ℕ) (x y : A) → At s i x → At s j y → i < j → E x y ≡ false) → (first : ℕ) (list : List A)
      → AreFrom s first list → IsDistinct E list
  unfolding IsDistinct
  distinct_from E s apart first [] from = tt
  distinct_from E s apart first (x ∷ list) from =
      let here : At s first x = subst (λ n. At s n x) (omega arith) (from 0 x refl) in
      let rest : AreFrom s (first + 1) list = λ k y there. subst (λ n. At s n y) (omega arith) (from (suc k) y there) in (
        all_at (λ y. E x y ≡ false) list (λ k y there. apart first (first + 1 + k) x y here (rest k y there) (omega arith)),
        distinct_from E s apart (first + 1) list rest,
      )

  -- all of them
  pub record IsList (s : S) : Type 0 where
    pub list : List A
    pub long : length list ≡ count s
    pub at : (k : ℕ) (x : A) → slice_get list k ≡ Some x → At s k x

  pub listed : (s : S) → ((k : ℕ) → k < count s → HasPlace s k) → IsList s
  listed s full =
      let all = listed_from s 0 (count s) (λ k lt. full k (omega (arith, lt))) in
      record { list = all.list; long = all.long; at = λ k x there. subst (λ n. At s n x) (omega arith) (all.from k x there) }

  pub listed_apart : (E : A → A → Bool) (s : S) → ((i j : ℕ) (x y : A) → At s i x → At s j y → i < j → E x y ≡ false) → (all : IsList s)
      → IsDistinct E all.list
  listed_apart E s apart all = distinct_from E s apart 0 all.list (λ k x there. subst (λ n. At s n x) (omega arith) (all.at k x there))
