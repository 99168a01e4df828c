-- A place more that is reached.
use Rattle.std.proofs.Common.{◌≡◌, ℕ, ◌+◌, ◌<◌, ◌≤◌, ◌⊎◌, List, [], ◌∷◌, ◌++◌, inl, inr, Bool, true, false, cond, length, get_or, set, refl, sym, ap, ◌∙◌, subst, arith}
use Rattle.std.specs.Prelude.{Contains}
use Rattle.std.specs.List.{sum_by}
use Rattle.std.proofs.lemmas.Bool.{cases_eq, cases_lt}
use Rattle.std.proofs.lemmas.List.{get_or_append_left, get_or_default, get_or-set_other, get_or-set_same, get_or_push, length-set, length_push}
use Rattle.std.proofs.lemmas.List.Sums.{sum_by-set}
use Rattle.lrc_graph.specs.declared.reached.Reached.{Reached}
use Rattle.lrc_graph.specs.Reached.{Adds, AreListed, Has}

abbrev one : Bool → ℕ
one b = cond b 1 0

module _ (old new : Reached) (place : ℕ) (l : AreListed old) (within : place < length old.is.items)
    (missing : get_or old.is.items place false ≡ false) (is : new.is.items ≡ set old.is.items place true)
    (places : new.places.items ≡ old.places.items ++ place ∷ []) where
  here : Has new place
  here = ap (λ l. get_or l place false) is ∙ get_or-set_same old.is.items place true false within

  other : (p : ℕ) → (p ≡ place → ⊥) → get_or new.is.items p false ≡ get_or old.is.items p false
  other p apart = ap (λ l. get_or l p false) is ∙ get_or-set_other old.is.items place p true false apart

  on : (p : ℕ) → Has old p → Has new p
  on p has = elim (cases_eq p place) [
    | inl same ↦ subst (Has new) (sym same) here
    | inr apart ↦ other p apart ∙ has
  ]

  back : (p : ℕ) → Has new p → Has old p ⊎ (p ≡ place)
  back p has = elim (cases_eq p place) [
    | inl same ↦ inr same
    | inr apart ↦ inl (sym (other p apart) ∙ has)
  ]

  long : length new.places.items ≡ length old.places.items + 1
  long = ap (λ l. length l) places ∙ length_push old.places.items place

  stays : (k : ℕ) → k < length old.places.items → get_or new.places.items k 0 ≡ get_or old.places.items k 0
  stays k lt = ap (λ l. get_or l k 0) places ∙ get_or_append_left old.places.items (place ∷ []) 0 k lt

  last : get_or new.places.items (length old.places.items) 0 ≡ place
  last = ap (λ l. get_or l (length old.places.items) 0) places ∙ get_or_push old.places.items place 0 (length old.places.items) refl

  listed_now : (p : ℕ) → Has old p ⊎ (p ≡ place) → Contains new.places.items p
  listed_now p (inl has) =
      let at = l.listed p has in
      let lt = at.1 in (
        at.0,
        omega (arith, lt, long),
        ap (λ l. get_or l at.0 p) places ∙ get_or_append_left old.places.items (place ∷ []) p at.0 at.1 ∙ at.2,
      )
  listed_now p (inr same) = (
    length old.places.items,
    omega (arith, long),
    ap (λ l. get_or l (length old.places.items) p) places ∙ get_or_push old.places.items place p (length old.places.items) refl ∙ sym same,
  )

  pub added_listed : AreListed new
  added_listed = record {
    listed = λ p has. listed_now p (back p has);
    known = λ k lt. elim (cases_lt k (length old.places.items)) [
      | inl less ↦ subst (Has new) (sym (stays k less)) (on (get_or old.places.items k 0) (l.known k less))
      | inr past ↦
          let at : k ≡ length old.places.items = omega (arith, lt, past, long) in
          subst (λ n. Has new (get_or new.places.items n 0)) (sym at) (subst (Has new) (sym last) here)
    ];
    count =
        let sums = sum_by-set one old.is.items place true false within in
        let none : one (get_or old.is.items place false) ≡ 0 = ap one missing in
        let now : sum_by one new.is.items ≡ sum_by one (set old.is.items place true) = ap (sum_by one) is in
        let before = l.count in
        omega (arith, sums, none, now, before, long);
  }

  pub added_only : Adds old new (λ p. p ≡ place)
  added_only = record {
    size = ap (λ l. length l) is ∙ length-set old.is.items place true;
    longer = omega (arith, long);
    stays = stays;
    exact = λ p. (
      back p,
      λ either. elim either [
        | inl has ↦ on p has
        | inr same ↦ subst (Has new) (sym same) here
      ],
    );
  }

-- a place that was reached before
pub nothing_added : (old : Reached) (place : ℕ) → Has old place → Adds old old (λ p. p ≡ place)
nothing_added old place has = record {
  size = refl;
  longer = omega arith;
  stays = λ k lt. refl;
  exact = λ p. (
    λ h. inl h,
    λ either. elim either [
      | inl h ↦ h
      | inr same ↦ subst (Has old) (sym same) has
    ],
  );
}

-- ---- several

pub adds_none : (old : Reached) (IsSo : ℕ → Type 0) → ((p : ℕ) → IsSo p → ⊥) → Adds old old IsSo
adds_none old IsSo none = record {
  size = refl;
  longer = omega arith;
  stays = λ k lt. refl;
  exact = λ p. (
    λ h. inl h,
    λ either. elim either [
      | inl h ↦ h
      | inr so ↦ absurd (none p so)
    ],
  );
}

pub adds_on : (a b c : Reached) (IsSo Also Now : ℕ → Type 0) → Adds a b IsSo → Adds b c Also → ((p : ℕ) → Now p → IsSo p ⊎ Also p)
    → ((p : ℕ) → IsSo p → Now p) → ((p : ℕ) → Also p → Now p) → Adds a c Now
adds_on a b c IsSo Also Now x y either first second = record {
  size = y.size ∙ x.size;
  longer = let le = x.longer in let more = y.longer in omega (arith, le, more);
  stays = λ k lt. y.stays k (let le = x.longer in omega (arith, lt, le)) ∙ x.stays k lt;
  exact = λ p. (
    λ h. elim ((y.exact p).0 h) [
      | inl was ↦ elim ((x.exact p).0 was) [
        | inl had ↦ inl had
        | inr so ↦ inr (first p so)
      ]
      | inr also ↦ inr (second p also)
    ],
    λ now. elim now [
      | inl had ↦ (y.exact p).1 (inl ((x.exact p).1 (inl had)))
      | inr so ↦ elim (either p so) [
        | inl one_so ↦ (y.exact p).1 (inl ((x.exact p).1 (inr one_so)))
        | inr also ↦ (y.exact p).1 (inr also)
      ]
    ],
  );
}

-- those of a list before an index
pub record IsAmong (places : List ℕ) (index place : ℕ) : Type 0 where
  pub at : ℕ
  pub before : at < index
  pub within : at < length places
  pub is : get_or places at 0 ≡ place

pub among_all : (places : List ℕ) (index place : ℕ) → length places ≤ index → Contains places place → IsAmong places index place
among_all places index place le c = record { at = c.0; before = (let lt = c.1 in omega (arith, lt, le)); within = c.1; is = at_default c.0 c.1 c.2 }
  where
    at_default : (k : ℕ) → k < length places → get_or places k place ≡ place → get_or places k 0 ≡ place
    at_default k lt e = get_or_default places k 0 place lt ∙ e

pub contains_at : (places : List ℕ) (index : ℕ) → index < length places → Contains places (get_or places index 0)
contains_at places index lt = (index, lt, get_or_default places index (get_or places index 0) 0 lt)

-- those of a list, past its end
pub adds_as : (old new : Reached) (places : List ℕ) (index : ℕ) → length places ≤ index → Adds old new (IsAmong places index)
    → Adds old new (Contains places)
adds_as old new places index le a = record {
  size = a.size;
  longer = a.longer;
  stays = a.stays;
  exact = λ p. (
    λ h. elim ((a.exact p).0 h) [
      | inl had ↦ inl had
      | inr among ↦ inr (among.at, among.within, get_or_default places among.at p 0 among.within ∙ among.is)
    ],
    λ either. elim either [
      | inl had ↦ (a.exact p).1 (inl had)
      | inr c ↦ (a.exact p).1 (inr (among_all places index p le c))
    ],
  );
}
