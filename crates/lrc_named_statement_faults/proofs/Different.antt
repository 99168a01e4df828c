-- How many different names there are.
use Rattle.std.proofs.Common.{◌≡◌, ◌≤◌, ◌<◌, ◌+◌, ◌⊎◌, inl, inr, ◌||◌, ◌&&◌, ◌==◌, not, ℕ, zero, suc, Bool, true, false, if◌then◌else◌, List, [], ◌∷◌, ◌++◌, map, length, take, drop, get_or, refl, sym, ap, subst, ◌∙◌, arith, append_assoc, append-nil, length-append}
use Rattle.std.specs.Prelude.{Some, None}
use Rattle.std.specs.Str.{bytes_eq}
use Rattle.std.proofs.lemmas.Bool.Decides.{nat_tests}
use Rattle.std.proofs.lemmas.List.{length-map, take_all}
use Rattle.std.proofs.lemmas.Slice.Eq.{bytes_eq-Decides}
use Rattle.lrc_named_tree.specs.declared.tree.Name as code_name
use Rattle.lrc_named_tree.specs.Tree.{Named}
use Rattle.lrc_named_tree.specs.View.{named_of}
use Rattle.lrc_named_constants.specs.Well.{bytes_of, is_among}
use Rattle.lrc_named_expression_faults.specs.declared.fault.Fault.{Fault}
use Rattle.lrc_named_expression_faults.specs.declared.fault.FaultKind.TheVariants.{TooManyNames}
use Rattle.lrc_named_expression_faults.specs.Fault.{ComesFirst, IsFirstOf, fault_at}
use Rattle.lrc_named_expression_faults.proofs.First.{first_same}
use Rattle.lrc_named_statement_faults.specs.Statements.{IsOneTooMany, different}

-- one, unless it is known
abbrev pub unless_known : Bool → ℕ
unless_known known = if known then 0 else 1

or_grouped : (a b c : Bool) → (a || (b || c)) ≡ ((a || b) || c)
or_grouped true b c = refl
or_grouped false b c = refl

or_nothing : (b : Bool) → (b || false) ≡ b
or_nothing true = refl
or_nothing false = refl

among_last : (ns : List (List ℕ)) (n m : List ℕ) → is_among (ns ++ n ∷ []) m ≡ (is_among ns m || bytes_eq n m)
among_last [] n m = or_nothing (bytes_eq n m)
among_last (k ∷ ns) n m = ap (λ x. bytes_eq k m || x) (among_last ns n m) ∙ or_grouped (bytes_eq k m) (is_among ns m) (bytes_eq n m)

same_bytes : (xs ys : List ℕ) → bytes_eq xs ys ≡ true → xs ≡ ys
same_bytes xs ys e = (bytes_eq-Decides xs ys).0 e

equal_bytes : (xs ys : List ℕ) → xs ≡ ys → bytes_eq xs ys ≡ true
equal_bytes xs ys e = (bytes_eq-Decides xs ys).1 e

by_known : (a b : Bool) (k : ℕ) → a ≡ b → unless_known (a || true) + (unless_known b + k) ≡ unless_known true + (unless_known a + k)
by_known true true k e = refl
by_known false false k e = refl
by_known true false k e = absurd (cc)
by_known false true k e = absurd (cc)

counted_by : (e f a b : Bool) (k : ℕ) → (e ≡ true → f ≡ true) → (f ≡ true → e ≡ true) → (e ≡ true → a ≡ b)
    → unless_known (a || e) + (unless_known b + k) ≡ unless_known (f || b) + (unless_known a + k)
counted_by true true a b k there back same = by_known a b k (same refl)
counted_by true false a b k there back same = let h = there refl in absurd (cc)
counted_by false true a b k there back same = let h = back refl in absurd (cc)
counted_by false false true true k there back same = refl
counted_by false false true false k there back same = omega arith
counted_by false false false true k there back same = omega arith
counted_by false false false false k there back same = refl

-- with one more name
pub different_last : (ns : List (List ℕ)) (n : List ℕ) → different (ns ++ n ∷ []) ≡ unless_known (is_among ns n) + different ns
different_last [] n = refl
different_last (m ∷ ms) n =
    ap (λ b. unless_known b + different (ms ++ n ∷ [])) (among_last ms n m)
    ∙ ap (λ k. unless_known (is_among ms m || bytes_eq n m) + k) (different_last ms n)
    ∙ counted_by (bytes_eq n m) (bytes_eq m n) (is_among ms m) (is_among ms n) (different ms)
    (λ e. equal_bytes m n (sym (same_bytes n m e))) (λ e. equal_bytes n m (sym (same_bytes m n e))) (λ e. ap (is_among ms) (sym (same_bytes n m e)))

more_known : (b : Bool) (k : ℕ) → k ≤ unless_known b + k
more_known true k = omega arith
more_known false k = omega arith

-- names that stand in front of others
pub different_front : (xs ys : List (List ℕ)) → different xs ≤ different (xs ++ ys)
different_front xs [] = let e = ap different (append-nil xs) in omega (arith, e)
different_front xs (y ∷ ys) =
    let one = different_last xs y in
    let some = more_known (is_among xs y) (different xs) in
    let rest = different_front (xs ++ y ∷ []) ys in
    let same = ap different (append_assoc xs (y ∷ []) ys) in
    omega (arith, one, some, rest, same)

bytes_of-append : (xs ys : List Named) → bytes_of (xs ++ ys) ≡ bytes_of xs ++ bytes_of ys
bytes_of-append [] ys = refl
bytes_of-append (x ∷ xs) ys = ap (λ l. x.bytes ∷ l) (bytes_of-append xs ys)

-- where one is too many, there are 33 up to it, and no fewer in all
up_to_it : (front back : List Named) (named : Named) → is_among (bytes_of front) named.bytes ≡ false → different (bytes_of front) ≡ 32
    → 33 ≤ different (bytes_of (front ++ named ∷ back))
up_to_it front back named new all =
    let last = different_last (bytes_of front) named.bytes in
    let one = ap unless_known new in
    let rest = different_front (bytes_of front ++ named.bytes ∷ []) (bytes_of back) in
    let same = ap different (append_assoc (bytes_of front) (named.bytes ∷ []) (bytes_of back)) in
    let seen = ap different (bytes_of-append front (named ∷ back)) in
    omega (arith, last, one, rest, same, seen, all)

pub none_too_many : (names : List Named) → different (bytes_of names) ≤ 32 → IsFirstOf (λ f. IsOneTooMany names f) None
none_too_many names few =
    λ f h.
    let e = ap (λ l. different (bytes_of l)) h.3.0 in
    let many = up_to_it h.0 h.2 h.1 h.3.1 h.3.2 in
    absurd (omega (arith, e, many, few))

-- two places in a list: the same, or one in front of the other
two_places : (f g a b : List Named) (x y : Named) → f ++ x ∷ a ≡ g ++ y ∷ b
    → (x ≡ y) ⊎ (((more : List Named) × (g ≡ f ++ x ∷ more)) ⊎ ((more : List Named) × (f ≡ g ++ y ∷ more)))
two_places [] [] a b x y e = inl (cc)
two_places [] (z ∷ g) a b x y e = let first : z ≡ x = cc in inr (inl (g, ap (λ v. v ∷ g) first))
two_places (z ∷ f) [] a b x y e = let first : z ≡ y = cc in inr (inr (f, ap (λ v. v ∷ f) first))
two_places (z ∷ f) (w ∷ g) a b x y e =
    let first : w ≡ z = cc in
    let rest : f ++ x ∷ a ≡ g ++ y ∷ b = cc in
    elim (two_places f g a b x y rest) [
      | inl same ↦ inl same
      | inr other ↦ elim other [
        | inl h ↦ inr (inl (h.0, ap (λ l. w ∷ l) h.1 ∙ ap (λ v. v ∷ (f ++ x ∷ h.0)) first))
        | inr h ↦ inr (inr (h.0, ap (λ l. z ∷ l) h.1 ∙ ap (λ v. v ∷ (g ++ y ∷ h.0)) (sym first)))
      ]
    ]

pub this_too_many : (names front back : List Named) (named : Named) → names ≡ front ++ named ∷ back → is_among (bytes_of front) named.bytes ≡ false
    → different (bytes_of front) ≡ 32 → IsFirstOf (λ f. IsOneTooMany names f) (Some (fault_at named.at TooManyNames))
this_too_many names front back named is new all = (
  (front, named, back, (is, new, all), refl),
  λ g h.
      let e = h.3.0 in
      let same : named ≡ h.1 = elim (two_places front h.0 back h.2 named h.1 (sym is ∙ e)) [
        | inl s ↦ s
        | inr other ↦ elim other [
          | inl m ↦ let many = up_to_it front m.0 named new all in let k = ap (λ l. different (bytes_of l)) m.1 in let other_all = h.3.2 in absurd (omega (arith, many, k, other_all))
          | inr m ↦ let many = up_to_it h.0 m.0 h.1 h.3.1 h.3.2 in let k = ap (λ l. different (bytes_of l)) m.1 in absurd (omega (arith, many, k, all))
        ]
      ] in
      subst (λ x. ComesFirst (fault_at named.at TooManyNames) x) (sym (h.4 ∙ ap (λ (n : Named). fault_at n.at TooManyNames) (sym same)))
      (first_same (fault_at named.at TooManyNames)),
)

-- ---- the loop over names

pub full_known : (known : Bool) (count : ℕ) → (not known && (count == 32)) ≡ true → (known ≡ false) × (count ≡ 32)
full_known true count e = absurd (cc)
full_known false count e = (refl, grind (arith, nat_tests))

cut_at_next : (xs : List code_name.Name) (i : ℕ) (d : code_name.Name) → i < length xs
    → map named_of xs ≡ map named_of (take i xs) ++ named_of (get_or xs i d) ∷ map named_of (drop (suc i) xs)
cut_at_next [] i d lt = absurd (omega arith)
cut_at_next (x ∷ xs) zero d lt = refl
cut_at_next (x ∷ xs) (suc i) d lt = ap (λ l. named_of x ∷ l) (cut_at_next xs i d (omega arith))

pub all_taken : (xs : List code_name.Name) (i : ℕ) → length xs ≤ i → take i xs ≡ xs
all_taken xs i past = take_all i xs past

-- the bytes of the names up to this one
taken_next : (xs : List code_name.Name) (i : ℕ) (d : code_name.Name) → i < length xs
    → bytes_of (map named_of (take (suc i) xs)) ≡ bytes_of (map named_of (take i xs)) ++ (named_of (get_or xs i d)).bytes ∷ []
taken_next [] i d lt = absurd (omega arith)
taken_next (x ∷ xs) zero d lt = refl
taken_next (x ∷ xs) (suc i) d lt = ap (λ l. (named_of x).bytes ∷ l) (taken_next xs i d (omega arith))

pub taken_bytes : (xs : List code_name.Name) (i : ℕ) (d : code_name.Name) → i < length xs
    → bytes_of (map named_of (take (i + 1) xs)) ≡ bytes_of (map named_of (take i xs)) ++ (named_of (get_or xs i d)).bytes ∷ []
taken_bytes xs i d lt = let next : i + 1 ≡ suc i = omega arith in ap (λ n. bytes_of (map named_of (take n xs))) next ∙ taken_next xs i d lt

abbrev pub IsSeen : List (List ℕ) → List code_name.Name → Type 0
IsSeen names seen = record {
  same : (n : List ℕ) → is_among (bytes_of (map named_of seen)) n ≡ is_among names n;
  many : length seen ≡ different names;
  few : length seen ≤ 32;
}

-- a known name more
or_true : (b : Bool) → (b || true) ≡ true
or_true true = refl
or_true false = refl

with_known_by : (names : List (List ℕ)) (n m : List ℕ) (b : Bool) → bytes_eq n m ≡ b → is_among names n ≡ true → (is_among names m || b) ≡ is_among names m
with_known_by names n m true e known = or_true (is_among names m) ∙ sym known ∙ ap (is_among names) (same_bytes n m e)
with_known_by names n m false e known = or_nothing (is_among names m)

with_known : (names : List (List ℕ)) (n m : List ℕ) → is_among names n ≡ true → is_among (names ++ n ∷ []) m ≡ is_among names m
with_known names n m known = among_last names n m ∙ with_known_by names n m (bytes_eq n m) refl known

pub seen_step : (xs : List code_name.Name) (i : ℕ) (d : code_name.Name) (seen new : List code_name.Name) (known : Bool) (count : ℕ) → i < length xs
    → known ≡ is_among (bytes_of (map named_of seen)) (named_of (get_or xs i d)).bytes → count ≡ length seen → (not known && (count == 32)) ≡ false
    → map named_of new ≡ map named_of seen ++ (if known then [] else named_of (get_or xs i d) ∷ [])
    → ((n : List ℕ) → is_among (bytes_of (map named_of seen)) n ≡ is_among (bytes_of (map named_of (take i xs))) n)
    → length seen ≡ different (bytes_of (map named_of (take i xs))) → length seen ≤ 32 → IsSeen (bytes_of (map named_of (take (i + 1) xs))) new
seen_step xs i d seen new true count lt is counted fits grown same many few =
    let n = (named_of (get_or xs i d)).bytes in
    let old = bytes_of (map named_of (take i xs)) in
    let there : is_among old n ≡ true = sym (same n) ∙ sym is in
    let kept : map named_of new ≡ map named_of seen = grown ∙ append-nil (map named_of seen) in
    let long : length new ≡ length seen = sym (length-map new named_of) ∙ ap length kept ∙ length-map seen named_of in
    let last = different_last old n in
    let one = ap unless_known there in
    let all = ap different (taken_bytes xs i d lt) in
    record {
      same = λ m. ap (λ l. is_among (bytes_of l) m) kept ∙ same m ∙ sym (with_known old n m there) ∙ ap (λ l. is_among l m) (sym (taken_bytes xs i d lt));
      many = omega (arith, long, many, last, one, all);
      few = omega (arith, long, few);
    }
seen_step xs i d seen new false count lt is counted fits grown same many few =
    let n = (named_of (get_or xs i d)).bytes in
    let old = bytes_of (map named_of (take i xs)) in
    let there : is_among old n ≡ false = sym (same n) ∙ sym is in
    let long : length new ≡ suc (length seen) =
    sym (length-map new named_of) ∙ ap length grown ∙ length-append (map named_of seen) (named_of (get_or xs i d) ∷ []) ∙ (let l = length-map seen named_of in omega (arith, l)) in
    let last = different_last old n in
    let one = ap unless_known there in
    let all = ap different (taken_bytes xs i d lt) in
    let room : (length seen ≡ 32 → ⊥) = λ e. let h : count ≡ 32 = counted ∙ e in (let t : (count == 32) ≡ true = grind (arith, nat_tests) in absurd (cc)) in
    record {
      same = λ m.
          ap (λ l. is_among (bytes_of l) m) grown ∙ ap (λ l. is_among l m) (bytes_of-append (map named_of seen) (named_of (get_or xs i d) ∷ []))
          ∙ among_last (bytes_of (map named_of seen)) n m ∙ ap (λ b. b || bytes_eq n m) (same m) ∙ sym (among_last old n m) ∙ ap (λ l. is_among l m) (sym (taken_bytes xs i d lt));
      many = omega (arith, long, many, last, one, all);
      few = omega (arith, long, few, room);
    }

-- the name of the loop's present place is the 33rd different one
pub over_first : (xs : List code_name.Name) (i : ℕ) (d : code_name.Name) (seen shown counted : List code_name.Name) (known over : Bool) (count : ℕ) (fault : Fault)
    → i < length xs → shown ≡ seen → counted ≡ seen → known ≡ is_among (bytes_of (map named_of shown)) (named_of (get_or xs i d)).bytes
    → count ≡ length counted → over ≡ (not known && (count == 32)) → over ≡ true → fault ≡ fault_at (named_of (get_or xs i d)).at TooManyNames
    → ((n : List ℕ) → is_among (bytes_of (map named_of seen)) n ≡ is_among (bytes_of (map named_of (take i xs))) n)
    → length seen ≡ different (bytes_of (map named_of (take i xs))) → IsFirstOf (λ f. IsOneTooMany (map named_of xs) f) (Some fault)
over_first xs i d seen shown counted known over count fault lt shows counts is many_seen tests so told same many =
    let named = named_of (get_or xs i d) in
    let full = full_known known count (sym tests ∙ so) in
    let new : is_among (bytes_of (map named_of (take i xs))) named.bytes ≡ false =
    sym (same named.bytes) ∙ ap (λ l. is_among (bytes_of (map named_of l)) named.bytes) (sym shows) ∙ sym is ∙ full.0 in
    let all : different (bytes_of (map named_of (take i xs))) ≡ 32 = sym many ∙ ap length (sym counts) ∙ sym many_seen ∙ full.1 in
    subst (λ x. IsFirstOf (λ f. IsOneTooMany (map named_of xs) f) (Some x)) (sym told)
    (this_too_many (map named_of xs) (map named_of (take i xs)) (map named_of (drop (suc i) xs)) named (cut_at_next xs i d lt) new all)

-- the loop goes on
pub seen_on : (xs : List code_name.Name) (i : ℕ) (d : code_name.Name) (seen shown counted new : List code_name.Name) (known over : Bool) (count : ℕ)
    → i < length xs → shown ≡ seen → counted ≡ seen → known ≡ is_among (bytes_of (map named_of shown)) (named_of (get_or xs i d)).bytes
    → count ≡ length counted → over ≡ (not known && (count == 32)) → over ≡ false
    → map named_of new ≡ map named_of seen ++ (if known then [] else named_of (get_or xs i d) ∷ [])
    → ((n : List ℕ) → is_among (bytes_of (map named_of seen)) n ≡ is_among (bytes_of (map named_of (take i xs))) n)
    → length seen ≡ different (bytes_of (map named_of (take i xs))) → length seen ≤ 32 → IsSeen (bytes_of (map named_of (take (i + 1) xs))) new
seen_on xs i d seen shown counted new known over count lt shows counts is many_seen tests so grown same many few =
    seen_step xs i d seen new known count lt (is ∙ ap (λ l. is_among (bytes_of (map named_of l)) (named_of (get_or xs i d)).bytes) shows)
    (many_seen ∙ ap length counts) (sym tests ∙ so) grown same many few
