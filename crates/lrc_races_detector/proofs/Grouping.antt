-- Groups of pairs, one pair further.
use Rattle.std.proofs.Common.{◌≡◌, ◌≢◌, ℕ, zero, suc, ◌+◌, ◌<◌, ◌≤◌, Bool, true, false, List, [], ◌∷◌, ◌++◌, length, inl, inr, refl, sym, subst, ap, ◌∙◌, ◌^◌, arith, get_or, set, length-append}
use Rattle.std.specs.Prelude.{Option, Some, None, ◌⊎◌, ◌&&◌, cond, count_by, slice_get, option_map, nat_eq, find, map, min, ◌||◌}
use Rattle.std.specs.Option.{option_eq}
use Rattle.std.specs.List.{list_any}
use Rattle.std.proofs.lemmas.Bool.{cases_eq, cases_lt, true≢false, eqb-true, eq-eqb, and_parts}
use Rattle.std.proofs.lemmas.Option.{slice_get_within, slice_get-get_or, slice_get-map, get_or_from_slice_get, same_Some}
use Rattle.std.proofs.lemmas.List.{map-append}
use Rattle.std.proofs.lemmas.List.Sums.{count_by-le-length, sum_by_push, sum_by-cons}
use mathlib.Core.Bool.{beq}
use Rattle.lrc_races_trace.specs.declared.event.Pair.{Pair}
use Rattle.lrc_races_trace.specs.declared.group.Group.{Group}
use Rattle.lrc_races_trace.specs.Groups.{same_kind, same_location, are_alike, IsGroup, IsBefore, AreGroups}
use Rattle.lrc_races_detector.specs.declared.groups.Side.{Side}
use Rattle.lrc_races_detector.specs.declared.groups.Sides.{Sides}
use Rattle.lrc_races_detector.specs.contracts.groups.SidesPartialEq.TheImpl.{eq-value}
use Rattle.lrc_races_detector.specs.declared.groups.Groups.{Groups}
use Rattle.lrc_races_detector.specs.Grouping.{side_of, sides_of, AreAll, AreGrouped}
use Rattle.lrc_races_detector.proofs.Pushing.{slice_get-set_same, slice_get-set_other}

-- To be alike is to have equal sides.
abbrev same : Sides → Sides → Bool
same s t = (same_location s.earlier.location t.earlier.location && same_kind s.earlier.is_write t.earlier.is_write)
    && (same_location s.later.location t.later.location && same_kind s.later.is_write t.later.is_write)

both : (a b : Bool) → a ≡ true → b ≡ true → (a && b) ≡ true
both true b p q = q
both false b p q = absurd (true≢false (sym p))

one_location : (a b : Option ℕ) → same_location a b ≡ true → a ≡ b
one_location None None e = refl
one_location None (Some b) e = let never : ⊥ = cc in absurd never
one_location (Some a) None e = let never : ⊥ = cc in absurd never
one_location (Some a) (Some b) e = ap Some (eqb-true a b e)

location_self : (a : Option ℕ) → same_location a a ≡ true
location_self None = refl
location_self (Some a) = eq-eqb a a refl

one_kind : (a b : Bool) → same_kind a b ≡ true → a ≡ b
one_kind true true e = refl
one_kind true false e = let never : ⊥ = cc in absurd never
one_kind false true e = let never : ⊥ = cc in absurd never
one_kind false false e = refl

kind_self : (a : Bool) → same_kind a a ≡ true
kind_self true = refl
kind_self false = refl

same_self : (s : Sides) → same s s ≡ true
same_self s = both _ _ (both _ _ (location_self s.earlier.location) (kind_self s.earlier.is_write))
    (both _ _ (location_self s.later.location) (kind_self s.later.is_write))

abbrev made : Option ℕ → Bool → Option ℕ → Bool → Sides
made a b c d = record { earlier = record { location = a; is_write = b }; later = record { location = c; is_write = d } }

same_sides : (s t : Sides) → same s t ≡ true → s ≡ t
same_sides s t e =
    let (p, q) = and_parts (same_location s.earlier.location t.earlier.location && same_kind s.earlier.is_write t.earlier.is_write) _ e in
    let (p0, p1) = and_parts (same_location s.earlier.location t.earlier.location) _ p in
    let (q0, q1) = and_parts (same_location s.later.location t.later.location) _ q in
    ap (λ x. made x s.earlier.is_write s.later.location s.later.is_write) (one_location s.earlier.location t.earlier.location p0)
    ∙ ap (λ x. made t.earlier.location x s.later.location s.later.is_write) (one_kind s.earlier.is_write t.earlier.is_write p1)
    ∙ ap (λ x. made t.earlier.location t.earlier.is_write x s.later.is_write) (one_location s.later.location t.later.location q0)
    ∙ ap (λ x. made t.earlier.location t.earlier.is_write t.later.location x) (one_kind s.later.is_write t.later.is_write q1)

pub alike_sides : (p q : Pair) → are_alike p q ≡ true → sides_of p ≡ sides_of q
alike_sides p q e = same_sides (sides_of p) (sides_of q) e

pub alike_from : (p q : Pair) → sides_of p ≡ sides_of q → are_alike p q ≡ true
alike_from p q e = subst (λ s. same (sides_of p) s ≡ true) e (same_self (sides_of p))

locations : (a b : Option ℕ) → option_eq nat_eq a b ≡ same_location a b
locations None None = refl
locations None (Some b) = refl
locations (Some a) None = refl
locations (Some a) (Some b) = refl

kinds : (a b : Bool) → beq a b ≡ same_kind a b
kinds true true = refl
kinds true false = refl
kinds false true = refl
kinds false false = refl

together : (a b c d a' b' c' d' : Bool) → a ≡ a' → b ≡ b' → c ≡ c' → d ≡ d' → ((a && b) && (c && d)) ≡ ((a' && b') && (c' && d'))
together a b c d a' b' c' d' p q r s = cc

-- keys compare equal exactly where they are equal
eq_same : (s t : Sides) → eq-value.it s t ≡ same s t
eq_same s t =
    together (option_eq nat_eq s.earlier.location t.earlier.location) (beq s.earlier.is_write t.earlier.is_write)
    (option_eq nat_eq s.later.location t.later.location) (beq s.later.is_write t.later.is_write)
    (same_location s.earlier.location t.earlier.location) (same_kind s.earlier.is_write t.earlier.is_write)
    (same_location s.later.location t.later.location) (same_kind s.later.is_write t.later.is_write)
    (locations s.earlier.location t.earlier.location) (kinds s.earlier.is_write t.earlier.is_write)
    (locations s.later.location t.later.location) (kinds s.later.is_write t.later.is_write)

pub key_same : (s t : Sides) → eq-value.it s t ≡ true → s ≡ t
key_same s t e = same_sides s t (sym (eq_same s t) ∙ e)

pub key_self : (s : Sides) → eq-value.it s s ≡ true
key_self s = eq_same s s ∙ same_self s

false_from : (b : Bool) → (b ≡ true → ⊥) → b ≡ false
false_from true f = absurd (f refl)
false_from false f = refl

-- Lists, one element further.
get-front : {X : Type 0} (xs ys : List X) (k : ℕ) → k < length xs → slice_get (xs ++ ys) k ≡ slice_get xs k
get-front [] ys k h = absurd (omega arith)
get-front (x ∷ xs) ys zero h = refl
get-front (x ∷ xs) ys (suc k) h = get-front xs ys k (omega arith)

get-left : {X : Type 0} (xs ys : List X) (k : ℕ) (x : X) → slice_get xs k ≡ Some x → slice_get (xs ++ ys) k ≡ Some x
get-left xs ys k x e = get-front xs ys k (slice_get_within xs k x e) ∙ e

get-last : {X : Type 0} (xs : List X) (y : X) (k : ℕ) → k ≡ length xs → slice_get (xs ++ y ∷ []) k ≡ Some y
get-last [] y zero e = refl
get-last [] y (suc k) e = absurd (omega arith)
get-last (x ∷ xs) y zero e = absurd (omega arith)
get-last (x ∷ xs) y (suc k) e = get-last xs y k (omega arith)

get-cases : {X : Type 0} (xs : List X) (y : X) (k : ℕ) (x : X) → slice_get (xs ++ y ∷ []) k ≡ Some x → (slice_get xs k ≡ Some x) ⊎ ((k ≡ length xs) × (x ≡ y))
get-cases [] y zero x e = inr (refl, sym (same_Some y x e))
get-cases [] y (suc k) x e = let never : ⊥ = cc in absurd never
get-cases (z ∷ xs) y zero x e = inl e
get-cases (z ∷ xs) y (suc k) x e = elim (get-cases xs y k x e) [ inl there ↦ inl there | inr (at, is) ↦ inr (omega arith, is) ]

count-push : {X : Type 0} (p : X → Bool) (xs : List X) (y : X) → count_by p (xs ++ y ∷ []) ≡ count_by p xs + cond (p y) 1 0
count-push p xs y = sum_by_push (λ x. cond (p x) 1 0) xs y

count-none : {X : Type 0} (p : X → Bool) (xs : List X) → ((k : ℕ) (x : X) → slice_get xs k ≡ Some x → p x ≡ false) → count_by p xs ≡ 0
count-none p [] h = refl
count-none p (x ∷ xs) h =
    let rest = count-none p xs (λ k y at. h (suc k) y at) in
    let here : cond {A = ℕ} (p x) 1 0 ≡ 0 = ap (λ b. cond b 1 0) (h zero x refl) in
    let step : count_by p (x ∷ xs) ≡ cond {A = ℕ} (p x) 1 0 + count_by p xs = sum_by-cons (λ y. cond (p y) 1 0) x xs in
    omega arith

mapped : {X Y : Type 0} (f : X → Y) (o : Option X) (y : Y) → option_map f o ≡ Some y → (x : X) × (o ≡ Some x) × (f x ≡ y)
mapped f None y e = let never : ⊥ = cc in absurd never
mapped f (Some x) y e = (x, refl, same_Some (f x) y e)

module _ (pairs : List Pair) (b : Pair) where
  -- the group counts the pair, if it is alike
  abbrev pub bump : Group → Group
  bump group = record group { count = group.count + cond (are_alike group.first b) 1 0 }

  pub bump_yes : (g : Group) → are_alike g.first b ≡ true → bump g ≡ record g { count = g.count + 1 }
  bump_yes g e = ap (λ x. record g { count = g.count + cond x 1 0 }) e

  bump_no : (g : Group) → are_alike g.first b ≡ false → bump g ≡ g
  bump_no g e = ap (λ x. record g { count = g.count + cond x 1 0 }) e ∙ ap (λ n. record g { count = n }) (let z : g.count + 0 ≡ g.count = omega arith in z)

  further : (i : ℕ) (g : Group) → IsGroup pairs i g → IsGroup (pairs ++ b ∷ []) i (bump g)
  further i g h =
      let within = slice_get_within pairs i g.first h.told in
      record {
        told = get-left pairs (b ∷ []) i g.first h.told;
        first = λ k p lt at. h.first k p lt (sym (get-front pairs (b ∷ []) k (omega arith)) ∙ at);
        count = ap (λ n. n + cond (are_alike g.first b) 1 0) h.count ∙ sym (count-push (are_alike g.first) pairs b);
      }

  before_further : (g h : Group) → IsBefore pairs g h → IsBefore (pairs ++ b ∷ []) (bump g) (bump h)
  before_further g h (k, l, one, other, lt) = (k, l, further k g one, further l h other, lt)

  module _ (groups : List Group) (old : AreAll pairs groups) where
    -- two groups are not alike
    apart : (k l : ℕ) (g h : Group) → k < l → slice_get groups k ≡ Some g → slice_get groups l ≡ Some h → are_alike g.first b ≡ true → are_alike h.first b ≡ true → ⊥
    apart k l g h lt at at' e f =
        let (i, j, one, other, less) = old.rising k l g h lt at at' in
        let alike : are_alike h.first g.first ≡ true = alike_from h.first g.first (alike_sides h.first b f ∙ sym (alike_sides g.first b e)) in
        true≢false (sym alike ∙ other.first i g.first less one.told)

    module _ (k0 : ℕ) (g0 : Group) (at0 : slice_get groups k0 ≡ Some g0) (yes : are_alike g0.first b ≡ true) where
      alone : (k : ℕ) (g : Group) → k ≢ k0 → slice_get groups k ≡ Some g → are_alike g.first b ≡ false
      alone k g other at = false_from (are_alike g.first b) (λ e.
          elim (cases_lt k k0) [
            | inl below ↦ apart k k0 g g0 below at at0 e yes
            | inr above ↦ apart k0 k g0 g (omega arith) at0 at yes e
          ])

      bump_other : (k : ℕ) → k ≢ k0 → (o : Option Group) → slice_get groups k ≡ o → o ≡ option_map bump o
      bump_other k other None e = refl
      bump_other k other (Some g) e = ap Some (sym (bump_no g (alone k g other e)))

      pub grown : (after : List Group) → slice_get after k0 ≡ Some (record g0 { count = g0.count + 1 })
          → ((k : ℕ) → k ≢ k0 → slice_get after k ≡ slice_get groups k) → AreAll (pairs ++ b ∷ []) after
      grown after here others =
          let each : (k : ℕ) → slice_get after k ≡ option_map bump (slice_get groups k) = λ k.
          elim (cases_eq k k0) [
            | inl equal ↦
                subst (λ n. slice_get after n ≡ option_map bump (slice_get groups n)) (sym equal)
                (here ∙ ap Some (sym (bump_yes g0 yes)) ∙ ap (λ o. option_map bump o) (sym at0))
            | inr other ↦ others k other ∙ bump_other k other (slice_get groups k) refl
          ] in
          record {
            each = λ k g at.
                let (x, there, is) = mapped bump (slice_get groups k) g (sym (each k) ∙ at) in
                let (place, h) = old.each k x there in
                (place, subst (IsGroup (pairs ++ b ∷ []) place) is (further place x h));
            rising = λ k l g h lt at at'.
                let (x, there, is) = mapped bump (slice_get groups k) g (sym (each k) ∙ at) in
                let (y, there', is') = mapped bump (slice_get groups l) h (sym (each l) ∙ at') in
                subst (λ z. IsBefore (pairs ++ b ∷ []) z h) is
                (subst (λ z. IsBefore (pairs ++ b ∷ []) (bump x) z) is' (before_further x y (old.rising k l x y lt there there')));
            all = λ place p at.
                elim (get-cases pairs b place p at) [
                  | inl there ↦
                      let (k, g, is, alike) = old.all place p there in
                      (k, bump g, each k ∙ ap (λ o. option_map bump o) is, alike)
                  | inr (last, is) ↦
                      (k0, bump g0, each k0 ∙ ap (λ o. option_map bump o) at0, subst (λ q. are_alike g0.first q ≡ true) (sym is) yes)
                ];
          }

    module _ (none : (k : ℕ) (g : Group) → slice_get groups k ≡ Some g → are_alike g.first b ≡ false) where
      unlike : (k : ℕ) (p : Pair) → slice_get pairs k ≡ Some p → are_alike b p ≡ false
      unlike k p at = false_from (are_alike b p) (λ e.
          let (l, g, there, alike) = old.all k p at in
          true≢false (sym (alike_from g.first b (alike_sides g.first p alike ∙ sym (alike_sides b p e))) ∙ none l g there))

      opened : IsGroup (pairs ++ b ∷ []) (length pairs) (record { first = b; count = 1 })
      opened = record {
        told = get-last pairs b (length pairs) refl;
        first = λ k p lt at. unlike k p (sym (get-front pairs (b ∷ []) k lt) ∙ at);
        count =
            let own : cond {A = ℕ} (are_alike b b) 1 0 ≡ 1 = ap (λ x. cond x 1 0) (alike_from b b refl) in
            let rest : count_by (are_alike b) pairs ≡ 0 = count-none (are_alike b) pairs unlike in
            let sum : count_by (are_alike b) (pairs ++ b ∷ []) ≡ count_by (are_alike b) pairs + cond {A = ℕ} (are_alike b b) 1 0 = count-push (are_alike b) pairs b in
            omega arith;
      }

      kept : (k : ℕ) (g : Group) → slice_get groups k ≡ Some g → (place : ℕ) × IsGroup (pairs ++ b ∷ []) place g
      kept k g at =
          let (place, h) = old.each k g at in
          (place, subst (IsGroup (pairs ++ b ∷ []) place) (bump_no g (none k g at)) (further place g h))

      kept_before : (k l : ℕ) (g h : Group) → k < l → slice_get groups k ≡ Some g → slice_get groups l ≡ Some h → IsBefore (pairs ++ b ∷ []) g h
      kept_before k l g h lt at at' =
          subst (λ z. IsBefore (pairs ++ b ∷ []) z h) (bump_no g (none k g at))
          (subst (λ z. IsBefore (pairs ++ b ∷ []) (bump g) z) (bump_no h (none l h at')) (before_further g h (old.rising k l g h lt at at')))

      before_new : (k : ℕ) (g : Group) → slice_get groups k ≡ Some g → IsBefore (pairs ++ b ∷ []) g (record { first = b; count = 1 })
      before_new k g at =
          let (place, h) = old.each k g at in
          let within = slice_get_within pairs place g.first h.told in
          (place, length pairs, subst (IsGroup (pairs ++ b ∷ []) place) (bump_no g (none k g at)) (further place g h), opened, within)

      pub added : AreAll (pairs ++ b ∷ []) (groups ++ (record { first = b; count = 1 }) ∷ [])
      added = record {
        each = λ k g at.
            elim (get-cases groups (record { first = b; count = 1 }) k g at) [
              | inl there ↦ kept k g there
              | inr (last, is) ↦ (length pairs, subst (IsGroup (pairs ++ b ∷ []) (length pairs)) (sym is) opened)
            ];
        rising = λ k l g h lt at at'.
            elim (get-cases groups (record { first = b; count = 1 }) l h at') [
              | inl there' ↦
                  let within = slice_get_within groups l h there' in
                  kept_before k l g h lt (sym (get-front groups (record { first = b; count = 1 } ∷ []) k (omega arith)) ∙ at) there'
              | inr (last, is) ↦
                  subst (IsBefore (pairs ++ b ∷ []) g) (sym is)
                  (before_new k g (sym (get-front groups (record { first = b; count = 1 } ∷ []) k (omega arith)) ∙ at))
            ];
        all = λ place p at.
            elim (get-cases pairs b place p at) [
              | inl there ↦
                  let (k, g, is, alike) = old.all place p there in
                  (k, g, get-left groups (record { first = b; count = 1 } ∷ []) k g is, alike)
              | inr (last, is) ↦ (
                length groups,
                record { first = b; count = 1 },
                get-last groups (record { first = b; count = 1 }) (length groups) refl,
                subst (λ q. are_alike b q ≡ true) (sym is) (alike_from b b refl),
              )
            ];
      }

module _ (pairs : List Pair) (groups : List Group) (all : AreAll pairs groups) where
  at_one : (i j : ℕ) (g h : Group) → IsGroup pairs i g → IsGroup pairs j h → are_alike g.first h.first ≡ true → g ≡ h
  at_one i j g h one other alike =
      let swapped : are_alike h.first g.first ≡ true = alike_from h.first g.first (sym (alike_sides g.first h.first alike)) in
      let place : i ≡ j = elim (cases_lt i j) [
        | inl below ↦ absurd (true≢false (sym swapped ∙ other.first i g.first below one.told))
        | inr rest ↦ elim (cases_lt j i) [
          | inl above ↦ absurd (true≢false (sym alike ∙ one.first j h.first above other.told))
          | inr equal ↦ omega arith
        ]
      ] in
      let first : g.first ≡ h.first = same_Some g.first h.first (sym one.told ∙ subst (λ n. slice_get pairs n ≡ Some h.first) (sym place) other.told) in
      let count : g.count ≡ h.count = one.count ∙ ap (λ p. count_by (are_alike p) pairs) first ∙ sym other.count in
      ap (λ p. record g { first = p }) first ∙ ap (λ n. record h { count = n }) count

  pub groups_from : AreGroups pairs groups
  groups_from = record {
    in_order = λ i j d lt within.
        all.rising i j (get_or groups i d) (get_or groups j d) lt (slice_get-get_or groups i d (omega arith)) (slice_get-get_or groups j d within);
    exact = λ group. (
      λ (k, lt, is). all.each k group (slice_get-get_or groups k group lt ∙ ap Some is),
      λ (place, h).
          let (k, g, there, alike) = all.all place group.first h.told in
          let (i, one) = all.each k g there in
          let equal : g ≡ group = at_one i place g group one h alike in
          (k, slice_get_within groups k g there, get_or_from_slice_get groups k g group there ∙ equal),
    );
  }

-- what is counted stays below the number of pairs
pub counts_fit : (pairs : List Pair) (groups : List Group) → AreAll pairs groups → (k : ℕ) (g : Group) → slice_get groups k ≡ Some g → g.count ≤ length pairs
counts_fit pairs groups all k g at =
    let (place, h) = all.each k g at in
    let le = count_by-le-length (are_alike g.first) pairs in
    let is = h.count in
    omega arith

-- Keys, and what is found among them.
pub sides_is : (a b : Side) (pair : Pair) → a ≡ side_of pair.earlier.event → b ≡ side_of pair.later.event → record { earlier = a; later = b } ≡ sides_of pair
sides_is a b pair e f =
    let both_of : Side → Side → Sides = λ x y. record { earlier = x; later = y } in
    ap (λ x. both_of x b) e ∙ ap (λ y. both_of (side_of pair.earlier.event) y) f

found-passes : {X : Type 0} (p : X → Bool) (xs : List X) (x : X) → find p xs ≡ Some x → p x ≡ true
found-passes p [] x e = let never : ⊥ = cc in absurd never
found-passes p (y ∷ ys) x e =
    (elim (p y) as (λ b. p y ≡ b → cond b (Some y) (find p ys) ≡ Some x → p x ≡ true) [
      | true ↦ λ passes here. let is : y ≡ x = same_Some y x here in ap p (sym is) ∙ passes
      | false ↦ λ fails past. found-passes p ys x past
    ]) refl e

any-parts : (a b : Bool) → (a || b) ≡ false → (a ≡ false) × (b ≡ false)
any-parts true b e = let never : ⊥ = cc in absurd never
any-parts false b e = (refl, e)

none-passes : {X : Type 0} (p : X → Bool) (xs : List X) (k : ℕ) (x : X) → list_any p xs ≡ false → slice_get xs k ≡ Some x → p x ≡ false
none-passes p [] k x none e = let never : ⊥ = cc in absurd never
none-passes p (y ∷ ys) zero x none e = ap p (sym (same_Some y x e)) ∙ (any-parts (p y) (list_any p ys) none).0
none-passes p (y ∷ ys) (suc k) x none e = none-passes p ys k x (any-parts (p y) (list_any p ys) none).1 e

map-set : {X Y : Type 0} (f : X → Y) (xs : List X) (i : ℕ) (x y : X) → slice_get xs i ≡ Some x → f y ≡ f x → map f (set xs i y) ≡ map f xs
map-set f [] i x y at e = refl
map-set f (z ∷ xs) zero x y at e = ap (λ w. w ∷ map f xs) (e ∙ ap f (sym (same_Some z x at)))
map-set f (z ∷ xs) (suc i) x y at e = ap (λ ws. f z ∷ ws) (map-set f xs i x y at e)

module _ (before : List Pair) (kept : Groups) (old : AreGrouped before kept) (pair : Pair) where
  module _ (place : ℕ) (met : Sides) (group : Group) (n : ℕ) (key : slice_get kept.sides.keys place ≡ Some met)
      (found : find (λ (s : Sides). eq-value.it (sides_of pair) s) kept.sides.keys ≡ Some met) (at : slice_get kept.groups.items place ≡ Some group) where
    pub keys_stay : kept.sides.keys ≡ map (λ (g : Group). sides_of g.first) (set kept.groups.items place (record { first = group.first; count = n }))
    keys_stay = old.sides ∙ sym (map-set (λ (g : Group). sides_of g.first) kept.groups.items place group (record { first = group.first; count = n }) at refl)

    met_alike : are_alike group.first pair ≡ true
    met_alike =
        let is : sides_of pair ≡ met = key_same (sides_of pair) met (found-passes (λ s. eq-value.it (sides_of pair) s) kept.sides.keys met found) in
        let there : Some (sides_of group.first) ≡ Some met =
        ap (λ o. option_map (λ (g : Group). sides_of g.first) o) (sym at)
        ∙ sym (slice_get-map (λ (g : Group). sides_of g.first) kept.groups.items place)
        ∙ ap (λ ks. slice_get ks place) (sym old.sides) ∙ key in
        alike_from group.first pair (same_Some (sides_of group.first) met there ∙ sym is)

    pub counted : n ≡ min (group.count + 1) 18446744073709551615 → length (before ++ pair ∷ []) < 2 ^ 64
        → AreAll (before ++ pair ∷ []) (set kept.groups.items place (record { first = group.first; count = n }))
    counted is few =
        let long = length-append before (pair ∷ []) in
        let all : AreAll before kept.groups.items = old.groups (omega arith) in
        let le = counts_fit before kept.groups.items all place group at in
        let more : n ≡ group.count + 1 = omega arith in
        let changed : Group = record { first = group.first; count = n } in
        grown before pair kept.groups.items all place group at met_alike (set kept.groups.items place (record { first = group.first; count = n }))
        (slice_get-set_same kept.groups.items place (record { first = group.first; count = n }) (slice_get_within kept.groups.items place group at)
        ∙ ap (λ m. Some (record group { count = m })) more)
        (λ k other. slice_get-set_other kept.groups.items place (record { first = group.first; count = n }) k other)

  module _ (none : list_any (λ (s : Sides). eq-value.it (sides_of pair) s) kept.sides.keys ≡ false) where
    pub keys_grow : kept.sides.keys ++ sides_of pair ∷ [] ≡ map (λ (g : Group). sides_of g.first) (kept.groups.items ++ (record { first = pair; count = 1 }) ∷ [])
    keys_grow = ap (λ ks. ks ++ sides_of pair ∷ []) old.sides
        ∙ sym (map-append (λ (g : Group). sides_of g.first) kept.groups.items (record { first = pair; count = 1 } ∷ []))

    pub opened_new : length (before ++ pair ∷ []) < 2 ^ 64 → AreAll (before ++ pair ∷ []) (kept.groups.items ++ (record { first = pair; count = 1 }) ∷ [])
    opened_new few =
        let long = length-append before (pair ∷ []) in
        added before pair kept.groups.items (old.groups (omega arith)) (λ k g at. false_from (are_alike g.first pair) (λ alike.
        let there : slice_get kept.sides.keys k ≡ Some (sides_of pair) =
        ap (λ ks. slice_get ks k) old.sides ∙ slice_get-map (λ (x : Group). sides_of x.first) kept.groups.items k
        ∙ ap (λ o. option_map (λ (x : Group). sides_of x.first) o) at ∙ ap Some (alike_sides g.first pair alike) in
        true≢false (sym (key_self (sides_of pair)) ∙ none-passes (λ s. eq-value.it (sides_of pair) s) kept.sides.keys k (sides_of pair) none there)))
