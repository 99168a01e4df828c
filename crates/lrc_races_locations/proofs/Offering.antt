-- What is found in a row, one access further to its front.
use Rattle.std.proofs.Common.{◌≡◌, ℕ, zero, suc, ◌+◌, ◌<◌, ◌≤◌, ◌⊎◌, List, [], ◌∷◌, ◌++◌, inl, inr, sym, subst, ◌∙◌, ap, arith, cond, get_or, length}
use Rattle.std.specs.Prelude.{◌↔◌, IsTrue, Bool, Some, true, false, AllPairs, Contains, slice_get}
use Rattle.std.specs.List.{insert, list_any}
use Rattle.std.proofs.lemmas.Bool.{cases_eq, true≢false}
use Rattle.std.proofs.lemmas.List.Folds.{list_any_at}
use Rattle.std.proofs.lemmas.Map.Views.{Contains-from_any}
use Rattle.std.proofs.lemmas.Option.{slice_get_within, get_or_from_slice_get, same_Some}
use Rattle.std.proofs.lemmas.List.Elements.{Contains-push, Contains-push_cases, Contains-append_left, Contains-get_or}
use Rattle.lrc_races_trace.specs.declared.event.Pair.{Pair}
use Rattle.lrc_races_trace.specs.declared.event.Placed.{Placed}
use Rattle.lrc_races_detector.specs.declared.groups.Sides.{Sides}
use Rattle.lrc_races_detector.specs.contracts.groups.SidesPartialEq.TheImpl.{eq-value}
use Rattle.lrc_races_detector.specs.Grouping.{sides_of}
use Rattle.lrc_races_detector.proofs.Grouping.{key_same, key_self}
use Rattle.lrc_races_locations.specs.Finding.{IsRival, pair_of, IsOffered, met, fresh, IsConsidered, passed, offered, AreFoundFrom}
use Rattle.lrc_races_locations.proofs.Filtering.{front_cases, front_there, front_here, contains_none}

pub all_pairs_front : {X : Type 0} (R : X → X → Type 0) (y : X) (xs : List X) → AllPairs R xs → ((x : X) → Contains xs x → R y x) → AllPairs R (y ∷ xs)
all_pairs_front R y xs old first i zero d lt within = absurd (omega (arith, lt))
all_pairs_front R y xs old first zero (suc j) d lt within = first (get_or xs j d) (Contains-get_or xs j d (omega (arith, within)))
all_pairs_front R y xs old first (suc i) (suc j) d lt within = old i j d (omega (arith, lt)) (omega (arith, within))

abbrev Recent : Placed → Placed → Type 0
Recent p q = p.position < q.position

pub rising : (row : List Placed) → AllPairs Recent row → (k m : ℕ) (p q : Placed) → k < m → slice_get row k ≡ Some p → slice_get row m ≡ Some q
    → p.position < q.position
rising row order k m p q lt at there =
    let within = slice_get_within row m q there in
    let r = order k m p lt within in
    let one : get_or row k p ≡ p = get_or_from_slice_get row k p p at in
    let other : get_or row m p ≡ q = get_or_from_slice_get row m q p there in
    let e = ap (λ (x : Placed). x.position) one in
    let f = ap (λ (x : Placed). x.position) other in
    omega arith

module _ (row : List Placed) (known : List ℕ) (later : Placed) (before : List Sides) where
  found-none : (place : ℕ) → length row ≤ place → AreFoundFrom place row known later before before []
  found-none place past = record {
    sides = λ s. (λ c. inl c, λ t. elim t [ inl c ↦ c | inr (p, c, e) ↦ absurd (contains_none p c) ]);
    sound = λ p c. absurd (contains_none p c);
    greatest = λ p c. absurd (contains_none p c);
    complete = λ k spot le at rival. let within = slice_get_within row k spot at in absurd (omega arith);
    in_order = λ i j d lt within. absurd (omega (arith, within));
  }

  pub found-empty : (place : ℕ) (found : List Pair) → found ≡ [] → length row ≤ place → AreFoundFrom place row known later before before found
  found-empty place found none past = subst (λ (f : List Pair). AreFoundFrom place row known later before before f) (sym none) (found-none place past)

  module _ (place : ℕ) (spot : Placed) (at : slice_get row place ≡ Some spot) (after : List Sides) (found : List Pair)
      (old : AreFoundFrom (place + 1) row known later before after found) where
    -- the access here is the one
    here : (other : Placed) → slice_get row place ≡ Some other → other ≡ spot
    here other is = same_Some other spot (sym is ∙ at)

    pub found-passed : (IsRival known later spot → ⊥) → AreFoundFrom place row known later before after found
    found-passed none = record {
      sides = old.sides;
      sound = λ p c. let (k, le, rest, later_is, rival, new) = old.sound p c in (k, omega arith, rest, later_is, rival, new);
      greatest = λ p c k other le is rival same.
          elim (cases_eq k place) [
            | inl there ↦
                let one : other ≡ spot = here other (subst (λ (m : ℕ). slice_get row m ≡ Some other) there is) in
                absurd (none (subst (λ (x : Placed). IsRival known later x) one rival))
            | inr apart ↦ old.greatest p c k other (omega arith) is rival same
          ];
      complete = λ k other le is rival.
          elim (cases_eq k place) [
            | inl there ↦
                let one : other ≡ spot = here other (subst (λ (m : ℕ). slice_get row m ≡ Some other) there is) in
                absurd (none (subst (λ (x : Placed). IsRival known later x) one rival))
            | inr apart ↦ old.complete k other (omega arith) is rival
          ];
      in_order = old.in_order;
    }

    module _ (order : AllPairs Recent row) (rival : IsRival known later spot) where
      -- what is found behind comes later
      behind : (p : Pair) → Contains found p → spot.position < p.earlier.position
      behind p c = let (k, le, is, later_is, r, new) = old.sound p c in rising row order place k spot p.earlier (omega arith) at is

      met_here : Contains after (sides_of (pair_of spot later)) → AreFoundFrom place row known later before after found
      met_here there = record {
        sides = old.sides;
        sound = λ p c. let (k, le, rest, later_is, r, new) = old.sound p c in (k, omega arith, rest, later_is, r, new);
        greatest = λ p c k other le is r same.
            elim (cases_eq k place) [
              | inl e ↦
                  let one : other ≡ spot = here other (subst (λ (m : ℕ). slice_get row m ≡ Some other) e is) in
                  let lt = behind p c in
                  let f = ap (λ (x : Placed). x.position) one in
                  omega arith
              | inr apart ↦ old.greatest p c k other (omega arith) is r same
            ];
        complete = λ k other le is r.
            elim (cases_eq k place) [
              | inl e ↦
                  let one : other ≡ spot = here other (subst (λ (m : ℕ). slice_get row m ≡ Some other) e is) in
                  subst (λ (x : Placed). Contains after (sides_of (pair_of x later))) (sym one) there
              | inr apart ↦ old.complete k other (omega arith) is r
            ];
        in_order = old.in_order;
      }

      module _ (new : Contains after (sides_of (pair_of spot later)) → ⊥) where
        abbrev pair : Pair
        pair = pair_of spot later

        abbrev side : Sides
        side = sides_of (pair_of spot later)

        fresh_sides : (s : Sides) → Contains (after ++ side ∷ []) s → Contains before s ⊎ ((p : Pair) × Contains (pair ∷ found) p × (sides_of p ≡ s))
        fresh_sides s c =
            elim (Contains-push_cases after side s c) [
              | inl there ↦
                  elim ((old.sides s).0 there) [
                    | inl b ↦ inl b
                    | inr (p, f, e) ↦ inr (p, front_there found pair p f, e)
                  ]
              | inr same ↦ inr (pair, front_here found pair, same)
            ]

        sides_fresh : (s : Sides) → Contains before s ⊎ ((p : Pair) × Contains (pair ∷ found) p × (sides_of p ≡ s)) → Contains (after ++ side ∷ []) s
        sides_fresh s (inl b) = Contains-append_left after (side ∷ []) s ((old.sides s).1 (inl b))
        sides_fresh s (inr (p, f, e)) =
            elim (front_cases found pair p f) [
              | inl same ↦ subst (λ (x : Sides). Contains (after ++ side ∷ []) x) (sym (ap sides_of same) ∙ e) (Contains-push after side)
              | inr there ↦ Contains-append_left after (side ∷ []) s ((old.sides s).1 (inr (p, there, e)))
            ]

        fresh_here : AreFoundFrom place row known later before (after ++ side ∷ []) (pair ∷ found)
        fresh_here = record {
          sides = λ s. (fresh_sides s, sides_fresh s);
          sound = λ p c.
              elim (front_cases found pair p c) [
                | inl same ↦ (
                  place,
                  omega arith,
                  at ∙ ap (λ (x : Pair). Some x.earlier) (sym same),
                  ap (λ (x : Pair). x.later) same,
                  subst (λ (x : Pair). IsRival known later x.earlier) (sym same) rival,
                  λ b. new ((old.sides side).1 (inl (subst (λ (x : Pair). Contains before (sides_of x)) same b))),
                )
                | inr there ↦ let (k, le, rest, later_is, r, none) = old.sound p there in (k, omega arith, rest, later_is, r, none)
              ];
          greatest = λ p c k other le is r same.
              elim (cases_eq k place) [
                | inl e ↦
                    let one : other ≡ spot = here other (subst (λ (m : ℕ). slice_get row m ≡ Some other) e is) in
                    let f = ap (λ (x : Placed). x.position) one in
                    elim (front_cases found pair p c) [
                      | inl is_pair ↦ let g = ap (λ (x : Pair). x.earlier.position) is_pair in omega arith
                      | inr there ↦ let lt = behind p there in omega arith
                    ]
                | inr apart ↦
                    elim (front_cases found pair p c) [
                      | inl is_pair ↦
                          let there = old.complete k other (omega arith) is r in
                          absurd (new (subst (λ (s : Sides). Contains after s) (same ∙ ap sides_of is_pair) there))
                      | inr there ↦ old.greatest p there k other (omega arith) is r same
                    ]
              ];
          complete = λ k other le is r.
              elim (cases_eq k place) [
                | inl e ↦
                    let one : other ≡ spot = here other (subst (λ (m : ℕ). slice_get row m ≡ Some other) e is) in
                    subst (λ (x : Placed). Contains (after ++ side ∷ []) (sides_of (pair_of x later))) (sym one) (Contains-push after side)
                | inr apart ↦ Contains-append_left after (side ∷ []) (sides_of (pair_of other later)) (old.complete k other (omega arith) is r)
              ];
          in_order = all_pairs_front (λ (p q : Pair). p.earlier.position < q.earlier.position) pair found old.in_order behind;
        }

      found-offered : (after' : List Sides) (found' : List Pair) → IsOffered (pair_of spot later) after after' found found'
          → AreFoundFrom place row known later before after' found'
      found-offered after' found' (met there same_after same_found) =
          subst (λ (s : List Sides). AreFoundFrom place row known later before s found') (sym same_after)
          (subst (λ (f : List Pair). AreFoundFrom place row known later before after f) (sym same_found) (met_here there))
      found-offered after' found' (fresh new is_after is_found) =
          subst (λ (s : List Sides). AreFoundFrom place row known later before s found') (sym is_after)
          (subst (λ (f : List Pair). AreFoundFrom place row known later before (after ++ sides_of (pair_of spot later) ∷ []) f) (sym is_found)
          (fresh_here new))

    pub found-considered : AllPairs Recent row → (after' : List Sides) (found' : List Pair) → IsConsidered known later spot after after' found found'
        → AreFoundFrom place row known later before after' found'
    found-considered order after' found' (passed none same_after same_found) =
        subst (λ (s : List Sides). AreFoundFrom place row known later before s found') (sym same_after)
        (subst (λ (f : List Pair). AreFoundFrom place row known later before after f) (sym same_found) (found-passed none))
    found-considered order after' found' (offered rival offer) = found-offered order rival after' found' offer

-- what is met is among the keys, and what is not is new
pub met_key : (keys : List Sides) (k s : Sides) → k ≡ s → list_any (λ (t : Sides). eq-value.it k t) keys ≡ true → Contains keys s
met_key keys k s same any = Contains-from_any key_same s keys (subst (λ (x : Sides). list_any (λ (t : Sides). eq-value.it x t) keys ≡ true) same any)

pub new_key : (keys : List Sides) (k s : Sides) → k ≡ s → list_any (λ (t : Sides). eq-value.it k t) keys ≡ false → Contains keys s → ⊥
new_key keys k s same none (i, lt, is) =
    let there : list_any (λ (t : Sides). eq-value.it s t) keys ≡ true =
    list_any_at (λ (t : Sides). eq-value.it s t) keys i s lt (subst (λ (t : Sides). eq-value.it s t ≡ true) (sym is) (key_self s)) in
    true≢false (sym there ∙ subst (λ (x : Sides). list_any (λ (t : Sides). eq-value.it x t) keys ≡ false) same none)

pub key_added : (keys after : List Sides) (k s : Sides) → k ≡ s → list_any (λ (t : Sides). eq-value.it k t) keys ≡ false
    → after ≡ cond (list_any (λ (t : Sides). eq-value.it k t) keys) keys (keys ++ k ∷ []) → after ≡ keys ++ s ∷ []
key_added keys after k s same none e =
    e ∙ ap (λ b. cond b keys (keys ++ k ∷ [])) none ∙ ap (λ (x : Sides). keys ++ x ∷ []) same

pub pair_in_front : (found after : List Pair) (new : Pair) → after ≡ insert found 0 new → after ≡ new ∷ found
pair_in_front [] after new e = e
pair_in_front (p ∷ found) after new e = e

-- what a test says
pub is_true : (r : Bool) (P : Type 0) → (IsTrue r ↔ P) → r ≡ true → P
is_true r P says set = says.0 set

pub is_false : (r : Bool) (P : Type 0) → (IsTrue r ↔ P) → r ≡ false → P → ⊥
is_false r P says unset h = true≢false (sym (says.1 h) ∙ unset)
