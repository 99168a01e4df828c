-- Pairs have one list of groups.
use Rattle.std.proofs.Common.{◌≡◌, ℕ, ◌<◌, List, inl, inr, sym, refl, ◌∙◌, arith}
use Rattle.std.specs.Prelude.{Bool, true, false, ◌&&◌, Option, Some, None}
use Rattle.std.proofs.lemmas.Bool.{false≢true, eq-eqb, cases_lt}
use Rattle.lrc_races_trace.specs.declared.event.Event.{Event}
use Rattle.lrc_races_trace.specs.declared.event.Pair.{Pair}
use Rattle.lrc_races_trace.specs.declared.group.Group.{Group}
use Rattle.lrc_races_trace.specs.Groups.{is_write, same_kind, same_location, alike, are_alike, IsGroup, IsBefore, AreGroups}
use Rattle.lrc_races_laws.proofs.Pairs.{in_order_one}

own_location : (place : Option ℕ) → same_location place place ≡ true
own_location (Some n) = eq-eqb n n refl
own_location None = refl

own_kind : (is : Bool) → same_kind is is ≡ true
own_kind true = refl
own_kind false = refl

both : (a b : Bool) → a ≡ true → b ≡ true → (a && b) ≡ true
both a b e f = rw (e, f) refl

own : (event : Event) → alike event event ≡ true
own event = both _ _ (own_location event.location) (own_kind (is_write event.operation))

are_own : (pair : Pair) → are_alike pair pair ≡ true
are_own pair = both _ _ (own pair.earlier.event) (own pair.later.event)

module _ (pairs : List Pair) where
  not_later : (k l : ℕ) (group : Group) → IsGroup pairs k group → IsGroup pairs l group → k < l → ⊥
  not_later k l group a b lt = false≢true (sym (b.first k group.first lt a.told) ∙ are_own group.first)

  one_place : (k l : ℕ) (group : Group) → IsGroup pairs k group → IsGroup pairs l group → k ≡ l
  one_place k l group a b =
      elim (cases_lt k l) [
        | inl lt ↦ absurd (not_later k l group a b lt)
        | inr le ↦ elim (cases_lt l k) [
          | inl lt ↦ absurd (not_later l k group b a lt)
          | inr other ↦ omega arith
        ]
      ]

  groups_apart : (one other : Group) → IsBefore pairs one other → IsBefore pairs other one → ⊥
  groups_apart one other (k, l, a, b, lt) (m, n, c, d, less) =
      let p = one_place k n one a d in
      let q = one_place l m other b c in
      omega arith

  pub one_grouping : (one other : List Group) → AreGroups pairs one → AreGroups pairs other → one ≡ other
  one_grouping one other a b =
      in_order_one (IsBefore pairs) groups_apart one other a.in_order b.in_order (λ g. (
        λ h. (b.exact g).1 ((a.exact g).0 h),
        λ h. (a.exact g).1 ((b.exact g).0 h),
      ))
