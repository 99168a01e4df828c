-- Lists of segments in which each stands in a relation to those after it.
use Rattle.std.proofs.Common.{◌≡◌, ℕ, ◌+◌, ◌-◌, ◌<◌, ◌≤◌, ◌∙◌, Some, List, length, get_or, inl, inr, sym, ap, subst, arith}
use Rattle.std.specs.Prelude.{slice_get}
use Rattle.std.proofs.lemmas.Bool.{cases_eq}
use Rattle.std.proofs.lemmas.Option.{get_or_from_slice_get, slice_get-get_or, slice_get_within}
use Rattle.lrc_trace.specs.declared.trace.Segment.{Segment}

-- each of those before n stands so to those after it
abbrev pub RiseBelow : (Segment → Segment → Type 0) → List Segment → ℕ → Type 0
RiseBelow R segments n = (i j : ℕ) (s t : Segment) → i ≤ j → j < n → slice_get segments i ≡ Some s → slice_get segments j ≡ Some t → R s t

module _ (R : Segment → Segment → Type 0) (segments : List Segment) where
  pub rise_one : ((s : Segment) → R s s) → RiseBelow R segments 1
  rise_one same i j s t le lt is js =
      let i_is : i ≡ 0 = omega arith in
      let j_is : j ≡ 0 = omega arith in
      let both : s ≡ t = sym (get_or_from_slice_get segments i s s is) ∙ ap (λ k. get_or segments k s) (i_is ∙ sym j_is)
      ∙ get_or_from_slice_get segments j t s js in
      subst (λ u. R s u) both (same s)

  -- one more, which the one before it stands so to
  pub rise_more : (n : ℕ) (d e : Segment) → ((s : Segment) → R s s) → ((s t u : Segment) → R s t → R t u → R s u) → 1 ≤ n → n < length segments
      → R (get_or segments (n - 1) e) (get_or segments n d) → RiseBelow R segments n → RiseBelow R segments (n + 1)
  rise_more n d e same further some within so old i j s t le lt is js =
      elim (cases_eq j n) [
        | inl last ↦
            let at : get_or segments n d ≡ t = ap (λ k. get_or segments k d) (sym last) ∙ get_or_from_slice_get segments j t d js in
            elim (cases_eq i n) [
              | inl both ↦
                  let here : get_or segments n d ≡ s = ap (λ k. get_or segments k d) (sym both) ∙ get_or_from_slice_get segments i s d is in
                  subst (λ u. R u t) here (subst (λ u. R (get_or segments n d) u) at (same (get_or segments n d)))
              | inr before ↦
                  let b = get_or segments (n - 1) e in
                  let there : slice_get segments (n - 1) ≡ Some b = slice_get-get_or segments (n - 1) e (omega arith) in
                  further s b t (old i (n - 1) s b (omega arith) (omega arith) is there) (subst (λ u. R b u) at so)
            ]
        | inr other ↦ old i j s t le (omega arith) is js
      ]

  pub rise_all : (n : ℕ) → length segments ≤ n → RiseBelow R segments n → (i j : ℕ) (s t : Segment) → i ≤ j → slice_get segments i ≡ Some s
      → slice_get segments j ≡ Some t → R s t
  rise_all n long below i j s t le is js = let within = slice_get_within segments j t js in below i j s t le (omega arith) is js

  -- where all do, one stands so to the next
  pub rise_next : (n : ℕ) (d e : Segment) → 1 ≤ n → n < length segments
      → ((i j : ℕ) (s t : Segment) → i ≤ j → slice_get segments i ≡ Some s → slice_get segments j ≡ Some t → R s t)
      → R (get_or segments (n - 1) e) (get_or segments n d)
  rise_next n d e some within all =
      all (n - 1) n (get_or segments (n - 1) e) (get_or segments n d) (omega arith) (slice_get-get_or segments (n - 1) e (omega arith))
      (slice_get-get_or segments n d within)
