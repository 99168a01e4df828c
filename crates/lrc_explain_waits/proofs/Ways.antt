-- A way along which waiting leads, step by step.
use Rattle.std.proofs.Common.{◌≡◌, ◌∙◌, ◌<◌, ◌≤◌, ◌+◌, ◌-◌, ℕ, suc, List, [], ◌∷◌, ◌++◌, Option, Some, None, refl, sym, ap, arith, append-nil, append_assoc}
use Rattle.std.specs.Prelude.{option_map, slice_index_or}
use Rattle.std.proofs.lemmas.Bool.{eq-eqb, ne_eqb, lt-ltb, le-ltb}
use Rattle.lrc_explain_waits.specs.Circles.{back_by, way_back}

-- nodes, and those behind them, if there are
abbrev pub behind : List ℕ → Option (List ℕ) → Option (List ℕ)
behind way None = None
behind way (Some more) = Some (way ++ more)

behind_one : (way : List ℕ) (next : ℕ) (more : Option (List ℕ)) → behind way (option_map (λ l. next ∷ l) more) ≡ behind (way ++ next ∷ []) more
behind_one way next None = refl
behind_one way next (Some more) = ap Some (sym (append_assoc way (next ∷ []) more))

module _ (waits : List (Option ℕ)) (first n step node : ℕ) (way : List ℕ) (lt : step < n) where
  left : n - step ≡ suc (n - (step + 1))
  left = omega arith

  once : (next : Option ℕ) → slice_index_or waits node None ≡ next →
      behind way (way_back waits first (n - step) node) ≡ behind way (back_by first (way_back waits first (n - (step + 1))) next)
  once next is =
      ap (λ m. behind way (way_back waits first m node)) left
      ∙ ap (λ w. behind way (back_by first (way_back waits first (n - (step + 1))) w)) is

  pub way_ends : slice_index_or waits node None ≡ None → behind way (way_back waits first (n - step) node) ≡ None
  way_ends is = once None is

  pub way_is_back : (next : ℕ) → slice_index_or waits node None ≡ Some next → next ≡ first
      → behind way (way_back waits first (n - step) node) ≡ Some way
  way_is_back next is same = once (Some next) is ∙ rw (eq-eqb next first same) (ap Some (append-nil way))

  pub way_is_lower : (next : ℕ) → slice_index_or waits node None ≡ Some next → next < first
      → behind way (way_back waits first (n - step) node) ≡ None
  way_is_lower next is lower =
      once (Some next) is ∙ rw (ne_eqb next first (λ e. omega (arith, e, lower)), lt-ltb next first lower) refl

  pub way_goes_on : (next : ℕ) → slice_index_or waits node None ≡ Some next → (next ≡ first → ⊥) → first ≤ next
      → behind way (way_back waits first (n - step) node) ≡ behind (way ++ next ∷ []) (way_back waits first (n - (step + 1)) next)
  way_goes_on next is other above =
      once (Some next) is ∙ rw (ne_eqb next first other, le-ltb next first above)
      (behind_one way next (way_back waits first (n - (step + 1)) next))
