-- What the last step of a path that takes or undoes says is what the whole path says.
use Rattle.std.proofs.Common.{◌≡◌, ◌∙◌, inl, inr, ℕ, ap, refl, [], ◌∷◌, ◌++◌, Bool}
use Rattle.std.specs.Prelude.{true, false, cond}
use Rattle.lrc_program.specs.Statements.{Statement}
use Rattle.lrc_lint_warned.specs.declared.held.Side.{Side}
use Rattle.lrc_lint_warned.specs.Held.{Path, Step, passes, beside, enters, at_start, is_under, step_takes, step_undoes, takes}
use Rattle.lrc_lint_warned.specs.Under.{IsUnder, NoneUndoes}

module _ (side : Side) (lock : ℕ) where
  farther : (step : Step) (path : Path) → step_undoes side lock step ≡ false → IsUnder side lock path → IsUnder side lock (step ∷ path)
  farther step path kept (inl one) = inl record {
    between = step ∷ one.between;
    one = one.one;
    before = one.before;
    whole = ap (λ l. step ∷ l) one.whole;
    is_one = one.is_one;
    kept = (kept, one.kept);
  }
  farther step path kept (inr start) = inr record { start = start.start; kept = (kept, start.kept) }

  taken : (step : Step) (path : Path) → step_takes side lock step ≡ true → IsUnder side lock (step ∷ path)
  taken (passes s) path is = inl record { between = []; one = s; before = path; whole = refl; is_one = is; kept = tt }
  taken (beside b) path is = absurd (cc)
  taken (enters b) path is = absurd (cc)

  by_step : (step : Step) (path : Path) (t u : Bool) → step_takes side lock step ≡ t → step_undoes side lock step ≡ u
      → (is_under side lock path ≡ true → IsUnder side lock path)
      → cond t true (cond u false (is_under side lock path)) ≡ true → IsUnder side lock (step ∷ path)
  by_step step path true u is_taken undone more h = taken step path is_taken
  by_step step path false true is_taken undone more h = absurd (cc)
  by_step step path false false is_taken undone more h = farther step path undone (more h)

  pub under_is : (path : Path) → is_under side lock path ≡ true → IsUnder side lock path
  under_is [] h = inr record { start = h; kept = tt }
  under_is (step ∷ path) h = by_step step path (step_takes side lock step) (step_undoes side lock step) refl refl (under_is path) h

  kept_step : (step : Step) (path : Path) (t : Bool) → step_undoes side lock step ≡ false → is_under side lock path ≡ true
      → cond t true (cond (step_undoes side lock step) false (is_under side lock path)) ≡ true
  kept_step step path true kept h = refl
  kept_step step path false kept h = ap (λ b. cond b false (is_under side lock path)) kept ∙ h

  one_is : (between : Path) (s : Statement) (before : Path) → takes side lock s ≡ true → NoneUndoes side lock between
      → is_under side lock (between ++ passes s ∷ before) ≡ true
  one_is [] s before is kept =
      ap (λ b. cond b true (cond (step_undoes side lock (passes s)) false (is_under side lock before))) is
  one_is (step ∷ between) s before is kept =
      kept_step step (between ++ passes s ∷ before) (step_takes side lock step) kept.0 (one_is between s before is kept.1)

  start_is : (path : Path) → at_start side ≡ true → NoneUndoes side lock path → is_under side lock path ≡ true
  start_is [] start kept = start
  start_is (step ∷ path) start kept = kept_step step path (step_takes side lock step) kept.0 (start_is path start kept.1)

  pub is_under_one : (path : Path) → IsUnder side lock path → is_under side lock path ≡ true
  is_under_one path (inl one) = ap (is_under side lock) one.whole ∙ one_is one.between one.one one.before one.is_one one.kept
  is_under_one path (inr start) = start_is path start.start start.kept
