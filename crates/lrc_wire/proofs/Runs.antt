-- Runs are one way of cutting ascending changes, and the only one.
use Rattle.std.proofs.Common.{◌≡◌, ◌∙◌, ℕ, suc, ◌+◌, ◌*◌, ◌<◌, ◌≤◌, true, eqb, List, [], ◌∷◌, ◌++◌, length, refl, sym, ap, subst, arith, inl, inr}
use Rattle.std.specs.Prelude.{All, AllPairs}
use Rattle.std.specs.List.{flat_map}
use Rattle.std.proofs.lemmas.Bool.{eq-eqb, ne_eqb}
use Rattle.std.proofs.lemmas.Bool.Decides.{eqb_tells}
use Rattle.std.proofs.lemmas.List.Concat.{flat_map-cons}
use Rattle.std.proofs.lemmas.List.Elements.{All-nil, All-cons, All-head, All-tail, All-weaker}
use Rattle.std.proofs.lemmas.List.Kept.{AllPairs-cons}
use Rattle.lrc_page.specs.declared.changes.Change.{Change}
use Rattle.lrc_page.specs.Changes.{IsAscending}
use Rattle.lrc_wire.specs.Ranges.{HasBits}
use Rattle.lrc_wire.specs.Runs.{Run, changes_in_run, behind_run, AreRuns, in_front, runs_of}

-- ---- runs that begin at or above an offset, at least one offset between two

abbrev pub Runs : (Run → Type 0) → ℕ → List Run → Type 0
Runs P low [] = Unit {0}
Runs P low (r ∷ rs) = (low ≤ r.first) × P r × Runs P (behind_run r + 1) rs

-- a run has a value
abbrev pub IsSome : Run → Type 0
IsSome r = 1 ≤ length r.values

-- a run within a page of 256 words
pub record IsRun (r : Run) : Type 0 where
  pub some : 1 ≤ length r.values
  pub within : behind_run r ≤ 256
  pub bits : All (HasBits 64) r.values

-- changes of a page that begin at or above an offset, each above the one before
abbrev pub Changing : ℕ → List Change → Type 0
Changing low [] = Unit {0}
Changing low (c ∷ cs) = (low ≤ c.offset) × ((c.offset < 256) × HasBits 64 c.value) × Changing (c.offset + 1) cs

pub lower : (low high : ℕ) (cs : List Change) → low ≤ high → Changing high cs → Changing low cs
lower low high [] le h = tt
lower low high (c ∷ cs) le h = (omega (arith, h.0), h.1, h.2)

eqb_same : (n : ℕ) → eqb n n ≡ true
eqb_same n = eq-eqb n n refl

-- ---- what the function cuts is whole

front_whole : (c : Change) (rs : List Run) → flat_map changes_in_run (in_front c rs) ≡ c ∷ flat_map changes_in_run rs
front_whole c [] = refl
front_whole c (r ∷ rs) =
    elim (eqb_tells r.first (c.offset + 1)) [
      | inl p ↦ rw (p.0, flat_map-cons, flat_map-cons, p.1) refl
      | inr q ↦ rw (q.0, flat_map-cons, flat_map-cons) refl
    ]

pub runs_of-whole : (cs : List Change) → flat_map changes_in_run (runs_of cs) ≡ cs
runs_of-whole [] = refl
runs_of-whole (c ∷ cs) = front_whole c (runs_of cs) ∙ ap (λ (xs : List Change). c ∷ xs) (runs_of-whole cs)

-- ---- and apart

front_apart : (low : ℕ) (c : Change) (rs : List Run) → low ≤ c.offset → (c.offset < 256) × HasBits 64 c.value → Runs IsRun (c.offset + 1) rs
    → Runs IsRun low (in_front c rs)
front_apart low c [] le here h =
    (le, record { some = omega arith; within = omega (arith, here.0); bits = All-cons (HasBits 64) c.value [] here.1 (All-nil (HasBits 64)) }, tt)
front_apart low c (r ∷ rs) le here h =
    elim (eqb_tells r.first (c.offset + 1)) [
      | inl p ↦
          let ends : c.offset + length (c.value ∷ r.values) ≡ behind_run r = omega (arith, p.1) in
          rw p.0 (
            le,
            record {
              some = omega arith;
              within = omega (arith, ends, h.1.within);
              bits =
                  All-cons (HasBits 64) c.value r.values here.1 h.1.bits;
            },
            subst (λ (n : ℕ). Runs IsRun (n + 1) rs) (sym ends) h.2,
          )
      | inr q ↦
          let apart : c.offset + 1 + 1 ≤ r.first = omega (arith, h.0, q.1) in
          rw q.0 (
            le,
            record {
              some = omega arith;
              within = omega (arith, here.0);
              bits =
                  All-cons (HasBits 64) c.value [] here.1 (All-nil (HasBits 64));
            },
            (apart, h.1, h.2),
          )
    ]

pub runs_of-apart : (low : ℕ) (cs : List Change) → Changing low cs → Runs IsRun low (runs_of cs)
runs_of-apart low [] h = tt
runs_of-apart low (c ∷ cs) h = front_apart low c (runs_of cs) h.0 h.1 (runs_of-apart (c.offset + 1) cs h.2)

-- ---- no other cut is

one_run : (first : ℕ) (values : List ℕ) (cs : List Change) (rs : List Run) → runs_of cs ≡ rs → 1 ≤ length values → Runs IsSome (first + length values + 1) rs
    → runs_of (changes_in_run (record { first = first; values = values }) ++ cs) ≡ record { first = first; values = values } ∷ rs
one_run first [] cs rs e some h = absurd (omega arith)
one_run first (v ∷ []) cs [] e some h = rw e refl
one_run first (v ∷ []) cs (r ∷ rs) e some h =
    let far = ne_eqb r.first (first + 1) (λ same. omega (arith, h.0)) in
    rw (e, far) refl
one_run first (v ∷ w ∷ values) cs rs e some h =
    let ends : first + 1 + length (w ∷ values) ≡ first + length (v ∷ w ∷ values) = omega arith in
    let others = one_run (first + 1) (w ∷ values) cs rs e (omega arith) (subst (λ (n : ℕ). Runs IsSome (n + 1) rs) (sym ends) h) in
    rw others (rw eqb_same refl)

pub runs_of-only : (low : ℕ) (rs : List Run) → Runs IsSome low rs → runs_of (flat_map changes_in_run rs) ≡ rs
runs_of-only low [] h = refl
runs_of-only low (r ∷ rs) h = rw flat_map-cons (one_run r.first r.values (flat_map changes_in_run rs) rs (runs_of-only (behind_run r + 1) rs h.2) h.1 h.2)

-- ---- how many runs there may be

pub few_runs : (low : ℕ) (rs : List Run) → Runs IsRun low rs → 1 ≤ length rs → low + 2 * length rs ≤ 257
few_runs low [] h some = absurd (omega arith)
few_runs low (r ∷ []) h some = omega (arith, h.0, h.1.some, h.1.within)
few_runs low (r ∷ s ∷ rs) h some = omega (arith, h.0, h.1.some, h.1.within, few_runs (behind_run r + 1) (s ∷ rs) h.2 (omega arith))

-- ---- what runs stand for

run_changes : (low first : ℕ) (values : List ℕ) (cs : List Change) → low ≤ first → first + length values ≤ 256 → All (HasBits 64) values
    → Changing (first + length values) cs
    → Changing low (changes_in_run (record { first = first; values = values }) ++ cs)
run_changes low first [] cs le within bits h = lower low (first + 0) cs (omega arith) h
run_changes low first (v ∷ values) cs le within bits h =
    let ends : first + 1 + length values ≡ first + length (v ∷ values) = omega arith in (
      le,
      (omega arith, All-head (HasBits 64) v values bits),
      run_changes (first + 1) (first + 1) values cs (omega arith) (omega (arith, ends)) (All-tail (HasBits 64) v values bits)
          (subst (λ (n : ℕ). Changing n cs) (sym ends) h),
    )

pub runs_changes : (low : ℕ) (rs : List Run) → Runs IsRun low rs → Changing low (flat_map changes_in_run rs)
runs_changes low [] h = tt
runs_changes low (r ∷ rs) h =
    rw flat_map-cons (run_changes low r.first r.values (flat_map changes_in_run rs) h.0 h.1.within h.1.bits
    (lower (behind_run r) (behind_run r + 1) (flat_map changes_in_run rs) (omega arith) (runs_changes (behind_run r + 1) rs h.2)))

-- ---- the same facts, place by place

pub runs_weaker : (P Q : Run → Type 0) → ((r : Run) → P r → Q r) → (low : ℕ) (rs : List Run) → Runs P low rs → Runs Q low rs
runs_weaker P Q to low [] h = tt
runs_weaker P Q to low (r ∷ rs) h = (h.0, to r h.1, runs_weaker P Q to (behind_run r + 1) rs h.2)

All-from_runs : (P : Run → Type 0) (low : ℕ) (rs : List Run) → Runs P low rs → All P rs
All-from_runs P low [] h = All-nil P
All-from_runs P low (r ∷ rs) h = All-cons P r rs h.1 (All-from_runs P (behind_run r + 1) rs h.2)

begin_at : (low high : ℕ) (rs : List Run) → low ≤ high → Runs IsSome high rs → All (λ b. low ≤ b.first) rs
begin_at low high [] le h = All-nil (λ b. low ≤ b.first)
begin_at low high (r ∷ rs) le h = All-cons (λ b. low ≤ b.first) r rs (omega (arith, h.0)) (begin_at low (behind_run r + 1) rs (omega (arith, h.0)) h.2)

apart_from_runs : (low : ℕ) (rs : List Run) → Runs IsSome low rs → AllPairs (λ a b. behind_run a < b.first) rs
apart_from_runs low [] h = λ i j d lt within. absurd (omega arith)
apart_from_runs low (r ∷ rs) h =
    AllPairs-cons (λ a b. behind_run a < b.first) r rs
    (All-weaker (λ b. behind_run r + 1 ≤ b.first) (λ b. behind_run r < b.first) (λ b le. omega (arith, le)) rs
    (begin_at (behind_run r + 1) (behind_run r + 1) rs (omega arith) h.2))
    (apart_from_runs (behind_run r + 1) rs h.2)

pub are_runs : (low : ℕ) (rs : List Run) → Runs IsSome low rs → AreRuns (flat_map changes_in_run rs) rs
are_runs low rs h = record { whole = refl; some = All-from_runs IsSome low rs h; apart = apart_from_runs low rs h }

runs_from : (low : ℕ) (rs : List Run) → All IsSome rs → AllPairs (λ a b. behind_run a < b.first) rs → All (λ b. low ≤ b.first) rs → Runs IsSome low rs
runs_from low [] some apart first = tt
runs_from low (r ∷ rs) some apart first = (
  All-head (λ b. low ≤ b.first) r rs first,
  All-head IsSome r rs some,
  runs_from (behind_run r + 1) rs (All-tail IsSome r rs some)
      (λ i j d lt within. apart (suc i) (suc j) d (omega arith) (omega arith))
      (λ k d within. omega (arith, apart 0 (suc k) d (omega arith) (omega arith))),
)

-- runs of changes are what the function cuts
pub runs_are : (cs : List Change) (rs : List Run) → AreRuns cs rs → rs ≡ runs_of cs
runs_are cs rs h =
    sym (runs_of-only 0 rs (runs_from 0 rs h.some h.apart (λ k d within. omega arith))) ∙ ap runs_of h.whole

-- a change of a page
abbrev pub IsChange : Change → Type 0
IsChange c = (c.offset < 256) × HasBits 64 c.value

abbrev pub AreChanging : List Change → Type 0
AreChanging cs = All IsChange cs × IsAscending cs

changing_each : (low : ℕ) (cs : List Change) → Changing low cs → All IsChange cs
changing_each low [] h = All-nil IsChange
changing_each low (c ∷ cs) h = All-cons IsChange c cs h.1 (changing_each (c.offset + 1) cs h.2)

changing_above : (low high : ℕ) (cs : List Change) → low ≤ high → Changing high cs → All (λ c. low ≤ c.offset) cs
changing_above low high [] le h = All-nil (λ c. low ≤ c.offset)
changing_above low high (c ∷ cs) le h = All-cons (λ c. low ≤ c.offset) c cs (omega (arith, h.0)) (changing_above low (c.offset + 1) cs (omega (arith, h.0)) h.2)

changing_ascends : (low : ℕ) (cs : List Change) → Changing low cs → IsAscending cs
changing_ascends low [] h = λ i j d lt within. absurd (omega arith)
changing_ascends low (c ∷ cs) h =
    AllPairs-cons (λ c d. c.offset < d.offset) c cs
    (All-weaker (λ d. c.offset + 1 ≤ d.offset) (λ d. c.offset < d.offset) (λ d le. omega (arith, le)) cs
    (changing_above (c.offset + 1) (c.offset + 1) cs (omega arith) h.2))
    (changing_ascends (c.offset + 1) cs h.2)

pub are_changing : (low : ℕ) (cs : List Change) → Changing low cs → AreChanging cs
are_changing low cs h = (changing_each low cs h, changing_ascends low cs h)

pub changing_from : (low : ℕ) (cs : List Change) → All IsChange cs → IsAscending cs → All (λ c. low ≤ c.offset) cs → Changing low cs
changing_from low [] each ascends above = tt
changing_from low (c ∷ cs) each ascends above = (
  All-head (λ c. low ≤ c.offset) c cs above,
  All-head IsChange c cs each,
  changing_from (c.offset + 1) cs (All-tail IsChange c cs each)
      (λ i j d lt within. ascends (suc i) (suc j) d (omega arith) (omega arith))
      (λ k d within. omega (arith, ascends 0 (suc k) d (omega arith) (omega arith))),
)

-- ---- ascending changes of any range

abbrev Rising : ℕ → List Change → Type 0
Rising low [] = Unit {0}
Rising low (c ∷ cs) = (low ≤ c.offset) × Rising (c.offset + 1) cs

rising_from : (low : ℕ) (cs : List Change) → IsAscending cs → All (λ c. low ≤ c.offset) cs → Rising low cs
rising_from low [] ascends above = tt
rising_from low (c ∷ cs) ascends above = (
  All-head (λ c. low ≤ c.offset) c cs above,
  rising_from (c.offset + 1) cs
      (λ i j d lt within. ascends (suc i) (suc j) d (omega arith) (omega arith))
      (λ k d within. omega (arith, ascends 0 (suc k) d (omega arith) (omega arith))),
)

front_some : (low : ℕ) (c : Change) (rs : List Run) → low ≤ c.offset → Runs IsSome (c.offset + 1) rs → Runs IsSome low (in_front c rs)
front_some low c [] le h = (le, omega arith, tt)
front_some low c (r ∷ rs) le h =
    elim (eqb_tells r.first (c.offset + 1)) [
      | inl p ↦
          let ends : c.offset + length (c.value ∷ r.values) ≡ behind_run r = omega (arith, p.1) in
          rw p.0 (le, omega arith, subst (λ (n : ℕ). Runs IsSome (n + 1) rs) (sym ends) h.2)
      | inr q ↦
          let apart : c.offset + 1 + 1 ≤ r.first = omega (arith, h.0, q.1) in
          rw q.0 (le, omega arith, (apart, h.1, h.2))
    ]

some_apart : (low : ℕ) (cs : List Change) → Rising low cs → Runs IsSome low (runs_of cs)
some_apart low [] h = tt
some_apart low (c ∷ cs) h = front_some low c (runs_of cs) h.0 (some_apart (c.offset + 1) cs h.1)

-- ascending changes are cut into runs by the function
pub runs_of-are : (cs : List Change) → IsAscending cs → AreRuns cs (runs_of cs)
runs_of-are cs ascends =
    subst (λ (xs : List Change). AreRuns xs (runs_of cs)) (runs_of-whole cs)
    (are_runs 0 (runs_of cs) (some_apart 0 cs (rising_from 0 cs ascends (λ k d within. omega arith))))
