-- The reader of changes in runs agrees with how the runs of changes are spelled.
use Rattle.std.proofs.Common.{◌≡◌, ℕ, ◌+◌, ◌-◌, ◌<◌, ◌≤◌, true, ltb, leb, List, [], ◌∷◌, ◌++◌, length}
use Rattle.std.proofs.Common.{Option, Some, None, Ok, refl, sym, ap, subst, arith}
use Rattle.std.specs.Prelude.{All, IsSomeAnd}
use Rattle.std.specs.Int.{w16, w64}
use Rattle.std.specs.List.{flat_map}
use Rattle.std.proofs.lemmas.Bool.{ltb-true, lt-ltb, le-leb}
use Rattle.lrc_page.specs.declared.TheConstants.{MOST_PAGE_WORDS}
use Rattle.lrc_page.specs.declared.changes.Change.{Change}
use Rattle.lrc_wire.specs.declared.limits.TheConstants.{MOST_RUNS}
use Rattle.lrc_wire.specs.declared.fault.WireFault.TheVariants.{BadCount, NotAscending}
use Rattle.lrc_wire.specs.Ranges.{HasBits}
use Rattle.lrc_wire.specs.Runs.{Run, changes_in_run, behind_run, runs_of}
use Rattle.lrc_wire.specs.Spelling.{byte, number, numbers, run, in_runs}
use Rattle.lrc_wire.specs.Reading.{byte_at, number_at, tested, is_after, is_apart, elements_at, values_at, last_of, next_run_at, runs_at, whole_runs}
use Rattle.lrc_wire.proofs.Bytes.{IsBytes, Takes}
use Rattle.lrc_wire.proofs.Steps.{bind_ok, ok_is}
use Rattle.lrc_wire.proofs.Along.{Along, elements_along, All-from_along, along_from_all}
use Rattle.lrc_wire.proofs.Sequences.{whole, then_fields, last_field, Agrees-counted}
use Rattle.lrc_wire.proofs.Agrees.{Agrees, Agrees-as, Agrees-tested, byte_agrees, number16_agrees, number64_agrees, elements_agree}
use Rattle.lrc_wire.proofs.Runs.{Runs, IsRun, IsSome, AreChanging, runs_of-whole, runs_of-apart, runs_of-only}
use Rattle.lrc_wire.proofs.Runs.{few_runs, runs_changes, runs_weaker, are_changing, changing_from}

-- ---- values

pub values_agree : (count : ℕ) → Agrees (values_at count) (numbers w64) (λ vs. (length vs ≡ count) × All (HasBits 64) vs)
unfolding values_at numbers
values_agree count =
    Agrees-as _ (flat_map (number w64)) (λ vs. (length vs ≡ count) × Along (λ _ n. HasBits 64 n) (λ state _. state) (tt {0}) vs) (λ vs. (length vs ≡ count)
    × All (HasBits 64) vs)
    (λ vs h. (h.0, All-from_along (HasBits 64) (λ state _. state) (tt {0}) vs h.1))
    (λ vs h. (h.0, along_from_all (HasBits 64) (λ state _. state) (tt {0}) vs h.1))
    (elements_agree (λ _ rest. number_at w64 rest) (λ state _. state) (number w64) (λ _ n. HasBits 64 n) (λ _. number64_agrees) count (tt {0}))

-- ---- one run

-- the lowest offset that a run may begin at
low_of : Option ℕ → ℕ
low_of None = 0
low_of (Some last) = last + 2

-- a run after another
abbrev Comes : Option ℕ → Run → Type 0
Comes before r = (is_after is_apart before r.first ≡ true) × IsRun r

first_agrees : (before : Option ℕ)
    → Agrees (λ bytes. tested (is_after is_apart before) NotAscending (byte_at bytes)) byte (λ n. HasBits 8 n × (is_after is_apart before n ≡ true))
first_agrees before = Agrees-tested byte_at byte (HasBits 8) (is_after is_apart before) NotAscending byte_agrees

more_agrees : (first : ℕ)
    → Agrees (λ bytes. tested (λ n. ltb (first + n) MOST_PAGE_WORDS) BadCount (byte_at bytes)) byte (λ n. HasBits 8 n
    × (ltb (first + n) MOST_PAGE_WORDS ≡ true))
more_agrees first = Agrees-tested byte_at byte (HasBits 8) (λ n. ltb (first + n) MOST_PAGE_WORDS) BadCount byte_agrees

-- the fields of a run, and what each of them fits
abbrev FitRun : Option ℕ → ℕ × (ℕ × List ℕ) → Type 0
FitRun before r = (HasBits 8 r.0 × (is_after is_apart before r.0 ≡ true))
    × ((HasBits 8 r.1.0 × (ltb (r.0 + r.1.0) MOST_PAGE_WORDS ≡ true)) × ((length r.1.1 ≡ r.1.0 + 1) × All (HasBits 64) r.1.1))

abbrev fields_of : Run → ℕ × (ℕ × List ℕ)
fields_of r = (r.first, (length r.values - 1, r.values))

comes_from : (before : Option ℕ) (r : Run) → FitRun before (fields_of r) → Comes before r
comes_from before r h = (
  h.0.1,
  record {
    some = omega (arith, h.1.1.0);
    within = omega (arith, h.1.1.0, ltb-true (r.first + (length r.values - 1)) MOST_PAGE_WORDS h.1.0.1);
    bits = h.1.1.1;
  },
)

fit_run : (before : Option ℕ) (r : Run) → Comes before r → FitRun before (fields_of r)
fit_run before r h = (
  (omega (arith, h.1.some, h.1.within), h.0),
  (
    (
      omega (arith, h.1.some, h.1.within),
      lt-ltb (r.first + (length r.values - 1)) MOST_PAGE_WORDS (omega (arith, h.1.some, h.1.within)),
    ),
    (omega (arith, h.1.some), h.1.bits),
  ),
)

fields_are : (before : Option ℕ) (r : ℕ × (ℕ × List ℕ)) → FitRun before r → fields_of (record { first = r.0; values = r.1.1 }) ≡ r
fields_are before r h =
    let more : length r.1.1 - 1 ≡ r.1.0 = omega (arith, h.1.1.0) in
    ap (λ (n : ℕ). (r.0, (n, r.1.1))) more

next_run_agrees : (before : Option ℕ) → Agrees (next_run_at before) run (Comes before)
unfolding next_run_at run
next_run_agrees before =
    Agrees-as _ _ (λ r. FitRun before (fields_of r)) (Comes before) (comes_from before) (fit_run before)
    (whole fields_of (fields_are before) (λ r. refl)
    (then_fields (first_agrees before) (λ first _. then_fields (more_agrees first) (λ more _.
    last_field (λ values. record { first = first; values = values }) (values_agree (more + 1))))))

-- ---- runs

next_low : (r : Run) → IsRun r → low_of (Some (last_of r)) ≡ behind_run r + 1
unfolding low_of
next_low r is = omega (arith, is.some)

low_is : (before : Option ℕ) (n : ℕ) → is_after is_apart before n ≡ true → low_of before ≤ n
unfolding low_of is_after
low_is None n e = omega arith
low_is (Some last) n e = omega (arith, ltb-true (last + 1) n e)

low_from : (before : Option ℕ) (n : ℕ) → low_of before ≤ n → is_after is_apart before n ≡ true
unfolding low_of is_after
low_from None n le = refl
low_from (Some last) n le = lt-ltb (last + 1) n (omega (arith, le))

abbrev next : Option ℕ → Run → Option ℕ
next _ r = Some (last_of r)

runs_along : (before : Option ℕ) (rs : List Run) → Along Comes next before rs → Runs IsRun (low_of before) rs
runs_along before [] h = tt
runs_along before (r ∷ rs) h =
    (low_is before r.first h.0.0, h.0.1, subst (λ (n : ℕ). Runs IsRun n rs) (next_low r h.0.1) (runs_along (Some (last_of r)) rs h.1))

along_runs : (before : Option ℕ) (rs : List Run) → Runs IsRun (low_of before) rs → Along Comes next before rs
along_runs before [] h = tt
along_runs before (r ∷ rs) h =
    ((low_from before r.first h.0, h.1), along_runs (Some (last_of r)) rs (subst (λ (n : ℕ). Runs IsRun n rs) (sym (next_low r h.1)) h.2))

zero_low : low_of None ≡ 0
unfolding low_of
zero_low = refl

elements_of_runs : (count : ℕ)
    → Agrees (elements_at next_run_at (λ _ r. Some (last_of r)) count None) (flat_map run) (λ rs. (length rs ≡ count) × Runs IsRun 0 rs)
elements_of_runs count =
    Agrees-as _ (flat_map run) (λ rs. (length rs ≡ count) × Along Comes next None rs) (λ rs. (length rs ≡ count) × Runs IsRun 0 rs)
    (λ rs h. (h.0, subst (λ (n : ℕ). Runs IsRun n rs) zero_low (runs_along None rs h.1)))
    (λ rs h. (h.0, along_runs None rs (subst (λ (n : ℕ). Runs IsRun n rs) (sym zero_low) h.1)))
    (elements_agree next_run_at next run Comes next_run_agrees count None)

run_count_agrees : Agrees (λ bytes. tested (λ n. leb n MOST_RUNS) BadCount (number_at w16 bytes)) (number w16) (λ n. HasBits 16 n × (leb n MOST_RUNS ≡ true))
run_count_agrees = Agrees-tested (number_at w16) (number w16) (HasBits 16) (λ n. leb n MOST_RUNS) BadCount number16_agrees

at_most_128 : (rs : List Run) → Runs IsRun 0 rs → length rs ≤ MOST_RUNS
at_most_128 [] h = omega arith
at_most_128 (r ∷ rs) h = omega (arith, few_runs 0 (r ∷ rs) h (omega arith))

runs_agree : Agrees runs_at in_runs (Runs IsRun 0)
unfolding runs_at in_runs
runs_agree =
    Agrees-as _ _ (λ rs. (HasBits 16 (length rs) × (leb (length rs) MOST_RUNS ≡ true)) × Runs IsRun 0 rs) (Runs IsRun 0)
    (λ rs h. h.1)
    (λ rs h. let few = at_most_128 rs h in ((omega (arith, few), le-leb (length rs) MOST_RUNS few), h))
    (Agrees-counted run_count_agrees (λ count _. elements_of_runs count))

-- ---- changes in runs

some_of_run : (r : Run) → IsRun r → IsSome r
some_of_run r is = is.some

in_runs_take : (bytes : List ℕ) (cs : List Change) (rest : List ℕ) → IsBytes bytes → whole_runs (runs_at bytes) ≡ Ok (cs, rest)
    → Takes bytes (in_runs (runs_of cs)) rest × AreChanging cs
in_runs_take bytes cs rest fits e =
    let a = bind_ok (runs_at bytes) (λ runs. Ok (flat_map changes_in_run runs.0, runs.1)) (cs, rest) e in
    let t = runs_agree.takes bytes a.0.0 a.0.1 fits a.1 in
    let only = runs_of-only 0 a.0.0 (runs_weaker IsRun IsSome some_of_run 0 a.0.0 t.1) in
    let here : Takes bytes (in_runs (runs_of (flat_map changes_in_run a.0.0))) a.0.1 = subst (λ (rs : List Run). Takes bytes (in_runs rs) a.0.1) (sym only) t.0 in
    let made : List Change × List ℕ = (flat_map changes_in_run a.0.0, a.0.1) in
    subst (λ (y : List Change × List ℕ). Takes bytes (in_runs (runs_of y.0)) y.1 × AreChanging y.0) (ok_is made (cs, rest) a.2)
    (here, are_changing 0 (flat_map changes_in_run a.0.0) (runs_changes 0 a.0.0 t.1))

in_runs_again : (cs : List Change) (rest : List ℕ) → AreChanging cs → whole_runs (runs_at (in_runs (runs_of cs) ++ rest)) ≡ Ok (cs, rest)
in_runs_again cs rest h =
    let apart = runs_of-apart 0 cs (changing_from 0 cs h.0 h.1 (λ k d within. omega arith)) in
    let read = runs_agree.again (runs_of cs) rest apart in
    rw (read, runs_of-whole cs) refl

pub in_runs_agree : Agrees (λ bytes. whole_runs (runs_at bytes)) (λ cs. in_runs (runs_of cs)) AreChanging
in_runs_agree = record { takes = in_runs_take; again = in_runs_again }

-- ---- runs as a loop reads them

pub begins_above : (before : Option ℕ) (n first : ℕ) → is_after is_apart before first ≡ true → IsSomeAnd before (λ last. n ≤ last) → n < first
unfolding is_after
begins_above None n first e h = absurd h
begins_above (Some last) n first e h = omega (arith, ltb-true (last + 1) first e, h)

pub values_long : (count : ℕ) (bytes vs rest : List ℕ) → values_at count bytes ≡ Ok (vs, rest) → length vs ≡ count
unfolding values_at
values_long count bytes vs rest e =
    (elements_along (λ _ rest. number_at w64 rest) (λ state _. state) (λ _ n. Unit {0}) (λ state bytes n rest read. tt) count (tt {0}) bytes vs rest e).0

pub run_is_read : (before : Option ℕ) (bytes r1 r2 r3 : List ℕ) (first more : ℕ) (values : List ℕ) → byte_at bytes ≡ Ok (first, r1)
    → is_after is_apart before first ≡ true
    → byte_at r1 ≡ Ok (more, r2) → first + more < 256 → values_at (more + 1) r2 ≡ Ok (values, r3)
    → next_run_at before bytes ≡ Ok (record { first = first; values = values }, r3)
unfolding next_run_at tested
run_is_read before bytes r1 r2 r3 first more values a passes b within c =
    let fits : ltb (first + more) MOST_PAGE_WORDS ≡ true = lt-ltb (first + more) MOST_PAGE_WORDS within in
    rw (a, passes, b, fits, c) refl
