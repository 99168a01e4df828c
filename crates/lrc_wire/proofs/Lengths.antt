-- How many bytes the parts have.
use Rattle.std.proofs.Common.{◌≡◌, ℕ, suc, ◌+◌, ◌-◌, ◌*◌, ◌≤◌, Bool, true, false, List, [], ◌∷◌, ◌++◌, length, refl, ap, arith}
use Rattle.std.specs.Int.{w16, w32, w64}
use Rattle.std.specs.List.{flat_map}
use Rattle.std.proofs.lemmas.List.{length-append}
use Rattle.std.proofs.lemmas.List.Concat.{flat_map-cons}
use Rattle.lrc_page.specs.declared.changes.Change.{Change}
use Rattle.lrc_store.specs.Interval.{IntervalRecord}
use Rattle.lrc_envelope.specs.Records.{IndexedChangesRecord}
use Rattle.lrc_wire.specs.declared.version.Version.TheVariants.{Two}
use Rattle.lrc_wire.specs.Runs.{Run, changes_in_run, runs_of}
use Rattle.lrc_wire.proofs.Runs.{runs_of-whole}
use Rattle.lrc_wire.specs.Spelling.{byte, number, numbers, flag, time, pages, interval, intervals, news, indices, run, in_runs, part, parts, page_values}

pub length_byte : (n : ℕ) → length (byte n) ≡ 1
unfolding byte
length_byte n = refl

pub length_flag : (b : Bool) → length (flag b) ≡ 1
unfolding flag byte
length_flag false = refl
length_flag true = refl

pub length_number_16 : (n : ℕ) → length (number w16 n) ≡ 2
unfolding number
length_number_16 n = refl

pub length_number_32 : (n : ℕ) → length (number w32 n) ≡ 4
unfolding number
length_number_32 n = refl

pub length_number_64 : (n : ℕ) → length (number w64 n) ≡ 8
unfolding number
length_number_64 n = refl

-- elements of equal length
length_each : {A : Type 0} (f : A → List ℕ) (size : ℕ) → ((x : A) → length (f x) ≡ size) → (xs : List A) → length (flat_map f xs) ≡ size * length xs
length_each f size each [] = omega arith
length_each f size each (x ∷ xs) =
    rw flat_map-cons (omega (arith, length-append (f x) (flat_map f xs), each x, length_each f size each xs))

pub length_numbers_16 : (ns : List ℕ) → length (numbers w16 ns) ≡ 2 * length ns
unfolding numbers
length_numbers_16 ns = length_each (number w16) 2 length_number_16 ns

pub length_numbers_32 : (ns : List ℕ) → length (numbers w32 ns) ≡ 4 * length ns
unfolding numbers
length_numbers_32 ns = length_each (number w32) 4 length_number_32 ns

pub length_numbers_64 : (ns : List ℕ) → length (numbers w64 ns) ≡ 8 * length ns
unfolding numbers
length_numbers_64 ns = length_each (number w64) 8 length_number_64 ns

pub length_time : (entries : List ℕ) → length (time entries) ≡ 1 + 4 * length entries
unfolding time
length_time entries = omega (arith, length-append (byte (length entries)) (numbers w32 entries), length_byte (length entries), length_numbers_32 entries)

pub length_pages : (ps : List ℕ) → length (pages ps) ≡ 2 + 2 * length ps
unfolding pages
length_pages ps = omega (arith, length-append (number w16 (length ps)) (numbers w16 ps), length_number_16 (length ps), length_numbers_16 ps)

pub length_interval : (i : IntervalRecord) → length (interval i) ≡ 3 + length (time i.stamp) + 2 * length i.pages
unfolding interval
length_interval i =
    omega (
      arith,
      length-append (byte i.node) (time i.stamp
          ++ pages i.pages),
      length-append (time i.stamp) (pages i.pages),
      length_byte i.node,
      length_pages i.pages,
    )

pub length_intervals : (is : List IntervalRecord) → length (intervals is) ≡ 4 + length (flat_map interval is)
unfolding intervals
length_intervals is = omega (arith, length-append (number w32 (length is)) (flat_map interval is), length_number_32 (length is))

pub length_indices : (ns : List ℕ) → length (indices ns) ≡ 4 + 4 * length ns
unfolding indices
length_indices ns = omega (arith, length-append (number w32 (length ns)) (numbers w32 ns), length_number_32 (length ns), length_numbers_32 ns)

-- a run's bytes beside its offsets and values
length_run : (r : Run) → length (run r) ≡ 2 + 8 * length r.values
unfolding run
length_run r =
    omega (
      arith,
      length-append (byte r.first) (byte (length r.values - 1)
          ++ numbers w64 r.values),
      length-append (byte (length r.values - 1)) (numbers w64 r.values),
      length_byte r.first,
      length_byte (length r.values - 1),
      length_numbers_64 r.values,
    )

length_changes_of : (first : ℕ) (values : List ℕ) → length (changes_in_run (record { first = first; values = values })) ≡ length values
length_changes_of first [] = refl
length_changes_of first (v ∷ values) = ap suc (length_changes_of (first + 1) values)

length_each_run : (rs : List Run) → length (flat_map run rs) ≡ 2 * length rs + 8 * length (flat_map changes_in_run rs)
length_each_run [] = omega arith
length_each_run (r ∷ rs) =
    rw (flat_map-cons, flat_map-cons)
    (omega (
      arith,
      length-append (run r) (flat_map run rs),
      length-append (changes_in_run r) (flat_map changes_in_run rs),
      length_run r,
      length_changes_of r.first r.values,
      length_each_run rs,
    ))

length_in_runs : (cs : List Change) → length (in_runs (runs_of cs)) ≡ 2 + 2 * length (runs_of cs) + 8 * length cs
unfolding in_runs
length_in_runs cs =
    omega (
      arith,
      length-append (number w16 (length (runs_of cs))) (flat_map run (runs_of cs)),
      length_number_16 (length (runs_of cs)),
      length_each_run (runs_of cs),
      ap length (runs_of-whole cs),
    )

pub length_part : (p : IndexedChangesRecord) → length (part Two runs_of p) ≡ 6 + 2 * length (runs_of p.changes) + 8 * length p.changes
unfolding part
length_part p =
    omega (arith, length-append (number w32 p.index) (in_runs (runs_of p.changes)), length_number_32 p.index, length_in_runs p.changes)

pub length_parts : (ps : List IndexedChangesRecord) → length (parts Two runs_of ps) ≡ 4 + length (flat_map (part Two runs_of) ps)
unfolding parts
length_parts ps = omega (arith, length-append (number w32 (length ps)) (flat_map (part Two runs_of) ps), length_number_32 (length ps))

pub length_news : (entries : List ℕ) (is : List IntervalRecord) → length (news entries is) ≡ length (time entries) + 4 + length (flat_map interval is)
unfolding news
length_news entries is = omega (arith, length-append (time entries) (intervals is), length_intervals is)

pub length_page_values : (vs : List ℕ) → length (page_values Two vs) ≡ 2 + 8 * length vs
length_page_values vs = omega (arith, length-append (number w16 (length vs)) (numbers w64 vs), length_number_16 (length vs), length_numbers_64 vs)

-- what stands behind a byte, a page, and an episode with a flag
pub length_behind_byte : (n : ℕ) (rest : List ℕ) → length (byte n ++ rest) ≡ 1 + length rest
length_behind_byte n rest = omega (arith, length-append (byte n) rest, length_byte n)

pub length_behind_page : (n : ℕ) (rest : List ℕ) → length (number w16 n ++ rest) ≡ 2 + length rest
length_behind_page n rest = omega (arith, length-append (number w16 n) rest, length_number_16 n)

pub length_behind_flag : (n : ℕ) (b : Bool) (rest : List ℕ) → length (number w32 n ++ (flag b ++ rest)) ≡ 5 + length rest
length_behind_flag n b rest = omega (arith, length-append (number w32 n) (flag b ++ rest), length-append (flag b) rest, length_number_32 n, length_flag b)

-- ---- how many parts a body has at most

count_le : {A : Type 0} (f : A → List ℕ) → ((x : A) → 1 ≤ length (f x)) → (xs : List A) → length xs ≤ length (flat_map f xs)
count_le f some [] = omega arith
count_le f some (x ∷ xs) = rw flat_map-cons (omega (arith, length-append (f x) (flat_map f xs), some x, count_le f some xs))

pub few_indices : (ns : List ℕ) → length ns ≤ length (indices ns)
few_indices ns = omega (arith, length_indices ns)

pub few_parts : (ps : List IndexedChangesRecord) → length ps ≤ length (parts Two runs_of ps)
few_parts ps = omega (arith, length_parts ps, count_le (part Two runs_of) (λ p. omega (arith, length_part p)) ps)

pub few_of_news : (entries : List ℕ) (is : List IntervalRecord) → length is ≤ length (news entries is)
few_of_news entries is = omega (arith, length_news entries is, count_le interval (λ i. omega (arith, length_interval i)) is)

-- how long what stands one after the other is
pub ruleset lengths = (length-append, length_byte, length_flag, length_number_16, length_number_32, length_number_64)
