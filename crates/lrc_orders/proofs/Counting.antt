-- What one step does to how often nodes have arrived, and to how many threads there are.
use Rattle.std.proofs.Common.{◌≡◌, ℕ, ◌+◌, ◌≤◌, Bool, true, false, inl, inr}
use Rattle.std.proofs.Common.{length, subst, ◌∙◌, ap, arith}
use Rattle.std.specs.Prelude.{Option, Some, None, slice_index, slice_set, if◌then◌else◌}
use Rattle.std.proofs.lemmas.Bool.{cases_lt, cases_eq}
use Rattle.std.proofs.lemmas.List.{get_or-set_same, get_or-set_other, get_or_past, length-set}
use Rattle.std.proofs.lemmas.Option.{some_pair_parts, option_and_then_some}
use Rattle.lrc_trace.specs.declared.act.Deed.{Deed}
use Rattle.lrc_trace.specs.declared.act.Deed.TheVariants.{Quiet, Print, Read, Write, Acquire, Release, Arrive, Depart, Trap, End}
use Rattle.lrc_exec.specs.Meaning.{Thread, Next, quiet, prints, reads, writes, acquires, releases, arrives, departs, traps, ends, next_of}
use Rattle.lrc_exec.specs.Plain.{Plain, deed_done, nobody_holds, all_arrived, with_thread, thread_in, plain_step}

-- a deed with the machine after it, where it can be done
abbrev done : Deed → Plain → Option (Deed × Plain)
done e m = Some (e, m)

abbrev done_if : Bool → Deed → Plain → Option (Deed × Plain)
done_if b e m = if b then done e m else None

-- one step counts one arrival at most
module _ (machine after : Plain) (node k : ℕ) (d : Deed) where
  abbrev Counts : Plain → Type 0
  Counts m = slice_index m.arrivals k ≤ slice_index machine.arrivals k + 1

  counts_after : (e : Deed) (m : Plain) → done e m ≡ done d after → Counts m → Counts after
  counts_after e m is counts = subst Counts ((some_pair_parts e d m after is).1) counts

  counts_if : (b : Bool) (e : Deed) (m : Plain) → done_if b e m ≡ done d after → Counts m → Counts after
  counts_if true e m is counts = counts_after e m is counts
  counts_if false e m is counts = cc

  raised_counts : slice_index (slice_set machine.arrivals node (slice_index machine.arrivals node + 1)) k ≤ slice_index machine.arrivals k + 1
  raised_counts =
      let xs = machine.arrivals in
      let v = slice_index xs node + 1 in
      elim (cases_eq k node) [
        | inl same ↦
            let own : slice_index xs k ≡ slice_index xs node = ap (slice_index xs) same in
            elim (cases_lt node (length xs)) [
              | inl lt ↦
                  let more : slice_index (slice_set xs node v) k ≡ v = ap (slice_index (slice_set xs node v)) same ∙ get_or-set_same xs node v 0 lt in
                  omega arith
              | inr le ↦
                  let none : slice_index (slice_set xs node v) k ≡ 0 = get_or_past (slice_set xs node v) k 0 (omega (arith, length-set xs node v)) in
                  omega arith
            ]
        | inr other ↦ let e : slice_index (slice_set xs node v) k ≡ slice_index xs k = get_or-set_other xs node k v 0 other in omega arith
      ]

  counts_deed : (n : Next) → deed_done machine node n ≡ Some (d, after) → Counts after
  counts_deed (quiet t) is = counts_after Quiet (with_thread machine node (Some t)) is (omega arith)
  counts_deed (prints v t) is = counts_after (Print v) (with_thread machine node (Some t)) is (omega arith)
  counts_deed (reads w t) is =
      let v = slice_index machine.memory w in counts_after (Read w v) (with_thread machine node (Some (t v))) is (omega arith)
  counts_deed (writes w v t) is =
      counts_after (Write w v) (record (with_thread machine node (Some t)) { memory = slice_set machine.memory w v }) is (omega arith)
  counts_deed (acquires l t) is =
      counts_if (nobody_holds machine l) (Acquire l) (record (with_thread machine node (Some t)) { holders = slice_set machine.holders l (Some node) }) is
      (omega arith)
  counts_deed (releases l t) is =
      counts_after (Release l) (record (with_thread machine node (Some t)) { holders = slice_set machine.holders l None }) is (omega arith)
  counts_deed (arrives t) is =
      counts_after Arrive
      (record (with_thread machine node (Some t)) { arrivals = slice_set machine.arrivals node (slice_index machine.arrivals node + 1) }) is raised_counts
  counts_deed (departs t) is = counts_if (all_arrived machine node) Depart (with_thread machine node (Some t)) is (omega arith)
  counts_deed (traps cause) is = counts_after (Trap cause) (with_thread machine node None) is (omega arith)
  counts_deed ends is = counts_after End (with_thread machine node None) is (omega arith)

  pub step_counts : plain_step machine node ≡ Some (d, after) → Counts after
  step_counts is =
      option_and_then_some (λ t. deed_done machine node (next_of t)) (thread_in machine node) (d, after) is (λ t at made. counts_deed (next_of t) made)

-- one step keeps the number of threads
module _ (machine after : Plain) (node : ℕ) (d : Deed) where
  abbrev Sized : Plain → Type 0
  Sized m = length m.threads ≡ length machine.threads

  sized_after : (e : Deed) (m : Plain) → done e m ≡ done d after → Sized m → Sized after
  sized_after e m is size = subst Sized ((some_pair_parts e d m after is).1) size

  sized_if : (b : Bool) (e : Deed) (m : Plain) → done_if b e m ≡ done d after → Sized m → Sized after
  sized_if true e m is size = sized_after e m is size
  sized_if false e m is size = cc

  sized : (t : Option Thread) → length (slice_set machine.threads node t) ≡ length machine.threads
  sized t = length-set machine.threads node t

  sized_deed : (n : Next) → deed_done machine node n ≡ Some (d, after) → Sized after
  sized_deed (quiet t) is = sized_after Quiet (with_thread machine node (Some t)) is (sized (Some t))
  sized_deed (prints v t) is = sized_after (Print v) (with_thread machine node (Some t)) is (sized (Some t))
  sized_deed (reads w t) is =
      let v = slice_index machine.memory w in sized_after (Read w v) (with_thread machine node (Some (t v))) is (sized (Some (t v)))
  sized_deed (writes w v t) is =
      sized_after (Write w v) (record (with_thread machine node (Some t)) { memory = slice_set machine.memory w v }) is (sized (Some t))
  sized_deed (acquires l t) is =
      sized_if (nobody_holds machine l) (Acquire l) (record (with_thread machine node (Some t)) { holders = slice_set machine.holders l (Some node) }) is
      (sized (Some t))
  sized_deed (releases l t) is =
      sized_after (Release l) (record (with_thread machine node (Some t)) { holders = slice_set machine.holders l None }) is (sized (Some t))
  sized_deed (arrives t) is =
      sized_after Arrive
      (record (with_thread machine node (Some t)) { arrivals = slice_set machine.arrivals node (slice_index machine.arrivals node + 1) }) is (sized (Some t))
  sized_deed (departs t) is = sized_if (all_arrived machine node) Depart (with_thread machine node (Some t)) is (sized (Some t))
  sized_deed (traps cause) is = sized_after (Trap cause) (with_thread machine node None) is (sized None)
  sized_deed ends is = sized_after End (with_thread machine node None) is (sized None)

  pub step_threads : plain_step machine node ≡ Some (d, after) → Sized after
  step_threads is = option_and_then_some (λ t. deed_done machine node (next_of t)) (thread_in machine node) (d, after) is (λ t at made. sized_deed (next_of t) made)
