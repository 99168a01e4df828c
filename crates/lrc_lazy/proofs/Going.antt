-- The machine goes on with a deed, whatever its words.
use Rattle.std.proofs.Common.{◌≡◌, ℕ, ◌+◌, List, [], ◌∷◌, ◌++◌, length, refl, sym, subst}
use Rattle.std.specs.Prelude.{Option, Some}
use Rattle.lrc_trace.specs.declared.act.Act.{Act}
use Rattle.lrc_trace.specs.declared.act.Deed.{Deed}
use Rattle.lrc_trace.specs.declared.act.Deed.TheVariants.{Read}
use Rattle.lrc_trace.specs.Run.{act_of}
use Rattle.lrc_trace.specs.Synchronization.{MayGoOn}
use Rattle.lrc_trace.proofs.Positions.{Does-last}
use Rattle.lrc_exec.specs.Meaning.{Thread, next_of}
use Rattle.lrc_exec.specs.Plain.{Plain, thread_in}
use Rattle.lrc_exec.proofs.NextLaws.{next_of-fine}
use Rattle.lrc_exec.specs.Follows.{Goes}
use Rattle.lrc_consistency_laws.specs.Matching.{Matches}
use Rattle.lrc_consistency_laws.proofs.Step.{IsNoLock, step, passes_on}
use Rattle.lrc_consistency_laws.proofs.Runs.{CanDo, is_sound}
use Rattle.lrc_orders.proofs.Effects.{after_of, goes_on, memory_after, length-memory}
use Rattle.lrc_lazy.specs.Standing.{with_memory}
use Rattle.lrc_lazy.proofs.Onward.{free_read}
use Rattle.lrc_lazy.proofs.Coming.{matches_longer, may_go, read_stays}

no_lock_read : (w v : ℕ) → IsNoLock (Read w v)
no_lock_read w v = record { acquires_not = λ l e. cc; releases_not = λ l e. cc }

-- the machine after a deed
pub matches_after : (acts : List Act) (machine : Plain) (old : List ℕ) → Matches acts (length acts) (with_memory machine old)
    → (node : ℕ) (thread : Thread) → thread_in machine node ≡ Some thread
    → (memory : List ℕ) (d : Deed) (t : Option Thread) → Goes (next_of thread) d t → CanDo (with_memory machine memory) node d
    → (words : List ℕ) × Matches (acts ++ act_of node d ∷ []) (length acts + 1) (with_memory (after_of machine node d t) words) × (length words ≡ length old)
matches_after acts machine old matches node thread at memory (Read w v) t goes can =
    let now = with_memory machine old in
    let stays = read_stays (next_of-fine thread) goes in
    let u = stays.1.0 in
    let run = acts ++ act_of node (Read w v) ∷ [] in (
      old,
      subst (λ x. Matches run (length acts + 1) (with_memory (after_of machine node (Read w v) x) old)) (sym stays.1.1)
          (passes_on run (length acts) node now thread at (matches_longer acts (act_of node (Read w v) ∷ []) now matches) (Read w v)
          (Does-last acts (act_of node (Read w v))) (no_lock_read w v) (λ x y. refl) (λ x. cc) (λ x. cc) u stays.1.2),
      refl,
    )
matches_after acts machine old matches node thread at memory d t goes can =
    let now = with_memory machine old in
    let run = acts ++ act_of node d ∷ [] in (
      memory_after d old,
      step run (length acts) node now thread at (matches_longer acts (act_of node d ∷ []) now matches) (next_of thread) (next_of-fine thread) d
          (after_of now node d t) (goes_on now node goes can) (Does-last acts (act_of node d)),
      length-memory d old,
    )

-- it may be made
pub may_after : (nodes : ℕ) (acts : List Act) (machine : Plain) (old : List ℕ) → Matches acts (length acts) (with_memory machine old)
    → length machine.arrivals ≡ nodes → (node : ℕ) (thread : Thread) → thread_in machine node ≡ Some thread
    → (memory : List ℕ) (d : Deed) (t : Option Thread) → Goes (next_of thread) d t → CanDo (with_memory machine memory) node d
    → MayGoOn nodes acts (act_of node d)
may_after nodes acts machine old matches size node thread at memory (Read w v) t goes can = free_read nodes acts node w v
may_after nodes acts machine old matches size node thread at memory d t goes can =
    may_go nodes acts node d (λ w v e. cc)
    (is_sound acts nodes (length acts) node (with_memory machine old) thread at matches size goes (next_of-fine thread) can)
