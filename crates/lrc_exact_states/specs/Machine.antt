-- The part of a key that the plain machine has after the acts of a run.
use Rattle.std.specs.Prelude.{◌≡◌, ℕ, ◌-◌, ◌<◌, ◌==◌, Bool, false, List, Option, Some, None, length, slice_index, slice_index_or}
use Rattle.lrc_program.specs.declared.Program.{Program}
use Rattle.lrc_trace.specs.declared.act.Act.{Act}
use Rattle.lrc_trace.specs.Run.{arrives_before, departs_before}
use Rattle.lrc_exec.specs.Plain.{Plain, start_of, thread_in}
use Rattle.lrc_exec.specs.Follows.{deeds_of}
use Rattle.lrc_consistency_laws.specs.Matching.{Matches}
use Rattle.lrc_lazy.specs.Standing.{Comes, departures_of, with_memory}
use Rattle.lrc_exact_states.specs.Key.{each_from, Key}

-- The acts have led the machine here, whatever its words, and a node that has stopped has departed as often as it has arrived.
pub record IsMadeBy (program : Program) (nodes : ℕ) (run : List Act) (machine : Plain) : Type 0 where
  pub memory : List ℕ
  pub matches : Matches run (length run) (with_memory machine memory)
  pub size : length machine.arrivals ≡ nodes
  pub leads : (n : ℕ) → n < nodes → Comes (Some (start_of program nodes n)) (deeds_of n run) (thread_in machine n)
  pub stopped : (n : ℕ) → n < nodes → thread_in machine n ≡ None → departs_before run n (length run) ≡ arrives_before run n (length run)

-- whether the node is the holder
abbrev pub is_holder : ℕ → Option ℕ → Bool
is_holder node None = false
is_holder node (Some holder) = holder == node

-- the key has the machine's threads and holders, and its counts, those of the base left out
pub record HasPartOfKey (nodes locks first : ℕ) (machine : Plain) (key : Key) : Type 0 where
  pub threads : key.threads ≡ each_from 0 nodes (thread_in machine)
  pub held : key.held ≡ each_from 0 nodes (λ (node : ℕ). each_from 0 locks (λ (lock : ℕ). is_holder node (slice_index_or machine.holders lock None)))
  pub arrived : key.arrived ≡ each_from 0 nodes (λ (node : ℕ). slice_index machine.arrivals node - first)
  pub departed : key.departed ≡ each_from 0 nodes (λ (node : ℕ). departures_of machine node - first)
