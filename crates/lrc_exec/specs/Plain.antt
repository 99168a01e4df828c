-- The plain machine: one flat memory, as sequential consistency has it.
use Rattle.std.specs.Prelude.{ℕ, ◌+◌, Bool, Option, Some, None, List, [], ◌∷◌, is_none, nat_le, if◌then◌else◌, map}
use Rattle.std.specs.Prelude.{option_map, option_and_then, replicate, slice_index, slice_index_or, slice_set}
use Rattle.std.specs.List.{list_all, range_with_len}
use Rattle.lrc_program.specs.declared.Program.{Program}
use Rattle.lrc_trace.specs.declared.act.Act.{Act}
use Rattle.lrc_trace.specs.declared.act.Deed.{Deed}
use Rattle.lrc_trace.specs.declared.act.Deed.TheVariants.{Quiet, Print, Read, Write, Acquire, Release, Arrive, Depart, Trap, End}
use Rattle.lrc_exec.specs.Meaning.{Setting, Thread, thread_at_start, Next, quiet, prints, reads, writes}
use Rattle.lrc_exec.specs.Meaning.{acquires, releases, arrives, departs, traps, ends, next_of}

-- the machine between two acts: the words of the memory, for each lock its holder or none, for each node how often it
-- has arrived, and its thread, or none once it has trapped or ended
pub record Plain : Type 0 where
  pub memory : List ℕ
  pub holders : List (Option ℕ)
  pub arrivals : List ℕ
  pub threads : List (Option Thread)

-- the setting of a node that runs the program
abbrev pub setting_of : Program → ℕ → ℕ → Setting
setting_of program nodes me = record { words = program.words; locks = program.locks; me = me; nodes = nodes }

-- a node's thread at the beginning of the program
abbrev pub start_of : Program → ℕ → ℕ → Thread
start_of program nodes me = thread_at_start (setting_of program nodes me) program.statements.items

-- the machine at the beginning: words are 0, locks are free, and nobody has arrived
abbrev pub plain_start : Program → ℕ → Plain
plain_start program nodes =
    record {
      memory = replicate program.words 0;
      holders = replicate program.locks None;
      arrivals = replicate nodes 0;
      threads = map (λ me. Some (start_of program nodes me)) (range_with_len 0 nodes);
    }

-- whether nobody holds a lock
abbrev pub nobody_holds : Plain → ℕ → Bool
nobody_holds machine lock = is_none (slice_index_or machine.holders lock None)

-- whether every node has arrived at least as often as this one
abbrev pub all_arrived : Plain → ℕ → Bool
all_arrived machine node = list_all (λ count. nat_le (slice_index machine.arrivals node) count) machine.arrivals

-- the machine with a node's thread gone on, or stopped for good where there is none
abbrev pub with_thread : Plain → ℕ → Option Thread → Plain
with_thread machine node thread = record machine { threads = slice_set machine.threads node thread }

-- what a node does, and the machine after it; none where it cannot do now what its thread does next
abbrev pub deed_done : Plain → ℕ → Next → Option (Deed × Plain)
deed_done machine node (quiet after) = Some (Quiet, with_thread machine node (Some after))
deed_done machine node (prints value after) = Some (Print value, with_thread machine node (Some after))
deed_done machine node (reads word after) =
    let value = slice_index machine.memory word in
    Some (Read word value, with_thread machine node (Some (after value)))
deed_done machine node (writes word value after) =
    Some (Write word value, record (with_thread machine node (Some after)) { memory = slice_set machine.memory word value })
deed_done machine node (acquires lock after) =
    if nobody_holds machine lock
    then Some (Acquire lock, record (with_thread machine node (Some after)) { holders = slice_set machine.holders lock (Some node) })
    else None
deed_done machine node (releases lock after) =
    Some (Release lock, record (with_thread machine node (Some after)) { holders = slice_set machine.holders lock None })
deed_done machine node (arrives after) =
    Some (Arrive, record (with_thread machine node (Some after)) { arrivals = slice_set machine.arrivals node (slice_index machine.arrivals node + 1) })
deed_done machine node (departs after) =
    if all_arrived machine node then Some (Depart, with_thread machine node (Some after)) else None
deed_done machine node (traps cause) = Some (Trap cause, with_thread machine node None)
deed_done machine node ends = Some (End, with_thread machine node None)

-- a node's thread; none where there is no such node, or it has trapped or ended
abbrev pub thread_in : Plain → ℕ → Option Thread
thread_in machine node = slice_index_or machine.threads node None

-- one step of a node: what it does, and the machine after it; none where it cannot step
abbrev pub plain_step : Plain → ℕ → Option (Deed × Plain)
plain_step machine node = option_and_then (λ thread. deed_done machine node (next_of thread)) (thread_in machine node)

-- the acts that the machine makes, one for each entry of the order, and the machine after them; none where an entry is
-- no node or a node that cannot step
abbrev pub plain_from : Plain → List ℕ → Option (List Act × Plain)
plain_from machine [] = Some ([], machine)
plain_from machine (node ∷ order) =
    option_and_then (λ step. option_map (λ more. (record { node = node; deed = step.0 } ∷ more.0, more.1)) (plain_from step.1 order)) (plain_step machine node)

-- the acts of a program on so many nodes, in this order
abbrev pub plain : Program → ℕ → List ℕ → Option (List Act)
plain program nodes order = option_map (λ run. run.0) (plain_from (plain_start program nodes) order)
