-- The best starts of chains, by what comes right before them.
use Rattle.std.specs.Prelude.{◌≡◌, ℕ, ◌<◌, ◌≤◌, List, Option, None, length, slice_index_or}
use Rattle.lrc_trace.specs.declared.act.Act.{Act}
use Rattle.lrc_trace.specs.declared.act.Deed.TheVariants.{Acquire, Depart}
use Rattle.lrc_trace.specs.Run.{Does, IsDone, departs_before}
use Rattle.lrc_why_chains.specs.declared.starts.Start.{Start}
use Rattle.lrc_why_chains.specs.declared.onward.Onward.{Onward}
use Rattle.lrc_why_chains.specs.Known.{IsActOf}
use Rattle.lrc_why_chains.specs.Starts.{IsBest}

-- each place of the table has the best start of the positions that belong to it
abbrev pub EachBest : List Act → ℕ → (ℕ → ℕ → Type 0) → List (Option Start) → Type 0
EachBest run to these table = (x : ℕ) → x < length table → IsBest run to (these x) (slice_index_or table x None)

-- some node acquires the lock there,
abbrev pub IsAcquireOf : List Act → ℕ → ℕ → Type 0
IsAcquireOf run l k = IsDone run k (Acquire l)

-- and some node departs with so many departs of its own before it
abbrev pub IsDepartOf : List Act → ℕ → ℕ → Type 0
IsDepartOf run number k = (q : ℕ) × Does run k q Depart × (departs_before run q k ≡ number)

-- the starts are those of the positions from n on
pub record IsOnward (run : List Act) (to n : ℕ) (onward : Onward) : Type 0 where
  pub nodes : EachBest run to (λ node k. (n ≤ k) × IsActOf run node k) onward.nodes.items
  pub acquires : EachBest run to (λ l k. (n ≤ k) × IsAcquireOf run l k) onward.acquires.items
  pub departs : EachBest run to (λ number k. (n ≤ k) × IsDepartOf run number k) onward.departs.items
