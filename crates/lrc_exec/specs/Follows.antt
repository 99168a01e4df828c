-- Acts that follow the text: each node's deeds are those that its thread makes, a read taking the value that it names.
use Rattle.std.specs.Prelude.{ℕ, ◌<◌, ◌==◌, Option, Some, None, List, [], ◌∷◌, map, filter, All}
use Rattle.lrc_program.specs.declared.Program.{Program}
use Rattle.lrc_trace.specs.declared.act.Act.{Act}
use Rattle.lrc_trace.specs.declared.act.Deed.{Deed}
use Rattle.lrc_trace.specs.declared.act.Deed.TheVariants.{Quiet, Print, Read, Write, Acquire, Release, Arrive, Depart, Trap, End}
use Rattle.lrc_exec.specs.Meaning.{Thread, Next, quiet, prints, reads, writes, acquires, releases, arrives, departs, traps, ends, next_of}
use Rattle.lrc_exec.specs.Plain.{start_of}

-- What a thread does next is this deed, and then it goes on as this thread, or not at all.
pub data Goes : Next → Deed → Option Thread → Type 0 where
  quietly : {t : Thread} → Goes (quiet t) Quiet (Some t)
  printing : {t : Thread} {v : ℕ} → Goes (prints v t) (Print v) (Some t)
  -- a read takes the value that the deed names
  reading : {t : ℕ → Thread} {w v : ℕ} → Goes (reads w t) (Read w v) (Some (t v))
  writing : {t : Thread} {w v : ℕ} → Goes (writes w v t) (Write w v) (Some t)
  acquiring : {t : Thread} {l : ℕ} → Goes (acquires l t) (Acquire l) (Some t)
  releasing : {t : Thread} {l : ℕ} → Goes (releases l t) (Release l) (Some t)
  arriving : {t : Thread} → Goes (arrives t) Arrive (Some t)
  departing : {t : Thread} → Goes (departs t) Depart (Some t)
  trapping : {c : _} → Goes (traps c) (Trap c) None
  ending : Goes ends End None

-- A thread makes these deeds one after another, and none once it has stopped.
pub data Makes : Option Thread → List Deed → Type 0 where
  nothing_more : {t : Option Thread} → Makes t []
  and_then : {t : Thread} {d : Deed} {after : Option Thread} {ds : List Deed} → Goes (next_of t) d after → Makes after ds → Makes (Some t) (d ∷ ds)

-- the nodes of the acts, in their order
abbrev pub nodes_of_acts : List Act → List ℕ
nodes_of_acts acts = map (λ a. a.node) acts

-- the deeds of a node, in their order
abbrev pub deeds_of : ℕ → List Act → List Deed
deeds_of node acts = map (λ a. a.deed) (filter (λ a. a.node == node) acts)

-- each act is of one of the nodes, and each node's deeds are those of its thread
pub record FollowsText (program : Program) (nodes : ℕ) (acts : List Act) : Type 0 where
  pub in_range : All (λ a. a.node < nodes) acts
  pub each : (node : ℕ) → node < nodes → Makes (Some (start_of program nodes node)) (deeds_of node acts)
