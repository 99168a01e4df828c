-- The world at the start, and lists of messages.
use Rattle.std.proofs.Common.{◌≡◌, ◌<◌, ◌≤◌, ℕ, List, [], ◌∷◌, false, Some, All, refl, sym, ap, subst, arith, length, map, ◌++◌, ◌+◌}
use Rattle.std.specs.List.{list_any, range_with_len}
use Rattle.lrc_lock.proofs.Starts.{made_more}
use Rattle.lrc_program.specs.declared.Program.{Program}
use Rattle.lrc_protocol.specs.Node.{Node, OptionsRecord, fresh_node}
use Rattle.lrc_world.proofs.Kept.{unlogged}
use Rattle.lrc_trace.specs.declared.act.Act.{Act}
use Rattle.lrc_protocol.specs.declared.event.Event.{Event}
use Rattle.lrc_protocol.specs.Run.{World as Run, fresh_world, run_of}
use Rattle.lrc_protocol.proofs.Worlds.{run-whole}
use Rattle.lrc_node.specs.Logged.{TracedLog}
use Rattle.lrc_world.specs.declared.world.World.{World}
use Rattle.lrc_world.specs.World.{Starts, Shows, fresh_one, log_is_long, sends_long}

all_quiet : (f : ℕ → Node) (xs : List ℕ) → list_any log_is_long (map unlogged (map f xs)) ≡ false
all_quiet f [] = refl
all_quiet f (x ∷ xs) = all_quiet f xs

pub fresh_short : (program : Program) (nodes : ℕ) (options : OptionsRecord) → sends_long (fresh_world program nodes options) ≡ false
fresh_short program nodes options = all_quiet (fresh_node program nodes options) (range_with_len 0 nodes)

-- there are as many nodes as are asked for
pub fresh_few : (program : Program) (nodes : ℕ) (options : OptionsRecord) → nodes ≤ 16 → length (fresh_world program nodes options).nodes ≤ 256
fresh_few program nodes options few =
    let count = (run-whole program nodes options [] (fresh_world program nodes options) refl).count in omega (arith, count, few)

-- one node more
pub fresh_next : (program : Program) (nodes : ℕ) (options : OptionsRecord) (made : List TracedLog) (next : TracedLog) (me : ℕ)
    → made ≡ map (fresh_one program nodes options) (range_with_len 0 me) → next ≡ fresh_one program nodes options me
    → made ++ next ∷ [] ≡ map (fresh_one program nodes options) (range_with_len 0 (me + 1))
fresh_next program nodes options made next me so_far one =
    made_more (fresh_one program nodes options) me made (made ++ next ∷ []) so_far (ap (λ x. made ++ x ∷ []) one)

-- the acts of a run are of its nodes
pub acts_in_range : (program : Program) (nodes : ℕ) (options : OptionsRecord) (events : List Event) (run : Run) (acts : List Act)
    → run_of program nodes options events ≡ Some run → acts ≡ run.acts → nodes ≤ 16 → All (λ (act : Act). act.node < 16) acts
acts_in_range program nodes options events run acts runs same few =
    subst (All (λ (act : Act). act.node < 16)) (sym same)
    (λ k d lt. let own = (run-whole program nodes options events run runs).in_range k d lt in omega (arith, own, few))

pub acts_of_nodes : (program : Program) (nodes : ℕ) (options : OptionsRecord) (events : List Event) (starts : Starts) (run : Run) (world : World)
    → run_of program nodes options events ≡ Some run → Shows starts world run → All (λ (act : Act). act.node < nodes) world.acts.items
acts_of_nodes program nodes options events starts run world runs shows =
    subst (All (λ (act : Act). act.node < nodes)) (sym shows.acts) (run-whole program nodes options events run runs).in_range
