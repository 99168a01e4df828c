-- Settling: as long as some node that does not turn for ever can make a free act, the lowest such node makes it.
use Rattle.std.specs.Prelude.{◌≡◌, ℕ, ◌<◌, true, List, [], ◌∷◌, Some}
use Rattle.lrc_trace.specs.declared.act.Act.{Act}
use Rattle.lrc_trace.specs.declared.act.Deed.{Deed}
use Rattle.lrc_trace.specs.Run.{act_of}
use Rattle.lrc_exec.specs.Plain.{Plain, plain_step}
use Rattle.lrc_orders_laws.specs.Free.{is_free_at, TurnsAt}

-- the node's next act is not free, or it turns for ever
abbrev pub IsSettledAt : Plain → ℕ → Type 0
IsSettledAt machine node = is_free_at machine node ≡ true → TurnsAt machine node

-- so it is of every node
pub record IsSettled (machine : Plain) : Type 0 where
  pub each : (node : ℕ) → IsSettledAt machine node

-- the lowest node with a free act that does not turn for ever
pub record IsNextToSettle (machine : Plain) (node : ℕ) : Type 0 where
  pub free : is_free_at machine node ≡ true
  pub stops : ¬ TurnsAt machine node
  pub lowest : (other : ℕ) → other < node → IsSettledAt machine other

-- settling a state makes these acts and leads to that one
pub data Settles : Plain → List Act → Plain → Type 0 where
  settled : (machine : Plain) → IsSettled machine → Settles machine [] machine
  settling : (machine after final : Plain) (node : ℕ) (deed : Deed) (acts : List Act) → IsNextToSettle machine node
      → plain_step machine node ≡ Some (deed, after) → Settles after acts final → Settles machine (act_of node deed ∷ acts) final
