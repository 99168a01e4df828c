-- A search that joins runs whose keys are equal.
use Rattle.std.specs.Prelude.{◌≡◌, ℕ, List, [], ◌∷◌, ◌++◌}
use Rattle.lrc_program.specs.declared.Program.{Program}
use Rattle.lrc_trace.specs.declared.act.Act.{Act}
use Rattle.lrc_lazy.specs.Swapped.{IsNoAcquire}
use Rattle.lrc_exact.specs.Rule.{Shape, State, KeepsExact}
use Rattle.lrc_exact_laws.specs.Laws.{IsExactRun}
use Rattle.lrc_exact_states.specs.Runs.{Base, IsDecidedDeed}
use Rattle.lrc_exact_states.specs.Searched.{first_seen, IsLookingForEver, IsReached, IsSeenFrom, Seen}
use Rattle.lrc_exact_states.specs.Key.{key_of}

-- a run, seen from a base, has the key of one that is looked at
pub record HasKeyOf (program : Program) (shape : Shape) (cap : ℕ) (run : List Act) (base : Base) (seen : Seen) : Type 0 where
  pub states : List State
  pub states' : List State
  pub keeps : KeepsExact shape run states
  pub keeps' : KeepsExact shape seen.acts states'
  pub same : key_of program shape cap base run states ≡ key_of program shape cap seen.base seen.acts states'

-- an act leads to a run that has the key of one that is looked at; what the act compares is decided
pub record LeadsToKey (program : Program) (shape : Shape) (cap : ℕ) (Looked : Seen → Type 0) (seen : Seen) (act : Act) : Type 0 where
  pub decided : (states : List State) → KeepsExact shape seen.acts states
      → IsDecidedDeed shape cap seen.base.floor seen.acts states act.node act.deed
  pub base : Base
  pub from : IsSeenFrom shape (seen.acts ++ act ∷ []) seen.base base
  pub later : Seen
  pub looked : Looked later
  pub key : HasKeyOf program shape cap (seen.acts ++ act ∷ []) base later

-- Each act that may come next leads to such a key, or one that acquires no lock does, or some node looks round for ever.
pub data IsKeyed (program : Program) (shape : Shape) (cap : ℕ) (Looked : Seen → Type 0) (seen : Seen) : Type 0 where
  each_leads : ((act : Act) → IsExactRun program shape (seen.acts ++ act ∷ []) → LeadsToKey program shape cap Looked seen act)
      → IsKeyed program shape cap Looked seen
  one_leads : (act : Act) → IsNoAcquire act.deed → IsExactRun program shape (seen.acts ++ act ∷ []) → LeadsToKey program shape cap Looked seen act
      → IsKeyed program shape cap Looked seen
  none_ends : IsLookingForEver program shape seen.acts → IsKeyed program shape cap Looked seen

-- so it is with all that are looked at; acts lead to each, and the run without acts is one
pub record IsKeyedSearch (program : Program) (shape : Shape) (cap : ℕ) (Looked : Seen → Type 0) : Type 0 where
  pub first : Looked (first_seen shape.nodes)
  pub reached : (seen : Seen) → Looked seen → IsReached program shape seen.acts seen.base
  pub all : (seen : Seen) → Looked seen → IsKeyed program shape cap Looked seen
