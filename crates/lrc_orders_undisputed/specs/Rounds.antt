-- Nodes that come back to where they were by undisputed acts alone.
use Rattle.std.specs.Prelude.{◌≡◌, ◌≤◌, ℕ, List, [], ◌∷◌, ◌++◌, Some, length}
use Rattle.lrc_trace.specs.declared.act.Act.{Act}
use Rattle.lrc_trace.specs.declared.act.Deed.{Deed}
use Rattle.lrc_trace.specs.Run.{act_of}
use Rattle.lrc_exec.specs.Plain.{Plain, plain_from}
use Rattle.lrc_orders_undisputed.specs.Undisputed.{ActsIn, IsUndisputed}
use Rattle.lrc_orders_undisputed.specs.Findings.{Finding, Shows}

-- the node makes these acts alone, each of them undisputed where it is made, and leads from one state to the other
pub data GoesAlone (node : ℕ) : Plain → List Act → Plain → Type 0 where
  stays : (machine : Plain) → GoesAlone node machine [] machine
  goes : (machine mid final : Plain) (deed : Deed) (acts : List Act) → IsUndisputed machine node deed mid → GoesAlone node mid acts final
      → GoesAlone node machine (act_of node deed ∷ acts) final

-- by some such acts the state comes back to what it was, its words and locks too: so the node turns for ever
pub record ComesRound (machine : Plain) (node : ℕ) : Type 0 where
  pub deed : Deed
  pub mid : Plain
  pub acts : List Act
  pub first : IsUndisputed machine node deed mid
  pub back : GoesAlone node mid acts machine

-- it is to come from the state by acts of other nodes alone, at most so many
pub record ComesWithout (node : ℕ) (past : List Act) (machine : Plain) (most : ℕ) (finding : Finding) : Type 0 where
  pub order : List ℕ
  pub acts : List Act
  pub final : Plain
  pub led : plain_from machine order ≡ Some (acts, final)
  pub without : ¬ ActsIn node order
  pub short : length order ≤ most
  pub shows : Shows finding (past ++ acts) final
