-- Lazy runs that go on from some acts, and nodes whose acts may go first.
use Rattle.std.specs.Prelude.{◌≡◌, ℕ, List, ◌++◌}
use Rattle.lrc_program.specs.declared.Program.{Program}
use Rattle.lrc_trace.specs.declared.act.Act.{Act}
use Rattle.lrc_trace.specs.declared.act.Deed.{Deed}
use Rattle.lrc_trace.specs.Run.{act_of}
use Rattle.lrc_orders.specs.Notes.{notes_of}
use Rattle.lrc_lazy.specs.Lazy.{IsLazyRun, MayComeNext, IsOver}
use Rattle.lrc_lazy.specs.Swapped.{IsNoAcquire}

-- some lazy run that goes on from these acts, and after which no node can act, has these notes
pub record IsLazyOutcomeFrom (program : Program) (nodes : ℕ) (acts notes : List Act) : Type 0 where
  pub more : List Act
  pub run : IsLazyRun program nodes (acts ++ more)
  pub over : IsOver program nodes (acts ++ more)
  pub are : notes_of nodes (acts ++ more) ≡ notes

-- the node may come next with an act that is no acquire
pub record MayGoFirst (program : Program) (nodes : ℕ) (acts : List Act) (node : ℕ) : Type 0 where
  pub deed : Deed
  pub next : MayComeNext program nodes acts (act_of node deed)
  pub free : IsNoAcquire deed
