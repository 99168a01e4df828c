-- What traps in every run of the machine: any number of nodes, any options, any order of events.
use Rattle.std.specs.Prelude.{◌≡◌, ◌⊎◌, ◌+◌, ℕ, List, Some, slice_get, take}
use Rattle.lrc_program.specs.declared.Program.{Program}
use Rattle.lrc_program.specs.Statements.{Statement}
use Rattle.lrc_lang.specs.Token.{Token}
use Rattle.lrc_trace.specs.declared.act.Act.{Act}
use Rattle.lrc_trace.specs.declared.act.Cause.{Cause}
use Rattle.lrc_trace.specs.declared.act.Deed.{Deed}
use Rattle.lrc_trace.specs.declared.act.Deed.TheVariants.{Trap}
use Rattle.lrc_trace.specs.Run.{Does}
use Rattle.lrc_exec.specs.Meaning.{traps, next_of}
use Rattle.lrc_lines.specs.Walks.{Walk}
use Rattle.lrc_protocol.specs.declared.event.Event.{Event}
use Rattle.lrc_protocol.specs.Node.{OptionsRecord}
use Rattle.lrc_protocol.specs.Run.{World, run_of}
use Rattle.lrc_lint_laws.specs.Comes.{IsAt, statements_of_text, thread_to, walk_to}

-- In these acts each node that comes to this token traps there. After the first acts of them, however many, its thread does nothing else
-- next; and the deed that it makes there is that trap.
pub record TrapsAmong (program : Program) (tokens : List Token) (nodes : ℕ) (acts : List Act) (at : ℕ) (cause : Walk → Cause) : Type 0 where
  pub next : (i node : ℕ) → IsAt (walk_to program tokens nodes (take i acts) node) at
      → next_of (thread_to program tokens nodes (take i acts) node) ≡ traps (cause (walk_to program tokens nodes (take i acts) node))
  pub deed : (i node : ℕ) (d : Deed) → Does acts i node d → IsAt (walk_to program tokens nodes (take i acts) node) at
      → d ≡ Trap (cause (walk_to program tokens nodes (take i acts) node))

-- in every run each node that comes to this token traps there
abbrev pub TrapsInRuns : Program → List Token → (at : ℕ) → (Walk → Cause) → Type 0
TrapsInRuns program tokens at cause =
    (nodes : ℕ) (options : OptionsRecord) (events : List Event) (world : World) → run_of program nodes options events ≡ Some world
    → TrapsAmong program tokens nodes world.acts at cause

-- A statement of the text begins this many tokens in front of a token, and in every run each node that comes to it traps there.
pub record TrapsInRunsBehind (program : Program) (tokens : List Token) (at : ℕ) (cause : Walk → Cause) : Type 0 where
  pub number : ℕ
  pub from : ℕ
  pub statement : Statement
  pub stands : slice_get (statements_of_text program tokens) number ≡ Some (record { at = from; statement = statement })
  pub near : (at ≡ from + 1) ⊎ (at ≡ from + 3)
  pub traps : TrapsInRuns program tokens from cause
