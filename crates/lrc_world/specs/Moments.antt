-- What holds at each moment of the run of some events, and what the times at its accesses know.
use Rattle.std.specs.Prelude.{◌≡◌, ◌≢◌, ◌↔◌, ℕ, ◌+◌, ◌<◌, ◌≤◌, Some, List, ◌++◌, length, slice_get}
use Rattle.lrc_program.specs.declared.Program.{Program}
use Rattle.lrc_time.specs.Time.{entry}
use Rattle.lrc_trace.specs.declared.act.Act.{Act}
use Rattle.lrc_trace.specs.Conflict.{Accesses}
use Rattle.lrc_trace.specs.Interval.{interval_at}
use Rattle.lrc_trace.specs.Order.{HappensBefore}
use Rattle.lrc_clock.specs.Cover.{ClosesAt}
use Rattle.lrc_clock.specs.Times.{time_at}
use Rattle.lrc_envelope.specs.Envelope.{EnvelopeRecord}
use Rattle.lrc_protocol.specs.declared.event.Event.{Event}
use Rattle.lrc_protocol.specs.Node.{OptionsRecord}
use Rattle.lrc_protocol.specs.Turn.{take_turn, unexpected}
use Rattle.lrc_protocol.specs.Run.{Logged, World as Run, Flying, run_of}
use Rattle.lrc_protocol.specs.Follows.{pending}
use Rattle.lrc_order_laws.specs.Tokens.{grants_of_lock, tokens_at_nodes}

-- so it is at each moment of a program's run of these events: after the first of them, however many
abbrev pub Throughout : Program → ℕ → OptionsRecord → List Event → (Run → Type 0) → Type 0
Throughout program nodes options events Holds =
    (before after : List Event) (run : Run) → events ≡ before ++ after → run_of program nodes options before ≡ Some run → Holds run

-- One of the nodes sent the message, and one of them is its receiver, which does not refuse it as unexpected.
pub record IsWelcome (run : Run) (envelope : EnvelopeRecord) : Type 0 where
  pub from : envelope.from < length run.nodes
  pub receiver : Logged
  pub to : slice_get run.nodes envelope.to ≡ Some receiver
  pub taken : take_turn receiver.node envelope ≢ unexpected

-- so it is of each message in flight, also of each that its receiver took before
abbrev pub RefusesNone : Run → Type 0
RefusesNone run = (place : ℕ) (flying : Flying) → slice_get run.flight place ≡ Some flying → IsWelcome run flying.envelope

-- the token of each lock is at just one node, free or held, or in just one grant that was sent and never taken
abbrev pub HasEachToken : ℕ → Run → Type 0
HasEachToken locks run = (lock : ℕ) → lock < locks → tokens_at_nodes lock run.nodes + length (grants_of_lock lock (pending run)) ≡ 1

-- At each access the time of its node has an entry of at least k for another node exactly where the act that closes that node's
-- interval k happens before the access. And an access in that interval happens before it under just the same condition.
pub record AreCovered (acts : List Act) (times : List (List ℕ)) : Type 0 where
  pub closed : (j node word q k : ℕ) → Accesses acts j node word → q ≢ node → 1 ≤ k
      → k ≤ entry (time_at times j) q ↔ ((i : ℕ) × ClosesAt acts q k i × HappensBefore acts i j)
  pub accessed : (i q v j node word : ℕ) → Accesses acts i q v → Accesses acts j node word → q ≢ node
      → HappensBefore acts i j ↔ (interval_at acts q i ≤ entry (time_at times j) q)
