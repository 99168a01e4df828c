-- What a turn does, by what the text asks for.
use Rattle.std.specs.Prelude.{ℕ, ◌≡◌, ◌+◌, ◌-◌, ◌<◌, ◌≤◌, true, false, IsTrue, Option, Some, [], length, option_map, All, fold}
use Rattle.std.specs.List.{list_all}
use Rattle.lrc_time.specs.Time.{entry}
use Rattle.lrc_lock.specs.Held.{lock_at, is_free, is_held}
use Rattle.lrc_lock.specs.declared.state.LockState.TheVariants.{Away}
use Rattle.lrc_trace.specs.Run.{act_of}
use Rattle.lrc_trace.specs.Trace.{TraceRecord}
use Rattle.lrc_trace.specs.declared.act.Deed.{Deed}
use Rattle.lrc_trace.specs.declared.act.Deed.TheVariants.{Quiet}
use Rattle.lrc_page.specs.Place.{page_of}
use Rattle.lrc_exec.specs.declared.machine.Ask.{Ask}
use Rattle.lrc_exec.specs.declared.machine.Ask.TheVariants.{Read, Write, Acquire, Release, Barrier}
use Rattle.lrc_protocol.specs.Times.{next_time}
use Rattle.lrc_protocol.specs.Pages.{is_readable, Memory, copy_at, value_at, with_written_word, Need, is_met, with_part}
use Rattle.lrc_memory.specs.Turns.{is_mendable}
use Rattle.lrc_protocol.specs.Node.{Wait, access, upkeep, Node, Effect, acts, with_memory, own_index}
use Rattle.lrc_protocol.specs.Turn.{begins, reaches, closing, acquire_at, release_at, arrive_at, TurnRecord, Outcome, done, not_ready, worn, turn_or}
use Rattle.lrc_exec.specs.Ask.{ask_of}
use Rattle.lrc_envelope.specs.Records.{ChangesReplyRecord}
use Rattle.lrc_node_laws.specs.Traced.{CanNoteAct}
use Rattle.lrc_node.specs.declared.fault.NodeFault.{NodeFault}
use Rattle.lrc_node.specs.declared.fault.NodeFault.TheVariants.{NotReady, Worn, NoMemory}
use Rattle.lrc_node.specs.Keeping.{CanClean}
use Rattle.lrc_control.specs.Text.{asked_in, deed_in, gone_on, cost_to_begin}

-- the value that is read where this is asked for, 0 where nothing is
abbrev pub value_asked : Node → Option Ask → ℕ
value_asked node (Some (Read word)) = value_at node.options.size node.memory word
value_asked node _ = 0

-- the memory after what is asked for
abbrev pub memory_asked : Node → Option Ask → Memory
memory_asked node (Some (Write word value)) = with_written_word node.options.size word value node.memory
memory_asked node _ = node.memory

-- a word that is accessed is one of the memory's, and its page may be read
abbrev pub CanAccess : Node → Option Ask → Type 0
CanAccess node (Some (Read word)) = (word < node.setting.words) × (is_readable (copy_at node.memory (page_of word node.options.size)) ≡ true)
CanAccess node (Some (Write word value)) = (word < node.setting.words) × (is_readable (copy_at node.memory (page_of word node.options.size)) ≡ true)
CanAccess node _ = Unit {0}

-- the node once its text made its next deed
abbrev pub acted : Node → Node
acted node = record node {
  course = gone_on (value_asked node (asked_in node.course)) node.course;
  memory = memory_asked node (asked_in node.course);
}

-- that deed
abbrev pub deed_next : Node → Option Deed
deed_next node = deed_in (value_asked node (asked_in node.course)) node.course

-- the effect of a node that begins what is asked for; none where an index would be too large
abbrev pub effect_asked : Node → Ask → Option Effect
effect_asked node (Read word) = Some (reaches node (page_of word node.options.size))
effect_asked node (Write word value) = Some (reaches node (page_of word node.options.size))
effect_asked node (Acquire lock) = closing node (acquire_at lock)
effect_asked node (Release lock) = closing node (release_at lock)
effect_asked node Barrier = closing node arrive_at
effect_asked node _ = Some (acts [] node)

-- the turn of a node that begins what is asked for
abbrev pub turn_asked : Node → Ask → Outcome
turn_asked node ask = turn_or worn (effect_asked node ask)

-- the turn of a step that only the node's own thread sees, and the node after it
abbrev pub quiet_turn : Node → TurnRecord
quiet_turn node = record { act = Some (act_of node.setting.me Quiet); out = [] }

abbrev pub after_quiet : Node → Node
after_quiet node = record node { course = gone_on 0 node.course }

-- the node that has begun what comes next
abbrev pub begun_node : Node → Node
begun_node node = record node { left = node.left - cost_to_begin (begins node) }

-- what a node that begins this has: for an access a word of the memory; for a synchronization as much as it takes to close
-- the open interval; to acquire a lock, one whose token is free here or away; to release one, one that it holds; and to
-- arrive, a number for the episode
abbrev pub CanClose : Node → Type 0
CanClose node = entry (next_time node.setting.me node.locks.time) node.setting.me ≡ entry node.memory.store.last node.setting.me + 1

abbrev pub CanBegin : Node → Ask → Type 0
CanBegin node (Read word) = word < node.setting.words
CanBegin node (Write word value) = word < node.setting.words
CanBegin node (Acquire lock) =
    CanClose node × (lock < length node.locks.held.locks)
    × (is_free (lock_at node.locks.held lock) ≡ false → lock_at node.locks.held lock ≡ Away)
CanBegin node (Release lock) =
    CanClose node × (lock < length node.locks.held.locks) × IsTrue (is_held (lock_at node.locks.held lock))
CanBegin node Barrier = CanClose node × (node.barrier.episode ≤ own_index node)
CanBegin node _ = Unit {0}

-- the trace may be noted of what the turn does that is asked for
abbrev pub CanNoteAsked : Node → TraceRecord → Ask → Type 0
CanNoteAsked node trace ask =
    (turn : TurnRecord) → (after : Node) → turn_asked node ask ≡ done turn after → CanNoteAct after trace turn.act

-- a node that may go on can begin what its text asks for
abbrev pub CanRun : Node → Type 0
CanRun node = (ask : Ask) → option_map ask_of (begins node) ≡ Some ask → CanBegin node ask

-- why a node doesn't go on, by what would come of it: it isn't ready; a number would be too large; or no memory is left
pub data RefusesRun : Outcome → NodeFault → Type 0 where
  unready : RefusesRun not_ready NotReady
  too_large : RefusesRun worn Worn
  without_memory : {outcome : Outcome} → RefusesRun outcome NoMemory

-- a word that is accessed is one of the memory's, on this page
abbrev pub AccessesPage : Node → ℕ → Option Ask → Type 0
AccessesPage node page (Some (Read word)) = (word < node.setting.words) × (page_of word node.options.size ≡ page)
AccessesPage node page (Some (Write word value)) = (word < node.setting.words) × (page_of word node.options.size ≡ page)
AccessesPage node page _ = Unit {0}

-- a page can be repaired for an access: it is one of the memory's, its base copy fits, its keys are of it, and the text's next
-- access is on it
pub record CanRepair (node : Node) (need : Need) : Type 0 where
  pub page : need.page < length node.memory.copies
  pub fit : is_mendable node.options.size (copy_at node.memory need.page) need.base ≡ true
  pub of_page : All (λ key. key.page ≡ need.page) need.missing
  pub next : AccessesPage node need.page (asked_in node.course)

-- what is awaited of a page can be repaired once all has come
abbrev pub CanGoOn : Node → Wait → Type 0
CanGoOn node (access need) = is_met need ≡ true → CanRepair node need
CanGoOn node (upkeep collection needs) = list_all is_met needs ≡ true → CanClean node collection.kept needs
CanGoOn node _ = Unit {0}

-- the node with the changes of a reply stored
abbrev pub with_parts : ℕ → ChangesReplyRecord → Node → Node
with_parts from m node = with_memory node (record node.memory { store = fold (with_part from m.page) node.memory.store m.parts })
