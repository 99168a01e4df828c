-- A node: its text, the shared memory as it knows it, its locks, its part in barriers, and its mail.
use Rattle.std.specs.Prelude.{[], ℕ, ◌+◌, ◌==◌, ◌∷◌, Bool, false, if◌then◌else◌, List, nat_le, nat_lt, None, Option}
use Rattle.std.specs.Prelude.{option_map, replicate, slice_index, slice_index_or, slice_set, Some, true}
use Rattle.std.specs.List.{list_any}
use Rattle.lrc_program.specs.declared.Program.{Program}
use Rattle.lrc_program.specs.declared.Statement.{Statement}
use Rattle.lrc_trace.specs.declared.act.Cause.{Cause}
use Rattle.lrc_trace.specs.declared.act.Deed.{Deed}
use Rattle.lrc_trace.specs.declared.act.Deed.TheVariants.{Depart}
use Rattle.lrc_time.specs.Time.{entry}
use Rattle.lrc_page.specs.Place.{pages_of}
use Rattle.lrc_page.specs.declared.size.Size.{Size}
use Rattle.lrc_exec.specs.Ask.{ask_of, deed_asked, steps_of}
use Rattle.lrc_exec.specs.Meaning.{acquires, arrives, departs, ends, Next, next_of, prints, quiet, reads, releases, Setting}
use Rattle.lrc_exec.specs.Meaning.{Thread, thread_at_start, traps, writes}
use Rattle.lrc_exec.specs.Plain.{setting_of}
use Rattle.lrc_store.specs.Order.{placed}
use Rattle.lrc_envelope.specs.Envelope.{EnvelopeRecord}
use Rattle.lrc_envelope.specs.declared.message.Message.{Message}
use Rattle.lrc_lock.specs.Held.{HeldRecord}
use Rattle.lrc_protocol.specs.Times.{MOST_NUMBER}
use Rattle.lrc_protocol.specs.Pages.{fresh_memory, Memory, Need, value_at, with_written_word}
use Rattle.lrc_protocol.specs.Locks.{fresh_locks, Locks, with_held}
use Rattle.lrc_protocol.specs.Barriers.{Barrier, Collection, fresh_barrier}

-- ---- how far the text has come

-- a thread that goes on; a trap and its cause; or the end of the text
pub data Course : Type 0 where
  going : Thread → Course
  trapped : Cause → Course
  ended : Course

-- The deed of what a thread does next, a read giving this value. A departure stands apart: arriving and departing are one ask,
-- Barrier, whose deed is the Arrive.
abbrev pub deed_of : ℕ → Next → Deed
deed_of value (departs after) = Depart
deed_of value next = deed_asked value (ask_of next)

-- how far the text has come after that deed
abbrev pub course_of : ℕ → Next → Course
course_of value (quiet after) = going after
course_of value (prints printed after) = going after
course_of value (reads word after) = going (after value)
course_of value (writes word written after) = going after
course_of value (acquires lock after) = going after
course_of value (releases lock after) = going after
course_of value (arrives after) = going after
course_of value (departs after) = going after
course_of value (traps cause) = trapped cause
course_of value ends = ended

-- what a text does next, and none once it has stopped
abbrev pub next_in : Course → Option Next
next_in (going thread) = Some (next_of thread)
next_in (trapped cause) = None
next_in ended = None

-- how many of a node's steps it costs to begin this
abbrev pub cost_of : Next → ℕ
cost_of next = steps_of (deed_of 0 next)

-- ---- mail

-- What a node waits for:
pub data Wait : Type 0 where
  nothing : Wait
  -- the grant of a lock,
  grant : (lock : ℕ) → Wait
  -- the departure from the barrier where it has arrived,
  departure : Wait
  -- what the page of its next access needs,
  access : (need : Need) → Wait
  -- what the pages need that it keeps, in a collection,
  upkeep : (collection : Collection) → (needs : List Need) → Wait
  -- or, the pages that it keeps being clean, the word to discard.
  discard : (collection : Collection) → Wait

-- whether nothing is awaited
abbrev pub is_idle : Wait → Bool
is_idle nothing = true
is_idle _ = false

-- what is still needed of pages
abbrev pub needs_of : Wait → List Need
needs_of (access need) = need ∷ []
needs_of (upkeep collection needs) = needs
needs_of _ = []

-- whether this lock's grant is awaited
abbrev pub awaits_grant : ℕ → Wait → Bool
awaits_grant lock (grant awaited) = awaited == lock
awaits_grant lock _ = false

-- whether the departure is awaited
abbrev pub awaits_departure : Wait → Bool
awaits_departure departure = true
awaits_departure _ = false

-- the collection in which the word to discard is awaited
abbrev pub collection_of : Wait → Option Collection
collection_of (discard collection) = Some collection
collection_of _ = None

-- what it waits for; how many messages it has sent to each node; the numbers that it has taken from each, ascending
pub record Mail : Type 0 where
  pub wait : Wait
  pub sent : List ℕ
  pub taken : List (List ℕ)

-- at the start nothing is awaited, sent or taken
abbrev pub fresh_mail : ℕ → Mail
fresh_mail nodes = record { wait = nothing; sent = replicate nodes 0; taken = replicate nodes [] }

-- whether the message of this number was taken from a node
abbrev pub was_taken : Mail → ℕ → ℕ → Bool
was_taken mail from number = list_any (λ taken. taken == number) (slice_index_or mail.taken from [])

-- the mail once the message of this number is taken
abbrev pub with_taken : ℕ → ℕ → Mail → Mail
with_taken from number mail =
    record mail { taken = slice_set mail.taken from (placed nat_lt number (slice_index_or mail.taken from [])) }

-- a message for a node, before it has a number
pub record Letter : Type 0 where
  pub to : ℕ
  pub message : Message

-- the letter with its sender and number
abbrev pub envelope_of : ℕ → ℕ → Letter → EnvelopeRecord
envelope_of me number letter = record { from = me; to = letter.to; number = number; message = letter.message }

-- the letters with their numbers, where so many were sent to each node before, and how many are sent then: to each node
-- the numbers go on one after another, from `first`. None where a number would be too large.
abbrev pub numbered : ℕ → ℕ → List ℕ → List Letter → Option (List EnvelopeRecord × List ℕ)
numbered me first sent [] = Some ([], sent)
numbered me first sent (letter ∷ letters) =
    let before = slice_index sent letter.to in
    if nat_le (first + before) MOST_NUMBER
    then option_map (λ more. (envelope_of me (first + before) letter ∷ more.0, more.1)) (numbered me first (slice_set sent letter.to (before + 1)) letters)
    else None

-- ---- the node

-- how many steps a node may make, from how many stored intervals on it asks for a collection (0: never), the number of
-- the first message from each node to each, and the size of a page
pub record OptionsRecord : Type 0 where
  pub steps : ℕ
  pub collect : ℕ
  pub first : ℕ
  pub size : Size

-- what does not change: which node it is, of how many, the words, the locks, and the options; how far its text has come, and the
-- steps left; and its locks, its part in barriers, its memory and its mail
pub record Node : Type 0 where
  pub setting : Setting
  pub options : OptionsRecord
  pub course : Course
  pub left : ℕ
  pub locks : Locks
  pub barrier : Barrier
  pub memory : Memory
  pub mail : Mail

-- a node at the beginning of these statements
abbrev pub first_node : OptionsRecord → Setting → List Statement → Node
first_node options setting statements = record {
  setting = setting;
  options = options;
  course = going (thread_at_start setting statements);
  left = options.steps;
  locks = fresh_locks setting.me setting.nodes setting.locks;
  barrier = fresh_barrier setting.me setting.nodes;
  memory = fresh_memory setting.nodes (pages_of setting.words options.size) options.size;
  mail = fresh_mail setting.nodes;
}

-- node `me` at the beginning of the program
abbrev pub fresh_node : Program → ℕ → OptionsRecord → ℕ → Node
fresh_node program nodes options me = first_node options (setting_of program nodes me) program.statements.items

-- the index of the node's newest closed interval
abbrev pub own_index : Node → ℕ
own_index node = entry node.locks.time node.setting.me

-- The node with other locks, another part in barriers, other memory, or other tokens. (What changes a node's part takes the part
-- last, what changes a node takes the node first.)
abbrev pub with_locks : Node → Locks → Node
with_locks node locks = record node { locks = locks }

abbrev pub with_barrier : Node → Barrier → Node
with_barrier node barrier = record node { barrier = barrier }

abbrev pub with_memory : Node → Memory → Node
with_memory node memory = record node { memory = memory }

abbrev pub with_tokens : Node → HeldRecord → Node
with_tokens node held = with_locks node (with_held held node.locks)

-- the node with another wait
abbrev pub waiting : Wait → Node → Node
waiting wait node = record node { mail = record node.mail { wait = wait } }

-- ---- effects

-- what a turn does: its deed if it makes an act (a deed with its node), what it sends, and the node after it
pub record Effect : Type 0 where
  pub deed : Option Deed
  pub letters : List Letter
  pub node : Node

-- sends, and makes no act
abbrev pub sends : List Letter → Node → Effect
sends letters node = record { deed = None; letters = letters; node = node }

-- the value that a read gets from the node's copy
abbrev pub value_read : Node → Next → ℕ
value_read node (reads word after) = value_at node.options.size node.memory word
value_read node _ = 0

-- the memory after a write to the node's copy
abbrev pub memory_after : Node → Next → Memory
memory_after node (writes word value after) = with_written_word node.options.size word value node.memory
memory_after node _ = node.memory

-- makes the act that a thread does next: the access is made in the node's copy, and the text goes on
abbrev pub makes : List Letter → Node → Next → Effect
makes letters node next =
    let value = value_read node next in
    record {
      deed = Some (deed_of value next);
      letters = letters;
      node = record node { course = course_of value next; memory = memory_after node next };
    }

-- Makes the act that the node's text is at. A message that ends a wait does so too, since the text has not moved while the node
-- waited: a grant makes the acquire, the last reply the access, and a departure or the word to discard the depart, which is next
-- for a thread that has arrived. A text that has stopped is never asked: it neither begins nor waits.
abbrev pub acts_by : List Letter → Node → Course → Effect
acts_by letters node (going thread) = makes letters node (next_of thread)
acts_by letters node (trapped cause) = sends letters node
acts_by letters node ended = sends letters node

abbrev pub acts : List Letter → Node → Effect
acts letters node = acts_by letters node node.course
