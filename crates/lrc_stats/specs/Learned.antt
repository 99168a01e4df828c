-- What messages brought, each counted once.
use Rattle.std.specs.Prelude.{◌≡◌, ℕ, ◌+◌, ◌-◌, ◌==◌, ◌&&◌, Bool, true, false, List, [], ◌∷◌, ◌++◌, fold, if◌then◌else◌}
use Rattle.std.specs.Prelude.{length, count_by, slice_index_or, sum_by}
use Rattle.std.specs.List.{list_any}
use Rattle.lrc_store.specs.Interval.{IntervalRecord}
use Rattle.lrc_envelope.specs.declared.message.Message.{Message}
use Rattle.lrc_envelope.specs.declared.message.Message.TheVariants.{LockGrant, Depart, Discard}
use Rattle.lrc_protocol.specs.Run.{EntryRecord, Input, run, taken}
use Rattle.lrc_stats.specs.declared.learned.Learned.{Learned}

-- a turn takes the message with this number from this node
abbrev pub is_taking : ℕ → ℕ → Input → Bool
is_taking from number run = false
is_taking from number (taken envelope) = (envelope.from == from) && (envelope.number == number)

-- one of these turns took it
abbrev pub took : List EntryRecord → ℕ → ℕ → Bool
took before from number = list_any (λ entry. is_taking from number entry.input) before

-- one of these turns took the message already that makes a turn
abbrev pub takes_repeat : List EntryRecord → Input → Bool
takes_repeat before run = false
takes_repeat before (taken envelope) = took before envelope.from envelope.number

-- the turns without repeats, and one more, unless it is a repeat
abbrev pub with_entry : List EntryRecord → EntryRecord → List EntryRecord
with_entry kept entry = if takes_repeat kept entry.input then kept else kept ++ entry ∷ []

-- the turns of a log without the repeats, which took a message that the node had taken before
abbrev pub first_takings : List EntryRecord → List EntryRecord
first_takings log = fold with_entry [] log

-- ---- what a message brings

-- the intervals of a grant or a departure
abbrev pub intervals_told : Message → List IntervalRecord
intervals_told (LockGrant m) = m.intervals
intervals_told (Depart m) = m.intervals
intervals_told _ = []

abbrev pub told : Input → List IntervalRecord
told run = []
told (taken envelope) = intervals_told envelope.message

abbrev pub is_discard : Message → Bool
is_discard (Discard episode) = true
is_discard _ = false

abbrev pub discards : Input → Bool
discards run = false
discards (taken envelope) = is_discard envelope.message

-- how many intervals a turn learns of, and how many pages these name
abbrev pub interval_count : EntryRecord → ℕ
interval_count entry = length (told entry.input)

abbrev pub notice_count : EntryRecord → ℕ
notice_count entry = sum_by (λ interval. length interval.pages) (told entry.input)

abbrev pub nothing : Learned
nothing = record { repeats = 0; intervals = 0; notices = 0; discards = 0 }

-- what one turn brings: nothing where it is a repeat,
abbrev pub a_repeat : Learned
a_repeat = record { repeats = 1; intervals = 0; notices = 0; discards = 0 }

abbrev pub brought : EntryRecord → Learned
brought entry = record {
  repeats = 0;
  intervals = interval_count entry;
  notices = notice_count entry;
  discards = if discards entry.input then 1 else 0;
}

-- by the turns before it,
abbrev pub brought_after : List EntryRecord → EntryRecord → Learned
brought_after before entry = if takes_repeat before entry.input then a_repeat else brought entry

-- and what two bring together
abbrev pub together : Learned → Learned → Learned
together a b = record {
  repeats = a.repeats + b.repeats;
  intervals = a.intervals + b.intervals;
  notices = a.notices + b.notices;
  discards = a.discards + b.discards;
}

-- ---- in one log

abbrev pub log_repeats : List EntryRecord → ℕ
log_repeats log = length log - length (first_takings log)

abbrev pub log_intervals : List EntryRecord → ℕ
log_intervals log = sum_by interval_count (first_takings log)

abbrev pub log_notices : List EntryRecord → ℕ
log_notices log = sum_by notice_count (first_takings log)

abbrev pub log_discards : List EntryRecord → ℕ
log_discards log = count_by (λ entry. discards entry.input) (first_takings log)

-- what a node's messages brought, by its log
pub record IsLearned (log : List EntryRecord) (learned : Learned) : Type 0 where
  pub repeats : learned.repeats ≡ log_repeats log
  pub intervals : learned.intervals ≡ log_intervals log
  pub notices : learned.notices ≡ log_notices log
  pub discards : learned.discards ≡ log_discards log

-- ---- in the logs of all nodes

-- how many repeats were taken; how many intervals were learned of, and how many pages these name
abbrev pub repeats : List (List EntryRecord) → ℕ
repeats logs = sum_by log_repeats logs

abbrev pub learned_intervals : List (List EntryRecord) → ℕ
learned_intervals logs = sum_by log_intervals logs

abbrev pub learned_notices : List (List EntryRecord) → ℕ
learned_notices logs = sum_by log_notices logs

-- the episodes that collected: as many as node 0 took the word to discard
abbrev pub collections : List (List EntryRecord) → ℕ
collections logs = log_discards (slice_index_or logs 0 [])
