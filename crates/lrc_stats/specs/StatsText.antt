-- The counts of a run in words, a line for each.
use Rattle.std.specs.Prelude.{ℕ, ◌-◌, List, [], ◌∷◌, ◌++◌, codes, decimal}
use Rattle.std.specs.List.{flat_map}
use Rattle.lrc_protocol.specs.Run.{EntryRecord}
use Rattle.lrc_wire.specs.declared.kind.MessageKind.{MessageKind}
use Rattle.lrc_wire.specs.declared.kind.MessageKind.TheVariants as kinds
use Rattle.lrc_messages.specs.MessageText.{kind_name}
use Rattle.lrc_stats.specs.declared.deed_kind.DeedKind.{DeedKind}
use Rattle.lrc_stats.specs.declared.sent.Sent.{Sent}
use Rattle.lrc_stats.specs.declared.sent.Wanted.{Wanted}
use Rattle.lrc_stats.specs.declared.sent.Wanted.TheVariants.{Kind, Each, ToItself}
use Rattle.lrc_stats.specs.DeedKinds as deeds
use Rattle.lrc_stats.specs.Learned.{collections, learned_intervals, learned_notices, repeats}
use Rattle.lrc_stats.specs.Sent.{bytes_in, sent_messages, wanted_count}
use Rattle.lrc_stats.specs.Turns.{is_miss, makes_of_kind, turn_count, turns_with}

-- words, and a number behind them
unfoldable pub count_line : List ℕ → ℕ → List ℕ
count_line words count = words ++ codes " " ++ decimal count ++ codes "\n"

-- ---- turns

-- how many events there were, how many of them made no turn, and how many turns
unfoldable pub turns_lines : ℕ → ℕ → List ℕ
turns_lines events turns =
    count_line (codes "events") events ++ count_line (codes "skipped") (events - turns) ++ count_line (codes "turns") turns

-- how many acts there are of a kind, and of each
unfoldable pub acts_line : List (List EntryRecord) → DeedKind → List ℕ
acts_line logs kind = codes "acts " ++ count_line (deeds.kind_name kind) (turns_with (makes_of_kind kind) logs)

abbrev pub act_counts_text : List (List EntryRecord) → List ℕ
act_counts_text logs = flat_map (acts_line logs) deeds.deed_kinds

-- how often a node missed
unfoldable pub misses_line : List (List EntryRecord) → List ℕ
misses_line logs = count_line (codes "misses") (turns_with is_miss logs)

-- ---- what was learned

-- how many repeats were taken; how many intervals were learned of, and how many pages these name
unfoldable pub learned_lines : ℕ → ℕ → ℕ → List ℕ
learned_lines repeats intervals notices =
    count_line (codes "repeats") repeats ++ count_line (codes "intervals learned") intervals ++ count_line (codes "notices learned") notices

-- how many episodes collected
unfoldable pub collections_line : List (List EntryRecord) → List ℕ
collections_line logs = count_line (codes "collections") (collections logs)

unfoldable pub learned_text : List (List EntryRecord) → List ℕ
learned_text logs = learned_lines (repeats logs) (learned_intervals logs) (learned_notices logs) ++ collections_line logs

-- ---- messages

-- all kinds of messages, in the order of their lines
abbrev pub message_kinds : List MessageKind
message_kinds = kinds.LockRequest ∷ kinds.LockForward ∷ kinds.LockGrant ∷ kinds.Arrive ∷ kinds.Depart ∷ kinds.Clean ∷ kinds.Discard
    ∷ kinds.ChangesRequest ∷ kinds.ChangesReply ∷ kinds.PageRequest ∷ kinds.PageReply ∷ []

-- how many messages of those that are wanted were sent, and their bytes
unfoldable pub sent_line : List ℕ → Wanted → List Sent → List ℕ
sent_line words wanted sent =
    codes "messages " ++ words ++ codes " " ++ decimal (wanted_count wanted sent) ++ codes " " ++ decimal (bytes_in wanted sent) ++ codes "\n"

abbrev pub kind_line : List Sent → MessageKind → List ℕ
kind_line sent kind = sent_line (kind_name kind) (Kind kind) sent

-- of each kind
unfoldable pub kinds_text : List Sent → List ℕ
kinds_text sent = flat_map (kind_line sent) message_kinds

-- of each kind, of all, and of those whose sender is their receiver
unfoldable pub message_counts_text : List Sent → List ℕ
message_counts_text sent = kinds_text sent ++ sent_line (codes "all") Each sent ++ sent_line (codes "to itself") ToItself sent

-- ---- all

-- the counts of a run of so many events, by the logs of its nodes
abbrev pub stats_text : ℕ → List (List EntryRecord) → List ℕ
stats_text events logs =
    turns_lines events (turn_count logs) ++ act_counts_text logs ++ misses_line logs ++ learned_text logs ++ message_counts_text (sent_messages logs)
