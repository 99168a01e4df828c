-- How many turns there are of which kind, by the logs of the nodes.
use Rattle.std.specs.Prelude.{ℕ, ◌&&◌, Bool, true, false, Option, Some, None, List, length, count_by, sum_by}
use Rattle.std.specs.List.{list_any}
use Rattle.lrc_trace.specs.declared.act.Act.{Act}
use Rattle.lrc_envelope.specs.declared.message.Message.{Message}
use Rattle.lrc_envelope.specs.declared.message.Message.TheVariants.{ChangesRequest, PageRequest}
use Rattle.lrc_protocol.specs.Run.{EntryRecord, Input, run, taken}
use Rattle.lrc_stats.specs.contracts.deed_kind.DeedKindPartialEq.TheImpl.{eq-value as kind_eq}
use Rattle.lrc_stats.specs.declared.deed_kind.DeedKind.{DeedKind}
use Rattle.lrc_stats.specs.DeedKinds.{kind_of}

-- how many turns the nodes made, and how many of these pass a test
abbrev pub turn_count : List (List EntryRecord) → ℕ
turn_count logs = sum_by length logs

abbrev pub turns_with : (EntryRecord → Bool) → List (List EntryRecord) → ℕ
turns_with passes logs = sum_by (count_by passes) logs

-- ---- acts

abbrev pub is_of_kind : DeedKind → Option Act → Bool
is_of_kind kind None = false
is_of_kind kind (Some act) = kind_eq.it (kind_of act.deed) kind

-- a turn that makes an act of this kind
abbrev pub makes_of_kind : DeedKind → EntryRecord → Bool
makes_of_kind kind entry = is_of_kind kind entry.turn.act

-- ---- misses

abbrev pub is_by_itself : Input → Bool
is_by_itself run = true
is_by_itself (taken envelope) = false

-- changes of a page, or its base copy, are asked for
abbrev pub asks_for_page : Message → Bool
asks_for_page (ChangesRequest m) = true
asks_for_page (PageRequest page) = true
asks_for_page _ = false

-- a turn of a node by itself at which it asks for what a page needs
unfoldable pub is_miss : EntryRecord → Bool
is_miss entry = is_by_itself entry.input && list_any (λ envelope. asks_for_page envelope.message) entry.turn.out
