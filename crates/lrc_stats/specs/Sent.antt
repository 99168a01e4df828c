-- Messages that were sent, and their bytes.
use Rattle.std.specs.Prelude.{ℕ, ◌==◌, Bool, true, List, if◌then◌else◌, length, map, nat_lt, count_by, sum_by}
use Rattle.std.specs.List.{flat_map}
use Rattle.lrc_wire.specs.declared.limits.TheConstants.{MOST_BODY_BYTES}
use Rattle.lrc_wire.specs.declared.version.Version.TheVariants.{Two}
use Rattle.lrc_envelope.specs.Envelope.{EnvelopeRecord}
use Rattle.lrc_wire.specs.Runs.{runs_of}
use Rattle.lrc_wire.specs.Spelling.{body, bytes_of}
use Rattle.lrc_wire.specs.contracts.kind.MessageKindPartialEq.TheImpl.{eq-value as kind_eq}
use Rattle.lrc_wire.specs.Kinds.{message_kind}
use Rattle.lrc_protocol.specs.Run.{EntryRecord}
use Rattle.lrc_stats.specs.declared.sent.Sent.{Sent}
use Rattle.lrc_stats.specs.declared.sent.Wanted.{Wanted}
use Rattle.lrc_stats.specs.declared.sent.Wanted.TheVariants.{Kind, Each, ToItself}

-- how many bytes are sent for an envelope: all that it has, and none where its body is longer than may be sent
abbrev pub size_of : EnvelopeRecord → ℕ
size_of envelope = if nat_lt MOST_BODY_BYTES (length (body Two runs_of envelope.message)) then 0 else length (bytes_of envelope)

-- what is counted of a message: its kind, whether its sender is its receiver, and its bytes
abbrev pub sent_of : EnvelopeRecord → Sent
sent_of envelope = record { kind = message_kind envelope.message; to_itself = envelope.from == envelope.to; bytes = size_of envelope }

abbrev pub sent_by_turn : EntryRecord → List Sent
sent_by_turn entry = map sent_of entry.turn.out

-- all messages that the nodes sent
abbrev pub sent_messages : List (List EntryRecord) → List Sent
sent_messages logs = flat_map (flat_map sent_by_turn) logs

abbrev pub is_wanted : Wanted → Sent → Bool
is_wanted (Kind kind) sent = kind_eq.it sent.kind kind
is_wanted Each sent = true
is_wanted ToItself sent = sent.to_itself

-- how many of the messages are wanted, and their bytes
abbrev pub wanted_count : Wanted → List Sent → ℕ
wanted_count wanted sent = count_by (is_wanted wanted) sent

abbrev pub bytes_in : Wanted → List Sent → ℕ
bytes_in wanted sent = sum_by (λ (s : Sent). if is_wanted wanted s then s.bytes else 0) sent
