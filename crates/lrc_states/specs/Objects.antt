-- Objects of JSON: messages, labels, acts, and the last Write to a word.
use Rattle.std.specs.Prelude.{ℕ, Bool, true, false, Option, None, Some, List, [], ◌∷◌, ◌++◌, codes, decimal}
use Rattle.lrc_envelope.specs.Envelope.{EnvelopeRecord}
use Rattle.lrc_protocol.specs.Run.{Input}
use Rattle.lrc_protocol.specs.Run as log
use Rattle.lrc_labels.specs.declared.label.Target.{Target}
use Rattle.lrc_labels.specs.declared.label.Target.TheVariants.{Word, Words, Lock, Locks}
use Rattle.lrc_labels.specs.Reading.{first_of, Label, last_of}
use Rattle.lrc_messages.specs.Lists.{separated}
use Rattle.lrc_messages.specs.MessageText.{message_text}
use Rattle.lrc_messages.specs.TurnText.{size_text}
use Rattle.lrc_text.specs.ActText.{deed_text}
use Rattle.lrc_trace.specs.declared.act.Act.{Act}
use Rattle.lrc_trace.specs.declared.act.Deed.{Deed}
use Rattle.lrc_replay.specs.declared.notes.Note.{Note}
use Rattle.lrc_replay.specs.declared.notes.Spot.{Spot}

-- ---- messages

unfoldable pub message_head : EnvelopeRecord → List ℕ
message_head envelope =
    codes "{\"from\":" ++ decimal envelope.from ++ codes ",\"to\":" ++ decimal envelope.to ++ codes ",\"number\":" ++ decimal envelope.number

unfoldable pub message_object : EnvelopeRecord → List ℕ
message_object envelope =
    message_head envelope ++ codes ",\"bytes\":" ++ size_text envelope ++ codes ",\"message\":\"" ++ message_text envelope.message ++ codes "\"}"

abbrev pub messages_list : List EnvelopeRecord → List ℕ
messages_list envelopes = separated (codes ",") message_object envelopes

-- the message that is taken
abbrev pub taken_object : Input → List ℕ
taken_object log.run = codes "null"
taken_object (log.taken envelope) = message_object envelope

-- ---- labels

unfoldable pub target_name : Target → List ℕ
target_name (Word word) = codes "word"
target_name (Words first last) = codes "words"
target_name (Lock lock) = codes "lock"
target_name (Locks first last) = codes "locks"

abbrev pub target_members : Target → List ℕ
target_members target =
    codes "\"of\":\"" ++ target_name target ++ codes "\",\"from\":" ++ decimal (first_of target) ++ codes ",\"to\":" ++ decimal (last_of target)

abbrev pub sizes_list : List ℕ → List ℕ
sizes_list sizes = separated (codes ",") decimal sizes

-- the sizes behind the first, where there are any
abbrev pub sizes_member : List ℕ → List ℕ
sizes_member [] = []
sizes_member (size ∷ sizes) = codes ",\"sizes\":[" ++ sizes_list (size ∷ sizes) ++ codes "]"

abbrev pub label_object : Label → List ℕ
label_object label =
    codes "{" ++ target_members label.target ++ codes ",\"name\":\"" ++ label.name ++ codes "\"" ++ sizes_member label.sizes ++ codes "}"

abbrev pub labels_list : List Label → List ℕ
labels_list labels = separated (codes ",") label_object labels

-- ---- acts

abbrev pub spot_members : Spot → List ℕ
spot_members spot = codes ",\"line\":" ++ decimal spot.line ++ codes ",\"interval\":" ++ decimal spot.interval

abbrev pub act_object : Spot → Deed → List ℕ
act_object spot deed =
    codes "{\"position\":" ++ decimal spot.position ++ codes ",\"deed\":\"" ++ deed_text deed ++ codes "\"" ++ spot_members spot ++ codes "}"

abbrev pub act_or_null : Spot → Option Act → List ℕ
act_or_null spot None = codes "null"
act_or_null spot (Some act) = act_object spot act.deed

unfoldable pub note_head : Note → List ℕ
note_head note =
    codes "{\"word\":" ++ decimal note.word ++ codes ",\"value\":\"" ++ decimal note.value ++ codes "\",\"node\":" ++ decimal note.node

unfoldable pub note_object : Note → List ℕ
note_object note =
    note_head note ++ codes ",\"position\":" ++ decimal note.spot.position ++ spot_members note.spot ++ codes "}"

abbrev pub notes_list : List Note → List ℕ
notes_list notes = separated (codes ",") note_object notes

-- whether something is so
unfoldable pub truth_text : Bool → List ℕ
truth_text true = codes "true"
truth_text false = codes "false"
