-- Turns in words: the message that a turn takes, its act, and the messages that it sends.
use Rattle.std.specs.Prelude.{ℕ, ◌==◌, ◌&&◌, Bool, false, Option, None, Some, is_some, List, [], ◌∷◌, ◌++◌, slice_index}
use Rattle.std.specs.List.{count_by, list_any}
use Rattle.lrc_trace.specs.declared.act.Act.{Act}
use Rattle.lrc_text.specs.ActText.{act_line}
use Rattle.lrc_protocol.specs.Run.{Input, run, taken, EntryRecord}
use Rattle.lrc_messages.specs.TurnText.{sent_texts, taken_text}
use Rattle.lrc_turns_text.specs.Turns.{Made, turns_told}

-- ---- one turn

-- the message that it takes
abbrev pub input_text : ℕ → Input → (again : Bool) → List ℕ
input_text node run again = []
input_text node (taken envelope) again = taken_text node envelope again

-- its act, with the line of the program's text that the act is of
abbrev pub turn_act_text : Option Act → ℕ → List ℕ
turn_act_text None line = []
turn_act_text (Some act) line = act_line act line

abbrev pub turn_text : Made → (again : Bool) → (line : ℕ) → List ℕ
turn_text turn again line =
    input_text turn.node turn.entry.input again ++ turn_act_text turn.entry.turn.act line ++ sent_texts turn.node turn.entry.turn.out

-- ---- what the turns before it say of it

-- by this input a node that made it takes the message of this number from that sender
abbrev pub takes_numbered : (node from number : ℕ) → (maker : ℕ) → Input → Bool
takes_numbered node from number maker run = false
takes_numbered node from number maker (taken envelope) = (maker == node) && ((envelope.from == from) && (envelope.number == number))

-- in one of these turns the node took that message
abbrev pub has_taken : List Made → (node from number : ℕ) → Bool
has_taken turns node from number = list_any (λ turn. takes_numbered node from number turn.node turn.entry.input) turns

-- the node takes a message that it took in one of these turns
abbrev pub took_before : List Made → (node : ℕ) → Input → Bool
took_before turns node run = false
took_before turns node (taken envelope) = has_taken turns node envelope.from envelope.number

-- how many of these turns made an act
abbrev pub acts_in : List Made → ℕ
acts_in turns = count_by (λ turn. is_some turn.entry.turn.act) turns

-- ---- the turns of a run

-- a turn behind others; `lines` are those of the acts of the run
abbrev pub text_behind : (lines : List ℕ) → List Made → Made → List ℕ
text_behind lines before turn = turn_text turn (took_before before turn.node turn.entry.input) (slice_index lines (acts_in before))

-- turns behind others
abbrev pub texts_behind : (lines : List ℕ) → (before turns : List Made) → List ℕ
texts_behind lines before [] = []
texts_behind lines before (turn ∷ turns) = text_behind lines before turn ++ texts_behind lines (before ++ turn ∷ []) turns

-- the turns that these nodes made, one after another
abbrev pub messages_text : List (List EntryRecord) → (order lines : List ℕ) → List ℕ
messages_text logs order lines = texts_behind lines [] (turns_told logs order)
