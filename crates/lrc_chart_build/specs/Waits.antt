-- What a turn without an act is for: what its node begins to wait for, and the pages that become invalid at it.
use Rattle.std.specs.Prelude.{ℕ, Bool, false, Option, None, Some, List, [], ◌∷◌, ◌++◌, codes, decimal, if◌then◌else◌, slice_index_or, take}
use Rattle.std.specs.List.{flat_map, list_any}
use Rattle.lrc_trace.specs.declared.act.Act.{Act}
use Rattle.lrc_envelope.specs.Envelope.{EnvelopeRecord}
use Rattle.lrc_envelope.specs.declared.message.Message.{Message}
use Rattle.lrc_envelope.specs.declared.message.Message.TheVariants as messages
use Rattle.lrc_labels.specs.Reading.{Label}
use Rattle.lrc_protocol.specs.Run.{Input, run, taken}
use Rattle.lrc_turns_text.specs.Turns.{Made}
use Rattle.lrc_chart_rows.specs.Takers.{takes_it}
use Rattle.lrc_chart_model.specs.declared.picture.Kind.{Kind}
use Rattle.lrc_chart_model.specs.declared.picture.Kind.TheVariants as kinds
use Rattle.lrc_chart_build.specs.Course.{CourseRecord, KnownRecord}
use Rattle.lrc_chart_build.specs.Words.{act_words, deed_kind, lock_words}
use Rattle.lrc_chart_build.specs.declared.part.Place.{Place}

-- whether one of the turns before a position takes the message
abbrev pub taken_before : List Made → (position : ℕ) → EnvelopeRecord → Bool
taken_before turns position envelope = list_any (takes_it envelope) (take position turns)

-- ---- for what a node begins to wait

-- what a request asks for: a lock, or what a page needs
abbrev pub wish_of : List Label → Message → List ℕ
wish_of labels (messages.LockRequest m) = lock_words labels (codes ": lock ") m.lock
wish_of labels (messages.LockForward m) = lock_words labels (codes ": lock ") m.lock
wish_of labels (messages.ChangesRequest m) = codes ": page " ++ decimal m.page
wish_of labels (messages.PageRequest page) = codes ": page " ++ decimal page
wish_of labels message = []

-- what the first of the messages asks for
abbrev pub first_wish : List Label → List EnvelopeRecord → List ℕ
first_wish labels [] = []
first_wish labels (envelope ∷ more) = wish_of labels envelope.message

-- whether a message is a departure from a barrier that collects
abbrev pub collects : Message → Bool
collects (messages.Depart m) = m.collect
collects _ = false

-- whether a turn at this position takes a departure from a barrier that collects, and no repeat of one
abbrev pub begins_collection : List Made → (position : ℕ) → Input → Bool
begins_collection turns position run = false
begins_collection turns position (taken envelope) = if taken_before turns position envelope then false else collects envelope.message

-- The words of a turn that makes no act. One that its node makes by itself begins to wait for what it asks for.
abbrev pub idle_words : List Label → (collects : Bool) → Input → List EnvelopeRecord → List ℕ
idle_words labels collects run out = codes "waits" ++ first_wish labels out
idle_words labels collects (taken envelope) out = if collects then codes "waits: collection" else []

abbrev pub words_by : KnownRecord → List Made → Place → Made → Option Act → List ℕ
words_by known turns place turn (Some act) = act_words known place.act act.deed
words_by known turns place turn None =
    idle_words known.labels (begins_collection turns place.turn turn.entry.input) turn.entry.input turn.entry.turn.out

-- what a turn does, in words
abbrev pub turn_words : CourseRecord → Place → Made → List ℕ
turn_words course place turn = words_by course.known course.turns place turn turn.entry.turn.act

abbrev pub idle_kind : (collects : Bool) → Input → Kind
idle_kind collects run = kinds.Wait
idle_kind collects (taken envelope) = if collects then kinds.Wait else kinds.Message

abbrev pub kind_by : List Made → (position : ℕ) → Input → Option Act → Kind
kind_by turns position input (Some act) = deed_kind act.deed
kind_by turns position input None = idle_kind (begins_collection turns position input) input

-- what kind of row the turn at a position has
abbrev pub turn_kind : List Made → (position : ℕ) → Made → Kind
turn_kind turns position turn = kind_by turns position turn.entry.input turn.entry.turn.act

-- ---- the pages that become invalid

-- further pages
abbrev pub listed : List ℕ → List ℕ
listed pages = flat_map (λ page. codes ", " ++ decimal page) pages

-- `page 0 invalid`, `pages 0, 2 invalid`
abbrev pub invalid_words : List ℕ → List ℕ
invalid_words [] = []
invalid_words (page ∷ []) = codes "page " ++ decimal page ++ codes " invalid"
invalid_words (page ∷ other ∷ more) = codes "pages " ++ decimal page ++ listed (other ∷ more) ++ codes " invalid"

-- the pages that become invalid at the turn at a position, where these do at each turn
abbrev pub invalid_text : (invalid : List (List ℕ)) → (position : ℕ) → List ℕ
invalid_text invalid position = invalid_words (slice_index_or invalid position [])
