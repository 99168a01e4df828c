-- What is written of an act.
use Rattle.std.specs.Prelude.{ℕ, ◌==◌, Bool, true, false, not, Option, None, Some, List, [], ◌++◌}
use Rattle.std.specs.Prelude.{codes, decimal, fold, if◌then◌else◌, slice_get, slice_index}
use Rattle.std.specs.Cmp.Lexicographic.{pointwise}
use Rattle.lrc_trace.specs.declared.act.Act.{Act}
use Rattle.lrc_trace.specs.declared.act.Deed.{Deed}
use Rattle.lrc_trace.specs.declared.act.Deed.TheVariants.{Read, Write, Acquire, Release, Arrive, Depart, Trap}
use Rattle.lrc_trace.specs.Interval.{closes, interval_at}
use Rattle.lrc_clock.specs.Times.{acts_at}
use Rattle.lrc_text.specs.ActText.{deed_text}
use Rattle.lrc_acts_text.specs.Json.{with_commas}
use Rattle.lrc_labels.specs.Reading.{Label}
use Rattle.lrc_labels.specs.Show.{lock_label_text, word_label_text}
use Rattle.lrc_chart_model.specs.declared.picture.Kind.{Kind}
use Rattle.lrc_chart_model.specs.declared.picture.Kind.TheVariants as kinds
use Rattle.lrc_chart_build.specs.Bands.{barrier_at}
use Rattle.lrc_chart_build.specs.Course.{KnownRecord}
use Rattle.lrc_chart_build.specs.declared.part.Place.{Place}

-- ---- what was done

-- an access: what it does, its word with its label, and the value
abbrev pub access_words : List Label → (name : List ℕ) → (w value : ℕ) → List ℕ
access_words labels name w value = name ++ decimal w ++ word_label_text labels w ++ codes ": " ++ decimal value

-- what is done with a lock, and the lock with its label
abbrev pub lock_words : List Label → (name : List ℕ) → ℕ → List ℕ
lock_words labels name l = name ++ decimal l ++ lock_label_text labels l

-- a deed; an arrival and a departure with the barrier's number
abbrev pub deed_words : List Label → (barrier : ℕ) → Deed → List ℕ
deed_words labels barrier (Read w value) = access_words labels (codes "read ") w value
deed_words labels barrier (Write w value) = access_words labels (codes "write ") w value
deed_words labels barrier (Acquire l) = lock_words labels (codes "acquire ") l
deed_words labels barrier (Release l) = lock_words labels (codes "release ") l
deed_words labels barrier Arrive = codes "arrive " ++ decimal barrier
deed_words labels barrier Depart = codes "depart " ++ decimal barrier
deed_words labels barrier deed = deed_text deed

-- the deed of the act at a position
abbrev pub act_words : KnownRecord → Option ℕ → Deed → List ℕ
act_words known position deed = deed_words known.labels (barrier_at known.acts position) deed

abbrev pub deed_kind : Deed → Kind
deed_kind Arrive = kinds.Barrier
deed_kind Depart = kinds.Barrier
deed_kind (Trap cause) = kinds.Trap
deed_kind _ = kinds.Act

-- whether an act closes an interval
abbrev pub act_closes : Option Act → Bool
act_closes None = false
act_closes (Some act) = closes act.deed

-- ---- where an act stands

abbrev pub place_words : (line interval : ℕ) → List ℕ
place_words line interval = codes "line " ++ decimal line ++ codes ", interval " ++ decimal interval

-- the line and the interval of a node's act at a position
abbrev pub act_place_text : KnownRecord → (node : ℕ) → Option ℕ → List ℕ
act_place_text known node None = []
act_place_text known node (Some position) = place_words (slice_index known.lines position) (interval_at known.acts node position)

-- ---- the time

-- the entries of a time
abbrev pub entries_text : Option (List ℕ) → List ℕ
entries_text None = []
entries_text (Some time) = with_commas time

-- whether there is an act, and it is the node's
abbrev pub is_act_of : List Act → (node : ℕ) → Option ℕ → Bool
is_act_of acts node None = false
is_act_of acts node (Some position) = acts_at acts node position

-- the position of the last act of a node in these rows, if it has one there
abbrev pub last_act : List Act → (node : ℕ) → List Place → Option ℕ
last_act acts node places = fold (λ last place. if is_act_of acts node place.act then place.act else last) None places

abbrev pub same_time : Option (List ℕ) → Option (List ℕ) → Bool
same_time (Some a) (Some b) = pointwise ◌==◌ a b
same_time _ _ = false

-- the time at a position is another one than at the position before, if there is one before
abbrev pub changes_since : List (List ℕ) → (position : ℕ) → Option ℕ → Bool
changes_since times position None = true
changes_since times position (Some before) = not (same_time (slice_get times before) (slice_get times position))

-- The node's time just after its act at a position, where it is another than at its act shown before, and at its first act shown. The
-- rows before are those that are shown above it.
abbrev pub new_time_text : KnownRecord → (before : List Place) → (node : ℕ) → Option ℕ → List ℕ
new_time_text known before node None = []
new_time_text known before node (Some position) =
    if changes_since known.times position (last_act known.acts node before) then entries_text (slice_get known.times position) else []

-- ---- what an act's hint says: its position, its line, and its node's time just after it

abbrev pub hint_words : (position line : ℕ) → Option (List ℕ) → List ℕ
hint_words position line time = codes "act " ++ decimal position ++ codes ", line " ++ decimal line ++ codes ", time " ++ entries_text time

abbrev pub hint_text : KnownRecord → Option ℕ → List ℕ
hint_text known None = []
hint_text known (Some position) = hint_words position (slice_index known.lines position) (slice_get known.times position)
