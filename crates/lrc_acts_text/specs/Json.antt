-- Acts as JSON: an object for each, on a line of its own. The label of a word and of a lock is a member behind the number.
use Rattle.std.specs.Prelude.{ℕ, ◌==◌, List, [], ◌++◌, codes, decimal, if◌then◌else◌, slice_index, slice_index_or}
use Rattle.lrc_trace.specs.declared.act.Act.{Act}
use Rattle.lrc_trace.specs.declared.act.Deed.{Deed}
use Rattle.lrc_trace.specs.declared.act.Deed.TheVariants.{Print, Read, Write, Acquire, Release, Trap}
use Rattle.lrc_trace.specs.Interval.{interval_at}
use Rattle.lrc_labels.specs.Reading.{Label}
use Rattle.lrc_labels.specs.Show.{lock_label_member, word_label_member}
use Rattle.lrc_text.specs.ActText.{cause_number, deed_name}
use Rattle.lrc_text.specs.Each.{each}

-- a number in a list: a comma stands before each but the first
abbrev pub entry_text : ℕ → ℕ → List ℕ
entry_text place n = if place == 0 then decimal n else codes "," ++ decimal n

abbrev pub with_commas : List ℕ → List ℕ
with_commas ns = each entry_text ns

-- the members that say what a deed has
abbrev pub access_members : List Label → ℕ → ℕ → List ℕ
access_members labels w value = codes ",\"word\":" ++ decimal w ++ word_label_member labels w ++ codes ",\"value\":" ++ decimal value

abbrev pub lock_members : List Label → ℕ → List ℕ
lock_members labels l = codes ",\"lock\":" ++ decimal l ++ lock_label_member labels l

abbrev pub deed_members : List Label → Deed → List ℕ
deed_members labels (Print value) = codes ",\"value\":" ++ decimal value
deed_members labels (Read w value) = access_members labels w value
deed_members labels (Write w value) = access_members labels w value
deed_members labels (Acquire l) = lock_members labels l
deed_members labels (Release l) = lock_members labels l
deed_members labels (Trap cause) = codes ",\"cause\":" ++ decimal (cause_number cause)
deed_members labels _ = []

-- the members of a deed: its name, and what it has
abbrev pub deed_json : List Label → Deed → List ℕ
deed_json labels deed = codes ",\"deed\":\"" ++ deed_name deed ++ codes "\"" ++ deed_members labels deed

-- the member of a time
abbrev pub time_json : List ℕ → List ℕ
time_json time = codes ",\"time\":[" ++ with_commas time ++ codes "]"

-- the first members of an act: its position, its node, and what it does
abbrev pub act_json : List Label → ℕ → Act → List ℕ
act_json labels position act = codes "\"act\":" ++ decimal position ++ codes ",\"node\":" ++ decimal act.node ++ deed_json labels act.deed

-- the members that say of which line of the text an act is, and of which interval
abbrev pub place_json : ℕ → ℕ → List ℕ
place_json line interval = codes ",\"line\":" ++ decimal line ++ codes ",\"interval\":" ++ decimal interval

-- the object of an act, with the node's time just after it
abbrev pub json_line : List Label → ℕ → Act → ℕ → ℕ → List ℕ → List ℕ
json_line labels position act line interval time = codes "{" ++ act_json labels position act ++ place_json line interval ++ time_json time ++ codes "}\n"

-- a line for each act; lines and times are those of the positions
abbrev pub json_of_acts : List Label → List Act → List ℕ → List (List ℕ) → List ℕ
json_of_acts labels acts lines times =
    each (λ position act. json_line labels position act (slice_index lines position) (interval_at acts act.node position) (slice_index_or times position [])) acts
