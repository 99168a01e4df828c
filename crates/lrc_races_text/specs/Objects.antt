-- The lines that are printed of a trace as JSON: an object each, without blanks.
use Rattle.std.specs.Prelude.{ℕ, List, [], ◌∷◌, Option, Some, None, codes, decimal, flat_map, length}
use Rattle.lrc_json.specs.Spelling.{quoted}
use Rattle.lrc_races_trace.specs.declared.event.Event.{Event}
use Rattle.lrc_races_trace.specs.declared.event.Pair.{Pair}
use Rattle.lrc_races_trace.specs.declared.fault.Fault.{Fault}
use Rattle.lrc_races_trace.specs.declared.group.Group.{Group}
use Rattle.lrc_races_text.specs.Naming.{Naming}
use Rattle.lrc_races_text.specs.Spelled.{name_at, kind_word, variable_of, together, reason_parts}

-- where an access is: a text, or nothing where that is not known
abbrev pub place_value : Naming → Option ℕ → List ℕ
place_value naming (Some location) = quoted (name_at naming.locations location)
place_value naming None = codes "null"

-- an access: its line, its thread, its kind, and where it is
abbrev pub access_object : Naming → Event → List ℕ
access_object naming event = together (codes "{\"line\":" ∷ decimal event.line ∷ codes ",\"thread\":" ∷ quoted (name_at naming.threads event.thread)
    ∷ codes ",\"kind\":\"" ∷ kind_word event.operation ∷ codes "\",\"location\":" ∷ place_value naming event.location ∷ codes "}" ∷ [])

-- a pair that is told
unfoldable pub race_object : Naming → Pair → List ℕ
race_object naming pair = together (codes "{\"race\":{\"variable\":"
    ∷ quoted (name_at naming.variables (variable_of pair.earlier.event.operation)) ∷ codes ",\"first\":" ∷ access_object naming pair.earlier.event
    ∷ codes ",\"second\":" ∷ access_object naming pair.later.event ∷ codes "}}\n" ∷ [])

abbrev pub race_objects : Naming → List Pair → List ℕ
race_objects naming pairs = flat_map (race_object naming) pairs

-- the location and the kind of a group's accesses
abbrev pub side_object : Naming → Event → List ℕ
side_object naming event = together (codes "{\"location\":" ∷ place_value naming event.location ∷ codes ",\"kind\":\"" ∷ kind_word event.operation
    ∷ codes "\"}" ∷ [])

-- a group: the locations and kinds of its pairs, how many they are, and the variable and the lines of the first of them
unfoldable pub group_object : Naming → Group → List ℕ
group_object naming group = together (codes "{\"races\":{\"first\":" ∷ side_object naming group.first.earlier.event ∷ codes ",\"second\":"
    ∷ side_object naming group.first.later.event ∷ codes ",\"count\":" ∷ decimal group.count ∷ codes ",\"variable\":"
    ∷ quoted (name_at naming.variables (variable_of group.first.earlier.event.operation)) ∷ codes ",\"lines\":["
    ∷ decimal group.first.earlier.event.line ∷ codes "," ∷ decimal group.first.later.event.line ∷ codes "]}}\n" ∷ [])

abbrev pub group_objects : Naming → List Group → List ℕ
group_objects naming groups = flat_map (group_object naming) groups

-- an event that no program would give: its line, and why
abbrev pub ill_object : ℕ → List ℕ → List ℕ
ill_object line reason = together (codes "{\"ill\":{\"line\":" ∷ decimal line ∷ codes ",\"reason\":" ∷ quoted reason ∷ codes "}}\n" ∷ [])

-- the first such event, if there is one
abbrev pub fault_object : Naming → Option Fault → List ℕ
fault_object naming (Some fault) = ill_object fault.event.line (together (reason_parts naming fault.event.thread fault.reason))
fault_object naming None = []

-- the last line
abbrev pub counts_object : Naming → ℕ → ℕ → List ℕ
counts_object naming races events = together (codes "{\"races\":" ∷ decimal races ∷ codes ",\"events\":" ∷ decimal events
    ∷ codes ",\"threads\":" ∷ decimal (length naming.threads) ∷ codes ",\"variables\":" ∷ decimal (length naming.variables)
    ∷ codes ",\"locks\":" ∷ decimal (length naming.locks) ∷ codes ",\"barriers\":" ∷ decimal (length naming.barriers) ∷ codes "}\n" ∷ [])
