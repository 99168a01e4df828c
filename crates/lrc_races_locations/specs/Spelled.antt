-- The lines that are printed of pairs of locations.
use Rattle.std.specs.Prelude.{ℕ, List, [], ◌∷◌, codes, decimal, flat_map}
use Rattle.lrc_races_trace.specs.declared.event.Pair.{Pair}
use Rattle.lrc_races_text.specs.declared.form.Form.{Form}
use Rattle.lrc_races_text.specs.Naming.{Naming}
use Rattle.lrc_races_text.specs.Spelled.{name_at, variable_word, variable_of, sides_parts, together}

-- `races LOCATION KIND, LOCATION KIND: V lines I, J`
abbrev pub locations_line : Form → Naming → Pair → List ℕ
locations_line form naming pair = together (together (sides_parts naming pair) ∷ codes ": " ∷ variable_word form
    ∷ name_at naming.variables (variable_of pair.earlier.event.operation) ∷ codes " lines " ∷ decimal pair.earlier.event.line
    ∷ codes ", " ∷ decimal pair.later.event.line ∷ codes "\n" ∷ [])

abbrev pub locations_lines : Form → Naming → List Pair → List ℕ
locations_lines form naming pairs = flat_map (locations_line form naming) pairs
