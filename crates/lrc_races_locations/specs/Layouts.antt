-- What is printed of pairs of locations, as words or as objects.
use Rattle.std.specs.Prelude.{ℕ, List, [], ◌∷◌, codes, decimal, flat_map}
use Rattle.lrc_json.specs.Spelling.{quoted}
use Rattle.lrc_races_trace.specs.declared.event.Pair.{Pair}
use Rattle.lrc_races_text.specs.declared.asked.Layout.{Layout}
use Rattle.lrc_races_text.specs.declared.asked.Layout.TheVariants.{Words, Objects}
use Rattle.lrc_races_text.specs.declared.form.Form.{Form}
use Rattle.lrc_races_text.specs.Naming.{Naming}
use Rattle.lrc_races_text.specs.Objects.{side_object}
use Rattle.lrc_races_text.specs.Spelled.{name_at, variable_of, together}
use Rattle.lrc_races_locations.specs.Spelled.{locations_lines}

-- a pair of locations: the location and the kind of both accesses, their variable, and their lines
unfoldable pub location_object : Naming → Pair → List ℕ
location_object naming pair = together (codes "{\"races\":{\"first\":" ∷ side_object naming pair.earlier.event ∷ codes ",\"second\":"
    ∷ side_object naming pair.later.event ∷ codes ",\"variable\":"
    ∷ quoted (name_at naming.variables (variable_of pair.earlier.event.operation)) ∷ codes ",\"lines\":["
    ∷ decimal pair.earlier.event.line ∷ codes "," ∷ decimal pair.later.event.line ∷ codes "]}}\n" ∷ [])

abbrev pub location_objects : Naming → List Pair → List ℕ
location_objects naming pairs = flat_map (location_object naming) pairs

abbrev pub location_lines : Layout → Form → Naming → List Pair → List ℕ
location_lines Words form naming pairs = locations_lines form naming pairs
location_lines Objects form naming pairs = location_objects naming pairs
