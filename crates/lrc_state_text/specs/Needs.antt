-- What pages need before they can be read.
use Rattle.std.specs.Prelude.{ℕ, List, ◌++◌, codes, decimal, map}
use Rattle.std.specs.List.{flat_map}
use Rattle.lrc_protocol.specs.Pages.{Asked, Base, unneeded, due, come, Need}
use Rattle.lrc_state_text.specs.declared.needs.IntervalName.{IntervalName}
use Rattle.lrc_state_text.specs.Json.{interval_name, listed}

-- whether a base copy is asked of the page's keeper, and whether it has come
unfoldable pub base_name : Base → List ℕ
base_name unneeded = codes "unneeded"
base_name (due keeper) = codes "due"
base_name (come values) = codes "come"

abbrev pub name_of : (node index : ℕ) → IntervalName
name_of node index = record { node = node; index = index }

-- the intervals whose changes are asked of a maker, and have not come
abbrev pub asked_of_maker : Asked → List IntervalName
asked_of_maker asked = map (name_of asked.maker) asked.indices

-- the same of all makers
abbrev pub asked_names : List Asked → List IntervalName
asked_names all = flat_map asked_of_maker all

abbrev pub name_text : IntervalName → List ℕ
name_text name = interval_name name.node name.index

abbrev pub names_text : List IntervalName → List ℕ
names_text names = codes "[" ++ listed name_text names ++ codes "]"

unfoldable pub need_text : Need → List ℕ
need_text need =
    codes "{\"page\":" ++ decimal need.page ++ codes ",\"base\":\"" ++ base_name need.base ++ codes "\",\"changes\":"
    ++ names_text (asked_names need.asked) ++ codes "}"
