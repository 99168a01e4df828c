-- Where a node's text stands.
use Rattle.std.specs.Prelude.{ℕ, List, ◌++◌, codes, decimal}
use Rattle.lrc_state_text.specs.declared.place.NamedValue as code_name
use Rattle.lrc_state_text.specs.Json.{listed}

-- a private name, and its value
pub record Named : Type 0 where
  pub name : List ℕ
  pub value : ℕ

abbrev pub named_seen : code_name.NamedValue → Named
named_seen named = record { name = named.name.now; value = named.value }

unfoldable pub named_text : Named → List ℕ
named_text named = codes "\"" ++ named.name ++ codes "\":\"" ++ decimal named.value ++ codes "\""

-- the line of the statement that comes next, and the private names whose value is not 0, in order
abbrev pub place_members : (line : ℕ) → List Named → List ℕ
place_members line names = codes ",\"at\":" ++ decimal line ++ codes ",\"names\":{" ++ listed named_text names ++ codes "}"
