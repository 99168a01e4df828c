-- What is told in place of the translation's own names.
use Rattle.std.specs.Prelude.{ℕ, List, ◌++◌, codes, decimal, map}
use Rattle.lrc_named_held.specs.declared.held.Held as code
use Rattle.lrc_named_held.specs.declared.owns.Own.{Own}
use Rattle.lrc_named_held.specs.Source.{quoted, source}

-- a name of the translation's own, and what is told in its place: what it holds
pub record Held : Type 0 where
  pub name : List ℕ
  pub source : List ℕ

-- of one: as it is spelled in the core, and the source of what it holds
abbrev pub held_by : (text offsets : List ℕ) → Own → Held
held_by text offsets one = record { name = codes "_" ++ decimal one.number; source = quoted (source text offsets one.first one.last) }

-- of those of a statement
abbrev pub held_in : (text offsets : List ℕ) → List Own → List Held
held_in text offsets owns = map (held_by text offsets) owns

-- of those of each statement
abbrev pub held_of : (text offsets : List ℕ) → List (List Own) → List (List Held)
held_of text offsets owns = map (held_in text offsets) owns

-- what the code has
abbrev pub held_seen : code.Held → Held
held_seen one = record { name = one.name.items; source = one.source.items }
