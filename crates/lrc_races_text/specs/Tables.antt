-- What the tables of names gain by an event.
use Rattle.std.specs.Prelude.{ℕ, List, [], ◌∷◌}
use Rattle.lrc_races_lines.specs.declared.line.Kind.{Kind}
use Rattle.lrc_races_lines.specs.Line.{Saying}
use Rattle.lrc_races_lines.specs.Table.{names_of, IsNumbered}
use Rattle.lrc_races_text.specs.declared.naming.Names.{Names}
use Rattle.lrc_races_text.specs.Naming.{Naming, forked, accessed, locked, gathered, located}

-- the names in the tables
abbrev pub naming_of : Names → Naming
naming_of names = record {
  threads = names_of names.threads;
  variables = names_of names.variables;
  locks = names_of names.locks;
  barriers = names_of names.barriers;
  locations = names_of names.locations;
}

-- These mentions, one after another, make the names after of the names before.
pub data Mentions : List (List ℕ) → List (List ℕ) → List (List ℕ) → Type 0 where
  no_mention : {names : List (List ℕ)} → Mentions [] names names
  mention_more : {name : List ℕ} {mentions before between after : List (List ℕ)} {number : ℕ} → IsNumbered before name between number
      → Mentions mentions between after → Mentions (name ∷ mentions) before after

-- the names that an operation mentions
pub record MentionsTarget (kind : Kind) (target : List ℕ) (before after : Naming) : Type 0 where
  pub threads : Mentions (forked kind target) before.threads after.threads
  pub variables : Mentions (accessed kind target) before.variables after.variables
  pub locks : Mentions (locked kind target) before.locks after.locks
  pub barriers : Mentions (gathered kind target) before.barriers after.barriers
  pub locations : Mentions [] before.locations after.locations

-- those that an event mentions
pub record MentionsAll (saying : Saying) (before after : Naming) : Type 0 where
  pub threads : Mentions (saying.thread ∷ forked saying.kind saying.target) before.threads after.threads
  pub variables : Mentions (accessed saying.kind saying.target) before.variables after.variables
  pub locks : Mentions (locked saying.kind saying.target) before.locks after.locks
  pub barriers : Mentions (gathered saying.kind saying.target) before.barriers after.barriers
  pub locations : Mentions (located saying.location) before.locations after.locations
