-- What the warnings of a named program are made by, without where it lies in memory.
use Rattle.std.specs.Prelude.{ℕ, List, map}
use Rattle.lrc_labels.specs.Reading.{Label, label_seen}
use Rattle.lrc_lint_warnings.specs.declared.warning.Spot.{Spot}
use Rattle.lrc_named_core.specs.Tree.{Origin, plain}
use Rattle.lrc_named_core.specs.View.{origin_of}
use Rattle.lrc_named_entries.specs.Entry.{Entry}
use Rattle.lrc_named_entries.specs.View.{entry_seen}
use Rattle.lrc_named_warnings.specs.declared.context.Context as code

pub record Context : Type 0 where
  -- the line and the column of each token of the named program's text
  pub spots : List Spot
  -- what each statement of the core comes from, and with which token of the core's text it begins
  pub origins : List Origin
  pub begins : List ℕ
  -- the private names of the core, by number, and what the label lines of its text say
  pub names : List (List ℕ)
  pub labels : List Label
  -- with which token of the named program's text each loop begins that waits for shared items and learns of no write
  pub loops : List ℕ
  -- the declared names that nothing uses
  pub unused : List Entry

abbrev pub context_seen : code.Context → Context
context_seen c = record {
  spots = c.spots.now;
  origins = map origin_of c.origins.now;
  begins = c.begins.now;
  names = map (λ name. name.now) c.names.now;
  labels = map label_seen c.labels.now;
  loops = c.loops.now;
  unused = map entry_seen c.unused.now;
}

-- of a token, and of a statement, that there is not
abbrev pub no_spot : Spot
no_spot = record { line = 0; column = 0 }

abbrev pub no_origin : Origin
no_origin = record { statement = 0; line = 0; trap = plain }
