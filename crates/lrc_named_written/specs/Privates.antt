-- How many private names a named program has.
use Rattle.std.specs.Prelude.{◌≡◌, ℕ, Bool, min, not, filter, is_some, length, List}
use Rattle.lrc_named_tree.specs.Tree.{Block}
use Rattle.lrc_named_names.specs.Names.{Declared, meaning_of}
use Rattle.lrc_named_constants.specs.Well.{bytes_of, is_among}
use Rattle.lrc_named_statement_faults.specs.Parts.{parts_of_block}
use Rattle.lrc_named_statement_faults.specs.Statements.{different, set_names}

-- whether a name is declared nowhere
abbrev pub is_undeclared : List Declared → List ℕ → Bool
is_undeclared declared name = not (is_some (meaning_of declared name))

-- those of these names
abbrev pub undeclared : List Declared → List (List ℕ) → List (List ℕ)
undeclared declared names = filter (is_undeclared declared) names

-- how many different names the statements set, without an index or behind `for`, that are declared nowhere; 33 stands for any more
abbrev pub privates : List Declared → Block → ℕ
privates declared statements = min (different (undeclared declared (bytes_of (set_names (parts_of_block statements))))) 33

-- these are the names, each once
pub record AreSeen (seen names : List (List ℕ)) : Type 0 where
  pub members : (name : List ℕ) → is_among seen name ≡ is_among names name
  pub count : length seen ≡ different names
