-- Declared names that nothing uses.
use Rattle.std.specs.Prelude.{ℕ, ◌==◌, ◌&&◌, Bool, false, not, List, [], ◌∷◌, if◌then◌else◌}
use Rattle.std.specs.List.{enumerate_from, flat_map, list_any}
use Rattle.lrc_named_tokens.specs.Token.{Lexeme, Located}
use Rattle.lrc_named_tree.specs.Tree.{Declaration, Named, constant, function, lock, node_count, shared}
use Rattle.lrc_named_constants.specs.Well.{bytes_of, is_among}
use Rattle.lrc_named_entries.specs.Entry.{Entry, belongs, entries_of}
use Rattle.lrc_named_uses.specs.Names.{is_name}

-- the name is a parameter of a function that a token belongs to
abbrev pub is_parameter_of : ℕ → List ℕ → Declaration → Bool
is_parameter_of at name (function begins named parameters body) = belongs at named body && is_among (bytes_of parameters) name
is_parameter_of at name (node_count begins n) = false
is_parameter_of at name (constant begins named value) = false
is_parameter_of at name (shared begins items) = false
is_parameter_of at name (lock begins items) = false

abbrev pub is_parameter : List Declaration → ℕ → List ℕ → Bool
is_parameter declarations at name = list_any (is_parameter_of at name) declarations

-- A token uses a name that is declared here: it is the name, but not the one that is declared, and it is no parameter.
abbrev pub is_use : List Declaration → Named → ℕ → Lexeme → Bool
is_use declarations named at lexeme =
    is_name named.bytes lexeme && not (at == named.at) && not (is_parameter declarations at named.bytes)

-- some token of the text does
abbrev pub is_used : List Located → List Declaration → Named → Bool
is_used tokens declarations named = list_any (λ (at : ℕ × Located). is_use declarations named at.0 at.1.lexeme) (enumerate_from 0 tokens)

abbrev pub unless_used : List Located → List Declaration → Entry → List Entry
unless_used tokens declarations entry = if is_used tokens declarations entry.name then [] else entry ∷ []

-- the declared names that no token uses
abbrev pub unused_of : List Located → List Declaration → List Entry
unused_of tokens declarations = flat_map (unless_used tokens declarations) (entries_of declarations)
