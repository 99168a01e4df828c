-- Expressions by which shared items are read.
use Rattle.std.specs.Prelude.{ℕ, zero, suc, ◌&&◌, Bool, true, false, not, Option, Some, None, List, [], length}
use Rattle.std.specs.List.{list_any}
use Rattle.lrc_named_tokens.specs.Token.{Lexeme, Located, name, token}
use Rattle.lrc_named_tree.specs.Tree.{Expression}
use Rattle.lrc_named_names.specs.Names.{Declared, Meaning, constant, function, lock, meaning_of, shared}
use Rattle.lrc_named_constants.specs.Well.{bytes_of, is_among}
use Rattle.lrc_named_uses.specs.Names.{tokens_in}

-- something in a text is a name that passes a test and is none of these
abbrev pub is_other : (List ℕ → Bool) → List (List ℕ) → Lexeme → Bool
is_other test parameters (token (name bytes)) = not (is_among parameters bytes) && test bytes
is_other test parameters _ = false

-- what is meant is a shared item, or a function in whose body some name but its parameters passes a test
abbrev pub is_read : (List ℕ → Bool) → List Located → Option Meaning → Bool
is_read test tokens None = false
is_read test tokens (Some (constant n)) = false
is_read test tokens (Some (shared item)) = true
is_read test tokens (Some (lock item)) = false
is_read test tokens (Some (function parameters body)) =
    list_any (λ (found : Located). is_other test (bytes_of parameters) found.lexeme) (tokens_in tokens body)

-- A name is that of a shared item, or of a function in whose body such a one stands, or in that of one that it calls, and so on, over
-- at most so many names.
abbrev pub is_shared : List Declared → List Located → (depth : ℕ) → List ℕ → Bool
is_shared declared tokens zero bytes = false
is_shared declared tokens (suc depth) bytes = is_read (is_shared declared tokens depth) tokens (meaning_of declared bytes)

-- one that is none of these, and some such among tokens
abbrev pub is_shared_in : List Declared → List Located → ℕ → List (List ℕ) → Lexeme → Bool
is_shared_in declared tokens depth parameters lexeme = is_other (is_shared declared tokens depth) parameters lexeme

abbrev pub some_shared : List Declared → List Located → ℕ → List (List ℕ) → List Located → Bool
some_shared declared tokens depth parameters some = list_any (λ (found : Located). is_shared_in declared tokens depth parameters found.lexeme) some

-- A shared item stands in an expression, or in the body of a function that it calls, and so on. A function calls only what is declared
-- before it, so that no more names follow one another than are declared.
abbrev pub has_shared : List Declared → List Located → Expression → Bool
has_shared declared tokens e = some_shared declared tokens (length declared) [] (tokens_in tokens e)
