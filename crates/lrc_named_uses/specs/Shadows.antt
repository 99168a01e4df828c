-- The tokens that are parameters of the functions that they belong to.
use Rattle.std.specs.Prelude.{◌≡◌, ◌<◌, ◌||◌, ℕ, Bool, false, List, length, slice_index_or}
use Rattle.std.specs.List.{list_any}
use Rattle.lrc_named_tokens.specs.declared.token.Located as code_located
use Rattle.lrc_named_tokens.specs.Token.{Lexeme, name, token}
use Rattle.lrc_named_tokens.specs.View.{lexeme_of}
use Rattle.lrc_named_tree.specs.Tree.{Declaration}
use Rattle.lrc_named_constants.specs.Well.{is_among}
use Rattle.lrc_named_uses.specs.Unused.{is_parameter_of}

-- a token is a name, and a parameter of a function that it belongs to
abbrev pub is_shadow_of : ℕ → Lexeme → Declaration → Bool
is_shadow_of at (token (name bytes)) = is_parameter_of at bytes
is_shadow_of at _ = λ declaration. false

-- of each token, whether it passes the test or did before
abbrev pub IsMarked : List code_located.Located → (ℕ → Lexeme → Bool) → (old new : List Bool) → Type 0
IsMarked tokens test old new =
    (length new ≡ length old)
    × ((k : ℕ) (t : code_located.Located) → k < length tokens
    → slice_index_or new k false ≡ (slice_index_or old k false || test k (lexeme_of (slice_index_or tokens k t).lexeme)))

-- of each token, whether it is a parameter of such a function
abbrev pub AreShadows : List code_located.Located → List Declaration → List Bool → Type 0
AreShadows tokens declarations shadows =
    (length shadows ≡ length tokens)
    × ((k : ℕ) (t : code_located.Located) → k < length tokens
    → slice_index_or shadows k false ≡ list_any (is_shadow_of k (lexeme_of (slice_index_or tokens k t).lexeme)) declarations)

-- a token is one of these names
abbrev pub is_in : List (List ℕ) → Lexeme → Bool
is_in names (token (name bytes)) = is_among names bytes
is_in names _ = false
