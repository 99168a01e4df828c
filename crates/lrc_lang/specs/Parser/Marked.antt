-- Which tokens begin a statement, by the token before: behind `;`, `{` and `}` each but `}`, `else` and `locks`.
use Rattle.std.specs.Prelude.{ℕ, Bool, true, false, List, [], ◌∷◌, ◌++◌, if◌then◌else◌}
use Rattle.lrc_lang.specs.declared.token.Keyword.TheVariants.{Locks, Else}
use Rattle.lrc_lang.specs.declared.token.Sign.TheVariants.{Semicolon, OpenBrace, CloseBrace}
use Rattle.lrc_lang.specs.Token.{keyword, sign, finish, Lexeme, token, Placed}

-- behind this a statement may begin
abbrev pub is_seam : Lexeme → Bool
is_seam (token (sign Semicolon)) = true
is_seam (token (sign OpenBrace)) = true
is_seam (token (sign CloseBrace)) = true
is_seam _ = false

-- this begins a statement, or is the end of the text
abbrev pub is_marked : (behind_seam : Bool) → Lexeme → Bool
is_marked behind_seam (token finish) = true
is_marked behind_seam (token (keyword Else)) = false
is_marked behind_seam (token (keyword Locks)) = false
is_marked behind_seam (token (sign CloseBrace)) = false
is_marked behind_seam _ = behind_seam

-- the line of this, if it is marked
abbrev pub marks : (behind_seam : Bool) → Placed → List ℕ
marks behind_seam found = if is_marked behind_seam found.lexeme then found.line ∷ [] else []

-- the lines of those that are marked
abbrev pub marked : (behind_seam : Bool) → List Placed → List ℕ
marked behind_seam [] = []
marked behind_seam (found ∷ more) = marks behind_seam found ++ marked (is_seam found.lexeme) more
