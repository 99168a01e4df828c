-- The faults of a text, and which of them is the first.
use Rattle.std.specs.Prelude.{◌≡◌, ◌<◌, ◌≤◌, ◌⊎◌, ℕ, List, [], ◌∷◌, ◌++◌, length, Option, Some}
use Rattle.lrc_program.specs.declared.TheConstants.{MOST_WORDS}
use Rattle.lrc_lang.specs.declared.token.Keyword.TheVariants as keywords
use Rattle.lrc_lang.specs.declared.fault.FaultKind.{FaultKind}
use Rattle.lrc_lang.specs.declared.fault.FaultKind.TheVariants.{TooLong, BadByte, BadNumber, Unexpected, TooDeep, TooManyNames, OverLimit, NoMemory}
use Rattle.lrc_lang.specs.Token.{Token, number, keyword, Lexeme, token, bad_byte, bad_number, Placed}
use Rattle.lrc_lang.specs.Lexemes.{Lexes}
use Rattle.lrc_lang.specs.Counts.{names_of, open_of, operators_of, last_of, IsTooDeep, IsNameTooMany, IsOperatorTooMany}
use Rattle.lrc_program.specs.Tree.{ProgramTree}
use Rattle.lrc_lang.specs.Grammar.{IsProgram}

-- ---- the faults of a token behind the tokens before it

-- No program begins with these tokens: no rest of tokens completes them.
abbrev pub IsUnexpected : List Token → Token → Type 0
IsUnexpected before t = (rest : List Token) (p : ProgramTree) → IsProgram p (before ++ t ∷ rest) → ⊥

-- the number behind `words` is not 1 to 65,536, or the number behind `locks` is over 64
abbrev pub IsNumberOutOfRange : Option Token → Token → Type 0
IsNumberOutOfRange (Some (keyword keywords.Words)) (number n) = (n < 1) ⊎ (MOST_WORDS < n)
IsNumberOutOfRange (Some (keyword keywords.Locks)) (number n) = 64 < n
IsNumberOutOfRange _ _ = ⊥

abbrev pub IsOverLimit : List Token → Token → Type 0
IsOverLimit before t = IsNumberOutOfRange (last_of before) t ⊎ IsOperatorTooMany (operators_of before) t

-- what stands next has this fault
abbrev pub HasFault : FaultKind → List Token → Lexeme → Type 0
HasFault BadByte before bad_byte = Unit {0}
HasFault BadNumber before bad_number = Unit {0}
HasFault Unexpected before (token t) = IsUnexpected before t
HasFault TooDeep before (token t) = IsTooDeep (open_of before) t
HasFault TooManyNames before (token t) = IsNameTooMany (names_of before) t
HasFault OverLimit before (token t) = IsOverLimit before t
HasFault _ _ _ = ⊥

-- the order in which the faults of one token are tried
abbrev pub rank : FaultKind → ℕ
rank TooLong = 0
rank BadByte = 1
rank BadNumber = 2
rank Unexpected = 3
rank TooDeep = 4
rank TooManyNames = 5
rank OverLimit = 6
rank NoMemory = 7

-- what stands next has this fault, and none that is tried before it
pub record IsFaultOf (before : List Token) (next : Lexeme) (kind : FaultKind) : Type 0 where
  pub has : HasFault kind before next
  pub first : (other : FaultKind) → rank other < rank kind → ¬ HasFault other before next

-- what stands next has no fault
abbrev pub IsFaultless : List Token → Lexeme → Type 0
IsFaultless before next = (kind : FaultKind) → ¬ HasFault kind before next

-- ---- the first fault of a text

-- Behind these tokens, the first of the lexemes that has a fault has this one, and stands on this line.
abbrev pub IsFirstFault : List Token → List Placed → ℕ → FaultKind → Type 0
IsFirstFault before [] line kind = ⊥
IsFirstFault before (next ∷ others) line kind =
    (IsFaultOf before next.lexeme kind × (line ≡ next.line))
    ⊎ ((t : Token) × (next.lexeme ≡ token t) × IsFaultless before (token t) × IsFirstFault (before ++ t ∷ []) others line kind)

-- Behind these tokens, the lexemes are these tokens, and none has a fault.
abbrev pub AreFaultless : List Token → List Placed → List Token → Type 0
AreFaultless before [] tokens = tokens ≡ []
AreFaultless before (next ∷ others) [] = ⊥
AreFaultless before (next ∷ others) (t ∷ tokens) =
    (next.lexeme ≡ token t) × IsFaultless before (token t) × AreFaultless (before ++ t ∷ []) others tokens

-- the text is not too long, and is this program within the limits
pub record IsText (text : List ℕ) (p : ProgramTree) : Type 0 where
  pub fits : length text ≤ 65536
  pub lexemes : List Placed
  pub lexed : Lexes 1 text lexemes
  pub tokens : List Token
  pub faultless : AreFaultless [] lexemes tokens
  pub parsed : IsProgram p tokens

-- the first fault of the text, and its line: that it is too long, before anything else, or the first that a token has
abbrev pub HasFirstFault : List ℕ → ℕ → FaultKind → Type 0
HasFirstFault text line kind =
    ((65536 < length text) × (line ≡ 1) × (kind ≡ TooLong))
    ⊎ ((length text ≤ 65536) × (lexemes : List Placed) × Lexes 1 text lexemes × IsFirstFault [] lexemes line kind)
