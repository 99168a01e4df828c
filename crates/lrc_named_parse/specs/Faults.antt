-- The faults of a text as such, and which of them is the first. Those that ask what a name stands for are not among them.
use Rattle.std.specs.Prelude.{◌≡◌, ◌<◌, ◌≤◌, ◌⊎◌, ℕ, List, [], ◌∷◌, ◌++◌, length}
use Rattle.lrc_lang.specs.declared.fault.FaultKind.{FaultKind}
use Rattle.lrc_lang.specs.declared.fault.FaultKind.TheVariants.{TooLong, BadByte, BadNumber, Unexpected, TooDeep, OverLimit}
use Rattle.lrc_lang.specs.Faults.{rank}
use Rattle.lrc_named_tokens.specs.declared.token.Keyword.TheVariants as keywords
use Rattle.lrc_named_tokens.specs.Token.{Token, keyword, Lexeme, token, bad_byte, bad_number, Place, Located}
use Rattle.lrc_named_tokens.specs.Lexemes.{beginning, HasLexemes}
use Rattle.lrc_named_tree.specs.Tree.{NamedTree}
use Rattle.lrc_named_tree.specs.Grammar.{IsNamedProgram}
use Rattle.lrc_named_parse.specs.Counts.{open_of, counted_of, IsTooDeep, IsOperatorTooMany}

-- ---- which texts are named

-- a token with which a named program may begin
abbrev pub BeginsNamed : Lexeme → Type 0
BeginsNamed (token (keyword keywords.Nodes)) = Unit {0}
BeginsNamed (token (keyword keywords.Const)) = Unit {0}
BeginsNamed (token (keyword keywords.Shared)) = Unit {0}
BeginsNamed (token (keyword keywords.Lock)) = Unit {0}
BeginsNamed (token (keyword keywords.Fn)) = Unit {0}
BeginsNamed _ = ⊥

abbrev pub FirstBeginsNamed : List Located → Type 0
FirstBeginsNamed [] = ⊥
FirstBeginsNamed (first ∷ others) = BeginsNamed first.lexeme

-- the text is read as a named program, and not as one of the core
abbrev pub IsNamedText : List ℕ → Type 0
IsNamedText text = (all : List Located) × HasLexemes text all × FirstBeginsNamed all

-- ---- the faults of a token behind the tokens before it

-- No named program begins with these tokens: no rest of tokens completes them.
abbrev pub IsUnexpected : List Token → Token → Type 0
IsUnexpected before t = (rest : List Token) (p : NamedTree) → IsNamedProgram p (before ++ t ∷ rest) → ⊥

-- what stands next has this fault
abbrev pub HasFault : FaultKind → List Token → Lexeme → Type 0
HasFault BadByte before bad_byte = Unit {0}
HasFault BadNumber before bad_number = Unit {0}
HasFault Unexpected before (token t) = IsUnexpected before t
HasFault TooDeep before (token t) = IsTooDeep (open_of before) t
HasFault OverLimit before (token t) = IsOperatorTooMany (counted_of before) t
HasFault _ _ _ = ⊥

-- what stands next has this fault, and none that is tried before it
pub record IsFaultOf (before : List Token) (next : Lexeme) (kind : FaultKind) : Type 0 where
  pub has : HasFault kind before next
  pub first : (other : FaultKind) → rank other < rank kind → ¬ HasFault other before next

-- what stands next has no fault
abbrev pub IsFaultless : List Token → Lexeme → Type 0
IsFaultless before next = (kind : FaultKind) → ¬ HasFault kind before next

-- ---- the first fault of a text

-- Behind these tokens, the first of the lexemes that has a fault has this one, and stands at this place.
abbrev pub IsFirstFault : List Token → List Located → Place → FaultKind → Type 0
IsFirstFault before [] place kind = ⊥
IsFirstFault before (next ∷ others) place kind =
    (IsFaultOf before next.lexeme kind × (place ≡ next.place))
    ⊎ ((t : Token) × (next.lexeme ≡ token t) × IsFaultless before (token t) × IsFirstFault (before ++ t ∷ []) others place kind)

-- Behind these tokens, the lexemes are these tokens, and none has a fault.
abbrev pub AreFaultless : List Token → List Located → List Token → Type 0
AreFaultless before [] tokens = tokens ≡ []
AreFaultless before (next ∷ others) [] = ⊥
AreFaultless before (next ∷ others) (t ∷ tokens) =
    (next.lexeme ≡ token t) × IsFaultless before (token t) × AreFaultless (before ++ t ∷ []) others tokens

-- the lexemes are the tokens of this named program, and none has a fault
pub record HasProgram (lexemes : List Located) (p : NamedTree) : Type 0 where
  pub tokens : List Token
  pub faultless : AreFaultless [] lexemes tokens
  pub parsed : IsNamedProgram p tokens

-- the text is not too long, has these lexemes, and is this named program within the limits
pub record IsNamed (text : List ℕ) (lexemes : List Located) (p : NamedTree) : Type 0 where
  pub fits : length text ≤ 65536
  pub lexed : HasLexemes text lexemes
  pub are : HasProgram lexemes p

-- the first fault of the text, and its place: that it is too long, before anything else, or the first that a token has
abbrev pub HasFirstFault : List ℕ → Place → FaultKind → Type 0
HasFirstFault text place kind =
    ((65536 < length text) × (place ≡ beginning) × (kind ≡ TooLong))
    ⊎ ((length text ≤ 65536) × (lexemes : List Located) × HasLexemes text lexemes × IsFirstFault [] lexemes place kind)
