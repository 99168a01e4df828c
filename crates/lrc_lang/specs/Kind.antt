-- Kinds of tokens, and which of them may stand behind some tokens.
use Rattle.std.specs.Prelude.{◌≡◌, ◌↔◌, Bool, IsTrue, List, [], ◌∷◌, ◌++◌, filter}
use Rattle.lrc_lang.specs.declared.kind.Kind.{Kind}
use Rattle.lrc_lang.specs.declared.kind.Kind.TheVariants as kinds
use Rattle.lrc_lang.specs.declared.token.Keyword.TheVariants as keywords
use Rattle.lrc_lang.specs.declared.token.Sign.TheVariants as signs
use Rattle.lrc_lang.specs.Token.{Token, number, name, keyword, sign, finish}
use Rattle.lrc_program.specs.Tree.{ProgramTree}
use Rattle.lrc_lang.specs.Grammar.{IsProgram}

-- the kind of a token
abbrev pub kind_of : Token → Kind
kind_of (number n) = kinds.Number
kind_of (name bytes) = kinds.Name
kind_of (keyword which) = kinds.Keyword which
kind_of (sign mark) = kinds.Sign mark
kind_of finish = kinds.End

-- all kinds, in the order in which they are told
unfoldable pub all_kinds : List Kind
all_kinds = kinds.Name ∷ kinds.Number ∷ kinds.Keyword keywords.Words ∷ kinds.Keyword keywords.Locks ∷ kinds.Keyword keywords.Acquire
    ∷ kinds.Keyword keywords.Release ∷ kinds.Keyword keywords.Barrier ∷ kinds.Keyword keywords.Print ∷ kinds.Keyword keywords.If
    ∷ kinds.Keyword keywords.Else ∷ kinds.Keyword keywords.While ∷ kinds.Keyword keywords.Me ∷ kinds.Keyword keywords.Nodes
    ∷ kinds.Sign signs.Semicolon ∷ kinds.Sign signs.Assign ∷ kinds.Sign signs.OpenBracket ∷ kinds.Sign signs.CloseBracket
    ∷ kinds.Sign signs.OpenBrace ∷ kinds.Sign signs.CloseBrace ∷ kinds.Sign signs.OpenParenthesis ∷ kinds.Sign signs.CloseParenthesis
    ∷ kinds.Sign signs.Plus ∷ kinds.Sign signs.Minus ∷ kinds.Sign signs.Star ∷ kinds.Sign signs.Slash ∷ kinds.Sign signs.Percent
    ∷ kinds.Sign signs.Equal ∷ kinds.Sign signs.NotEqual ∷ kinds.Sign signs.Less ∷ kinds.Sign signs.LessOrEqual ∷ kinds.Sign signs.Greater
    ∷ kinds.Sign signs.GreaterOrEqual ∷ kinds.End ∷ []

-- A kind of token may stand behind these tokens: some program goes on with such a token there.
pub record MayStand (before : List Token) (kind : Kind) : Type 0 where
  pub next : Token
  pub is : kind_of next ≡ kind
  pub rest : List Token
  pub program : ProgramTree
  pub whole : IsProgram program (before ++ next ∷ rest)

-- These are exactly the kinds that may stand behind these tokens, each once, in the order in which they are told.
pub record AreThoseThatMayStand (before : List Token) (some : List Kind) : Type 0 where
  pub test : Kind → Bool
  pub exact : (kind : Kind) → IsTrue (test kind) ↔ MayStand before kind
  pub all : some ≡ filter test all_kinds
