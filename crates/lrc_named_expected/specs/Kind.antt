-- Kinds of tokens, and how they are called.
use Rattle.std.specs.Prelude.{ℕ, Bool, List, [], ◌∷◌, codes}
use Rattle.std.specs.List.{list_all, list_any}
use Rattle.std.specs.Str.{bytes_eq}
use Rattle.lrc_lint_lines.specs.Kind.{quoted}
use Rattle.lrc_named_tokens.specs.declared.token.Keyword.{Keyword}
use Rattle.lrc_named_tokens.specs.declared.token.Keyword.TheVariants as keywords
use Rattle.lrc_named_tokens.specs.declared.token.Sign.{Sign}
use Rattle.lrc_named_tokens.specs.declared.token.Sign.TheVariants as signs
use Rattle.lrc_named_tokens.specs.Lexemes.{keyword_text, sign_text}
use Rattle.lrc_named_may.specs.declared.kind.Kind.{Kind}
use Rattle.lrc_named_may.specs.declared.kind.Kind.TheVariants as kinds

abbrev pub keyword_phrase : Keyword → List ℕ
keyword_phrase which = quoted (keyword_text which)

abbrev pub sign_phrase : Sign → List ℕ
sign_phrase which = quoted (sign_text which)

-- how a kind is called where it may stand
abbrev pub phrase : Kind → List ℕ
phrase kinds.Name = codes "a name"
phrase kinds.Number = codes "a number"
phrase (kinds.Keyword which) = keyword_phrase which
phrase (kinds.Sign which) = sign_phrase which
phrase kinds.End = codes "the end of the text"

-- whether a kind is among these; no two kinds are called alike
abbrev pub has : List Kind → Kind → Bool
has some one = list_any (λ other. bytes_eq (phrase other) (phrase one)) some

abbrev pub has_all : List Kind → List Kind → Bool
has_all some members = list_all (has some) members

-- what begins a declaration
unfoldable pub declaration_kinds : List Kind
declaration_kinds = kinds.Keyword keywords.Nodes ∷ kinds.Keyword keywords.Const ∷ kinds.Keyword keywords.Shared ∷ kinds.Keyword keywords.Lock
    ∷ kinds.Keyword keywords.Fn ∷ []

-- what begins a statement
unfoldable pub statement_kinds : List Kind
statement_kinds = kinds.Name ∷ kinds.Keyword keywords.Acquire ∷ kinds.Keyword keywords.Release ∷ kinds.Keyword keywords.With
    ∷ kinds.Keyword keywords.Barrier ∷ kinds.Keyword keywords.Print ∷ kinds.Keyword keywords.Assert ∷ kinds.Keyword keywords.If
    ∷ kinds.Keyword keywords.While ∷ kinds.Keyword keywords.For ∷ []

-- what begins an operand
unfoldable pub operand_kinds : List Kind
operand_kinds = kinds.Name ∷ kinds.Number ∷ kinds.Keyword keywords.Me ∷ kinds.Keyword keywords.Nodes ∷ kinds.Sign signs.OpenParenthesis ∷ []

unfoldable pub operator_kinds : List Kind
operator_kinds = kinds.Sign signs.Plus ∷ kinds.Sign signs.Minus ∷ kinds.Sign signs.Star ∷ kinds.Sign signs.Slash ∷ kinds.Sign signs.Percent ∷ []

unfoldable pub comparison_kinds : List Kind
comparison_kinds = kinds.Sign signs.Equal ∷ kinds.Sign signs.NotEqual ∷ kinds.Sign signs.Less ∷ kinds.Sign signs.LessOrEqual
    ∷ kinds.Sign signs.Greater ∷ kinds.Sign signs.GreaterOrEqual ∷ []
