-- The names of a named text are names of the core too.
use Rattle.std.proofs.Common.{◌≡◌, ℕ, ◌+◌, true, List, [], ◌∷◌, ◌++◌, inl, sym, subst, append-nil}
use Rattle.std.specs.List.{AllByRecursion}
use Rattle.lrc_lang.specs.Lexemes.{BeginsWith, IsLetter, IsLetterOrDigit, IsWord}
use Rattle.lrc_lang.specs.Lexemes as core
use Rattle.lrc_lang.specs.declared.token.Keyword.{Keyword}
use Rattle.lrc_lang.specs.declared.token.Keyword.TheVariants.{Words, Locks, Acquire, Release, Barrier, Print, If, Else, While, Me, Nodes}
use Rattle.lrc_labels.specs.Name.{is_name}
use Rattle.lrc_labels.proofs.Words.{is_name_of}
use Rattle.lrc_named_tokens.specs.declared.token.Keyword.TheVariants as keywords
use Rattle.lrc_named_tokens.specs.Lexemes.{IsKeyword, Lexes, passes_blank, passes_comment, passes_line_feed, stops_at_byte, stops_at_end, stops_at_number}
use Rattle.lrc_named_tokens.specs.Lexemes.{takes_keyword, takes_name, takes_number, takes_sign}
use Rattle.lrc_named_tokens.specs.Token.{Lexeme, Located, Place, Token, bad_byte, bad_number, finish, keyword, name, number, sign, token}
use Rattle.lrc_named_tree.specs.Grammar.{Numbered, numbered}
use Rattle.lrc_named_parse.specs.Faults.{AreFaultless}

-- no keyword of the core
no_keyword : (word : List ℕ) → ¬ IsKeyword word → ¬ core.IsKeyword word
no_keyword word none is = by is.0 is.1
  where
    by : (which : Keyword) → word ≡ core.keyword_text which → ⊥
    by Words e = none (keywords.Words, e)
    by Locks e = none (keywords.Locks, e)
    by Acquire e = none (keywords.Acquire, e)
    by Release e = none (keywords.Release, e)
    by Barrier e = none (keywords.Barrier, e)
    by Print e = none (keywords.Print, e)
    by If e = none (keywords.If, e)
    by Else e = none (keywords.Else, e)
    by While e = none (keywords.While, e)
    by Me e = none (keywords.Me, e)
    by Nodes e = none (keywords.Nodes, e)

begins_word : (text : List ℕ) → BeginsWith IsLetter text → BeginsWith IsLetterOrDigit text
begins_word [] h = h
begins_word (b ∷ text) h = inl h

word_is_name : (text word rest : List ℕ) → IsWord text word rest → ¬ IsKeyword word → is_name word ≡ true
word_is_name text [] rest is none = absurd (is.span.no_more (begins_word rest (subst (BeginsWith IsLetter) is.span.whole is.begins)))
word_is_name text (b ∷ word) rest is none =
    let first : BeginsWith IsLetter (b ∷ (word ++ rest)) = subst (BeginsWith IsLetter) is.span.whole is.begins in
    is_name_of (b ∷ word) (
      record { begins = first; span = record { whole = sym (append-nil (b ∷ word)); each = is.span.each; no_more = λ (h : ⊥). h } },
      no_keyword (b ∷ word) none,
    )

-- ---- tokens

abbrev pub IsGood : Token → Type 0
IsGood (number n) = Unit {0}
IsGood (name bytes) = is_name bytes ≡ true
IsGood (keyword which) = Unit {0}
IsGood (sign mark) = Unit {0}
IsGood finish = Unit {0}

abbrev IsGoodLexeme : Lexeme → Type 0
IsGoodLexeme (token t) = IsGood t
IsGoodLexeme bad_byte = Unit {0}
IsGoodLexeme bad_number = Unit {0}

abbrev AreGoodLexemes : List Located → Type 0
AreGoodLexemes all = AllByRecursion (λ (l : Located). IsGoodLexeme l.lexeme) all

lexed_good : {p : Place} {text : List ℕ} {all : List Located} → Lexes p text all → AreGoodLexemes all
lexed_good (passes_blank is more) = lexed_good more
lexed_good (passes_line_feed is more) = lexed_good more
lexed_good (passes_comment is span more) = lexed_good more
lexed_good (takes_number is fits more) = (tt, lexed_good more)
lexed_good (takes_keyword is more) = (tt, lexed_good more)
lexed_good (takes_name {text = text} {word = word} {rest = rest} is none more) = (word_is_name text word rest is none, lexed_good more)
lexed_good (takes_sign is more) = (tt, lexed_good more)
lexed_good (stops_at_number is none) = (tt, tt)
lexed_good (stops_at_byte is) = (tt, tt)
lexed_good stops_at_end = (tt, tt)

tokens_of : (before : List Token) (lexemes : List Located) (tokens : List Token) → AreFaultless before lexemes tokens → AreGoodLexemes lexemes
    → AllByRecursion IsGood tokens
tokens_of before [] tokens are good = subst (AllByRecursion IsGood) (sym are) tt
tokens_of before (next ∷ others) [] are good = absurd are
tokens_of before (next ∷ others) (t ∷ tokens) are good =
    (subst IsGoodLexeme are.0 good.0, tokens_of (before ++ t ∷ []) others tokens are.2 good.1)

abbrev pub AreGood : List Numbered → Type 0
AreGood tokens = AllByRecursion (λ (n : Numbered). IsGood n.token) tokens

all_numbered : (count : ℕ) (tokens : List Token) → AllByRecursion IsGood tokens → AreGood (numbered count tokens)
all_numbered count [] good = tt
all_numbered count (t ∷ tokens) good = (good.0, all_numbered (count + 1) tokens good.1)

pub tokens_good : {p : Place} {text : List ℕ} (lexemes : List Located) (tokens : List Token) → Lexes p text lexemes → AreFaultless [] lexemes tokens
    → AreGood (numbered 0 tokens)
tokens_good lexemes tokens lexed are = all_numbered 0 tokens (tokens_of [] lexemes tokens are (lexed_good lexed))
