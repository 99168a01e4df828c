-- The keyword that a word is spelled as.
use Rattle.std.proofs.Common.{◌≡◌, ◌≢◌, ℕ, Bool, true, false, cond, List, [], ◌∷◌, Option, Some, None, MatchOption, refl, sym}
use Rattle.std.specs.Bool.{Decides}
use Rattle.std.specs.List.{find}
use Rattle.std.specs.Str.{bytes_eq}
use Rattle.std.proofs.lemmas.Slice.Eq.{bytes_eq-Decides}
use Rattle.lrc_named_tokens.specs.declared.token.Keyword.{Keyword}
use Rattle.lrc_named_tokens.specs.declared.token.Keyword.TheVariants as keywords
use Rattle.lrc_named_tokens.specs.declared.lexer.TheConstants.{KEYWORDS}
use Rattle.lrc_named_tokens.specs.Lexemes.{keyword_text, IsKeyword}

abbrev pub spells : List ℕ → Keyword → Bool
spells word keyword = bytes_eq (keyword_text keyword) word

-- the word is spelled as none of these
abbrev pub AreOther : List ℕ → List Keyword → Type 0
AreOther word [] = Unit {0}
AreOther word (keyword ∷ others) = (word ≢ keyword_text keyword) × AreOther word others

find_among : (word : List ℕ) (keywords : List Keyword)
    → MatchOption (find (spells word) keywords) (AreOther word keywords) (λ keyword. word ≡ keyword_text keyword)
find_among word [] = tt {0}
find_among word (keyword ∷ others) =
    first (spells word keyword) (bytes_eq-Decides (keyword_text keyword) word) (find (spells word) others) (find_among word others)
  where
    first : (b : Bool) → Decides b (keyword_text keyword ≡ word) → (found : Option Keyword)
        → MatchOption found (AreOther word others) (λ k. word ≡ keyword_text k)
        → MatchOption (cond b (Some keyword) found) ((word ≢ keyword_text keyword) × AreOther word others) (λ k. word ≡ keyword_text k)
    first true d found rest = sym (d.0 refl)
    first false d None rest = (λ e. cc (d.1 (sym e)), rest)
    first false d (Some k) rest = rest

no_keyword : (word : List ℕ) → AreOther word KEYWORDS → (which : Keyword) → word ≢ keyword_text which
no_keyword word h keywords.Words = h.0
no_keyword word h keywords.Locks = h.1.0
no_keyword word h keywords.Acquire = h.1.1.0
no_keyword word h keywords.Release = h.1.1.1.0
no_keyword word h keywords.Barrier = h.1.1.1.1.0
no_keyword word h keywords.Print = h.1.1.1.1.1.0
no_keyword word h keywords.If = h.1.1.1.1.1.1.0
no_keyword word h keywords.Else = h.1.1.1.1.1.1.1.0
no_keyword word h keywords.While = h.1.1.1.1.1.1.1.1.0
no_keyword word h keywords.Me = h.1.1.1.1.1.1.1.1.1.0
no_keyword word h keywords.Nodes = h.1.1.1.1.1.1.1.1.1.1.0
no_keyword word h keywords.Const = h.1.1.1.1.1.1.1.1.1.1.1.0
no_keyword word h keywords.Shared = h.1.1.1.1.1.1.1.1.1.1.1.1.0
no_keyword word h keywords.Lock = h.1.1.1.1.1.1.1.1.1.1.1.1.1.0
no_keyword word h keywords.Fn = h.1.1.1.1.1.1.1.1.1.1.1.1.1.1.0
no_keyword word h keywords.For = h.1.1.1.1.1.1.1.1.1.1.1.1.1.1.1.0
no_keyword word h keywords.In = h.1.1.1.1.1.1.1.1.1.1.1.1.1.1.1.1.0
no_keyword word h keywords.With = h.1.1.1.1.1.1.1.1.1.1.1.1.1.1.1.1.1.0
no_keyword word h keywords.Assert = h.1.1.1.1.1.1.1.1.1.1.1.1.1.1.1.1.1.1.0
no_keyword word h keywords.And = h.1.1.1.1.1.1.1.1.1.1.1.1.1.1.1.1.1.1.1.0
no_keyword word h keywords.Or = h.1.1.1.1.1.1.1.1.1.1.1.1.1.1.1.1.1.1.1.1.0
no_keyword word h keywords.Not = h.1.1.1.1.1.1.1.1.1.1.1.1.1.1.1.1.1.1.1.1.1.0

pub find_keyword : (word : List ℕ) → MatchOption (find (spells word) KEYWORDS) (¬ IsKeyword word) (λ keyword. word ≡ keyword_text keyword)
find_keyword word = for_all (find (spells word) KEYWORDS) (find_among word KEYWORDS)
  where
    for_all : (found : Option Keyword) → MatchOption found (AreOther word KEYWORDS) (λ k. word ≡ keyword_text k)
        → MatchOption found (¬ IsKeyword word) (λ k. word ≡ keyword_text k)
    for_all None h = λ spelled. no_keyword word h spelled.0 spelled.1
    for_all (Some k) h = h
