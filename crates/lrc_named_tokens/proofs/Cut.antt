-- A text, as far as it is cut into tokens.
use Rattle.std.proofs.Common.{◌≡◌, ℕ, List, [], ◌∷◌, ◌++◌, refl, sym, ap, ◌∙◌, subst, map, append_assoc}
use Rattle.std.proofs.lemmas.List.{map-append}
use Rattle.lrc_named_tokens.specs.Token.{number, name, keyword, sign, finish, Lexeme, token, bad_byte, bad_number, Place, Located}
use Rattle.lrc_named_tokens.specs.Lexemes.{beginning, Lexes, HasLexemes}
use Rattle.lrc_named_tokens.specs.Lexer.{Follows, GoesOn, NextIs}

-- these stand in the text, and then what stands in the rest, which begins at this place
abbrev pub IsCutTo : List ℕ → List Located → Place → List ℕ → Type 0
IsCutTo text so_far p rest = (all : List Located) → Lexes p rest all → HasLexemes text (so_far ++ all)

-- behind a token that goes on stands the rest
goes_to : {p : Place} {rest : List ℕ} {more : List Located} (found : Lexeme) → GoesOn found → Lexes p rest more → Follows found p rest more
goes_to (token (number value)) on inside = inside
goes_to (token (name word)) on inside = inside
goes_to (token (keyword which)) on inside = inside
goes_to (token (sign mark)) on inside = inside
goes_to (token finish) on inside = absurd on
goes_to bad_byte on inside = absurd on
goes_to bad_number on inside = absurd on

-- behind another lexeme stands nothing
nothing_follows : (p : Place) (rest : List ℕ) (found : Lexeme) → ¬ GoesOn found → Follows found p rest []
nothing_follows p rest (token (number value)) off = absurd (off tt)
nothing_follows p rest (token (name word)) off = absurd (off tt)
nothing_follows p rest (token (keyword which)) off = absurd (off tt)
nothing_follows p rest (token (sign mark)) off = absurd (off tt)
nothing_follows p rest (token finish) off = refl
nothing_follows p rest bad_byte off = refl
nothing_follows p rest bad_number off = refl

-- where a text begins, nothing is cut
pub none_cut : (text rest : List ℕ) (so_far : List Located) (p : Place) → so_far ≡ [] → p ≡ beginning → rest ≡ text → IsCutTo text so_far p rest
none_cut text rest so_far p none first whole = rw (none, first, whole) (λ all inside. inside)

module _ (text rest last : List ℕ) (so_far : List Located) (found : Located) (p behind : Place) (past : IsCutTo text so_far p rest)
    (next : NextIs p rest found behind last) where
  pub one_cut : GoesOn found.lexeme → IsCutTo text (so_far ++ found ∷ []) behind last
  one_cut on all inside =
      subst (HasLexemes text) (sym (append_assoc so_far (found ∷ []) all)) (past (found ∷ all) (next all (goes_to found.lexeme on inside)))

  pub all_cut : ¬ GoesOn found.lexeme → HasLexemes text (so_far ++ found ∷ [])
  all_cut off = past (found ∷ []) (next [] (nothing_follows behind last found.lexeme off))

pub pushed : {C : Type 0} (seen : C → Located) (old new : List C) (one : C) → new ≡ old ++ one ∷ [] → map seen new ≡ map seen old ++ seen one ∷ []
pushed seen old new one is = ap (map seen) is ∙ map-append seen old (one ∷ [])
