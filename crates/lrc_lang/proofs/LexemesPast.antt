-- Reading a text on, lexeme by lexeme.
use Rattle.std.proofs.Common.{◌≡◌, ℕ, ◌≤◌, List, [], ◌∷◌, ◌++◌, refl, sym, ap, ◌∙◌, subst, arith}
use Rattle.std.proofs.lemmas.List.{append_assoc}
use Rattle.lrc_lang.specs.Token.{number, name, keyword, sign, finish, Lexeme, token, bad_byte, bad_number, Placed}
use Rattle.lrc_lang.specs.Lexemes.{at, Lexes, passes_blank, passes_line_feed, passes_comment, takes_number, value_of, Follows, NextIs}
use Rattle.lrc_lang.specs.Parser.Past.{GoesOn}
use Rattle.lrc_lang.proofs.LexemesExist.{follows_exists}

-- What stands in the text is passed, and then what stands in the rest of it, which begins on this line.
pub record IsPast (text : List ℕ) (passed : List Placed) (line : ℕ) (rest : List ℕ) : Type 0 where
  pub split : (all : List Placed) → Lexes 1 text all → (more : List Placed) × (all ≡ passed ++ more) × Lexes line rest more
  pub joined : (more : List Placed) → Lexes line rest more → Lexes 1 text (passed ++ more)

-- where a text begins, nothing has been passed
pub nothing_past : (text : List ℕ) → IsPast text [] 1 text
nothing_past text = record { split = λ all inside. (all, refl, inside); joined = λ more inside. inside }

-- behind a token that goes on stands the rest
follows_on : {line : ℕ} {rest : List ℕ} {more : List Placed} (found : Lexeme) → GoesOn found → Follows found line rest more → Lexes line rest more
follows_on (token (number value)) on follows = follows
follows_on (token (name word)) on follows = follows
follows_on (token (keyword which)) on follows = follows
follows_on (token (sign mark)) on follows = follows
follows_on (token finish) on follows = absurd on
follows_on bad_byte on follows = absurd on
follows_on bad_number on follows = absurd on

on_follows : {line : ℕ} {rest : List ℕ} {more : List Placed} (found : Lexeme) → GoesOn found → Lexes line rest more → Follows found line rest more
on_follows (token (number value)) on inside = inside
on_follows (token (name word)) on inside = inside
on_follows (token (keyword which)) on inside = inside
on_follows (token (sign mark)) on inside = inside
on_follows (token finish) on inside = absurd on
on_follows bad_byte on inside = absurd on
on_follows bad_number on inside = absurd on

-- behind the end of the text and behind a fault stands nothing
pub nothing_follows : (line : ℕ) (rest : List ℕ) (found : Lexeme) → ¬ GoesOn found → Follows found line rest []
nothing_follows line rest (token (number value)) off = absurd (off tt)
nothing_follows line rest (token (name word)) off = absurd (off tt)
nothing_follows line rest (token (keyword which)) off = absurd (off tt)
nothing_follows line rest (token (sign mark)) off = absurd (off tt)
nothing_follows line rest (token finish) off = refl
nothing_follows line rest bad_byte off = refl
nothing_follows line rest bad_number off = refl

-- one token more has been passed
pub one_past : {text rest last : List ℕ} {passed : List Placed} {found : Placed} {line behind : ℕ} → IsPast text passed line rest
    → NextIs line rest found behind last → GoesOn found.lexeme → IsPast text (passed ++ found ∷ []) behind last
one_past {text} {rest} {last} {passed} {found} past next on = record {
  split = λ all inside.
      let here = past.split all inside in
      let there = next.split here.0 here.2 in
      (there.0, here.1 ∙ ap (λ m. passed ++ m) there.1 ∙ sym (append_assoc passed (found ∷ []) there.0), follows_on found.lexeme on there.2);
  joined = λ more inside.
      subst (Lexes 1 text) (sym (append_assoc passed (found ∷ []) more)) (past.joined (found ∷ more) (next.joined more (on_follows found.lexeme on inside)));
}

-- what stands in a text begins with what has been passed and what is found next
pub found_past : {text rest last : List ℕ} {passed all : List Placed} {found : Placed} {line behind : ℕ} → IsPast text passed line rest
    → NextIs line rest found behind last → Lexes 1 text all → (more : List Placed) × (all ≡ passed ++ found ∷ more)
found_past {passed = passed} {all = all} past next inside =
    let here = past.split all inside in
    let there = next.split here.0 here.2 in
    (there.0, here.1 ∙ ap (λ m. passed ++ m) there.1)

-- where the end or a fault is found, that is all
pub all_past : {text rest last : List ℕ} {passed : List Placed} {found : Placed} {line behind : ℕ} → IsPast text passed line rest
    → NextIs line rest found behind last → ¬ GoesOn found.lexeme → Lexes 1 text (passed ++ found ∷ [])
all_past {last = last} {found = found} {behind = behind} past next off =
    past.joined (found ∷ []) (next.joined [] (nothing_follows behind last found.lexeme off))

first_of_all : List Placed → Lexeme
first_of_all [] = token finish
first_of_all (found ∷ more) = found.lexeme

-- a number that was found fits its type
number_fits : {line own value : ℕ} {text : List ℕ} {all more : List Placed} → Lexes line text all → all ≡ at own (token (number value)) ∷ more
    → value ≤ 18446744073709551615
unfolding first_of_all
number_fits (passes_blank h inside) e = number_fits inside e
number_fits (passes_line_feed h inside) e = number_fits inside e
number_fits (passes_comment h span inside) e = number_fits inside e
number_fits {value = value} (takes_number {digits = digits} h is inside) e =
    let same : token (number (value_of digits)) ≡ token (number value) = ap first_of_all e in
    let values : value_of digits ≡ value = cc in
    omega (arith, values, is.in_range)
number_fits _ e = absurd (cc (ap first_of_all e))
