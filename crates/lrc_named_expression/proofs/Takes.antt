-- Whether the parser takes a token, from its answers of parts.
use Rattle.std.proofs.Common.{◌≡◌, ◌<◌, ℕ, true, List, [], ◌∷◌, Some, is_some, length, map, get_or, refl, sym, ap, ◌∙◌, arith}
use Rattle.std.specs.Prelude.{◌-◌, reverse, slice_get}
use Rattle.std.proofs.lemmas.List.{length-map, length-reverse, get_or-map, get_or-reverse}
use Rattle.std.proofs.lemmas.Option.{get_or_from_slice_get, slice_get_within}
use Rattle.lrc_named_tokens.specs.declared.token.Sign.TheVariants as signs
use Rattle.lrc_named_tokens.specs.Token.{Token, sign}
use Rattle.lrc_named_tree.specs.Tree.{Expressions, Named, element}
use Rattle.lrc_named_expression.specs.declared.partial.Around as code_around
use Rattle.lrc_named_expression.specs.Partial.{Around, Level, behind_index, behind_name, go_on}
use Rattle.lrc_named_expression.specs.Seen.{around_seen}

pub name_called : (outer : List Around) (level : Level) (name : Named) (i : ℕ) (t : Token) → t ≡ sign signs.OpenParenthesis
    → true ≡ is_some (behind_name outer level name i t)
name_called outer level name i t e = rw e refl

pub name_other : (outer : List Around) (level : Level) (name : Named) (i : ℕ) (t : Token) → (t ≡ sign signs.OpenParenthesis → ⊥)
    → is_some (behind_name outer level name i t) ≡ is_some (behind_index outer level name Expressions.none name.at i t)
name_other outer level name i (sign signs.OpenParenthesis) other = absurd (other refl)
name_other outer level name i _ other = refl

pub index_opened : (outer : List Around) (level : Level) (name : Named) (others : Expressions) (last i : ℕ) (t : Token) → t ≡ sign signs.OpenBracket
    → true ≡ is_some (behind_index outer level name others last i t)
index_opened outer level name others last i t e = rw e refl

pub index_other : (outer : List Around) (level : Level) (name : Named) (others : Expressions) (last i : ℕ) (t : Token) → (t ≡ sign signs.OpenBracket → ⊥)
    → is_some (behind_index outer level name others last i t) ≡ is_some (go_on outer level (element name others last) i t)
index_other outer level name others last i (sign signs.OpenBracket) other = absurd (other refl)
index_other outer level name others last i _ other = refl

-- ---- the innermost bracket

first_of : (ys : List Around) (y : Around) → 0 < length ys → get_or ys 0 y ≡ y → (outer : List Around) × (ys ≡ y ∷ outer)
first_of [] y some e = absurd (omega arith)
first_of (z ∷ ys) y some e = (ys, ap (λ w. w ∷ ys) e)

-- the last bracket of the code is the first of those that are open
pub innermost : (xs : List code_around.Around) (x : code_around.Around) → Some x ≡ slice_get xs (length xs - 1)
    → (outer : List Around) × (reverse (map around_seen xs) ≡ around_seen x ∷ outer)
innermost xs x e =
    let within = slice_get_within xs (length xs - 1) x (sym e) in
    let same = get_or_from_slice_get xs (length xs - 1) x x (sym e) in
    let ys = map around_seen xs in
    let y = around_seen x in
    let long : length ys ≡ length xs = length-map xs around_seen in
    let some : 0 < length ys = omega (arith, within, long) in
    let turned : get_or (reverse ys) 0 y ≡ get_or ys (length ys - 1 - 0) y = get_or-reverse ys 0 y some in
    let there : length ys - 1 - 0 ≡ length xs - 1 = omega (arith, long) in
    first_of (reverse ys) y (omega (arith, length-reverse ys, some))
    (turned ∙ ap (λ n. get_or ys n y) there ∙ get_or-map around_seen xs (length xs - 1) x y within ∙ ap around_seen same)
