-- No token that ends an expression goes on with one that may end: so a list of tokens is that of one expression.
use Rattle.std.proofs.Common.{◌≡◌, ℕ, List, [], ◌∷◌, Some, None, refl, sym, subst, ◌∙◌}
use Rattle.lrc_named_tokens.specs.declared.token.Sign.TheVariants as signs
use Rattle.lrc_named_tokens.specs.Token.{Token, sign}
use Rattle.lrc_named_tree.specs.Tree.{Expression}
use Rattle.lrc_named_tree.specs.Grammar.{Numbered, on, IsEnding, EndsExpression, IsExpression}
use Rattle.lrc_named_expression.specs.Partial.{Level, Around, Place, Partial, nothing, at_test, at_factor, after_name, after_index, after_call, after_operand}
use Rattle.lrc_named_expression.specs.Partial.{go_on, moved, partial_with, operand_at, value_in, value_of}
use Rattle.lrc_named_expression.proofs.Options.{none_some, some_same}
use Rattle.lrc_named_expression.proofs.From.{Completes}
use Rattle.lrc_named_expression.proofs.Turns.{Turns, goes, ends, turns}
use Rattle.lrc_named_expression.proofs.Back.{from_whole}

operand_stops : (level : Level) (operand : Expression) (i : ℕ) (t : Token) → IsEnding t → go_on [] level operand i t ≡ None
operand_stops level operand i (sign signs.Semicolon) h = refl
operand_stops level operand i (sign signs.Comma) h = refl
operand_stops level operand i (sign signs.CloseParenthesis) h = refl
operand_stops level operand i (sign signs.CloseBracket) h = refl
operand_stops level operand i (sign signs.OpenBrace) h = refl
operand_stops level operand i (sign signs.Range) h = refl
operand_stops level operand i (sign _) h = absurd h
operand_stops level operand i _ h = absurd h

place_stops : (level : Level) (place : Place) (i : ℕ) (t : Token) {v : Expression} → value_in [] level (operand_at place) ≡ Some v → IsEnding t →
    moved [] level place i t ≡ None
place_stops level at_test i t q h = absurd (none_some q)
place_stops level at_factor i t q h = absurd (none_some q)
place_stops level (after_call n) i t q h = absurd (none_some q)
place_stops level (after_operand operand) i t q h = operand_stops level operand i t h
place_stops level (after_index n others last) i (sign signs.Semicolon) q h = refl
place_stops level (after_index n others last) i (sign signs.Comma) q h = refl
place_stops level (after_index n others last) i (sign signs.CloseParenthesis) q h = refl
place_stops level (after_index n others last) i (sign signs.CloseBracket) q h = refl
place_stops level (after_index n others last) i (sign signs.OpenBrace) q h = refl
place_stops level (after_index n others last) i (sign signs.Range) q h = refl
place_stops level (after_index n others last) i (sign _) q h = absurd h
place_stops level (after_index n others last) i _ q h = absurd h
place_stops level (after_name n) i (sign signs.Semicolon) q h = refl
place_stops level (after_name n) i (sign signs.Comma) q h = refl
place_stops level (after_name n) i (sign signs.CloseParenthesis) q h = refl
place_stops level (after_name n) i (sign signs.CloseBracket) q h = refl
place_stops level (after_name n) i (sign signs.OpenBrace) q h = refl
place_stops level (after_name n) i (sign signs.Range) q h = refl
place_stops level (after_name n) i (sign _) q h = absurd h
place_stops level (after_name n) i _ q h = absurd h

stops_at : (outer : List Around) (level : Level) (place : Place) (i : ℕ) (t : Token) {v : Expression} → value_in outer level (operand_at place) ≡ Some v →
    IsEnding t → moved outer level place i t ≡ None
stops_at [] level place i t q h = place_stops level place i t q h
stops_at (a ∷ outer) level place i t q h = absurd (none_some q)

pub stops : (x : Partial) (i : ℕ) (t : Token) {v : Expression} → value_of x ≡ Some v → IsEnding t → partial_with x i t ≡ None
stops x i t q h = stops_at x.outer x.level x.place i t q h

-- ---- one expression

no_ending : (x : Partial) (i : ℕ) (t : Token) {y : Partial} {v : Expression} (more other : List Numbered) → partial_with x i t ≡ Some y → value_of x ≡ Some v →
    on i t ∷ more ≡ other → EndsExpression other → ⊥
no_ending x i t more other q v r h =
    let ending : EndsExpression (on i t ∷ more) = subst (λ all. EndsExpression all) (sym r) h in
    none_some (sym (stops x i t v ending) ∙ q)

one_turn : (x : Partial) {e f : Expression} {all rest other : List Numbered} →
    ((i : ℕ) (t : Token) (more : List Numbered) (y : Partial) → all ≡ on i t ∷ more → Completes y e more rest → Completes y f more other → (e ≡ f) × (rest ≡ other)) →
    EndsExpression rest → EndsExpression other → Turns (partial_with x) (value_of x) e all rest → Turns (partial_with x) (value_of x) f all other →
    (e ≡ f) × (rest ≡ other)
one_turn x {e} {f} {rest = rest} {other = other} later h g (goes {i = i} {t = t} {all = more} y q k) (goes z r l) =
    later i t more y refl k (subst (λ w. Completes w f more other) (some_same (sym r ∙ q)) l)
one_turn x {other = other} later h g (goes {i = i} {t = t} {all = more} y q k) (ends v r) = absurd (no_ending x i t more other q v r g)
one_turn x {rest = rest} later h g (ends v r) (goes {i = i} {t = t} {all = more} z q l) = absurd (no_ending x i t more rest q v r h)
one_turn x later h g (ends v r) (ends w s) = (some_same (sym v ∙ w), sym r ∙ s)

pub tail_same : {a b : Numbered} {all more : List Numbered} → a ∷ all ≡ b ∷ more → all ≡ more
tail_same q = cc

pub nil_not_cons : {a : Numbered} {all : List Numbered} → [] ≡ a ∷ all → ⊥
nil_not_cons q = cc

one : (all : List Numbered) (x : Partial) {e f : Expression} {rest other : List Numbered} → EndsExpression rest → EndsExpression other →
    Completes x e all rest → Completes x f all other → (e ≡ f) × (rest ≡ other)
one [] x h g k l = one_turn x (λ i t more y q a b. absurd (nil_not_cons q)) h g (turns x k) (turns x l)
one (first ∷ all) x {e} {f} {rest} {other} h g k l =
    one_turn x
    (λ i t more y q a b.
    one all y h g (subst (λ m. Completes y e m rest) (sym (tail_same q)) a) (subst (λ m. Completes y f m other) (sym (tail_same q)) b))
    h g (turns x k) (turns x l)

pub one_expression : (e f : Expression) (all rest other : List Numbered) → IsExpression e all rest → EndsExpression rest → IsExpression f all other →
    EndsExpression other → (e ≡ f) × (rest ≡ other)
one_expression e f all rest other d h d2 g = one all nothing h g (from_whole d) (from_whole d2)
