-- Statements may end where no block is open: at a statement, or behind the first block of an `if`.
use Rattle.std.proofs.Common.{◌≡◌, ◌∙◌, ◌<◌, true, false, List, [], ◌∷◌, Some, None, Vec, Global, length, map, refl, sym, ap, subst, arith}
use Rattle.std.specs.Prelude.{◌==◌, option_map, reverse}
use Rattle.std.proofs.lemmas.Bool.{eqb-true}
use Rattle.std.proofs.lemmas.List.{length-reverse, nil_from_length}
use Rattle.lrc_lang.specs.declared.body.Around as code_around
use Rattle.lrc_lang.specs.declared.body.Place as code_place
use Rattle.lrc_lang.specs.declared.body.Place.TheVariants as code_places
use Rattle.lrc_program.specs.declared.Expression.{Expression}
use Rattle.lrc_program.specs.declared.Statement.{Statement}
use Rattle.lrc_program.specs.Tree.{Block, if_else, empty, expression_of, block_of}
use Rattle.lrc_lang.specs.Parser.Partial.{Partial}
use Rattle.lrc_lang.specs.Parser.Body.{Around, Place, holding, whole_in, done}
use Rattle.lrc_lang.specs.Parser.Seen.{partial_seen, GivesNew}
use Rattle.lrc_lang.specs.Parser.SeenBody.{around_seen, outer_seen, before_seen, place_seen, body_seen}
use Rattle.lrc_lang.proofs.body.Body.finish.Goals as goal

none_open : (blocks : List code_around.Around) → true ≡ (length blocks == 0) → reverse (map around_seen blocks) ≡ []
none_open blocks e = ap (λ (bs : List code_around.Around). reverse (map around_seen bs)) (nil_from_length blocks (eqb-true (length blocks) 0 (sym e)))

some_open : (blocks : List code_around.Around) → false ≡ (length blocks == 0) → 0 < length (reverse (map around_seen blocks))
some_open [] e = absurd (cc)
some_open (block ∷ blocks) e = omega (arith, length-reverse (map around_seen (block ∷ blocks)))

nested : (outer : List Around) (before : Block) (place : Place) → 0 < length outer → whole_in outer before place ≡ None
nested [] before place some = absurd (omega arith)
nested (around ∷ outer) before place some = refl

elsewhere : (outer : List Around) (before : Block) (place : code_place.Place) (x : Partial) → (place ≡ code_places.AtStatement → ⊥)
    → ((condition : Expression) (first : Vec Statement Global) → place ≡ code_places.AfterThen condition first → ⊥)
    → whole_in outer before (place_seen place x) ≡ None
elsewhere (around ∷ outer) before place x no_statement no_then = refl
elsewhere [] before code_places.AtStatement x no_statement no_then = absurd (no_statement refl)
elsewhere [] before (code_places.AfterThen condition first) x no_statement no_then = absurd (no_then condition first refl)
elsewhere [] before _ x no_statement no_then = refl

at_statement_ends : (outer : List Around) (before : Block) (place after : code_place.Place) (x : Partial) → outer ≡ [] → place ≡ code_places.AtStatement
    → after ≡ code_places.AtStatement
    → option_map holding (whole_in outer before (place_seen place x)) ≡ Some (record { outer = outer; before = before; place = place_seen after x })
at_statement_ends outer before place after x alone here there = rw (alone, here, there)

then_ends : (outer : List Around) (before : Block) (place : code_place.Place) (x : Partial) (condition : Expression) (first : Vec Statement Global)
    → outer ≡ [] → place ≡ code_places.AfterThen condition first
    → done outer before (if_else (expression_of condition) (block_of first.items) empty) ≡ option_map holding (whole_in outer before (place_seen place x))
then_ends outer before place x condition first alone here = rw (alone, here)

pub returns-then-not-is_empty : goal.returns-then-not-is_empty
returns-then-not-is_empty c =
    let b = c.args.self.now in
    ap (option_map holding)
    (nested (outer_seen b) _ _ (some_open b.outer.items (sym c.if-not-is_empty.true ∙ c.is_empty.ensures ∙ ap (λ n. n == 0) b.outer.ok.0)))

pub returns-in-AtStatement : goal.returns-in-AtStatement
returns-in-AtStatement c =
    let b = c.args.self.now in
    at_statement_ends (outer_seen b) (before_seen b) b.place c.replace.new.dest (partial_seen b.expression)
    (none_open b.outer.items (sym c.if-not-is_empty.false ∙ c.is_empty.ensures ∙ ap (λ n. n == 0) b.outer.ok.0))
    (sym c.replace.ensures.value ∙ c.in-AtStatement.is) c.replace.ensures.after

pub returns-in-AfterThen : goal.returns-in-AfterThen
returns-in-AfterThen c =
    let b = c.args.self.now in
    subst (λ next. GivesNew c.done_if.result (body_seen c.done_if.new.self) next)
    (then_ends (outer_seen b) (before_seen b) b.place (partial_seen b.expression) c.in-AfterThen.condition c.in-AfterThen.first
    (none_open b.outer.items (sym c.if-not-is_empty.false ∙ c.is_empty.ensures ∙ ap (λ n. n == 0) b.outer.ok.0))
    (sym c.replace.ensures.value ∙ c.in-AfterThen.is)) c.done_if.ensures.step

pub returns-in_default : goal.returns-in_default
returns-in_default c =
    let b = c.args.self.now in
    ap (option_map holding)
    (elsewhere (outer_seen b) (before_seen b) b.place (partial_seen b.expression) (λ e. c.in_default.not-AtStatement (c.replace.ensures.value ∙ e))
    (λ condition first e. c.in_default.not-AfterThen condition first (c.replace.ensures.value ∙ e)))
