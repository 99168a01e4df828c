-- Whether a token can stand in an expression or end it, and whether the statements can end.
use Rattle.std.proofs.Common.{◌≡◌, ℕ, Bool, true, false, List, [], ◌∷◌, Option, Some, None, is_some, length, map, refl, sym, ap, ◌∙◌, arith}
use Rattle.std.specs.Prelude.{◌==◌, ◌&&◌, ◌||◌, not, reverse}
use Rattle.std.proofs.lemmas.Bool.{ne_eqb}
use Rattle.std.proofs.lemmas.List.{length-map, length-reverse}
use Rattle.lrc_named_tokens.specs.declared.token.Keyword.TheVariants as keywords
use Rattle.lrc_named_tokens.specs.declared.token.Sign.TheVariants as signs
use Rattle.lrc_named_tokens.specs.Token.{Token, keyword, sign}
use Rattle.lrc_named_tree.specs.Tree.{Expression, Expressions, Named, Block}
use Rattle.lrc_named_expression.specs.Partial.{Partial}
use Rattle.lrc_named_statement.specs.declared.body.Around as code_around
use Rattle.lrc_named_statement.specs.Body as body
use Rattle.lrc_named_statement.specs.Body.{Around, Body, Branch, Owner, Purpose, Target, begin, close, close_for, behind_branch, behind_place, continued, end_place, ended, ended_or_continued, place_at}
use Rattle.lrc_named_statement.specs.Body.{printed_with, whole_if, with_statement}
use Rattle.lrc_named_statement.specs.Seen.{around_seen}

printed_some : (outer : List Around) (before : Block) (first : ℕ) (values : Expressions) (t : Token) → is_some (printed_with outer before first values t) ≡ true
printed_some outer before first values (sign signs.Comma) = refl
printed_some outer before first values _ = refl

ended_some : (outer : List Around) (before : Block) (purpose : Purpose) (value : Expression) (t : Token) → is_some (ended outer before purpose value t) ≡ true
ended_some outer before (body.index_of target name others) value t = refl
ended_some outer before (body.given place update) value t = refl
ended_some outer before (body.printed first others) value t = printed_some outer before first _ t
ended_some outer before (body.asserted first) value t = refl
ended_some outer before (body.if_condition first) value t = refl
ended_some outer before (body.arm_condition branch first) value t = refl
ended_some outer before (body.while_condition first) value t = refl
ended_some outer before (body.for_first first name) value t = refl
ended_some outer before (body.for_end first name from) value t = refl

continued_some : (outer : List Around) (before : Block) (purpose : Purpose) (next : Option Partial) →
    is_some (continued outer before purpose next) ≡ is_some next
continued_some outer before purpose None = refl
continued_some outer before purpose (Some x) = refl

pub ends_or_goes_on : (outer : List Around) (before : Block) (purpose : Purpose) (value : Option Expression) (is : Bool) (next : Option Partial) (t : Token) →
    ((is_some value && is) || is_some next) ≡ is_some (ended_or_continued outer before purpose value is next t)
ends_or_goes_on outer before purpose (Some v) true next t = sym (ended_some outer before purpose v t)
ends_or_goes_on outer before purpose (Some v) false next t = sym (continued_some outer before purpose next)
ends_or_goes_on outer before purpose None true next t = sym (continued_some outer before purpose next)
ends_or_goes_on outer before purpose None false next t = sym (continued_some outer before purpose next)

-- the two sides of an `or`
pub or_holds : (a b r : Bool) → a ≡ true → (a || b) ≡ r → a ≡ r
or_holds true b r holds e = e
or_holds false b r holds e = absurd (cc)

pub or_other : (a b r : Bool) → a ≡ false → (a || b) ≡ r → b ≡ r
or_other true b r other e = absurd (cc)
or_other false b r other e = e

pub place_opened : (outer : List Around) (before : Block) (target : Target) (name : Named) (indices : Expressions) (t : Token) → t ≡ sign signs.OpenBracket
    → true ≡ is_some (behind_place outer before target name indices t)
place_opened outer before target name indices t e = rw e refl

pub place_other : (outer : List Around) (before : Block) (target : Target) (name : Named) (indices : Expressions) (t : Token)
    → (t ≡ sign signs.OpenBracket → ⊥)
    → is_some (behind_place outer before target name indices t) ≡ is_some (end_place outer before target (place_at name indices) t)
place_other outer before target name indices (sign signs.OpenBracket) other = absurd (other refl)
place_other outer before target name indices _ other = refl

pub branch_else : (outer : List Around) (before : Block) (branch : Branch) (i : ℕ) (t : Token) → t ≡ keyword keywords.Else
    → true ≡ is_some (behind_branch outer before branch i t)
branch_else outer before branch i t e = rw e refl

pub branch_other : (outer : List Around) (before : Block) (branch : Branch) (i : ℕ) (t : Token) → (t ≡ keyword keywords.Else → ⊥)
    → is_some (behind_branch outer before branch i t) ≡ is_some (begin outer (with_statement before (whole_if branch Block.empty)) i t)
branch_other outer before branch i (keyword keywords.Else) other = absurd (other refl)
branch_other outer before branch i _ other = refl

-- ---- a block may end where one is open

closed_some : (outer : List Around) (before : Block) (owner : Owner) (inside : Block) (i : ℕ) → is_some (close_for outer before owner inside i) ≡ true
closed_some outer before (body.then_of first condition) inside i = refl
closed_some outer before (body.arm_of branch first condition) inside i = refl
closed_some outer before (body.else_of branch) inside i = refl
closed_some outer before (body.guarded first place) inside i = refl
closed_some outer before (body.while_of first condition) inside i = refl
closed_some outer before (body.for_of first name from end) inside i = refl

some_close : (outer : List Around) (inside : Block) (i : ℕ) → not (length outer == 0) ≡ is_some (close outer inside i)
some_close [] inside i = refl
some_close (around ∷ outer) inside i =
    ap not (ne_eqb (length (around ∷ outer)) 0 (λ e. omega (arith, e))) ∙ sym (closed_some outer around.before around.owner inside i)

pub closes_where_open : (blocks : List code_around.Around) (inside : Block) (i : ℕ) →
    not (length blocks == 0) ≡ is_some (close (reverse (map around_seen blocks)) inside i)
closes_where_open blocks inside i =
    let all = map around_seen blocks in
    ap (λ n. not (n == 0)) (sym (length-reverse all ∙ length-map blocks around_seen)) ∙ some_close (reverse all) inside i
