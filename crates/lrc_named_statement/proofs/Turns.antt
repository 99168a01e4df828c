-- A token of what completes statements takes them one step on.
use Rattle.std.proofs.Common.{◌≡◌, ℕ, Bool, true, false, List, [], ◌∷◌, Option, Some, None, refl, sym, ap, subst, ◌∙◌}
use Rattle.lrc_named_tokens.specs.declared.token.Keyword.TheVariants as keywords
use Rattle.lrc_named_tokens.specs.declared.token.Sign.TheVariants as signs
use Rattle.lrc_named_tokens.specs.Token.{Token, keyword, sign, finish}
use Rattle.lrc_named_tree.specs.Tree.{Named, Expression, Expressions, Place, Update, Statement, Block, Arms}
use Rattle.lrc_named_tree.specs.Tree as tree
use Rattle.lrc_named_tree.specs.Grammar.{Numbered, on, named, IsEnding, IsPlace, place, sets, adds, subtracts, IsStatement, AreElses, IsBlock, braces}
use Rattle.lrc_named_tree.specs.Grammar as grammar
use Rattle.lrc_named_expression.specs.Partial.{Partial, nothing, partial_with, value_of}
use Rattle.lrc_named_expression.proofs.Options.{none_some}
use Rattle.lrc_named_expression.proofs.Turns as expressions
use Rattle.lrc_named_expression.proofs.Back.{from_whole}
use Rattle.lrc_named_expression.proofs.Stops.{stops}
use Rattle.lrc_named_statement.specs.Body.{Target, assigned, Branch}
use Rattle.lrc_named_statement.specs.Body.{Purpose, index_of, given, printed, asserted, if_condition, arm_condition, while_condition, for_first, for_end}
use Rattle.lrc_named_statement.specs.Body.{Spot, at_statement, before_place, after_place, in_expression, before_end, before_name, before_in, after_branch}
use Rattle.lrc_named_statement.specs.Body.{after_else, Owner, Around, Body, at}
use Rattle.lrc_named_statement.specs.Body.{append_arms, with_statement, whole_if, place_at, close_for, begin, end_place, behind_place, is_ending}
use Rattle.lrc_named_statement.specs.Body.{ended, continued, ended_or_continued, go_on, behind_branch, behind_else, moved, body_with, whole_in, whole_of}
use Rattle.lrc_named_statement.proofs.From.{branch, FromStatements, goes_on, block_ends, all_ends, FromOwner, then_ends, arm_ends, else_ends, guarded_ends}
use Rattle.lrc_named_statement.proofs.From.{while_ends, for_ends, FromElses, elses, FromTarget, acquires, releases, guards, FromPlace, place_goes_on, place_ends}
use Rattle.lrc_named_statement.proofs.From.{FromPurpose, index_ends, given_ends, printed_ends, printed_goes_on, asserted_ends, if_ends, arm_condition_ends}
use Rattle.lrc_named_statement.proofs.From.{while_condition_ends, for_first_ends, for_end_ends, word_goes_on, FromInside, statement_ends, in_goes_on}
use Rattle.lrc_named_statement.proofs.From.{for_goes_on, FromElse, otherwise_ends, arm_goes_on, CompletesAt, Completes, split_statements, split_place, split_values}
use Rattle.lrc_named_statement.proofs.From.{append_arm, append_no_arm}
use Rattle.lrc_named_statement.proofs.From as from

-- The next token can stand there, and the tokens behind it complete what has come with it; or it is the end of the text,
-- and the statements may end.
pub data Turns (step : ℕ → Token → Option Body) (value : Option Block) (r : Block) : List Numbered → Type 0 where
  goes : {i : ℕ} {t : Token} {all : List Numbered} (b : Body) → step i t ≡ Some b → Completes b r all → Turns step value r (on i t ∷ all)
  ends : {last : ℕ} → value ≡ Some r → Turns step value r (on last finish ∷ [])

further : {one other : ℕ → Token → Option Body} {value : Option Block} {r : Block} {all : List Numbered} →
    ((i : ℕ) (t : Token) (b : Body) → one i t ≡ Some b → other i t ≡ Some b) → Turns one value r all → Turns other value r all
further f (goes {i = i} {t = t} b q k) = goes b (f i t b q) k
further f (ends v) = ends v

-- an expression that begins
inside : {purpose : Purpose} {outer : List Around} {before r : Block} {value : Expression} {all more : List Numbered} →
    grammar.IsExpression value all more → FromPurpose purpose value outer before r more → FromInside purpose nothing outer before r all
inside d k = record { value = _; more = _; inside = from_whole d; behind = k }

word : {t : Target} {p : Place} {outer : List Around} {before r : Block} {all more : List Numbered} →
    IsPlace p all more → FromTarget t p outer before r more → from.FromWord t outer before r all
word (place indices) k = word_goes_on (split_place tree.none indices k)

-- ---- where a statement may begin

assign_turns : (outer : List Around) (before : Block) {p : Place} {r : Block} {all more : List Numbered} {value : Option Block} →
    IsPlace p all more → FromTarget assigned p outer before r more → Turns (begin outer before) value r all
assign_turns outer before (place indices) k = goes _ refl (split_place tree.none indices k)

statement_turns : (outer : List Around) (before : Block) {s : Statement} {r : Block} {all more : List Numbered} {value : Option Block} →
    IsStatement s all more → FromStatements outer (with_statement before s) r more → Turns (begin outer before) value r all
statement_turns outer before (grammar.assign p u v) k = assign_turns outer before p (from.sets u v k)
statement_turns outer before (grammar.acquire p) k = goes _ refl (word p (acquires k))
statement_turns outer before (grammar.release p) k = goes _ refl (word p (releases k))
statement_turns outer before (grammar.with_do p b) k = goes _ refl (word p (guards b k))
statement_turns outer before grammar.barrier k = goes _ refl (statement_ends k)
statement_turns outer before (grammar.print values) k =
    let s = split_values {outer = outer} {before = before} tree.none values k in
    goes _ refl (inside s.spelled s.behind)
statement_turns outer before (grammar.assert c) k = goes _ refl (inside c (asserted_ends k))
statement_turns outer before (grammar.if_else c b others) k = goes _ refl (inside c (if_ends b (elses others k)))
statement_turns outer before (grammar.while_do c b) k = goes _ refl (inside c (while_condition_ends b k))
statement_turns outer before (grammar.for_do a b c) k =
    goes _ refl (for_goes_on (in_goes_on a (for_first_ends b (for_end_ends c k))))

close_turns : (a : Around) (outer : List Around) (inside : Block) {r : Block} {closes : ℕ} {all : List Numbered} {value : Option Block} (owner : Owner) →
    a.owner ≡ owner → FromOwner owner closes outer a.before inside r all →
    Turns (begin (a ∷ outer) inside) value r (on closes (sign signs.CloseBrace) ∷ all)
close_turns a outer inside {closes = i} owner q (then_ends k) = goes _ (ap (λ o. close_for outer a.before o inside i) q) k
close_turns a outer inside {closes = i} owner q (arm_ends k) = goes _ (ap (λ o. close_for outer a.before o inside i) q) k
close_turns a outer inside {closes = i} owner q (else_ends k) = goes _ (ap (λ o. close_for outer a.before o inside i) q) k
close_turns a outer inside {closes = i} owner q (guarded_ends k) = goes _ (ap (λ o. close_for outer a.before o inside i) q) k
close_turns a outer inside {closes = i} owner q (while_ends k) = goes _ (ap (λ o. close_for outer a.before o inside i) q) k
close_turns a outer inside {closes = i} owner q (for_ends k) = goes _ (ap (λ o. close_for outer a.before o inside i) q) k

statements_turn : (outer : List Around) (before : Block) {r : Block} {all : List Numbered} → FromStatements outer before r all →
    Turns (begin outer before) (whole_in outer before at_statement) r all
statements_turn outer before (goes_on d k) = statement_turns outer before d k
statements_turn _ before (block_ends {a = a} {outer = outer} k) = close_turns a outer before a.owner refl k
statements_turn _ before (all_ends q) = ends (ap Some q)

-- ---- behind a place

target_goes : (outer : List Around) (before : Block) (t : Target) (n : Named) (others : Expressions) (u : Token) (b : Body) →
    end_place outer before t (place_at n others) u ≡ Some b → behind_place outer before t n others u ≡ Some b
target_goes outer before t n others (sign signs.OpenBracket) b q = absurd (none_some q)
target_goes outer before t n others (sign _) b q = q
target_goes outer before t n others _ b q = q

-- what stands in a block, behind its `{`
in_block : {owner : Owner} {outer : List Around} {before inside r : Block} {closes : ℕ} {all more : List Numbered} →
    grammar.AreStatements inside all (on closes (sign signs.CloseBrace) ∷ more) → FromOwner owner closes outer before inside r more →
    FromStatements (record { before = before; owner = owner } ∷ outer) tree.empty r all
in_block d k = split_statements tree.empty d (block_ends k)

target_turns : (outer : List Around) (before : Block) (t : Target) (p : Place) {r : Block} {all : List Numbered} → FromTarget t p outer before r all →
    Turns (λ i u. end_place outer before t p u) None r all
target_turns outer before _ p (from.sets sets v k) = goes _ refl (inside v (given_ends k))
target_turns outer before _ p (from.sets adds v k) = goes _ refl (inside v (given_ends k))
target_turns outer before _ p (from.sets subtracts v k) = goes _ refl (inside v (given_ends k))
target_turns outer before _ p (acquires k) = goes _ refl k
target_turns outer before _ p (releases k) = goes _ refl k
target_turns outer before _ p (guards (braces d) k) = goes _ refl (in_block d (guarded_ends k))

place_turns : (outer : List Around) (before : Block) (t : Target) (n : Named) (others : Expressions) {r : Block} {all : List Numbered} →
    FromPlace t n others outer before r all → Turns (λ i u. behind_place outer before t n others u) None r all
place_turns outer before t n others (place_goes_on d k) = goes _ refl (inside d (index_ends k))
place_turns outer before t n others (place_ends k) =
    further (λ i u b q. target_goes outer before t n others u b q) (target_turns outer before t (place_at n others) k)

-- ---- in an expression

-- a token that ends an expression of some purpose, and what comes of it
record Ends (outer : List Around) (before : Block) (purpose : Purpose) (value : Expression) (r : Block) (i : ℕ) (t : Token) (all : List Numbered) : Type 0 where
  body : Body
  ending : IsEnding t
  is : is_ending purpose t ≡ true
  step : ended outer before purpose value t ≡ Some body
  behind : Completes body r all

data EndsAt (outer : List Around) (before : Block) (purpose : Purpose) (value : Expression) (r : Block) : List Numbered → Type 0 where
  ends_at : {i : ℕ} {t : Token} {all : List Numbered} → Ends outer before purpose value r i t all → EndsAt outer before purpose value r (on i t ∷ all)

purpose_ends : (outer : List Around) (before : Block) (purpose : Purpose) (value : Expression) {r : Block} {all : List Numbered} →
    FromPurpose purpose value outer before r all → EndsAt outer before purpose value r all
purpose_ends outer before _ value (index_ends k) = ends_at (record { body = _; ending = tt; is = refl; step = refl; behind = k })
purpose_ends outer before _ value (given_ends k) = ends_at (record { body = _; ending = tt; is = refl; step = refl; behind = k })
purpose_ends outer before _ value (printed_ends k) = ends_at (record { body = _; ending = tt; is = refl; step = refl; behind = k })
purpose_ends outer before _ value (printed_goes_on d k) = ends_at (record { body = _; ending = tt; is = refl; step = refl; behind = inside d k })
purpose_ends outer before _ value (asserted_ends k) = ends_at (record { body = _; ending = tt; is = refl; step = refl; behind = k })
purpose_ends outer before _ value (if_ends (braces d) k) =
    ends_at (record { body = _; ending = tt; is = refl; step = refl; behind = in_block d (then_ends k) })
purpose_ends outer before _ value (arm_condition_ends (braces d) k) =
    ends_at (record { body = _; ending = tt; is = refl; step = refl; behind = in_block d (arm_ends k) })
purpose_ends outer before _ value (while_condition_ends (braces d) k) =
    ends_at (record { body = _; ending = tt; is = refl; step = refl; behind = in_block d (while_ends k) })
purpose_ends outer before _ value (for_first_ends d k) = ends_at (record { body = _; ending = tt; is = refl; step = refl; behind = inside d k })
purpose_ends outer before _ value (for_end_ends (braces d) k) =
    ends_at (record { body = _; ending = tt; is = refl; step = refl; behind = in_block d (for_ends k) })

end_step : (outer : List Around) (before : Block) (purpose : Purpose) (x : Partial) {value : Expression} {r : Block} {i : ℕ} {t : Token} {all : List Numbered} →
    value_of x ≡ Some value → (e : Ends outer before purpose value r i t all) → go_on outer before purpose x i t ≡ Some e.body
end_step outer before purpose x {value} {i = i} {t = t} v e =
    ap (λ w. ended_or_continued outer before purpose w (is_ending purpose t) (partial_with x i t) t) v
    ∙ ap (λ b. ended_or_continued outer before purpose (Some value) b (partial_with x i t) t) e.is ∙ e.step

-- a token that goes on with an expression does not end it
pub false_true : false ≡ true → ⊥
false_true q = cc

ending_ends : (purpose : Purpose) (t : Token) → is_ending purpose t ≡ true → IsEnding t
ending_ends (index_of t n others) (sign signs.CloseBracket) q = tt
ending_ends (index_of t n others) (sign _) q = absurd (false_true q)
ending_ends (index_of t n others) _ q = absurd (false_true q)
ending_ends (given p update) (sign signs.Semicolon) q = tt
ending_ends (given p update) (sign _) q = absurd (false_true q)
ending_ends (given p update) _ q = absurd (false_true q)
ending_ends (printed first others) (sign signs.Semicolon) q = tt
ending_ends (printed first others) (sign signs.Comma) q = tt
ending_ends (printed first others) (sign _) q = absurd (false_true q)
ending_ends (printed first others) _ q = absurd (false_true q)
ending_ends (asserted first) (sign signs.Semicolon) q = tt
ending_ends (asserted first) (sign _) q = absurd (false_true q)
ending_ends (asserted first) _ q = absurd (false_true q)
ending_ends (if_condition first) (sign signs.OpenBrace) q = tt
ending_ends (if_condition first) (sign _) q = absurd (false_true q)
ending_ends (if_condition first) _ q = absurd (false_true q)
ending_ends (arm_condition b first) (sign signs.OpenBrace) q = tt
ending_ends (arm_condition b first) (sign _) q = absurd (false_true q)
ending_ends (arm_condition b first) _ q = absurd (false_true q)
ending_ends (while_condition first) (sign signs.OpenBrace) q = tt
ending_ends (while_condition first) (sign _) q = absurd (false_true q)
ending_ends (while_condition first) _ q = absurd (false_true q)
ending_ends (for_first first n) (sign signs.Range) q = tt
ending_ends (for_first first n) (sign _) q = absurd (false_true q)
ending_ends (for_first first n) _ q = absurd (false_true q)
ending_ends (for_end first n from) (sign signs.OpenBrace) q = tt
ending_ends (for_end first n from) (sign _) q = absurd (false_true q)
ending_ends (for_end first n from) _ q = absurd (false_true q)

continue_step : (outer : List Around) (before : Block) (purpose : Purpose) (x : Partial) (i : ℕ) (t : Token) (value : Option Expression) (is : Bool) {y : Partial} →
    value_of x ≡ value → is_ending purpose t ≡ is → partial_with x i t ≡ Some y →
    ended_or_continued outer before purpose value is (partial_with x i t) t ≡ at outer before (in_expression purpose y)
continue_step outer before purpose x i t (Some v) true q e p = absurd (none_some (sym (stops x i t q (ending_ends purpose t e)) ∙ p))
continue_step outer before purpose x i t (Some v) false q e p = ap (continued outer before purpose) p
continue_step outer before purpose x i t None true q e p = ap (continued outer before purpose) p
continue_step outer before purpose x i t None false q e p = ap (continued outer before purpose) p

ends_turn : (outer : List Around) (before : Block) (purpose : Purpose) (x : Partial) {value : Expression} {r : Block} {all : List Numbered} →
    value_of x ≡ Some value → EndsAt outer before purpose value r all → Turns (go_on outer before purpose x) None r all
ends_turn outer before purpose x v (ends_at e) = goes _ (end_step outer before purpose x v e) e.behind

expression_turns : (outer : List Around) (before : Block) (purpose : Purpose) (x : Partial) {value : Expression} {r : Block} {all more : List Numbered} →
    expressions.Turns (partial_with x) (value_of x) value all more → FromPurpose purpose value outer before r more →
    Turns (go_on outer before purpose x) None r all
expression_turns outer before purpose x (expressions.goes {i = i} {t = t} y q k) p =
    goes _ (continue_step outer before purpose x i t (value_of x) (is_ending purpose t) refl refl q)
    (record { value = _; more = _; inside = k; behind = p })
expression_turns outer before purpose x {value} {r} (expressions.ends v q) p =
    ends_turn outer before purpose x v (subst (λ all. EndsAt outer before purpose value r all) (sym q) (purpose_ends outer before purpose value p))

-- ---- behind a block of an `if`

branch_goes : (outer : List Around) (before : Block) (b : Branch) (i : ℕ) (t : Token) (c : Body) →
    begin outer (with_statement before (whole_if b tree.empty)) i t ≡ Some c → behind_branch outer before b i t ≡ Some c
branch_goes outer before b i (keyword keywords.Else) c q = absurd (none_some q)
branch_goes outer before b i (keyword _) c q = q
branch_goes outer before b i _ c q = q

whole_branch : (outer : List Around) (before : Block) (b : Branch) →
    whole_in outer (with_statement before (whole_if b tree.empty)) at_statement ≡ whole_in outer before (after_branch b)
whole_branch [] before b = refl
whole_branch (a ∷ outer) before b = refl

elses_turn : (outer : List Around) (before : Block) (b : Branch) {others : Arms} {otherwise r : Block} {all more : List Numbered} →
    AreElses others otherwise all more →
    FromStatements outer (with_statement before (tree.if_else b.first b.condition b.then (append_arms b.arms others) otherwise)) r more →
    Turns (behind_branch outer before b) (whole_in outer before (after_branch b)) r all
elses_turn outer before b {r = r} {all = all} grammar.no_else k =
    let plain = subst (λ arms. FromStatements outer (with_statement before (tree.if_else b.first b.condition b.then arms tree.empty)) r all)
    (append_no_arm b.arms) k in
    further (branch_goes outer before b)
    (subst (λ v. Turns (begin outer (with_statement before (whole_if b tree.empty))) v r all) (whole_branch outer before b)
    (statements_turn outer (with_statement before (whole_if b tree.empty)) plain))
elses_turn outer before b {otherwise = otherwise} {r = r} {more = more} (grammar.last_else d) k =
    goes _ refl (otherwise_ends d (subst (λ arms. FromStatements outer
    (with_statement before (tree.if_else b.first b.condition b.then arms otherwise)) r more) (append_no_arm b.arms) k))
elses_turn outer before b {otherwise = otherwise} {r = r} {more = more} (grammar.else_if {at = at} {condition = c} {then = then} {others = others} d e es) k =
    goes _ refl (arm_goes_on d (arm_condition_ends e (elses es (subst (λ arms. FromStatements outer
    (with_statement before (tree.if_else b.first b.condition b.then arms otherwise)) r more) (sym (append_arm b.arms at c then others)) k))))

branch_turns : (outer : List Around) (before : Block) (b : Branch) {r : Block} {all : List Numbered} → FromElses b outer before r all →
    Turns (behind_branch outer before b) (whole_in outer before (after_branch b)) r all
branch_turns outer before b (elses d k) = elses_turn outer before b d k

else_turns : (outer : List Around) (before : Block) (b : Branch) {r : Block} {all : List Numbered} → FromElse b outer before r all →
    Turns (behind_else outer before b) None r all
else_turns outer before b (otherwise_ends (braces d) k) = goes _ refl (in_block d (else_ends k))
else_turns outer before b (arm_goes_on d k) = goes _ refl (inside d k)

-- ---- anywhere

-- where statements may not end, it does not matter what they would be
anyhow : {step : ℕ → Token → Option Body} {r : Block} {value : Option Block} {all : List Numbered} → Turns step None r all → Turns step value r all
anyhow (goes b q k) = goes b q k
anyhow (ends q) = absurd (none_some q)

turns_at : (outer : List Around) (before : Block) (spot : Spot) {r : Block} {all : List Numbered} → CompletesAt outer before spot r all →
    Turns (moved outer before spot) (whole_in outer before spot) r all
turns_at outer before at_statement k = statements_turn outer before k
turns_at outer before (before_place t) (word_goes_on k) = goes _ refl k
turns_at outer before (after_place t n others) k = anyhow (place_turns outer before t n others k)
turns_at outer before (in_expression purpose x) k = anyhow (expression_turns outer before purpose x (expressions.turns x k.inside) k.behind)
turns_at outer before (before_end s) (statement_ends k) = goes _ refl k
turns_at outer before (before_name first) (for_goes_on k) = goes _ refl k
turns_at outer before (before_in first n) (in_goes_on d k) = goes _ refl (inside d k)
turns_at outer before (after_branch b) k = branch_turns outer before b k
turns_at outer before (after_else b) k = anyhow (else_turns outer before b k)

-- what completes statements begins with a token that can stand there, or is the end of the text, where they may end
pub turns : (b : Body) {r : Block} {all : List Numbered} → Completes b r all → Turns (body_with b) (whole_of b) r all
turns b k = turns_at b.outer b.before b.spot k
