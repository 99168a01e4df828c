-- A token of what completes a named program takes it one step on.
use Rattle.std.proofs.Common.{◌≡◌, ℕ, Bool, true, false, List, [], ◌∷◌, ◌++◌, Option, Some, None, refl, sym, ap, subst, ◌∙◌}
use Rattle.lrc_named_tokens.specs.declared.token.Keyword.TheVariants as keywords
use Rattle.lrc_named_tokens.specs.declared.token.Sign.TheVariants as signs
use Rattle.lrc_named_tokens.specs.Token.{Token, name, keyword, sign, finish}
use Rattle.lrc_named_tree.specs.Tree.{Expression, Block, Declaration, NamedTree}
use Rattle.lrc_named_tree.specs.Grammar.{Numbered, on, IsEnding, IsExpression, IsDeclaration}
use Rattle.lrc_named_tree.specs.Grammar as grammar
use Rattle.lrc_named_expression.specs.Partial.{Partial, nothing, partial_with, value_of}
use Rattle.lrc_named_expression.proofs.Options.{none_some}
use Rattle.lrc_named_expression.proofs.Turns as expressions
use Rattle.lrc_named_expression.proofs.Back.{from_whole}
use Rattle.lrc_named_expression.proofs.Stops.{stops}
use Rattle.lrc_named_statement.specs.Body as body
use Rattle.lrc_named_statement.specs.Body.{Body, body_with}
use Rattle.lrc_named_statement.proofs.Turns as statements
use Rattle.lrc_named_parse.specs.State.{Purpose, value_of_constant, size_of, body_of, Stage, State, program_in, begin, begin_either, go_on, at, stated, finished}
use Rattle.lrc_named_parse.specs.State.{is_ending, expressed, continued, expressed_or_continued, moved, state_with}
use Rattle.lrc_named_parse.specs.State as state
use Rattle.lrc_named_parse.proofs.From.{whole, FromDeclarations, goes_on, states, count_ends, count_goes_on, value_comes, constant_goes_on}
use Rattle.lrc_named_parse.proofs.From.{size_comes, next_comes, items_end, item_goes_on, body_comes, another_comes, parameters_end, parameter_goes_on}
use Rattle.lrc_named_parse.proofs.From.{none_come, some_come, opens_on, function_goes_on, FromPurpose, constant_ends, size_ends, body_ends, FromInside}
use Rattle.lrc_named_parse.proofs.From.{CompletesAt, Completes}
use Rattle.lrc_named_parse.proofs.Split.{split_items, split_parameters}
use Rattle.lrc_named_statement.proofs.Foreign.{body_refused}

-- The next token can stand there, and the tokens behind it complete what has come with it; or the text has ended.
pub data Turns (step : ℕ → Token → Option State) (here p : NamedTree) : List Numbered → Type 0 where
  goes : {i : ℕ} {t : Token} {all : List Numbered} (s : State) → step i t ≡ Some s → Completes s p all → Turns step here p (on i t ∷ all)
  ends : here ≡ p → Turns step here p []

further : {one other : ℕ → Token → Option State} {here p : NamedTree} {all : List Numbered} →
    ((i : ℕ) (t : Token) (s : State) → one i t ≡ Some s → other i t ≡ Some s) → Turns one here p all → Turns other here p all
further f (goes {i = i} {t = t} s q k) = goes s (f i t s q) k
further f (ends e) = ends e

inside : {purpose : Purpose} {before : List Declaration} {p : NamedTree} {value : Expression} {all more : List Numbered} →
    IsExpression value all more → FromPurpose purpose value before p more → FromInside purpose nothing before p all
inside d k = record { value = _; more = _; inside = from_whole d; behind = k }

declaration_turns : (before : List Declaration) {d : Declaration} {here p : NamedTree} {all more : List Numbered} →
    IsDeclaration d all more → FromDeclarations (before ++ d ∷ []) p more → Turns (begin before) here p all
declaration_turns before grammar.node_count k = goes _ refl (count_goes_on (count_ends k))
declaration_turns before (grammar.constant d) k = goes _ refl (constant_goes_on (value_comes d k))
declaration_turns before (grammar.shared ds) k = goes _ refl (split_items [] ds k)
declaration_turns before (grammar.lock ds) k = goes _ refl (split_items [] ds k)
declaration_turns before (grammar.function ds d) k = goes _ refl (function_goes_on (opens_on (split_parameters ds (body_comes d k))))

-- ---- where a declaration may begin, or the statements

either_goes : (before : List Declaration) (i : ℕ) (t : Token) (s : State) → begin before i t ≡ Some s → begin_either before i t ≡ Some s
either_goes before i (keyword keywords.Nodes) s q = q
either_goes before i (keyword keywords.Const) s q = q
either_goes before i (keyword keywords.Shared) s q = q
either_goes before i (keyword keywords.Lock) s q = q
either_goes before i (keyword keywords.Fn) s q = q
either_goes before i (keyword _) s q = absurd (none_some q)
either_goes before i _ s q = absurd (none_some q)

body_goes : (before : List Declaration) (b : Body) (i : ℕ) (t : Token) {c : Body} → body_with b i t ≡ Some c →
    go_on before b i t ≡ at before (state.in_statements c)
body_goes before b i finish q = absurd (none_some (sym (body_refused b i) ∙ q))
body_goes before b i (Token.number n) q = ap (stated before) q
body_goes before b i (name bytes) q = ap (stated before) q
body_goes before b i (keyword which) q = ap (stated before) q
body_goes before b i (sign mark) q = ap (stated before) q

start_goes : (before : List Declaration) (i : ℕ) (t : Token) {c : Body} → body_with body.start i t ≡ Some c →
    begin_either before i t ≡ at before (state.in_statements c)
start_goes before i (keyword keywords.Nodes) q = absurd (none_some q)
start_goes before i (keyword keywords.Const) q = absurd (none_some q)
start_goes before i (keyword keywords.Shared) q = absurd (none_some q)
start_goes before i (keyword keywords.Lock) q = absurd (none_some q)
start_goes before i (keyword keywords.Fn) q = absurd (none_some q)
start_goes before i (keyword which) q = body_goes before body.start i (keyword which) q
start_goes before i t q = body_goes before body.start i t q

start_turns : (before : List Declaration) {here p : NamedTree} {r : Block} {all : List Numbered} → whole before r ≡ p →
    statements.Turns (body_with body.start) (body.whole_of body.start) r all → Turns (begin_either before) here p all
start_turns before e (statements.goes {i = i} {t = t} c q k) = goes _ (start_goes before i t q) (record { block = _; same = e; inside = k })
start_turns before e (statements.ends q) = goes _ (ap (finished before) q) (e, refl)

body_turns : (before : List Declaration) (b : Body) {here p : NamedTree} {r : Block} {all : List Numbered} →
    whole before r ≡ p → statements.Turns (body_with b) (body.whole_of b) r all → Turns (go_on before b) here p all
body_turns before b e (statements.goes {i = i} {t = t} c q k) = goes _ (body_goes before b i t q) (record { block = _; same = e; inside = k })
body_turns before b e (statements.ends q) = goes _ (ap (finished before) q) (e, refl)

either_turns : (before : List Declaration) {here p : NamedTree} {all : List Numbered} → FromDeclarations before p all → Turns (begin_either before) here p all
either_turns before (goes_on d k) = further (either_goes before) (declaration_turns before d k)
either_turns before (states k) = start_turns before k.same (statements.turns body.start k.inside)

-- ---- in an expression

record Ends (before : List Declaration) (purpose : Purpose) (value : Expression) (p : NamedTree) (t : Token) (all : List Numbered) : Type 0 where
  next : State
  ending : IsEnding t
  is : is_ending purpose t ≡ true
  step : expressed before purpose value ≡ Some next
  behind : Completes next p all

data EndsAt (before : List Declaration) (purpose : Purpose) (value : Expression) (p : NamedTree) : List Numbered → Type 0 where
  ends_at : {i : ℕ} {t : Token} {all : List Numbered} → Ends before purpose value p t all → EndsAt before purpose value p (on i t ∷ all)

purpose_ends : (before : List Declaration) (purpose : Purpose) (value : Expression) {p : NamedTree} {all : List Numbered} →
    FromPurpose purpose value before p all → EndsAt before purpose value p all
purpose_ends before _ value (constant_ends k) = ends_at (record { next = _; ending = tt; is = refl; step = refl; behind = k })
purpose_ends before _ value (size_ends k) = ends_at (record { next = _; ending = tt; is = refl; step = refl; behind = k })
purpose_ends before _ value (body_ends k) = ends_at (record { next = _; ending = tt; is = refl; step = refl; behind = k })

end_step : (before : List Declaration) (purpose : Purpose) (x : Partial) {value : Expression} {p : NamedTree} (i : ℕ) {t : Token} {all : List Numbered} →
    value_of x ≡ Some value → (e : Ends before purpose value p t all) →
    expressed_or_continued before purpose (value_of x) (is_ending purpose t) (partial_with x i t) ≡ Some e.next
end_step before purpose x {value} i {t = t} v e =
    ap (λ w. expressed_or_continued before purpose w (is_ending purpose t) (partial_with x i t)) v
    ∙ ap (λ b. expressed_or_continued before purpose (Some value) b (partial_with x i t)) e.is ∙ e.step

ending_ends : (purpose : Purpose) (t : Token) → is_ending purpose t ≡ true → IsEnding t
ending_ends (value_of_constant first n) (sign signs.Semicolon) q = tt
ending_ends (value_of_constant first n) (sign _) q = absurd (statements.false_true q)
ending_ends (value_of_constant first n) _ q = absurd (statements.false_true q)
ending_ends (size_of items n sizes) (sign signs.CloseBracket) q = tt
ending_ends (size_of items n sizes) (sign _) q = absurd (statements.false_true q)
ending_ends (size_of items n sizes) _ q = absurd (statements.false_true q)
ending_ends (body_of first n parameters) (sign signs.Semicolon) q = tt
ending_ends (body_of first n parameters) (sign _) q = absurd (statements.false_true q)
ending_ends (body_of first n parameters) _ q = absurd (statements.false_true q)

continue_step : (before : List Declaration) (purpose : Purpose) (x : Partial) (i : ℕ) (t : Token) (value : Option Expression) (is : Bool) {y : Partial} →
    value_of x ≡ value → is_ending purpose t ≡ is → partial_with x i t ≡ Some y →
    expressed_or_continued before purpose value is (partial_with x i t) ≡ at before (state.in_expression purpose y)
continue_step before purpose x i t (Some v) true q e r = absurd (none_some (sym (stops x i t q (ending_ends purpose t e)) ∙ r))
continue_step before purpose x i t (Some v) false q e r = ap (continued before purpose) r
continue_step before purpose x i t None true q e r = ap (continued before purpose) r
continue_step before purpose x i t None false q e r = ap (continued before purpose) r

ends_turn : (before : List Declaration) (purpose : Purpose) (x : Partial) {value : Expression} {here p : NamedTree} {all : List Numbered} →
    value_of x ≡ Some value → EndsAt before purpose value p all → Turns (λ i t. moved before (state.in_expression purpose x) i t) here p all
ends_turn before purpose x v (ends_at {i = i} e) = goes _ (end_step before purpose x i v e) e.behind

expression_turns : (before : List Declaration) (purpose : Purpose) (x : Partial) {value : Expression} {here p : NamedTree} {all more : List Numbered} →
    expressions.Turns (partial_with x) (value_of x) value all more → FromPurpose purpose value before p more →
    Turns (λ i t. moved before (state.in_expression purpose x) i t) here p all
expression_turns before purpose x (expressions.goes {i = i} {t = t} y q k) f =
    goes _ (continue_step before purpose x i t (value_of x) (is_ending purpose t) refl refl q)
    (record { value = _; more = _; inside = k; behind = f })
expression_turns before purpose x {value} {p = p} (expressions.ends v q) f =
    ends_turn before purpose x v (subst (λ all. EndsAt before purpose value p all) (sym q) (purpose_ends before purpose value f))

-- ---- anywhere

turns_at : (before : List Declaration) (stage : Stage) {p : NamedTree} {all : List Numbered} → CompletesAt before stage p all →
    Turns (moved before stage) (program_in (record { declarations = before; stage = stage })) p all
turns_at before state.at_first k = declaration_turns before k.spelled k.behind
turns_at before state.at_declaration k = either_turns before k
turns_at before (state.before_count first) (count_goes_on k) = goes _ refl k
turns_at before (state.after_count first n) (count_ends k) = goes _ refl k
turns_at before (state.before_constant first) (constant_goes_on k) = goes _ refl k
turns_at before (state.after_constant first n) (value_comes d k) = goes _ refl (inside d (constant_ends k))
turns_at before (state.before_item items) (item_goes_on k) = goes _ refl k
turns_at before (state.after_item items n sizes) (size_comes d k) = goes _ refl (inside d (size_ends k))
turns_at before (state.after_item items n sizes) (next_comes k) = goes _ refl k
turns_at before (state.after_item items n sizes) (items_end k) = goes _ refl k
turns_at before (state.before_function first) (function_goes_on k) = goes _ refl k
turns_at before (state.after_function first n) (opens_on k) = goes _ refl k
turns_at before (state.before_first first n) (none_come k) = goes _ refl k
turns_at before (state.before_first first n) (some_come k) = goes _ refl k
turns_at before (state.before_parameter first n parameters) (parameter_goes_on k) = goes _ refl k
turns_at before (state.after_parameter first n parameters) (another_comes k) = goes _ refl k
turns_at before (state.after_parameter first n parameters) (parameters_end k) = goes _ refl k
turns_at before (state.after_parameters first n parameters) (body_comes d k) = goes _ refl (inside d (body_ends k))
turns_at before (state.in_expression purpose x) k = expression_turns before purpose x (expressions.turns x k.inside) k.behind
turns_at before (state.in_statements b) k = body_turns before b k.same (statements.turns b k.inside)
turns_at before (state.ended statements) {p} k =
    subst (λ all. Turns (moved before (state.ended statements)) (record { declarations = before; statements = statements }) p all) (sym k.1) (ends k.0)

-- what completes a named program begins with a token that can stand there, or is nothing, where the text has ended
pub turns : (s : State) {p : NamedTree} {all : List Numbered} → Completes s p all → Turns (state_with s) (program_in s) p all
turns s k = turns_at s.declarations s.stage k
