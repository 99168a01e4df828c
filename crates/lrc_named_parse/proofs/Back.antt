-- Where a token can stand, it and what completes the program behind it complete the program in front of it.
use Rattle.std.proofs.Common.{◌≡◌, ℕ, Bool, true, false, List, [], ◌∷◌, Option, Some, None, refl, sym, subst}
use Rattle.lrc_named_tokens.specs.declared.token.Keyword.TheVariants as keywords
use Rattle.lrc_named_tokens.specs.declared.token.Sign.TheVariants as signs
use Rattle.lrc_named_tokens.specs.Token.{Token, number, name, keyword, sign, finish}
use Rattle.lrc_named_tree.specs.Tree.{Named, Expression, Expressions, Block, Declaration, NamedTree}
use Rattle.lrc_named_tree.specs.Grammar.{Numbered, on, named, IsExpression}
use Rattle.lrc_named_tree.specs.Grammar as grammar
use Rattle.lrc_named_expression.specs.Partial.{Partial, nothing, partial_with, value_of}
use Rattle.lrc_named_expression.proofs.Options.{none_some, some_same}
use Rattle.lrc_named_expression.proofs.Back as expression_back
use Rattle.lrc_named_statement.specs.Body.{Body, body_with}
use Rattle.lrc_named_statement.specs.Body as body
use Rattle.lrc_named_statement.proofs.Back as statement_back
use Rattle.lrc_named_statement.proofs.From as statements
use Rattle.lrc_named_statement.proofs.Turns.{false_true}
use Rattle.lrc_named_parse.specs.State.{Shared, words, locks, Items, Purpose, value_of_constant, size_of, body_of, Stage, State, begin, begin_either, go_on, at}
use Rattle.lrc_named_parse.specs.State.{stated, finished, is_ending, expressed, continued, expressed_or_continued, moved, state_with}
use Rattle.lrc_named_parse.specs.State.{name_constant, name_item, name_function, name_parameter, behind_count, end_count, behind_constant, behind_item}
use Rattle.lrc_named_parse.specs.State.{behind_function, behind_opening, behind_parameter, behind_parameters}
use Rattle.lrc_named_parse.specs.State as state
use Rattle.lrc_named_parse.proofs.From.{whole, FromBody, FromDeclarations, goes_on, states, FromFirst, FromCountEnd, count_ends, FromCount, count_goes_on}
use Rattle.lrc_named_parse.proofs.From.{FromValue, value_comes, FromConstant, constant_goes_on, FromItem, size_comes, next_comes, items_end, FromItems}
use Rattle.lrc_named_parse.proofs.From.{item_goes_on, FromParameters, body_comes, FromParameter, another_comes, parameters_end, FromNext, parameter_goes_on}
use Rattle.lrc_named_parse.proofs.From.{FromOpening, none_come, some_come, FromFunction, opens_on, FromFn, function_goes_on, FromPurpose, constant_ends}
use Rattle.lrc_named_parse.proofs.From.{size_ends, body_ends, FromInside, CompletesAt, Completes}
use Rattle.lrc_named_parse.proofs.Split.{join_items, join_parameters}

at_same : {s t : State} (p : NamedTree) (all : List Numbered) → Some s ≡ Some t → Completes t p all → Completes s p all
at_same p all q k = subst (λ s. Completes s p all) (sym (some_same q)) k

-- what an expression that begins is, and what comes behind it
record Whole (purpose : Purpose) (before : List Declaration) (p : NamedTree) (all : List Numbered) : Type 0 where
  value : Expression
  more : List Numbered
  spelled : IsExpression value all more
  behind : FromPurpose purpose value before p more

outside : {purpose : Purpose} {before : List Declaration} {p : NamedTree} {all : List Numbered} → FromInside purpose nothing before p all →
    Whole purpose before p all
outside k = record { value = _; more = _; spelled = expression_back.whole k.inside; behind = k.behind }

express_back : (purpose : Purpose) (before : List Declaration) (p : NamedTree) (all : List Numbered) {t : State} →
    at before (state.in_expression purpose nothing) ≡ Some t → Completes t p all → Whole purpose before p all
express_back purpose before p all q k =
    let f : FromInside purpose nothing before p all = at_same _ _ q k in
    outside f

-- ---- where a declaration has to begin

counted : {i : ℕ} {n : ℕ} {before : List Declaration} {p : NamedTree} {own : ℕ} {all : List Numbered} → FromCountEnd i n before p all →
    FromFirst before p (on i (keyword keywords.Nodes) ∷ on own (number n) ∷ all)
counted (count_ends k) = record { declaration = _; more = _; spelled = grammar.node_count; behind = k }

count_declaration : {i : ℕ} {before : List Declaration} {p : NamedTree} {all : List Numbered} → FromCount i before p all →
    FromFirst before p (on i (keyword keywords.Nodes) ∷ all)
count_declaration (count_goes_on k) = counted k

valued : {i own : ℕ} {bytes : List ℕ} {before : List Declaration} {p : NamedTree} {all : List Numbered} → FromValue i (named own bytes) before p all →
    FromFirst before p (on i (keyword keywords.Const) ∷ on own (name bytes) ∷ all)
valued (value_comes d k) = record { declaration = _; more = _; spelled = grammar.constant d; behind = k }

constant_declaration : {i : ℕ} {before : List Declaration} {p : NamedTree} {all : List Numbered} → FromConstant i before p all →
    FromFirst before p (on i (keyword keywords.Const) ∷ all)
constant_declaration (constant_goes_on k) = valued k

shared_declaration : {i : ℕ} {before : List Declaration} {p : NamedTree} {all : List Numbered} →
    FromItems (record { first = i; are = words; before = [] }) before p all → FromFirst before p (on i (keyword keywords.Shared) ∷ all)
shared_declaration k =
    let j = join_items k in
    record { declaration = _; more = _; spelled = grammar.shared j.spelled; behind = j.behind }

lock_declaration : {i : ℕ} {before : List Declaration} {p : NamedTree} {all : List Numbered} →
    FromItems (record { first = i; are = locks; before = [] }) before p all → FromFirst before p (on i (keyword keywords.Lock) ∷ all)
lock_declaration k =
    let j = join_items k in
    record { declaration = _; more = _; spelled = grammar.lock j.spelled; behind = j.behind }

bodied : {i own opens : ℕ} {bytes : List ℕ} {parameters : List Named} {before : List Declaration} {p : NamedTree} {all more : List Numbered} →
    grammar.AreParameters parameters all more → FromParameters i (named own bytes) parameters before p more →
    FromFirst before p (on i (keyword keywords.Fn) ∷ on own (name bytes) ∷ on opens (sign signs.OpenParenthesis) ∷ all)
bodied ds (body_comes d k) = record { declaration = _; more = _; spelled = grammar.function ds d; behind = k }

opened : {i own : ℕ} {bytes : List ℕ} {before : List Declaration} {p : NamedTree} {all : List Numbered} → FromFunction i (named own bytes) before p all →
    FromFirst before p (on i (keyword keywords.Fn) ∷ on own (name bytes) ∷ all)
opened (opens_on k) =
    let j = join_parameters k in
    bodied j.spelled j.behind

function_declaration : {i : ℕ} {before : List Declaration} {p : NamedTree} {all : List Numbered} → FromFn i before p all →
    FromFirst before p (on i (keyword keywords.Fn) ∷ all)
function_declaration (function_goes_on k) = opened k

begin_back : (before : List Declaration) (i : ℕ) (t : Token) {s : State} (p : NamedTree) (all : List Numbered) →
    begin before i t ≡ Some s → Completes s p all → FromFirst before p (on i t ∷ all)
begin_back before i (keyword keywords.Nodes) p all q k = count_declaration (at_same _ _ q k)
begin_back before i (keyword keywords.Const) p all q k = constant_declaration (at_same _ _ q k)
begin_back before i (keyword keywords.Shared) p all q k = shared_declaration (at_same _ _ q k)
begin_back before i (keyword keywords.Lock) p all q k = lock_declaration (at_same _ _ q k)
begin_back before i (keyword keywords.Fn) p all q k = function_declaration (at_same _ _ q k)
begin_back before i (keyword _) p all q k = absurd (none_some q)
begin_back before i _ p all q k = absurd (none_some q)

-- ---- in the statements

finished_back : (before : List Declaration) (b : Body) (i : ℕ) (found : Option Block) {s : State} (p : NamedTree) (all : List Numbered) →
    body.whole_of b ≡ found → finished before found ≡ Some s → Completes s p all → FromBody before b p (on i finish ∷ all)
finished_back before b i None p all w q k = absurd (none_some q)
finished_back before b i (Some r) p all w q k =
    let e : (whole before r ≡ p) × (all ≡ []) = at_same _ _ q k in
    record {
      block = r;
      same = e.0;
      inside = subst (λ rest. statements.Completes b r (on i finish ∷ rest)) (sym e.1) (statement_back.ended_whole b r i w);
    }

stated_back : (before : List Declaration) (b : Body) (i : ℕ) (t : Token) (found : Option Body) {s : State} (p : NamedTree) (all : List Numbered) →
    body_with b i t ≡ found → stated before found ≡ Some s → Completes s p all → FromBody before b p (on i t ∷ all)
stated_back before b i t None p all w q k = absurd (none_some q)
stated_back before b i t (Some c) p all w q k =
    let f : FromBody before c p all = at_same _ _ q k in
    record { block = f.block; same = f.same; inside = statement_back.back b i t f.block all w f.inside }

body_back : (before : List Declaration) (b : Body) (i : ℕ) (t : Token) {s : State} (p : NamedTree) (all : List Numbered) →
    go_on before b i t ≡ Some s → Completes s p all → FromBody before b p (on i t ∷ all)
body_back before b i finish p all q k = finished_back before b i (body.whole_of b) p all refl q k
body_back before b i (number n) p all q k = stated_back before b i (number n) (body_with b i (number n)) p all refl q k
body_back before b i (name bytes) p all q k = stated_back before b i (name bytes) (body_with b i (name bytes)) p all refl q k
body_back before b i (keyword word) p all q k = stated_back before b i (keyword word) (body_with b i (keyword word)) p all refl q k
body_back before b i (sign mark) p all q k = stated_back before b i (sign mark) (body_with b i (sign mark)) p all refl q k

first_of_all : {before : List Declaration} {p : NamedTree} {all : List Numbered} → FromFirst before p all → FromDeclarations before p all
first_of_all k = goes_on k.spelled k.behind

either_back : (before : List Declaration) (i : ℕ) (t : Token) {s : State} (p : NamedTree) (all : List Numbered) →
    begin_either before i t ≡ Some s → Completes s p all → FromDeclarations before p (on i t ∷ all)
either_back before i (keyword keywords.Nodes) p all q k = first_of_all (begin_back before i (keyword keywords.Nodes) p all q k)
either_back before i (keyword keywords.Const) p all q k = first_of_all (begin_back before i (keyword keywords.Const) p all q k)
either_back before i (keyword keywords.Shared) p all q k = first_of_all (begin_back before i (keyword keywords.Shared) p all q k)
either_back before i (keyword keywords.Lock) p all q k = first_of_all (begin_back before i (keyword keywords.Lock) p all q k)
either_back before i (keyword keywords.Fn) p all q k = first_of_all (begin_back before i (keyword keywords.Fn) p all q k)
either_back before i (keyword word) p all q k = states (body_back before body.start i (keyword word) p all q k)
either_back before i t p all q k = states (body_back before body.start i t p all q k)

-- ---- in an expression

expressed_back : (before : List Declaration) (purpose : Purpose) (value : Expression) (i : ℕ) (t : Token) {s : State} (p : NamedTree) (all : List Numbered) →
    is_ending purpose t ≡ true → expressed before purpose value ≡ Some s → Completes s p all → FromPurpose purpose value before p (on i t ∷ all)
expressed_back before (value_of_constant first n) value i (sign signs.Semicolon) p all is q k = constant_ends (at_same _ _ q k)
expressed_back before (value_of_constant first n) value i (sign _) p all is q k = absurd (false_true is)
expressed_back before (value_of_constant first n) value i _ p all is q k = absurd (false_true is)
expressed_back before (size_of items n sizes) value i (sign signs.CloseBracket) p all is q k = size_ends (at_same _ _ q k)
expressed_back before (size_of items n sizes) value i (sign _) p all is q k = absurd (false_true is)
expressed_back before (size_of items n sizes) value i _ p all is q k = absurd (false_true is)
expressed_back before (body_of first n parameters) value i (sign signs.Semicolon) p all is q k = body_ends (at_same _ _ q k)
expressed_back before (body_of first n parameters) value i (sign _) p all is q k = absurd (false_true is)
expressed_back before (body_of first n parameters) value i _ p all is q k = absurd (false_true is)

continued_back : (before : List Declaration) (purpose : Purpose) (x : Partial) (i : ℕ) (t : Token) (y : Option Partial) {s : State} (p : NamedTree)
    (all : List Numbered) → partial_with x i t ≡ y → continued before purpose y ≡ Some s → Completes s p all →
    FromInside purpose x before p (on i t ∷ all)
continued_back before purpose x i t None p all r q k = absurd (none_some q)
continued_back before purpose x i t (Some y) p all r q k =
    let f : FromInside purpose y before p all = at_same _ _ q k in
    record { value = f.value; more = f.more; inside = expression_back.back x i t f.value all f.more r f.inside; behind = f.behind }

inside_back : (before : List Declaration) (purpose : Purpose) (x : Partial) (i : ℕ) (t : Token) (value : Option Expression) (is : Bool) {s : State}
    (p : NamedTree) (all : List Numbered) → value_of x ≡ value → is_ending purpose t ≡ is →
    expressed_or_continued before purpose value is (partial_with x i t) ≡ Some s → Completes s p all → FromInside purpose x before p (on i t ∷ all)
inside_back before purpose x i t (Some v) true p all w e q k = record {
  value = v;
  more = on i t ∷ all;
  inside = expression_back.ended x v (on i t ∷ all) w;
  behind = expressed_back before purpose v i t p all e q k;
}
inside_back before purpose x i t (Some v) false p all w e q k = continued_back before purpose x i t (partial_with x i t) p all refl q k
inside_back before purpose x i t None true p all w e q k = continued_back before purpose x i t (partial_with x i t) p all refl q k
inside_back before purpose x i t None false p all w e q k = continued_back before purpose x i t (partial_with x i t) p all refl q k

-- ---- elsewhere

number_back : (before : List Declaration) (first i : ℕ) (t : Token) {s : State} (p : NamedTree) (all : List Numbered) →
    behind_count before first t ≡ Some s → Completes s p all → FromCount first before p (on i t ∷ all)
number_back before first i (number n) p all q k = count_goes_on (at_same _ _ q k)
number_back before first i _ p all q k = absurd (none_some q)

end_back : (before : List Declaration) (first n i : ℕ) (t : Token) {s : State} (p : NamedTree) (all : List Numbered) →
    end_count before first n t ≡ Some s → Completes s p all → FromCountEnd first n before p (on i t ∷ all)
end_back before first n i (sign signs.Semicolon) p all q k = count_ends (at_same _ _ q k)
end_back before first n i (sign _) p all q k = absurd (none_some q)
end_back before first n i _ p all q k = absurd (none_some q)

constant_back : (before : List Declaration) (first i : ℕ) (t : Token) {s : State} (p : NamedTree) (all : List Numbered) →
    name_constant before first i t ≡ Some s → Completes s p all → FromConstant first before p (on i t ∷ all)
constant_back before first i (name bytes) p all q k = constant_goes_on (at_same _ _ q k)
constant_back before first i _ p all q k = absurd (none_some q)

value_ends : {first i : ℕ} {n : Named} {value : Expression} {before : List Declaration} {p : NamedTree} {all more : List Numbered} →
    IsExpression value all more → FromPurpose (value_of_constant first n) value before p more → FromValue first n before p (on i (sign signs.Assign) ∷ all)
value_ends d (constant_ends k) = value_comes d k

value_back : (before : List Declaration) (first : ℕ) (n : Named) (i : ℕ) (t : Token) {s : State} (p : NamedTree) (all : List Numbered) →
    behind_constant before first n t ≡ Some s → Completes s p all → FromValue first n before p (on i t ∷ all)
value_back before first n i (sign signs.Assign) p all q k =
    let w = express_back (value_of_constant first n) before p all q k in
    value_ends w.spelled w.behind
value_back before first n i (sign _) p all q k = absurd (none_some q)
value_back before first n i _ p all q k = absurd (none_some q)

items_back : (before : List Declaration) (items : Items) (i : ℕ) (t : Token) {s : State} (p : NamedTree) (all : List Numbered) →
    name_item before items i t ≡ Some s → Completes s p all → FromItems items before p (on i t ∷ all)
items_back before items i (name bytes) p all q k = item_goes_on (at_same _ _ q k)
items_back before items i _ p all q k = absurd (none_some q)

size_back : {items : Items} {i : ℕ} {n : Named} {sizes : Expressions} {value : Expression} {before : List Declaration} {p : NamedTree} {all more : List Numbered} →
    IsExpression value all more → FromPurpose (size_of items n sizes) value before p more →
    FromItem items n sizes before p (on i (sign signs.OpenBracket) ∷ all)
size_back d (size_ends k) = size_comes d k

item_back : (before : List Declaration) (items : Items) (n : Named) (sizes : Expressions) (i : ℕ) (t : Token) {s : State} (p : NamedTree)
    (all : List Numbered) → behind_item before items n sizes t ≡ Some s → Completes s p all → FromItem items n sizes before p (on i t ∷ all)
item_back before items n sizes i (sign signs.OpenBracket) p all q k =
    let w = express_back (size_of items n sizes) before p all q k in
    size_back w.spelled w.behind
item_back before items n sizes i (sign signs.Comma) p all q k = next_comes (at_same _ _ q k)
item_back before items n sizes i (sign signs.Semicolon) p all q k = items_end (at_same _ _ q k)
item_back before items n sizes i (sign _) p all q k = absurd (none_some q)
item_back before items n sizes i _ p all q k = absurd (none_some q)

fn_back : (before : List Declaration) (first i : ℕ) (t : Token) {s : State} (p : NamedTree) (all : List Numbered) →
    name_function before first i t ≡ Some s → Completes s p all → FromFn first before p (on i t ∷ all)
fn_back before first i (name bytes) p all q k = function_goes_on (at_same _ _ q k)
fn_back before first i _ p all q k = absurd (none_some q)

function_back : (before : List Declaration) (first : ℕ) (n : Named) (i : ℕ) (t : Token) {s : State} (p : NamedTree) (all : List Numbered) →
    behind_function before first n t ≡ Some s → Completes s p all → FromFunction first n before p (on i t ∷ all)
function_back before first n i (sign signs.OpenParenthesis) p all q k = opens_on (at_same _ _ q k)
function_back before first n i (sign _) p all q k = absurd (none_some q)
function_back before first n i _ p all q k = absurd (none_some q)

opening_back : (before : List Declaration) (first : ℕ) (n : Named) (i : ℕ) (t : Token) {s : State} (p : NamedTree) (all : List Numbered) →
    behind_opening before first n i t ≡ Some s → Completes s p all → FromOpening first n before p (on i t ∷ all)
opening_back before first n i (name bytes) p all q k = some_come (at_same _ _ q k)
opening_back before first n i (sign signs.CloseParenthesis) p all q k = none_come (at_same _ _ q k)
opening_back before first n i (sign _) p all q k = absurd (none_some q)
opening_back before first n i _ p all q k = absurd (none_some q)

next_back : (before : List Declaration) (first : ℕ) (n : Named) (parameters : List Named) (i : ℕ) (t : Token) {s : State} (p : NamedTree)
    (all : List Numbered) → name_parameter before first n parameters i t ≡ Some s → Completes s p all → FromNext first n parameters before p (on i t ∷ all)
next_back before first n parameters i (name bytes) p all q k = parameter_goes_on (at_same _ _ q k)
next_back before first n parameters i _ p all q k = absurd (none_some q)

parameter_back : (before : List Declaration) (first : ℕ) (n : Named) (parameters : List Named) (i : ℕ) (t : Token) {s : State} (p : NamedTree)
    (all : List Numbered) → behind_parameter before first n parameters t ≡ Some s → Completes s p all →
    FromParameter first n parameters before p (on i t ∷ all)
parameter_back before first n parameters i (sign signs.Comma) p all q k = another_comes (at_same _ _ q k)
parameter_back before first n parameters i (sign signs.CloseParenthesis) p all q k = parameters_end (at_same _ _ q k)
parameter_back before first n parameters i (sign _) p all q k = absurd (none_some q)
parameter_back before first n parameters i _ p all q k = absurd (none_some q)

body_of_back : {first i : ℕ} {n : Named} {parameters : List Named} {value : Expression} {before : List Declaration} {p : NamedTree} {all more : List Numbered} →
    IsExpression value all more → FromPurpose (body_of first n parameters) value before p more →
    FromParameters first n parameters before p (on i (sign signs.Assign) ∷ all)
body_of_back d (body_ends k) = body_comes d k

parameters_back : (before : List Declaration) (first : ℕ) (n : Named) (parameters : List Named) (i : ℕ) (t : Token) {s : State} (p : NamedTree)
    (all : List Numbered) → behind_parameters before first n parameters t ≡ Some s → Completes s p all →
    FromParameters first n parameters before p (on i t ∷ all)
parameters_back before first n parameters i (sign signs.Assign) p all q k =
    let w = express_back (body_of first n parameters) before p all q k in
    body_of_back w.spelled w.behind
parameters_back before first n parameters i (sign _) p all q k = absurd (none_some q)
parameters_back before first n parameters i _ p all q k = absurd (none_some q)

back_at : (before : List Declaration) (stage : Stage) (i : ℕ) (t : Token) {s : State} (p : NamedTree) (all : List Numbered) →
    moved before stage i t ≡ Some s → Completes s p all → CompletesAt before stage p (on i t ∷ all)
back_at before state.at_first i t p all q k = begin_back before i t p all q k
back_at before state.at_declaration i t p all q k = either_back before i t p all q k
back_at before (state.before_count first) i t p all q k = number_back before first i t p all q k
back_at before (state.after_count first n) i t p all q k = end_back before first n i t p all q k
back_at before (state.before_constant first) i t p all q k = constant_back before first i t p all q k
back_at before (state.after_constant first n) i t p all q k = value_back before first n i t p all q k
back_at before (state.before_item items) i t p all q k = items_back before items i t p all q k
back_at before (state.after_item items n sizes) i t p all q k = item_back before items n sizes i t p all q k
back_at before (state.before_function first) i t p all q k = fn_back before first i t p all q k
back_at before (state.after_function first n) i t p all q k = function_back before first n i t p all q k
back_at before (state.before_first first n) i t p all q k = opening_back before first n i t p all q k
back_at before (state.before_parameter first n parameters) i t p all q k = next_back before first n parameters i t p all q k
back_at before (state.after_parameter first n parameters) i t p all q k = parameter_back before first n parameters i t p all q k
back_at before (state.after_parameters first n parameters) i t p all q k = parameters_back before first n parameters i t p all q k
back_at before (state.in_expression purpose x) i t p all q k = inside_back before purpose x i t (value_of x) (is_ending purpose t) p all refl refl q k
back_at before (state.in_statements b) i t p all q k = body_back before b i t p all q k
back_at before (state.ended statements) i t p all q k = absurd (none_some q)

pub back : (s : State) (i : ℕ) (t : Token) {next : State} (p : NamedTree) (all : List Numbered) → state_with s i t ≡ Some next → Completes next p all →
    Completes s p (on i t ∷ all)
back s i t p all q k = back_at s.declarations s.stage i t p all q k
