-- A token of what completes an expression takes it one step on.
use Rattle.std.proofs.Common.{◌≡◌, ℕ, List, [], ◌∷◌, Option, Some, None, refl, ap, subst}
use Rattle.lrc_program.specs.declared.Operator.{Operator}
use Rattle.lrc_named_tokens.specs.declared.token.Keyword.TheVariants as keywords
use Rattle.lrc_named_tokens.specs.declared.token.Sign.{Sign}
use Rattle.lrc_named_tokens.specs.declared.token.Sign.TheVariants as signs
use Rattle.lrc_named_tokens.specs.Token.{Token, keyword, sign}
use Rattle.lrc_named_tree.specs.Tree.{Named, Expression, Expressions}
use Rattle.lrc_named_tree.specs.Tree as tree
use Rattle.lrc_named_tree.specs.Grammar.{Numbered, on, named, JoinsFactors, times, over, modulo, JoinsTerms, plus, minus}
use Rattle.lrc_named_tree.specs.Grammar.{Compares, equal, not_equal, less, less_or_equal, greater, greater_or_equal}
use Rattle.lrc_named_tree.specs.Grammar as grammar
use Rattle.lrc_named_tree.specs.Grammar.{IsFactor, AreArguments, IsTest, IsExpression}
use Rattle.lrc_named_expression.specs.Link.{factors, terms, sums, link_of_sign}
use Rattle.lrc_named_expression.specs.Partial.{Pending, Tests, Level, Opening, group, argument, index, Around, Place, Partial}
use Rattle.lrc_named_expression.specs.Partial.{at_test, at_factor, after_name, after_index, after_call, after_operand, no_tests, bare, at}
use Rattle.lrc_named_expression.specs.Partial.{joined, negated, joined_both, whole_of, waiting, join_or_close, closed, close, go_on, begin, begin_test, behind_index, behind_name, behind_call}
use Rattle.lrc_named_expression.specs.Partial.{moved, partial_with, operand_at, value_in, value_of}
use Rattle.lrc_named_expression.proofs.Options.{none_some}
use Rattle.lrc_named_expression.proofs.From.{around, FromTerm, term_goes_on, term_ends, sum_goes_on, sum_ends, compares, comparison_ends}
use Rattle.lrc_named_expression.proofs.From.{FromBoth, both_goes_on, both_ends, either_goes_on, either_ends, closes, is_all}
use Rattle.lrc_named_expression.proofs.From.{FromClosed, closes_group, closes_call, next_argument, closes_index, FromIndices, index_goes_on, indices_end}
use Rattle.lrc_named_expression.proofs.From.{FromName, an_element, a_call, CompletesAt, Completes}
use Rattle.lrc_named_expression.proofs.From.{split_term, split_sum, split_expression, split_indices, split_arguments, tests_from}

-- The next token can stand there, and the tokens behind it complete what has come with it; or the expression has ended in
-- front of it.
pub data Turns (step : ℕ → Token → Option Partial) (value : Option Expression) (e : Expression) : List Numbered → List Numbered → Type 0 where
  goes : {i : ℕ} {t : Token} {all rest : List Numbered} (x : Partial) → step i t ≡ Some x → Completes x e all rest → Turns step value e (on i t ∷ all) rest
  ends : {all rest : List Numbered} → value ≡ Some e → all ≡ rest → Turns step value e all rest

-- the same by another step that goes as far
further : {one other : ℕ → Token → Option Partial} {value : Option Expression} {e : Expression} {all rest : List Numbered} →
    ((i : ℕ) (t : Token) (x : Partial) → one i t ≡ Some x → other i t ≡ Some x) → Turns one value e all rest → Turns other value e all rest
further f (goes {i = i} {t = t} x q k) = goes x (f i t x q) k
further f (ends v r) = ends v r

factors_link : {mark : Sign} {o : Operator} → JoinsFactors mark o → link_of_sign mark ≡ Some (factors o)
factors_link times = refl
factors_link over = refl
factors_link modulo = refl

terms_link : {mark : Sign} {o : Operator} → JoinsTerms mark o → link_of_sign mark ≡ Some (terms o)
terms_link plus = refl
terms_link minus = refl

sums_link : {mark : Sign} {o : Operator} → Compares mark o → link_of_sign mark ≡ Some (sums o)
sums_link equal = refl
sums_link not_equal = refl
sums_link less = refl
sums_link less_or_equal = refl
sums_link greater = refl
sums_link greater_or_equal = refl

abbrev level_with : Tests → Option Pending → Option Pending → Option Pending → Level
level_with tests compared added multiplied = record { tests = tests; compared = compared; added = added; multiplied = multiplied }

closed_turns : {outer : List Around} (a : Around) (level : Level) (operand : Expression) (opening : Opening) {e : Expression} {all rest : List Numbered}
    {value : Option Expression} → a.opening ≡ opening → FromClosed opening a.level outer (whole_of level operand) e all rest →
    Turns (go_on (a ∷ outer) level operand) value e all rest
closed_turns {outer} a level operand opening q (closes_group {at = i} k) =
    goes _ (ap (λ o. closed outer a.level o (whole_of level operand) i (sign signs.CloseParenthesis)) q) k
closed_turns {outer} a level operand opening q (closes_call {at = i} k) =
    goes _ (ap (λ o. closed outer a.level o (whole_of level operand) i (sign signs.CloseParenthesis)) q) k
closed_turns {outer} a level operand opening q (next_argument {comma = i} d k) =
    goes _ (ap (λ o. closed outer a.level o (whole_of level operand) i (sign signs.Comma)) q) (split_expression d (closes k))
closed_turns {outer} a level operand opening q (closes_index {at = i} k) =
    goes _ (ap (λ o. closed outer a.level o (whole_of level operand) i (sign signs.CloseBracket)) q) k

go_on_turns : {tests : Tests} {compared added : Option Pending} (multiplied : Option Pending) {outer : List Around}
    (operand : Expression) {e : Expression} {all rest : List Numbered} →
    FromTerm tests compared added outer (joined multiplied operand) e all rest →
    Turns (go_on outer (level_with tests compared added multiplied) operand)
    (value_in outer (level_with tests compared added multiplied) (Some operand)) e all rest
go_on_turns {tests} {compared} {added} multiplied {outer} operand (term_goes_on {at = i} {mark = mark} {o = o} j f k) =
    goes
    (at outer (level_with tests compared added (waiting (joined multiplied operand) o)) at_factor)
    (ap (λ l. join_or_close l outer (level_with tests compared added multiplied) operand i (sign mark)) (factors_link j))
    (record { first = _; more = _; spelled = f; behind = k })
go_on_turns {tests} {compared} {added} multiplied {outer} operand (term_ends (sum_goes_on {at = i} {mark = mark} {o = o} j t k)) =
    let s = split_term {added = waiting (joined added (joined multiplied operand)) o} t (term_ends k) in
    goes
    (at outer (level_with tests compared (waiting (joined added (joined multiplied operand)) o) None) at_factor)
    (ap (λ l. join_or_close l outer (level_with tests compared added multiplied) operand i (sign mark)) (terms_link j))
    (record { first = s.first; more = s.more; spelled = s.spelled; behind = s.behind })
go_on_turns {tests} {added = added} multiplied {outer} operand (term_ends (sum_ends (compares {at = i} {mark = mark} {o = o} j s k))) =
    let r = split_sum {tests = tests} {compared = waiting (joined added (joined multiplied operand)) o} s (sum_ends (comparison_ends k)) in
    goes
    (at outer (level_with tests (waiting (joined added (joined multiplied operand)) o) None None) at_factor)
    (ap (λ l. join_or_close l outer (level_with tests None added multiplied) operand i (sign mark)) (sums_link j))
    (record { first = r.first; more = r.more; spelled = r.spelled; behind = r.behind })
go_on_turns multiplied operand (term_ends (sum_ends (comparison_ends (both_goes_on t k)))) =
    goes _ refl (record { first = _; more = _; spelled = t; behind = k })
go_on_turns multiplied operand (term_ends (sum_ends (comparison_ends (both_ends (either_goes_on (grammar.both t others) k))))) =
    goes _ refl (record { first = _; more = _; spelled = t; behind = tests_from others (both_ends k) })
go_on_turns {tests} {compared} {added} multiplied operand (term_ends (sum_ends (comparison_ends (both_ends (either_ends (closes {a = a} k)))))) =
    closed_turns a (level_with tests compared added multiplied) operand a.opening refl k
go_on_turns multiplied operand (term_ends (sum_ends (comparison_ends (both_ends (either_ends (is_all q r)))))) = ends (ap Some q) r

-- ---- where an operand has to begin

begin_turns : (outer : List Around) (level : Level) {first e : Expression} {all more rest : List Numbered} (value : Option Expression) →
    IsFactor first all more → FromTerm level.tests level.compared level.added outer (joined level.multiplied first) e more rest →
    Turns (begin outer level) value e all rest
begin_turns outer level value grammar.a_number k = goes _ refl k
begin_turns outer level value grammar.me k = goes _ refl k
begin_turns outer level value grammar.nodes k = goes _ refl k
begin_turns outer level value (grammar.an_element indices) k = goes _ refl (an_element (split_indices tree.none indices k))
begin_turns outer level value (grammar.a_call arguments) k =
    goes _ refl (a_call (record { arguments = _; last = _; more = _; spelled = arguments; behind = k }))
begin_turns outer level value (grammar.parentheses d) k = goes _ refl (split_expression d (closes (closes_group k)))

test_goes : (outer : List Around) (tests : Tests) (i : ℕ) (t : Token) (x : Partial) → begin outer (bare tests) i t ≡ Some x → begin_test outer tests i t ≡ Some x
test_goes outer tests i (keyword keywords.Not) x q = absurd (none_some q)
test_goes outer tests i (keyword _) x q = q
test_goes outer tests i _ x q = q

test_turns : (outer : List Around) (tests : Tests) {first e : Expression} {all more rest : List Numbered} (value : Option Expression) →
    IsTest first all more → FromBoth tests.either outer (joined_both tests.both (negated tests.negations first)) e more rest → Turns (begin_test outer tests) value e all rest
test_turns outer tests value (grammar.negation d) k = goes _ refl (record { first = _; more = _; spelled = d; behind = k })
test_turns outer tests value (grammar.one_sum d) k =
    let s = split_sum {tests = tests} d (sum_ends (comparison_ends k)) in
    further (test_goes outer tests) (begin_turns outer (bare tests) value s.spelled s.behind)
test_turns outer tests value (grammar.comparison left j right) k =
    let s = split_sum {tests = tests} left (sum_ends (compares j right k)) in
    further (test_goes outer tests) (begin_turns outer (bare tests) value s.spelled s.behind)

-- ---- behind a name

no_bracket : (outer : List Around) (level : Level) (opening : Opening) (inside : Expression) (i : ℕ) → closed outer level opening inside i (sign signs.OpenBracket) ≡ None
no_bracket outer level (group opens) inside i = refl
no_bracket outer level (argument n others) inside i = refl
no_bracket outer level (index n others) inside i = refl

no_parenthesis : (outer : List Around) (level : Level) (opening : Opening) (inside : Expression) (i : ℕ) →
    closed outer level opening inside i (sign signs.OpenParenthesis) ≡ None
no_parenthesis outer level (group opens) inside i = refl
no_parenthesis outer level (argument n others) inside i = refl
no_parenthesis outer level (index n others) inside i = refl

close_bracket : (outer : List Around) (inside : Expression) (i : ℕ) → close outer inside i (sign signs.OpenBracket) ≡ None
close_bracket [] inside i = refl
close_bracket (a ∷ outer) inside i = no_bracket outer a.level a.opening inside i

close_parenthesis : (outer : List Around) (inside : Expression) (i : ℕ) → close outer inside i (sign signs.OpenParenthesis) ≡ None
close_parenthesis [] inside i = refl
close_parenthesis (a ∷ outer) inside i = no_parenthesis outer a.level a.opening inside i

index_goes : (outer : List Around) (level : Level) (n : Named) (others : Expressions) (last i : ℕ) (t : Token) (x : Partial) →
    go_on outer level (tree.element n others last) i t ≡ Some x → behind_index outer level n others last i t ≡ Some x
index_goes outer level n others last i (sign signs.OpenBracket) x q =
    absurd (none_some (subst (λ o. o ≡ Some x) (close_bracket outer (whole_of level (tree.element n others last)) i) q))
index_goes outer level n others last i (sign _) x q = q
index_goes outer level n others last i _ x q = q

name_goes : (outer : List Around) (level : Level) (n : Named) (i : ℕ) (t : Token) (x : Partial) →
    behind_index outer level n tree.none n.at i t ≡ Some x → behind_name outer level n i t ≡ Some x
name_goes outer level n i (sign signs.OpenParenthesis) x q =
    absurd (none_some (subst (λ o. o ≡ Some x) (close_parenthesis outer (whole_of level (tree.element n tree.none n.at)) i) q))
name_goes outer level n i (sign _) x q = q
name_goes outer level n i _ x q = q

call_goes : (outer : List Around) (level : Level) (n : Named) (i : ℕ) (t : Token) (x : Partial) →
    begin_test (around (argument n tree.none) level ∷ outer) no_tests i t ≡ Some x → behind_call outer level n i t ≡ Some x
call_goes outer level n i (sign signs.CloseParenthesis) x q = absurd (none_some q)
call_goes outer level n i (sign _) x q = q
call_goes outer level n i _ x q = q

index_turns : (outer : List Around) (level : Level) (n : Named) (others : Expressions) (last : ℕ) {e : Expression} {all rest : List Numbered} →
    FromIndices level outer n others last e all rest →
    Turns (behind_index outer level n others last) (value_in outer level (Some (tree.element n others last))) e all rest
index_turns outer level n others last (index_goes_on d k) = goes _ refl (split_expression d (closes (closes_index k)))
index_turns outer level n others last (indices_end k) =
    further (index_goes outer level n others last) (go_on_turns level.multiplied (tree.element n others last) k)

call_turns : (outer : List Around) (level : Level) (n : Named) {arguments : Expressions} {last : ℕ} {e : Expression} {all more rest : List Numbered}
    (value : Option Expression) → AreArguments arguments last all more →
    FromTerm level.tests level.compared level.added outer (joined level.multiplied (tree.call n arguments last)) e more rest →
    Turns (behind_call outer level n) value e all rest
call_turns outer level n value grammar.no_argument k = goes _ refl k
call_turns outer level n value (grammar.some_arguments d) k =
    let a = split_arguments {level = level} {outer = outer} {name = n} tree.none d k in
    let s = split_expression {outer = around (argument n tree.none) level ∷ outer} a.spelled (closes a.behind) in
    further (call_goes outer level n) (test_turns (around (argument n tree.none) level ∷ outer) no_tests value s.spelled s.behind)

name_turns : (outer : List Around) (level : Level) (n : Named) {e : Expression} {all rest : List Numbered} →
    FromName outer level n e all rest → Turns (behind_name outer level n) (value_in outer level (Some (tree.element n tree.none n.at))) e all rest
name_turns outer level n (an_element k) = further (name_goes outer level n) (index_turns outer level n tree.none n.at k)
name_turns outer level n (a_call k) = goes _ refl k

turns_at : (outer : List Around) (level : Level) (place : Place) {e : Expression} {all rest : List Numbered} →
    CompletesAt outer level place e all rest → Turns (moved outer level place) (value_in outer level (operand_at place)) e all rest
turns_at outer level at_test s = test_turns outer level.tests _ s.spelled s.behind
turns_at outer level at_factor s = begin_turns outer level _ s.spelled s.behind
turns_at outer level (after_name n) k = name_turns outer level n k
turns_at outer level (after_index n others last) k = index_turns outer level n others last k
turns_at outer level (after_call n) k = call_turns outer level n _ k.spelled k.behind
turns_at outer level (after_operand operand) k = go_on_turns level.multiplied operand k

-- what completes an expression begins with a token that can stand there, unless the expression has ended
pub turns : (x : Partial) {e : Expression} {all rest : List Numbered} → Completes x e all rest → Turns (partial_with x) (value_of x) e all rest
turns x k = turns_at x.outer x.level x.place k
