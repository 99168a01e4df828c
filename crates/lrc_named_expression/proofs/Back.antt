-- Where a token can stand, it and what completes the expression behind it complete the expression in front of it.
use Rattle.std.proofs.Common.{◌≡◌, ℕ, List, [], ◌∷◌, Option, Some, None, refl, sym, subst}
use Rattle.lrc_program.specs.declared.Operator.{Operator}
use Rattle.lrc_named_tokens.specs.declared.token.Keyword.{Keyword}
use Rattle.lrc_named_tokens.specs.declared.token.Keyword.TheVariants as keywords
use Rattle.lrc_named_tokens.specs.declared.token.Sign.{Sign}
use Rattle.lrc_named_tokens.specs.declared.token.Sign.TheVariants as signs
use Rattle.lrc_named_tokens.specs.Token.{Token, number, name, keyword, sign, finish}
use Rattle.lrc_named_tree.specs.Tree.{Named, Expression, Expressions}
use Rattle.lrc_named_tree.specs.Tree as tree
use Rattle.lrc_named_tree.specs.Grammar.{Numbered, on, named, JoinsFactors, times, over, modulo, JoinsTerms, plus, minus}
use Rattle.lrc_named_tree.specs.Grammar.{Compares, equal, not_equal, less, less_or_equal, greater, greater_or_equal}
use Rattle.lrc_named_tree.specs.Grammar as grammar
use Rattle.lrc_named_tree.specs.Grammar.{IsFactor, IsExpression, AreSeparate, the_last, one_of, IsTerm, term, IsSum, sum}
use Rattle.lrc_named_expression.specs.Link.{Link, factors, terms, sums, all_hold, one_holds, link_of}
use Rattle.lrc_named_expression.specs.Partial.{Pending, Tests, Level, Opening, group, argument, index, Around, Place, Partial}
use Rattle.lrc_named_expression.specs.Partial.{at_test, at_factor, after_name, after_index, after_call, after_operand, no_tests, bare, nothing}
use Rattle.lrc_named_expression.specs.Partial.{append, push, joined, negated, joined_both, sum_of, both_of, whole_of, waiting}
use Rattle.lrc_named_expression.specs.Partial.{compared_with, linked}
use Rattle.lrc_named_expression.specs.Partial.{join_or_close, closed, close, go_on, begin, begin_test, behind_index, behind_name, behind_call}
use Rattle.lrc_named_expression.specs.Partial.{moved, partial_with, operand_at, value_in, value_of}
use Rattle.lrc_named_expression.proofs.Options.{none_some, some_same}
use Rattle.lrc_named_expression.proofs.From.{around, FromTerm, term_goes_on, term_ends, sum_goes_on, sum_ends, FromComparison, compares, comparison_ends}
use Rattle.lrc_named_expression.proofs.From.{FromBoth, both_goes_on, both_ends, either_goes_on, either_ends, FromValue, closes, is_all}
use Rattle.lrc_named_expression.proofs.From.{FromClosed, closes_group, closes_call, next_argument, closes_index, FromIndices, index_goes_on, indices_end}
use Rattle.lrc_named_expression.proofs.From.{Starts, StartsTest, FromCall, FromName, an_element, a_call, GoesOn, CompletesAt, Completes}
use Rattle.lrc_named_expression.proofs.From.{split_expression, ends_term, join_sum, join_test, join_both, join_expression, join_indices, append_push}

-- What each joins is what some sign joins.
data LinkIs : Token → Link → Type 0 where
  factor_sign : {mark : Sign} {o : Operator} → JoinsFactors mark o → LinkIs (sign mark) (factors o)
  term_sign : {mark : Sign} {o : Operator} → JoinsTerms mark o → LinkIs (sign mark) (terms o)
  sum_sign : {mark : Sign} {o : Operator} → Compares mark o → LinkIs (sign mark) (sums o)
  and_word : LinkIs (keyword keywords.And) all_hold
  or_word : LinkIs (keyword keywords.Or) one_holds

-- a token joins what its link says, or it joins nothing
data Linking : Token → Option Link → Type 0 where
  joins : {t : Token} {link : Link} → LinkIs t link → Linking t (Some link)
  joins_none : {t : Token} → Linking t None

linking_sign : (mark : Sign) → Linking (sign mark) (link_of (sign mark))
linking_sign signs.Star = joins (factor_sign times)
linking_sign signs.Slash = joins (factor_sign over)
linking_sign signs.Percent = joins (factor_sign modulo)
linking_sign signs.Plus = joins (term_sign plus)
linking_sign signs.Minus = joins (term_sign minus)
linking_sign signs.Equal = joins (sum_sign equal)
linking_sign signs.NotEqual = joins (sum_sign not_equal)
linking_sign signs.Less = joins (sum_sign less)
linking_sign signs.LessOrEqual = joins (sum_sign less_or_equal)
linking_sign signs.Greater = joins (sum_sign greater)
linking_sign signs.GreaterOrEqual = joins (sum_sign greater_or_equal)
linking_sign _ = joins_none

linking_keyword : (word : Keyword) → Linking (keyword word) (link_of (keyword word))
linking_keyword keywords.And = joins and_word
linking_keyword keywords.Or = joins or_word
linking_keyword _ = joins_none

linking : (t : Token) → Linking t (link_of t)
linking (sign mark) = linking_sign mark
linking (keyword word) = linking_keyword word
linking _ = joins_none

at_same : {x y : Partial} (e : Expression) (all rest : List Numbered) → Some x ≡ Some y → Completes y e all rest → Completes x e all rest
at_same e all rest q k = subst (λ x. Completes x e all rest) (sym (some_same q)) k

-- ---- behind an operand

not_compared : {tests : Tests} {p : Pending} {outer : List Around} {s e : Expression} {all rest : List Numbered} →
    FromComparison tests (Some p) outer s e all rest →
    FromBoth tests.either outer (joined_both tests.both (negated tests.negations (joined (Some p) s))) e all rest
not_compared (comparison_ends k) = k

compare_back : (outer : List Around) (tests : Tests) (compared : Option Pending) (left : Expression) {o : Operator} {mark : Sign} {i : ℕ} {x : Partial}
    {e : Expression} {all rest : List Numbered} → Compares mark o → compared_with outer tests compared left o ≡ Some x → Completes x e all rest →
    FromComparison tests compared outer left e (on i (sign mark) ∷ all) rest
compare_back outer tests None left {o} {e = e} {all = all} {rest = rest} j q k =
    let s : Starts outer (record { tests = tests; compared = waiting left o; added = None; multiplied = None }) e all rest = at_same _ _ _ q k in
    let w = join_sum s.spelled s.behind in
    compares j w.spelled (not_compared w.behind)
compare_back outer tests (Some p) left j q k = absurd (none_some q)

link_back : (outer : List Around) (level : Level) (operand : Expression) {i : ℕ} {t : Token} {link : Link} {x : Partial} {e : Expression}
    {all rest : List Numbered} → LinkIs t link → linked link outer level operand ≡ Some x → Completes x e all rest →
    GoesOn outer level operand e (on i t ∷ all) rest
link_back outer level operand {e = e} {all = all} {rest = rest} (factor_sign {o = o} j) q k =
    let s : Starts outer (record { tests = level.tests; compared = level.compared; added = level.added; multiplied = waiting (joined level.multiplied operand) o }) e all rest =
    at_same _ _ _ q k in
    term_goes_on j s.spelled s.behind
link_back outer level operand {e = e} {all = all} {rest = rest} (term_sign {o = o} j) q k =
    let s : Starts outer (record { tests = level.tests; compared = level.compared; added = waiting (sum_of level operand) o; multiplied = None }) e all rest =
    at_same _ _ _ q k in
    let t = ends_term s.behind in
    term_ends (sum_goes_on j (term s.spelled t.others) t.behind)
link_back outer level operand (sum_sign j) q k = term_ends (sum_ends (compare_back outer level.tests level.compared (sum_of level operand) j q k))
link_back outer level operand {e = e} {all = all} {rest = rest} and_word q k =
    let s : StartsTest outer (record { either = level.tests.either; both = Some (both_of level operand); negations = [] }) e all rest = at_same _ _ _ q k in
    term_ends (sum_ends (comparison_ends (both_goes_on s.spelled s.behind)))
link_back outer level operand {e = e} {all = all} {rest = rest} or_word q k =
    let s : StartsTest outer (record { either = Some (whole_of level operand); both = None; negations = [] }) e all rest = at_same _ _ _ q k in
    let b = join_both (Some (whole_of level operand)) s in
    term_ends (sum_ends (comparison_ends (both_ends (either_goes_on b.spelled b.behind))))

unclosed : {outer : List Around} {opening : Opening} {level : Level} {inside e : Expression} {all rest : List Numbered} →
    FromValue (around opening level ∷ outer) inside e all rest → FromClosed opening level outer inside e all rest
unclosed (closes k) = k

closed_back : (outer : List Around) (level : Level) (opening : Opening) (inside : Expression) {i : ℕ} (mark : Sign) {x : Partial} {e : Expression}
    {all rest : List Numbered} → closed outer level opening inside i (sign mark) ≡ Some x → Completes x e all rest →
    FromClosed opening level outer inside e (on i (sign mark) ∷ all) rest
closed_back outer level (group opens) inside signs.CloseParenthesis q k = closes_group (at_same _ _ _ q k)
closed_back outer level (argument n others) inside signs.CloseParenthesis q k = closes_call (at_same _ _ _ q k)
closed_back outer level (argument n others) inside signs.Comma {e = e} {all = all} {rest = rest} q k =
    let s : StartsTest (around (argument n (push others inside)) level ∷ outer) no_tests e all rest = at_same _ _ _ q k in
    let w = join_expression s in
    next_argument w.spelled (unclosed w.behind)
closed_back outer level (index n others) inside signs.CloseBracket q k = closes_index (at_same _ _ _ q k)
closed_back outer level (group opens) inside _ q k = absurd (none_some q)
closed_back outer level (argument n others) inside _ q k = absurd (none_some q)
closed_back outer level (index n others) inside _ q k = absurd (none_some q)

closed_by_sign : (outer : List Around) (level : Level) (opening : Opening) (inside : Expression) {i : ℕ} (t : Token) {x : Partial} {e : Expression}
    {all rest : List Numbered} → closed outer level opening inside i t ≡ Some x → Completes x e all rest →
    FromClosed opening level outer inside e (on i t ∷ all) rest
closed_by_sign outer level opening inside (sign mark) q k = closed_back outer level opening inside mark q k
closed_by_sign outer level opening inside _ q k = absurd (none_some q)

close_back : (outer : List Around) (inside : Expression) {i : ℕ} (t : Token) {x : Partial} {e : Expression} {all rest : List Numbered} →
    close outer inside i t ≡ Some x → Completes x e all rest → FromValue outer inside e (on i t ∷ all) rest
close_back [] inside t q k = absurd (none_some q)
close_back (a ∷ outer) inside t q k = closes (closed_by_sign outer a.level a.opening inside t q k)

ended_with : {outer : List Around} (level : Level) (operand : Expression) {e : Expression} {all rest : List Numbered} → FromValue outer (whole_of level operand) e all rest →
    GoesOn outer level operand e all rest
ended_with level operand k = term_ends (sum_ends (comparison_ends (both_ends (either_ends k))))

go_on_with : (outer : List Around) (level : Level) (operand : Expression) {i : ℕ} {t : Token} {link : Option Link} {x : Partial} {e : Expression}
    {all rest : List Numbered} → Linking t link → join_or_close link outer level operand i t ≡ Some x → Completes x e all rest →
    GoesOn outer level operand e (on i t ∷ all) rest
go_on_with outer level operand (joins is) q k = link_back outer level operand is q k
go_on_with outer level operand {t = t} joins_none q k = ended_with level operand (close_back outer (whole_of level operand) t q k)

go_on_back : (outer : List Around) (level : Level) (operand : Expression) {i : ℕ} (t : Token) {x : Partial} {e : Expression} {all rest : List Numbered} →
    go_on outer level operand i t ≡ Some x → Completes x e all rest → GoesOn outer level operand e (on i t ∷ all) rest
go_on_back outer level operand t q k = go_on_with outer level operand (linking t) q k

-- ---- where an operand has to begin

-- a name, and what completes an expression behind it
named_starts : {outer : List Around} {level : Level} {i : ℕ} {bytes : List ℕ} {e : Expression} {all rest : List Numbered} →
    FromName outer level (named i bytes) e all rest → Starts outer level e (on i (name bytes) ∷ all) rest
named_starts (an_element k) =
    let r = join_indices k in
    record { first = _; more = _; spelled = grammar.an_element r.spelled; behind = r.behind }
named_starts (a_call k) = record { first = _; more = _; spelled = grammar.a_call k.spelled; behind = k.behind }

enclose_closed : {outer : List Around} {level : Level} {i : ℕ} {inside e : Expression} {all more rest : List Numbered} →
    IsExpression inside all more → FromClosed (group i) level outer inside e more rest →
    Starts outer level e (on i (sign signs.OpenParenthesis) ∷ all) rest
enclose_closed d (closes_group k) = record { first = _; more = _; spelled = grammar.parentheses d; behind = k }

begin_back : (outer : List Around) (level : Level) (i : ℕ) (t : Token) {x : Partial} {e : Expression} {all rest : List Numbered} →
    begin outer level i t ≡ Some x → Completes x e all rest → Starts outer level e (on i t ∷ all) rest
begin_back outer level i (number n) q k = record { first = _; more = _; spelled = grammar.a_number; behind = at_same _ _ _ q k }
begin_back outer level i (name bytes) q k = named_starts (at_same _ _ _ q k)
begin_back outer level i (keyword keywords.Me) q k = record { first = _; more = _; spelled = grammar.me; behind = at_same _ _ _ q k }
begin_back outer level i (keyword keywords.Nodes) q k = record { first = _; more = _; spelled = grammar.nodes; behind = at_same _ _ _ q k }
begin_back outer level i (sign signs.OpenParenthesis) {e = e} {all = all} {rest = rest} q k =
    let s : StartsTest (around (group i) level ∷ outer) no_tests e all rest = at_same _ _ _ q k in
    let w = join_expression s in
    enclose_closed w.spelled (unclosed w.behind)
begin_back outer level i (keyword _) q k = absurd (none_some q)
begin_back outer level i (sign _) q k = absurd (none_some q)
begin_back outer level i finish q k = absurd (none_some q)

begin_test_back : (outer : List Around) (tests : Tests) (i : ℕ) (t : Token) {x : Partial} {e : Expression} {all rest : List Numbered} →
    begin_test outer tests i t ≡ Some x → Completes x e all rest → StartsTest outer tests e (on i t ∷ all) rest
begin_test_back outer tests i (keyword keywords.Not) {e = e} {all = all} {rest = rest} q k =
    let s : StartsTest outer (record { either = tests.either; both = tests.both; negations = i ∷ tests.negations }) e all rest = at_same _ _ _ q k in
    record { first = _; more = _; spelled = grammar.negation s.spelled; behind = s.behind }
begin_test_back outer tests i (keyword word) q k =
    let s = begin_back outer (bare tests) i (keyword word) q k in
    join_test s.spelled s.behind
begin_test_back outer tests i t q k =
    let s = begin_back outer (bare tests) i t q k in
    join_test s.spelled s.behind

-- ---- behind a name

index_closed : {outer : List Around} {level : Level} {n : Named} {others : Expressions} {last i : ℕ} {inside e : Expression} {all more rest : List Numbered} →
    IsExpression inside all more → FromClosed (index n others) level outer inside e more rest →
    FromIndices level outer n others last e (on i (sign signs.OpenBracket) ∷ all) rest
index_closed d (closes_index k) = index_goes_on d k

index_back : (outer : List Around) (level : Level) (n : Named) (others : Expressions) (last i : ℕ) (t : Token) {x : Partial} {e : Expression}
    {all rest : List Numbered} → behind_index outer level n others last i t ≡ Some x → Completes x e all rest →
    FromIndices level outer n others last e (on i t ∷ all) rest
index_back outer level n others last i (sign signs.OpenBracket) {e = e} {all = all} {rest = rest} q k =
    let s : StartsTest (around (index n others) level ∷ outer) no_tests e all rest = at_same _ _ _ q k in
    let w = join_expression s in
    index_closed w.spelled (unclosed w.behind)
index_back outer level n others last i (sign mark) q k = indices_end (go_on_back outer level (tree.element n others last) (sign mark) q k)
index_back outer level n others last i t q k = indices_end (go_on_back outer level (tree.element n others last) t q k)

-- arguments, and what comes behind the `)` of their call
record JoinsArguments (level : Level) (outer : List Around) (n : Named) (others : Expressions) (e : Expression) (all rest : List Numbered) : Type 0 where
  arguments : Expressions
  last : ℕ
  more : List Numbered
  spelled : AreSeparate arguments all (on last (sign signs.CloseParenthesis) ∷ more)
  behind : FromTerm level.tests level.compared level.added outer (joined level.multiplied (tree.call n (append others arguments) last)) e more rest

join_arguments : {level : Level} {outer : List Around} {n : Named} {others : Expressions} {first e : Expression} {all more rest : List Numbered} →
    IsExpression first all more → FromClosed (argument n others) level outer first e more rest → JoinsArguments level outer n others e all rest
join_arguments d (closes_call k) = record { arguments = _; last = _; more = _; spelled = the_last d; behind = k }
join_arguments {rest = rest} d (next_argument {name = n} {others = others} {level = level} {outer = outer} {inside = inside} {e = e} d2 k) =
    let r = join_arguments d2 k in
    record {
      arguments = tree.more inside r.arguments;
      last = r.last;
      more = r.more;
      spelled = one_of d r.spelled;
      behind = subst (λ some. FromTerm level.tests level.compared level.added outer (joined level.multiplied (tree.call n some r.last)) e r.more rest)
          (append_push others inside r.arguments) r.behind;
    }

first_argument : {outer : List Around} {level : Level} {n : Named} {e : Expression} {all rest : List Numbered} →
    StartsTest (around (argument n tree.none) level ∷ outer) no_tests e all rest → FromCall outer level n e all rest
first_argument s =
    let w = join_expression s in
    let r = join_arguments w.spelled (unclosed w.behind) in
    record { arguments = _; last = _; more = _; spelled = grammar.some_arguments r.spelled; behind = r.behind }

call_back : (outer : List Around) (level : Level) (n : Named) (i : ℕ) (t : Token) {x : Partial} {e : Expression} {all rest : List Numbered} →
    behind_call outer level n i t ≡ Some x → Completes x e all rest → FromCall outer level n e (on i t ∷ all) rest
call_back outer level n i (sign signs.CloseParenthesis) q k =
    record { arguments = _; last = _; more = _; spelled = grammar.no_argument; behind = at_same _ _ _ q k }
call_back outer level n i (sign mark) q k = first_argument (begin_test_back (around (argument n tree.none) level ∷ outer) no_tests i (sign mark) q k)
call_back outer level n i t q k = first_argument (begin_test_back (around (argument n tree.none) level ∷ outer) no_tests i t q k)

name_back : (outer : List Around) (level : Level) (n : Named) (i : ℕ) (t : Token) {x : Partial} {e : Expression} {all rest : List Numbered} →
    behind_name outer level n i t ≡ Some x → Completes x e all rest → FromName outer level n e (on i t ∷ all) rest
name_back outer level n i (sign signs.OpenParenthesis) q k = a_call (at_same _ _ _ q k)
name_back outer level n i (sign mark) q k = an_element (index_back outer level n tree.none n.at i (sign mark) q k)
name_back outer level n i t q k = an_element (index_back outer level n tree.none n.at i t q k)

back_at : (outer : List Around) (level : Level) (place : Place) (i : ℕ) (t : Token) {x : Partial} (e : Expression) (all rest : List Numbered) →
    moved outer level place i t ≡ Some x → Completes x e all rest → CompletesAt outer level place e (on i t ∷ all) rest
back_at outer level at_test i t e all rest q k = begin_test_back outer level.tests i t q k
back_at outer level at_factor i t e all rest q k = begin_back outer level i t q k
back_at outer level (after_name n) i t e all rest q k = name_back outer level n i t q k
back_at outer level (after_index n others last) i t e all rest q k = index_back outer level n others last i t q k
back_at outer level (after_call n) i t e all rest q k = call_back outer level n i t q k
back_at outer level (after_operand operand) i t e all rest q k = go_on_back outer level operand t q k

pub back : (x : Partial) (i : ℕ) (t : Token) {y : Partial} (e : Expression) (all rest : List Numbered) →
    partial_with x i t ≡ Some y → Completes y e all rest → Completes x e (on i t ∷ all) rest
back x i t e all rest q k = back_at x.outer x.level x.place i t e all rest q k

-- ---- wholes

whole_at : (outer : List Around) (level : Level) (operand e : Expression) (all : List Numbered) →
    value_in outer level (Some operand) ≡ Some e → GoesOn outer level operand e all all
whole_at [] level operand e all q = ended_with level operand (is_all (some_same q) refl)
whole_at (a ∷ outer) level operand e all q = absurd (none_some q)

nowhere_whole : (outer : List Around) (level : Level) {e : Expression} → value_in outer level None ≡ Some e → ⊥
nowhere_whole [] level q = none_some q
nowhere_whole (a ∷ outer) level q = none_some q

ended_at : (outer : List Around) (level : Level) (place : Place) (e : Expression) (all : List Numbered) →
    value_in outer level (operand_at place) ≡ Some e → CompletesAt outer level place e all all
ended_at outer level at_test e all q = absurd (nowhere_whole outer level q)
ended_at outer level at_factor e all q = absurd (nowhere_whole outer level q)
ended_at outer level (after_name n) e all q = an_element (indices_end (whole_at outer level (tree.element n tree.none n.at) e all q))
ended_at outer level (after_index n others last) e all q = indices_end (whole_at outer level (tree.element n others last) e all q)
ended_at outer level (after_call n) e all q = absurd (nowhere_whole outer level q)
ended_at outer level (after_operand operand) e all q = whole_at outer level operand e all q

-- an expression that may end is complete
pub ended : (x : Partial) (e : Expression) (all : List Numbered) → value_of x ≡ Some e → Completes x e all all
ended x e all q = ended_at x.outer x.level x.place e all q

is_whole : {value e : Expression} {all more rest : List Numbered} → IsExpression value all more → FromValue [] value e more rest → IsExpression e all rest
is_whole {e = e} {all = all} {more = more} d (is_all q r) = subst (λ m. IsExpression e all m) r (subst (λ v. IsExpression v all more) q d)

-- what completes nothing is an expression
pub whole : {e : Expression} {all rest : List Numbered} → Completes nothing e all rest → IsExpression e all rest
whole s =
    let w = join_expression s in
    is_whole w.spelled w.behind

pub from_whole : {e : Expression} {all rest : List Numbered} → IsExpression e all rest → Completes nothing e all rest
from_whole d = split_expression d (is_all refl refl)
