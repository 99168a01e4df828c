-- What completes an expression of which some tokens have come.
use Rattle.std.proofs.Common.{◌≡◌, ℕ, List, [], ◌∷◌, Option, None, refl, sym, ap, subst}
use Rattle.lrc_program.specs.declared.Operator.{Operator}
use Rattle.lrc_named_tokens.specs.declared.token.Keyword.TheVariants as keywords
use Rattle.lrc_named_tokens.specs.declared.token.Sign.{Sign}
use Rattle.lrc_named_tokens.specs.declared.token.Sign.TheVariants as signs
use Rattle.lrc_named_tokens.specs.Token.{keyword, sign}
use Rattle.lrc_named_tree.specs.Tree.{Named, Expression, Expressions}
use Rattle.lrc_named_tree.specs.Tree as tree
use Rattle.lrc_named_tree.specs.Grammar.{Numbered, on, JoinsFactors, JoinsTerms, Compares}
use Rattle.lrc_named_tree.specs.Grammar.{IsFactor, AreIndices, no_index, one_index, AreArguments, AreSeparate, the_last, one_of}
use Rattle.lrc_named_tree.specs.Grammar.{IsTerm, term, AreFactors, no_factor, one_factor, IsSum, sum, AreTerms, no_term, one_term}
use Rattle.lrc_named_tree.specs.Grammar.{IsTest, one_sum, comparison, IsBoth, both, AreTests, no_test, one_test}
use Rattle.lrc_named_tree.specs.Grammar.{IsExpression, expression, AreBoths, no_both, one_both}
use Rattle.lrc_named_expression.specs.Partial.{Pending, Tests, Level, Opening, group, argument, index, Around, Place, Partial}
use Rattle.lrc_named_expression.specs.Partial.{at_test, at_factor, after_name, after_index, after_call, after_operand, no_tests}
use Rattle.lrc_named_expression.specs.Partial.{append, push, joined, negated, joined_both, joined_either}

abbrev pub around : Opening → Level → Around
around opening level = record { opening = opening; level = level }

-- The tokens complete an expression, and then come the rest: behind its first factors, a term goes on or ends; behind a
-- term, so does a sum; behind a sum there may be a comparison; behind a test, `and` or `or`; and a whole closes a bracket,
-- ends an argument, or is all.
mutual
  pub data FromTerm : Tests → Option Pending → Option Pending → List Around → Expression → Expression → List Numbered → List Numbered → Type 0 where
    term_goes_on : {tests : Tests} {compared added : Option Pending} {outer : List Around} {left right e : Expression} {at : ℕ} {mark : Sign} {o : Operator}
        {all more rest : List Numbered} →
        JoinsFactors mark o → IsFactor right all more →
        FromTerm tests compared added outer (tree.binary left o right) e more rest →
        FromTerm tests compared added outer left e (on at (sign mark) ∷ all) rest
    term_ends : {tests : Tests} {compared added : Option Pending} {outer : List Around} {t e : Expression} {all rest : List Numbered} →
        FromSum tests compared outer (joined added t) e all rest →
        FromTerm tests compared added outer t e all rest

  pub data FromSum : Tests → Option Pending → List Around → Expression → Expression → List Numbered → List Numbered → Type 0 where
    sum_goes_on : {tests : Tests} {compared : Option Pending} {outer : List Around} {left right e : Expression} {at : ℕ} {mark : Sign} {o : Operator}
        {all more rest : List Numbered} →
        JoinsTerms mark o → IsTerm right all more →
        FromSum tests compared outer (tree.binary left o right) e more rest →
        FromSum tests compared outer left e (on at (sign mark) ∷ all) rest
    sum_ends : {tests : Tests} {compared : Option Pending} {outer : List Around} {s e : Expression} {all rest : List Numbered} →
        FromComparison tests compared outer s e all rest →
        FromSum tests compared outer s e all rest

  pub data FromComparison : Tests → Option Pending → List Around → Expression → Expression → List Numbered → List Numbered → Type 0 where
    compares : {tests : Tests} {outer : List Around} {left right e : Expression} {at : ℕ} {mark : Sign} {o : Operator} {all more rest : List Numbered} →
        Compares mark o → IsSum right all more →
        FromBoth tests.either outer (joined_both tests.both (negated tests.negations (tree.binary left o right))) e more rest →
        FromComparison tests None outer left e (on at (sign mark) ∷ all) rest
    comparison_ends : {tests : Tests} {compared : Option Pending} {outer : List Around} {s e : Expression} {all rest : List Numbered} →
        FromBoth tests.either outer (joined_both tests.both (negated tests.negations (joined compared s))) e all rest →
        FromComparison tests compared outer s e all rest

  pub data FromBoth : Option Expression → List Around → Expression → Expression → List Numbered → List Numbered → Type 0 where
    both_goes_on : {either : Option Expression} {outer : List Around} {left right e : Expression} {at : ℕ} {all more rest : List Numbered} →
        IsTest right all more → FromBoth either outer (tree.both left right) e more rest →
        FromBoth either outer left e (on at (keyword keywords.And) ∷ all) rest
    both_ends : {either : Option Expression} {outer : List Around} {b e : Expression} {all rest : List Numbered} →
        FromEither outer (joined_either either b) e all rest → FromBoth either outer b e all rest

  pub data FromEither : List Around → Expression → Expression → List Numbered → List Numbered → Type 0 where
    either_goes_on : {outer : List Around} {left right e : Expression} {at : ℕ} {all more rest : List Numbered} →
        IsBoth right all more → FromEither outer (tree.either left right) e more rest →
        FromEither outer left e (on at (keyword keywords.Or) ∷ all) rest
    either_ends : {outer : List Around} {v e : Expression} {all rest : List Numbered} → FromValue outer v e all rest → FromEither outer v e all rest

  pub data FromValue : List Around → Expression → Expression → List Numbered → List Numbered → Type 0 where
    closes : {a : Around} {outer : List Around} {inside e : Expression} {all rest : List Numbered} →
        FromClosed a.opening a.level outer inside e all rest → FromValue (a ∷ outer) inside e all rest
    is_all : {value e : Expression} {all rest : List Numbered} → value ≡ e → all ≡ rest → FromValue [] value e all rest

  pub data FromClosed : Opening → Level → List Around → Expression → Expression → List Numbered → List Numbered → Type 0 where
    closes_group : {opens at : ℕ} {level : Level} {outer : List Around} {inside e : Expression} {all rest : List Numbered} →
        FromTerm level.tests level.compared level.added outer (joined level.multiplied (tree.group opens inside at)) e all rest →
        FromClosed (group opens) level outer inside e (on at (sign signs.CloseParenthesis) ∷ all) rest
    closes_call : {at : ℕ} {name : Named} {others : Expressions} {level : Level} {outer : List Around} {inside e : Expression} {all rest : List Numbered} →
        FromTerm level.tests level.compared level.added outer (joined level.multiplied (tree.call name (push others inside) at)) e all rest →
        FromClosed (argument name others) level outer inside e (on at (sign signs.CloseParenthesis) ∷ all) rest
    next_argument : {comma : ℕ} {name : Named} {others : Expressions} {level : Level} {outer : List Around} {inside right e : Expression}
        {all more rest : List Numbered} →
        IsExpression right all more → FromClosed (argument name (push others inside)) level outer right e more rest →
        FromClosed (argument name others) level outer inside e (on comma (sign signs.Comma) ∷ all) rest
    closes_index : {at : ℕ} {name : Named} {others : Expressions} {level : Level} {outer : List Around} {inside e : Expression} {all rest : List Numbered} →
        FromIndices level outer name (push others inside) at e all rest →
        FromClosed (index name others) level outer inside e (on at (sign signs.CloseBracket) ∷ all) rest

  pub data FromIndices : Level → List Around → Named → Expressions → ℕ → Expression → List Numbered → List Numbered → Type 0 where
    index_goes_on : {level : Level} {outer : List Around} {name : Named} {others : Expressions} {last opens at : ℕ} {inside e : Expression}
        {all behind rest : List Numbered} →
        IsExpression inside all (on at (sign signs.CloseBracket) ∷ behind) → FromIndices level outer name (push others inside) at e behind rest →
        FromIndices level outer name others last e (on opens (sign signs.OpenBracket) ∷ all) rest
    indices_end : {level : Level} {outer : List Around} {name : Named} {others : Expressions} {last : ℕ} {e : Expression} {all rest : List Numbered} →
        FromTerm level.tests level.compared level.added outer (joined level.multiplied (tree.element name others last)) e all rest →
        FromIndices level outer name others last e all rest

-- ---- what completes an expression at a place

-- where an operand has to begin
pub record Starts (outer : List Around) (level : Level) (e : Expression) (all rest : List Numbered) : Type 0 where
  pub first : Expression
  pub more : List Numbered
  pub spelled : IsFactor first all more
  pub behind : FromTerm level.tests level.compared level.added outer (joined level.multiplied first) e more rest

-- where an operand or a `not` has to begin
pub record StartsTest (outer : List Around) (tests : Tests) (e : Expression) (all rest : List Numbered) : Type 0 where
  pub first : Expression
  pub more : List Numbered
  pub spelled : IsTest first all more
  pub behind : FromBoth tests.either outer (joined_both tests.both (negated tests.negations first)) e more rest

-- behind the `(` of a call
pub record FromCall (outer : List Around) (level : Level) (name : Named) (e : Expression) (all rest : List Numbered) : Type 0 where
  pub arguments : Expressions
  pub last : ℕ
  pub more : List Numbered
  pub spelled : AreArguments arguments last all more
  pub behind : FromTerm level.tests level.compared level.added outer (joined level.multiplied (tree.call name arguments last)) e more rest

-- behind a name
pub data FromName : List Around → Level → Named → Expression → List Numbered → List Numbered → Type 0 where
  an_element : {outer : List Around} {level : Level} {name : Named} {e : Expression} {all rest : List Numbered} →
      FromIndices level outer name Expressions.none name.at e all rest → FromName outer level name e all rest
  a_call : {outer : List Around} {level : Level} {name : Named} {e : Expression} {opens : ℕ} {all rest : List Numbered} →
      FromCall outer level name e all rest → FromName outer level name e (on opens (sign signs.OpenParenthesis) ∷ all) rest

-- behind an operand
abbrev pub GoesOn : List Around → Level → Expression → Expression → List Numbered → List Numbered → Type 0
GoesOn outer level operand e all rest = FromTerm level.tests level.compared level.added outer (joined level.multiplied operand) e all rest

abbrev pub CompletesAt : List Around → Level → Place → Expression → List Numbered → List Numbered → Type 0
CompletesAt outer level at_test e all rest = StartsTest outer level.tests e all rest
CompletesAt outer level at_factor e all rest = Starts outer level e all rest
CompletesAt outer level (after_name name) e all rest = FromName outer level name e all rest
CompletesAt outer level (after_index name others last) e all rest = FromIndices level outer name others last e all rest
CompletesAt outer level (after_call name) e all rest = FromCall outer level name e all rest
CompletesAt outer level (after_operand operand) e all rest = GoesOn outer level operand e all rest

-- these tokens, up to the rest, complete what has come to this expression
abbrev pub Completes : Partial → Expression → List Numbered → List Numbered → Type 0
Completes x e all rest = CompletesAt x.outer x.level x.place e all rest

-- ---- a tree's first factor, and what comes behind it

pub factors_from : {tests : Tests} {compared added : Option Pending} {outer : List Around} {left t e : Expression} {all more rest : List Numbered} →
    AreFactors left t all more → FromTerm tests compared added outer t e more rest → FromTerm tests compared added outer left e all rest
factors_from no_factor k = k
factors_from (one_factor j right others) k = term_goes_on j right (factors_from others k)

pub terms_from : {tests : Tests} {compared : Option Pending} {outer : List Around} {left t e : Expression} {all more rest : List Numbered} →
    AreTerms left t all more → FromSum tests compared outer t e more rest → FromSum tests compared outer left e all rest
terms_from no_term k = k
terms_from (one_term j right others) k = sum_goes_on j right (terms_from others k)

pub tests_from : {either : Option Expression} {outer : List Around} {left t e : Expression} {all more rest : List Numbered} →
    AreTests left t all more → FromBoth either outer t e more rest → FromBoth either outer left e all rest
tests_from no_test k = k
tests_from (one_test right others) k = both_goes_on right (tests_from others k)

pub boths_from : {outer : List Around} {left t e : Expression} {all more rest : List Numbered} →
    AreBoths left t all more → FromEither outer t e more rest → FromEither outer left e all rest
boths_from no_both k = k
boths_from (one_both right others) k = either_goes_on right (boths_from others k)

pub record Splits (tests : Tests) (compared added : Option Pending) (outer : List Around) (e : Expression) (all rest : List Numbered) : Type 0 where
  pub first : Expression
  pub more : List Numbered
  pub spelled : IsFactor first all more
  pub behind : FromTerm tests compared added outer first e more rest

pub split_term : {tests : Tests} {compared added : Option Pending} {outer : List Around} {t e : Expression} {all more rest : List Numbered} → IsTerm t all more
    → FromTerm tests compared added outer t e more rest → Splits tests compared added outer e all rest
split_term (term first others) k = record { first = _; more = _; spelled = first; behind = factors_from others k }

pub split_sum : {tests : Tests} {compared : Option Pending} {outer : List Around} {s e : Expression} {all more rest : List Numbered} → IsSum s all more
    → FromSum tests compared outer s e more rest → Splits tests compared None outer e all rest
split_sum (sum first others) k = split_term first (term_ends (terms_from others k))

pub split_expression : {outer : List Around} {value e : Expression} {all more rest : List Numbered} → IsExpression value all more
    → FromValue outer value e more rest → StartsTest outer no_tests e all rest
split_expression (expression (both first others) more) k =
    record { first = _; more = _; spelled = first; behind = tests_from others (both_ends (boths_from more (either_ends k))) }

pub append_none : (some : Expressions) → append some tree.none ≡ some
append_none tree.none = refl
append_none (tree.more first some) = ap (tree.more first) (append_none some)

pub append_push : (some : Expressions) (e : Expression) (others : Expressions) → append (push some e) others ≡ append some (tree.more e others)
append_push tree.none e others = refl
append_push (tree.more first some) e others = ap (tree.more first) (append_push some e others)

pub split_indices : {level : Level} {outer : List Around} {name : Named} (others : Expressions) {indices : Expressions} {at last : ℕ} {e : Expression}
    {all more rest : List Numbered} → AreIndices indices at last all more →
    FromTerm level.tests level.compared level.added outer (joined level.multiplied (tree.element name (append others indices) last)) e more rest →
    FromIndices level outer name others at e all rest
split_indices {level} {outer} {name} others {e = e} {rest = rest} (no_index {at = at} {rest = all}) k =
    indices_end (subst (λ some. FromTerm level.tests level.compared level.added outer (joined level.multiplied (tree.element name some at)) e all rest)
    (append_none others) k)
split_indices {level} {outer} {name} others {e = e} {more = more} {rest = rest} (one_index {last = last} {e = inside} {others = indices} d k2) k =
    index_goes_on d (split_indices (push others inside) k2
    (subst (λ some. FromTerm level.tests level.compared level.added outer (joined level.multiplied (tree.element name some last)) e more rest)
    (sym (append_push others inside indices)) k))

-- the first of some arguments, and what comes behind it
pub record SplitsArguments (level : Level) (outer : List Around) (name : Named) (others : Expressions) (e : Expression) (all rest : List Numbered) : Type 0 where
  pub first : Expression
  pub more : List Numbered
  pub spelled : IsExpression first all more
  pub behind : FromClosed (argument name others) level outer first e more rest

pub split_arguments : {level : Level} {outer : List Around} {name : Named} (others : Expressions) {arguments : Expressions} {last : ℕ} {e : Expression}
    {all more rest : List Numbered} → AreSeparate arguments all (on last (sign signs.CloseParenthesis) ∷ more) →
    FromTerm level.tests level.compared level.added outer (joined level.multiplied (tree.call name (append others arguments) last)) e more rest →
    SplitsArguments level outer name others e all rest
split_arguments others (the_last d) k = record { first = _; more = _; spelled = d; behind = closes_call k }
split_arguments {level} {outer} {name} others {last = last} {e = e} {more = more} {rest = rest} (one_of {e = inside} {others = arguments} d k2) k =
    let s = split_arguments {level = level} {outer = outer} {name = name} (push others inside) k2
    (subst (λ some. FromTerm level.tests level.compared level.added outer (joined level.multiplied (tree.call name some last)) e more rest)
    (sym (append_push others inside arguments)) k) in
    record { first = _; more = _; spelled = d; behind = next_argument s.spelled s.behind }

-- ---- and back: a tree from its first factor and what comes behind it

pub record TermEnds (tests : Tests) (compared added : Option Pending) (outer : List Around) (left e : Expression) (all rest : List Numbered) : Type 0 where
  pub whole : Expression
  pub more : List Numbered
  pub others : AreFactors left whole all more
  pub behind : FromSum tests compared outer (joined added whole) e more rest

pub ends_term : {tests : Tests} {compared added : Option Pending} {outer : List Around} {left e : Expression} {all rest : List Numbered} →
    FromTerm tests compared added outer left e all rest → TermEnds tests compared added outer left e all rest
ends_term (term_goes_on j right k) =
    let r = ends_term k in
    record { whole = r.whole; more = r.more; others = one_factor j right r.others; behind = r.behind }
ends_term (term_ends k) = record { whole = _; more = _; others = no_factor; behind = k }

pub record SumEnds (tests : Tests) (compared : Option Pending) (outer : List Around) (left e : Expression) (all rest : List Numbered) : Type 0 where
  pub whole : Expression
  pub more : List Numbered
  pub others : AreTerms left whole all more
  pub behind : FromComparison tests compared outer whole e more rest

pub ends_sum : {tests : Tests} {compared : Option Pending} {outer : List Around} {left e : Expression} {all rest : List Numbered} →
    FromSum tests compared outer left e all rest → SumEnds tests compared outer left e all rest
ends_sum (sum_goes_on j right k) =
    let r = ends_sum k in
    record { whole = r.whole; more = r.more; others = one_term j right r.others; behind = r.behind }
ends_sum (sum_ends k) = record { whole = _; more = _; others = no_term; behind = k }

pub record BothEnds (either : Option Expression) (outer : List Around) (left e : Expression) (all rest : List Numbered) : Type 0 where
  pub whole : Expression
  pub more : List Numbered
  pub others : AreTests left whole all more
  pub behind : FromEither outer (joined_either either whole) e more rest

pub ends_both : {either : Option Expression} {outer : List Around} {left e : Expression} {all rest : List Numbered} →
    FromBoth either outer left e all rest → BothEnds either outer left e all rest
ends_both (both_goes_on right k) =
    let r = ends_both k in
    record { whole = r.whole; more = r.more; others = one_test right r.others; behind = r.behind }
ends_both (both_ends k) = record { whole = _; more = _; others = no_test; behind = k }

pub record EitherEnds (outer : List Around) (left e : Expression) (all rest : List Numbered) : Type 0 where
  pub whole : Expression
  pub more : List Numbered
  pub others : AreBoths left whole all more
  pub behind : FromValue outer whole e more rest

pub ends_either : {outer : List Around} {left e : Expression} {all rest : List Numbered} → FromEither outer left e all rest → EitherEnds outer left e all rest
ends_either (either_goes_on right k) =
    let r = ends_either k in
    record { whole = r.whole; more = r.more; others = one_both right r.others; behind = r.behind }
ends_either (either_ends k) = record { whole = _; more = _; others = no_both; behind = k }

pub record JoinsSum (tests : Tests) (compared : Option Pending) (outer : List Around) (e : Expression) (all rest : List Numbered) : Type 0 where
  pub whole : Expression
  pub more : List Numbered
  pub spelled : IsSum whole all more
  pub behind : FromComparison tests compared outer whole e more rest

pub join_sum : {tests : Tests} {compared : Option Pending} {outer : List Around} {first e : Expression} {all more rest : List Numbered} →
    IsFactor first all more → FromTerm tests compared None outer first e more rest → JoinsSum tests compared outer e all rest
join_sum first k =
    let t = ends_term k in
    let s = ends_sum t.behind in
    record { whole = _; more = _; spelled = sum (term first t.others) s.others; behind = s.behind }

join_comparison : {tests : Tests} {outer : List Around} {s e : Expression} {all more rest : List Numbered} →
    IsSum s all more → FromComparison tests None outer s e more rest → StartsTest outer tests e all rest
join_comparison d (compares j right k) = record { first = _; more = _; spelled = comparison d j right; behind = k }
join_comparison d (comparison_ends k) = record { first = _; more = _; spelled = one_sum d; behind = k }

pub join_test : {tests : Tests} {outer : List Around} {first e : Expression} {all more rest : List Numbered} →
    IsFactor first all more → FromTerm tests None None outer first e more rest → StartsTest outer tests e all rest
join_test first k =
    let s = join_sum first k in
    join_comparison s.spelled s.behind

pub record JoinsBoth (either : Option Expression) (outer : List Around) (e : Expression) (all rest : List Numbered) : Type 0 where
  pub whole : Expression
  pub more : List Numbered
  pub spelled : IsBoth whole all more
  pub behind : FromEither outer (joined_either either whole) e more rest

pub join_both : {outer : List Around} (before : Option Expression) {e : Expression} {all rest : List Numbered} →
    StartsTest outer (record { either = before; both = None; negations = [] }) e all rest → JoinsBoth before outer e all rest
join_both before s =
    let t = ends_both s.behind in
    record { whole = _; more = _; spelled = both s.spelled t.others; behind = t.behind }

pub record JoinsWhole (outer : List Around) (e : Expression) (all rest : List Numbered) : Type 0 where
  pub whole : Expression
  pub more : List Numbered
  pub spelled : IsExpression whole all more
  pub behind : FromValue outer whole e more rest

pub join_expression : {outer : List Around} {e : Expression} {all rest : List Numbered} → StartsTest outer no_tests e all rest → JoinsWhole outer e all rest
join_expression s =
    let b = join_both None s in
    let w = ends_either b.behind in
    record { whole = _; more = _; spelled = expression b.spelled w.others; behind = w.behind }

pub record JoinsIndices (level : Level) (outer : List Around) (name : Named) (others : Expressions) (at : ℕ) (e : Expression) (all rest : List Numbered) : Type 0 where
  pub indices : Expressions
  pub last : ℕ
  pub more : List Numbered
  pub spelled : AreIndices indices at last all more
  pub behind : FromTerm level.tests level.compared level.added outer (joined level.multiplied (tree.element name (append others indices) last)) e more rest

pub join_indices : {level : Level} {outer : List Around} {name : Named} {others : Expressions} {at : ℕ} {e : Expression} {all rest : List Numbered} →
    FromIndices level outer name others at e all rest → JoinsIndices level outer name others at e all rest
join_indices {rest = rest} (index_goes_on {level = level} {outer = outer} {name = name} {others = others} {inside = inside} {e = e} d k) =
    let r = join_indices k in
    record {
      indices = tree.more inside r.indices;
      last = r.last;
      more = r.more;
      spelled = one_index d r.spelled;
      behind = subst (λ some. FromTerm level.tests level.compared level.added outer (joined level.multiplied (tree.element name some r.last)) e r.more rest)
          (append_push others inside r.indices) r.behind;
    }
join_indices (indices_end {level = level} {outer = outer} {name = name} {others = others} {last = last} {e = e} {all = all} {rest = rest} k) = record {
  indices = tree.none;
  last = last;
  more = all;
  spelled = no_index;
  behind = subst (λ some. FromTerm level.tests level.compared level.added outer (joined level.multiplied (tree.element name some last)) e all rest)
      (sym (append_none others)) k;
}
