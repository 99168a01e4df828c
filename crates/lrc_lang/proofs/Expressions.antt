-- What completes an expression of which some symbols have come, and that one more symbol takes it one step on.
use Rattle.std.proofs.Common.{◌≡◌, List, [], ◌∷◌, Option, Some, None, option_map, refl, sym, ap, subst}
use Rattle.lrc_lang.specs.declared.token.Keyword.TheVariants.{Me, Nodes}
use Rattle.lrc_lang.specs.declared.token.Sign.TheVariants.{OpenParenthesis, CloseParenthesis}
use Rattle.lrc_program.specs.declared.Operator.{Operator}
use Rattle.lrc_lang.specs.Token.{Token}
use Rattle.lrc_lang.specs.Symbol.{Symbol, number, name, operator, keyword, sign, Names, symbols_after}
use Rattle.lrc_program.specs.Tree.{Expression, binary}
use Rattle.lrc_lang.specs.Grammar.{Joins, factors, terms, sums, joins, IsFactor, a_number, a_name, me, nodes, parentheses}
use Rattle.lrc_lang.specs.Grammar.{IsTerm, factor, product, IsSum, term, sum, IsExpression, one_sum, comparison}
use Rattle.lrc_lang.specs.Parser.Partial.{Pending, Level, no_pending, Partial, joined, term_of, whole_of, waiting, level_with}
use Rattle.lrc_lang.specs.Parser.Partial.{awaiting, begin, close, go_on, moved, partial_with, value_in, value_of}
use Rattle.lrc_lang.proofs.Options.{none_some, some_same}

-- ---- what completes an expression

-- The symbols complete an expression, and then come the rest: behind its first factors, a term goes on or ends; behind
-- a term, so does a sum; behind a sum, there may be a comparison; and a whole ends a pair of parentheses or is all.
mutual
  pub data FromTerm : Option Pending → Option Pending → List Level → Expression → Expression → List Symbol → List Symbol → Type 0 where
    term_goes_on : {compared added : Option Pending} {outer : List Level} {left right e : Expression} {o : Operator} {all more rest : List Symbol} →
        joins o ≡ factors → IsFactor right all more →
        FromTerm compared added outer (binary left o right) e more rest →
        FromTerm compared added outer left e (operator o ∷ all) rest
    term_ends : {compared added : Option Pending} {outer : List Level} {t e : Expression} {all rest : List Symbol} →
        FromSum compared outer (joined added t) e all rest →
        FromTerm compared added outer t e all rest

  pub data FromSum : Option Pending → List Level → Expression → Expression → List Symbol → List Symbol → Type 0 where
    sum_goes_on : {compared : Option Pending} {outer : List Level} {left right e : Expression} {o : Operator} {all more rest : List Symbol} →
        joins o ≡ terms → IsTerm right all more →
        FromSum compared outer (binary left o right) e more rest →
        FromSum compared outer left e (operator o ∷ all) rest
    sum_ends : {compared : Option Pending} {outer : List Level} {s e : Expression} {all rest : List Symbol} →
        FromWhole compared outer s e all rest →
        FromSum compared outer s e all rest

  pub data FromWhole : Option Pending → List Level → Expression → Expression → List Symbol → List Symbol → Type 0 where
    compares : {outer : List Level} {left right e : Expression} {o : Operator} {all more rest : List Symbol} →
        joins o ≡ sums → IsSum right all more →
        FromValue outer (binary left o right) e more rest →
        FromWhole None outer left e (operator o ∷ all) rest
    whole_ends : {compared : Option Pending} {outer : List Level} {s e : Expression} {all rest : List Symbol} →
        FromValue outer (joined compared s) e all rest →
        FromWhole compared outer s e all rest

  pub data FromValue : List Level → Expression → Expression → List Symbol → List Symbol → Type 0 where
    closes : {level : Level} {outer : List Level} {inside e : Expression} {all rest : List Symbol} →
        FromTerm level.compared level.added outer (term_of level inside) e all rest →
        FromValue (level ∷ outer) inside e (sign CloseParenthesis ∷ all) rest
    is_all : {value e : Expression} {all rest : List Symbol} → value ≡ e → all ≡ rest → FromValue [] value e all rest

-- ---- a tree's first factor, and what comes behind it

pub record Splits (compared added : Option Pending) (outer : List Level) (e : Expression) (all rest : List Symbol) : Type 0 where
  pub first : Expression
  pub more : List Symbol
  pub spelled : IsFactor first all more
  pub behind : FromTerm compared added outer first e more rest

pub split_term : {compared added : Option Pending} {outer : List Level} {t e : Expression} {all more rest : List Symbol} → IsTerm t all more
    → FromTerm compared added outer t e more rest → Splits compared added outer e all rest
split_term (factor d) k = record { first = _; more = _; spelled = d; behind = k }
split_term (product left j right) k = split_term left (term_goes_on j right k)

pub split_sum : {compared : Option Pending} {outer : List Level} {s e : Expression} {all more rest : List Symbol} → IsSum s all more
    → FromSum compared outer s e more rest → Splits compared None outer e all rest
split_sum (term d) k = split_term d (term_ends k)
split_sum (sum left j right) k = split_sum left (sum_goes_on j right k)

pub split_expression : {outer : List Level} {value e : Expression} {all more rest : List Symbol} → IsExpression value all more
    → FromValue outer value e more rest → Splits None None outer e all rest
split_expression (one_sum d) k = split_sum d (sum_ends (whole_ends k))
split_expression (comparison left j right) k = split_sum left (sum_ends (compares j right k))

-- ---- and back: a tree from its first factor and what comes behind it

pub record JoinsTerm (compared added : Option Pending) (outer : List Level) (e : Expression) (all rest : List Symbol) : Type 0 where
  pub whole : Expression
  pub more : List Symbol
  pub spelled : IsTerm whole all more
  pub behind : FromSum compared outer (joined added whole) e more rest

pub join_term : {compared added : Option Pending} {outer : List Level} {t e : Expression} {all more rest : List Symbol} → IsTerm t all more
    → FromTerm compared added outer t e more rest → JoinsTerm compared added outer e all rest
join_term d (term_goes_on j right k) = join_term (product d j right) k
join_term d (term_ends k) = record { whole = _; more = _; spelled = d; behind = k }

pub record JoinsSum (compared : Option Pending) (outer : List Level) (e : Expression) (all rest : List Symbol) : Type 0 where
  pub whole : Expression
  pub more : List Symbol
  pub spelled : IsSum whole all more
  pub behind : FromWhole compared outer whole e more rest

pub join_sum : {compared : Option Pending} {outer : List Level} {s e : Expression} {all more rest : List Symbol} → IsSum s all more
    → FromSum compared outer s e more rest → JoinsSum compared outer e all rest
join_sum d (sum_goes_on j right k) = join_sum (sum d j right) k
join_sum d (sum_ends k) = record { whole = _; more = _; spelled = d; behind = k }

pub record JoinsWhole (outer : List Level) (e : Expression) (all rest : List Symbol) : Type 0 where
  pub whole : Expression
  pub more : List Symbol
  pub spelled : IsExpression whole all more
  pub behind : FromValue outer whole e more rest

pub join_whole : {outer : List Level} {s e : Expression} {all more rest : List Symbol} → IsSum s all more → FromWhole None outer s e more rest
    → JoinsWhole outer e all rest
join_whole d (compares j right k) = record { whole = _; more = _; spelled = comparison d j right; behind = k }
join_whole d (whole_ends k) = record { whole = _; more = _; spelled = one_sum d; behind = k }

pub join_expression : {outer : List Level} {f e : Expression} {all more rest : List Symbol} → IsFactor f all more → FromTerm None None outer f e more rest
    → JoinsWhole outer e all rest
join_expression d k =
    let t = join_term (factor d) k in
    let s = join_sum (term t.spelled) t.behind in
    join_whole s.spelled s.behind

-- ---- one symbol

-- these symbols, up to the rest, complete an expression where an operand has to begin
pub record Starts (outer : List Level) (level : Level) (e : Expression) (all rest : List Symbol) : Type 0 where
  pub first : Expression
  pub more : List Symbol
  pub spelled : IsFactor first all more
  pub behind : FromTerm level.compared level.added outer (term_of level first) e more rest

-- and behind an operand
abbrev pub GoesOn : List Level → Level → Expression → Expression → List Symbol → List Symbol → Type 0
GoesOn outer level operand e all rest = FromTerm level.compared level.added outer (term_of level operand) e all rest

abbrev pub CompletesAt : List Level → Level → Option Expression → Expression → List Symbol → List Symbol → Type 0
CompletesAt outer level None e all rest = Starts outer level e all rest
CompletesAt outer level (Some operand) e all rest = GoesOn outer level operand e all rest

-- these symbols, up to the rest, complete what has come to this expression
abbrev pub Completes : Partial → Expression → List Symbol → List Symbol → Type 0
Completes x e all rest = CompletesAt x.outer x.level x.operand e all rest

-- The next symbol can stand there, and the symbols behind it complete what has come with it; or the expression has
-- ended in front of it.
pub data Turns (step : Symbol → Option Partial) (value : Option Expression) (e : Expression) : List Symbol → List Symbol → Type 0 where
  goes : {symbol : Symbol} {all rest : List Symbol} (x : Partial) → step symbol ≡ Some x → Completes x e all rest → Turns step value e (symbol ∷ all) rest
  ends : {all rest : List Symbol} → value ≡ Some e → all ≡ rest → Turns step value e all rest

pub starts : {compared added : Option Pending} {outer : List Level} {e : Expression} {all rest : List Symbol} →
    Splits compared added outer e all rest → Starts outer (record { compared = compared; added = added; multiplied = None }) e all rest
starts s = record { first = s.first; more = s.more; spelled = s.spelled; behind = s.behind }

pub begin_turns : (outer : List Level) (level : Level) {first e : Expression} {all more rest : List Symbol} (value : Option Expression) →
    IsFactor first all more → FromTerm level.compared level.added outer (term_of level first) e more rest →
    Turns (begin outer level) value e all rest
begin_turns outer level value a_number k = goes _ refl k
begin_turns outer level value a_name k = goes _ refl k
begin_turns outer level value me k = goes _ refl k
begin_turns outer level value nodes k = goes _ refl k
begin_turns outer level value (parentheses d) k = goes _ refl (starts (split_expression d (closes k)))

abbrev all_pending : Option Pending → Option Pending → Option Pending → Level
all_pending compared added multiplied = record { compared = compared; added = added; multiplied = multiplied }

go_on_turns : {compared added : Option Pending} (multiplied : Option Pending) {outer : List Level}
    (operand : Expression) {e : Expression} {all rest : List Symbol} →
    FromTerm compared added outer (joined multiplied operand) e all rest →
    Turns (go_on outer (all_pending compared added multiplied) operand) (value_in outer (all_pending compared added multiplied) (Some operand)) e all rest
go_on_turns {compared} {added} multiplied {outer} operand (term_goes_on {o = o} j f k) =
    goes
    (awaiting outer (all_pending compared added (waiting (joined multiplied operand) o)))
    (ap (λ how. option_map (awaiting outer) (level_with how (all_pending compared added multiplied) operand o)) j)
    (record { first = _; more = _; spelled = f; behind = k })
go_on_turns {compared} {added} multiplied {outer} operand (term_ends (sum_goes_on {o = o} j t k)) =
    goes
    (awaiting outer (all_pending compared (waiting (joined added (joined multiplied operand)) o) None))
    (ap (λ how. option_map (awaiting outer) (level_with how (all_pending compared added multiplied) operand o)) j)
    (starts (split_term t (term_ends k)))
go_on_turns {added = added} multiplied {outer} operand (term_ends (sum_ends (compares {o = o} j s k))) =
    goes
    (awaiting outer (all_pending (waiting (joined added (joined multiplied operand)) o) None None))
    (ap (λ how. option_map (awaiting outer) (level_with how (all_pending None added multiplied) operand o)) j)
    (starts (split_sum s (sum_ends (whole_ends k))))
go_on_turns multiplied operand (term_ends (sum_ends (whole_ends (closes k)))) = goes _ refl k
go_on_turns multiplied operand (term_ends (sum_ends (whole_ends (is_all q r)))) = ends (ap Some q) r

turns_at : (outer : List Level) (level : Level) (operand : Option Expression) {e : Expression} {all rest : List Symbol} →
    CompletesAt outer level operand e all rest → Turns (moved outer level operand) (value_in outer level operand) e all rest
turns_at outer level None s = begin_turns outer level _ s.spelled s.behind
turns_at outer level (Some operand) k = go_on_turns level.multiplied operand k

-- what completes an expression begins with a symbol that can stand there, unless the expression has ended
pub turns : (x : Partial) {e : Expression} {all rest : List Symbol} → Completes x e all rest → Turns (partial_with x) (value_of x) e all rest
turns x k = turns_at x.outer x.level x.operand k

-- ---- and back

at_same : {x y : Partial} (e : Expression) (all rest : List Symbol) → Some x ≡ Some y → Completes y e all rest → Completes x e all rest
at_same e all rest q k = subst (λ x. Completes x e all rest) (sym (some_same q)) k

enclose : {outer : List Level} {level : Level} {inside e : Expression} {all more rest : List Symbol} →
    IsExpression inside all more → FromValue (level ∷ outer) inside e more rest →
    Starts outer level e (sign OpenParenthesis ∷ all) rest
enclose d (closes k) = record { first = _; more = _; spelled = parentheses d; behind = k }

begin_back : (outer : List Level) (level : Level) (symbol : Symbol) {x : Partial} {e : Expression} {all rest : List Symbol} →
    begin outer level symbol ≡ Some x → Completes x e all rest → Starts outer level e (symbol ∷ all) rest
begin_back outer level (number n) q k = record { first = _; more = _; spelled = a_number; behind = at_same _ _ _ q k }
begin_back outer level (name n) q k = record { first = _; more = _; spelled = a_name; behind = at_same _ _ _ q k }
begin_back outer level (keyword Me) q k = record { first = _; more = _; spelled = me; behind = at_same _ _ _ q k }
begin_back outer level (keyword Nodes) q k = record { first = _; more = _; spelled = nodes; behind = at_same _ _ _ q k }
begin_back outer level (sign OpenParenthesis) {e = e} {all = all} {rest = rest} q k =
    let s : Starts (level ∷ outer) no_pending e all rest = at_same _ _ _ q k in
    let w = join_expression s.spelled s.behind in
    enclose w.spelled w.behind
begin_back outer level _ q k = absurd (none_some q)

not_compared : {p : Pending} {outer : List Level} {s e : Expression} {all rest : List Symbol} →
    FromWhole (Some p) outer s e all rest → FromValue outer (joined (Some p) s) e all rest
not_compared (whole_ends k) = k

operator_back : {o : Operator} (how : Joins) (compared added multiplied : Option Pending) (outer : List Level)
    (operand : Expression) {x : Partial} {e : Expression} {all rest : List Symbol} →
    joins o ≡ how → option_map (awaiting outer) (level_with how (all_pending compared added multiplied) operand o) ≡ Some x →
    Completes x e all rest → FromTerm compared added outer (joined multiplied operand) e (operator o ∷ all) rest
operator_back {o} factors compared added multiplied outer operand {e = e} {all = all} {rest = rest} j q k =
    let s : Starts outer (all_pending compared added (waiting (joined multiplied operand) o)) e all rest = at_same _ _ _ q k in
    term_goes_on j s.spelled s.behind
operator_back {o} terms compared added multiplied outer operand {e = e} {all = all} {rest = rest} j q k =
    let s : Starts outer (all_pending compared (waiting (joined added (joined multiplied operand)) o) None) e all rest = at_same _ _ _ q k in
    let t = join_term (factor s.spelled) s.behind in
    term_ends (sum_goes_on j t.spelled t.behind)
operator_back {o} sums None added multiplied outer operand {e = e} {all = all} {rest = rest} j q k =
    let s : Starts outer (all_pending (waiting (joined added (joined multiplied operand)) o) None None) e all rest = at_same _ _ _ q k in
    let t = join_term (factor s.spelled) s.behind in
    let u = join_sum (term t.spelled) t.behind in
    term_ends (sum_ends (compares j u.spelled (not_compared u.behind)))
operator_back sums (Some p) added multiplied outer operand j q k = absurd (none_some q)

close_back : (outer : List Level) (level : Level) (operand : Expression) {x : Partial} {e : Expression} {all rest : List Symbol} →
    close outer level operand ≡ Some x → Completes x e all rest → GoesOn outer level operand e (sign CloseParenthesis ∷ all) rest
close_back [] level operand q k = absurd (none_some q)
close_back (around ∷ outer) level operand q k = term_ends (sum_ends (whole_ends (closes (at_same _ _ _ q k))))

go_on_back : (outer : List Level) (level : Level) (operand : Expression) (symbol : Symbol) {x : Partial} {e : Expression} {all rest : List Symbol} →
    go_on outer level operand symbol ≡ Some x → Completes x e all rest → GoesOn outer level operand e (symbol ∷ all) rest
go_on_back outer level operand (operator o) q k = operator_back (joins o) level.compared level.added level.multiplied outer operand refl q k
go_on_back outer level operand (sign CloseParenthesis) q k = close_back outer level operand q k
go_on_back outer level operand _ q k = absurd (none_some q)

back_at : (outer : List Level) (level : Level) (operand : Option Expression) (symbol : Symbol) {x : Partial} (e : Expression) (all rest : List Symbol) →
    moved outer level operand symbol ≡ Some x → Completes x e all rest → CompletesAt outer level operand e (symbol ∷ all) rest
back_at outer level None symbol e all rest q k = begin_back outer level symbol q k
back_at outer level (Some operand) symbol e all rest q k = go_on_back outer level operand symbol q k

-- where a symbol can stand, it and what completes the expression behind it complete the expression in front of it
pub back : (x : Partial) (symbol : Symbol) {y : Partial} (e : Expression) (all rest : List Symbol) →
    partial_with x symbol ≡ Some y → Completes y e all rest → Completes x e (symbol ∷ all) rest
back x symbol e all rest q k = back_at x.outer x.level x.operand symbol e all rest q k

ended_at : (outer : List Level) (level : Level) (operand : Option Expression) (e : Expression) (all : List Symbol) →
    value_in outer level operand ≡ Some e → CompletesAt outer level operand e all all
ended_at [] level None e all q = absurd (none_some q)
ended_at [] level (Some operand) e all q = term_ends (sum_ends (whole_ends (is_all (some_same q) refl)))
ended_at (around ∷ outer) level operand e all q = absurd (none_some q)

-- an expression that may end is complete
pub ended : (x : Partial) (e : Expression) (all : List Symbol) → value_of x ≡ Some e → Completes x e all all
ended x e all q = ended_at x.outer x.level x.operand e all q

-- ---- every expression that has begun can be completed

-- the parentheses that close these levels, and then the rest
abbrev pub closing : List Level → List Token → List Token
closing [] rest = rest
closing (level ∷ outer) rest = Token.sign CloseParenthesis ∷ closing outer rest

abbrev completing : List Level → Option Expression → List Token → List Token
completing outer None rest = Token.number 0 ∷ closing outer rest
completing outer (Some operand) rest = closing outer rest

-- tokens that complete what has come, and then the rest
abbrev pub completion : Partial → List Token → List Token
completion x rest = completing x.outer x.operand rest

go_on_completed : (names : Names) (outer : List Level) (level : Level) (operand : Expression) (rest : List Token) →
    (e : Expression) × GoesOn outer level operand e (symbols_after names (closing outer rest)) (symbols_after names rest)
go_on_completed names [] level operand rest = (_, term_ends (sum_ends (whole_ends (is_all refl refl))))
go_on_completed names (around ∷ outer) level operand rest =
    let k = go_on_completed names outer around (whole_of level operand) rest in
    (k.0, term_ends (sum_ends (whole_ends (closes k.1))))

completed_at : (names : Names) (outer : List Level) (level : Level) (operand : Option Expression) (rest : List Token) →
    (e : Expression) × CompletesAt outer level operand e (symbols_after names (completing outer operand rest)) (symbols_after names rest)
completed_at names outer level None rest =
    let k = go_on_completed names outer level (Expression.number 0) rest in
    (k.0, record { first = _; more = _; spelled = a_number; behind = k.1 })
completed_at names outer level (Some operand) rest = go_on_completed names outer level operand rest

pub completed : (names : Names) (x : Partial) (rest : List Token) →
    (e : Expression) × Completes x e (symbols_after names (completion x rest)) (symbols_after names rest)
completed names x rest = completed_at names x.outer x.level x.operand rest
