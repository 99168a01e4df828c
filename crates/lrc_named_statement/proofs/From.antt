-- What completes statements of which some tokens have come.
use Rattle.std.proofs.Common.{◌≡◌, ℕ, List, [], ◌∷◌, refl, sym, ap, subst}
use Rattle.lrc_named_tokens.specs.declared.token.Keyword.TheVariants as keywords
use Rattle.lrc_named_tokens.specs.declared.token.Sign.{Sign}
use Rattle.lrc_named_tokens.specs.declared.token.Sign.TheVariants as signs
use Rattle.lrc_named_tokens.specs.Token.{name, keyword, sign, finish}
use Rattle.lrc_named_tree.specs.Tree.{Named, Expression, Expressions, Place, Update, Statement, Block, Arms}
use Rattle.lrc_named_tree.specs.Tree as tree
use Rattle.lrc_named_tree.specs.Grammar.{Numbered, on, named, IsExpression, AreIndices, no_index, one_index, AreSeparate, the_last, one_of}
use Rattle.lrc_named_tree.specs.Grammar.{Updates, IsStatement, AreElses, IsBlock, AreStatements, no_statement, one_statement}
use Rattle.lrc_named_expression.specs.Partial as partial
use Rattle.lrc_named_expression.specs.Partial.{Partial, push}
use Rattle.lrc_named_expression.proofs.From as expressions
use Rattle.lrc_named_statement.specs.Body.{Target, assigned, acquired, released, guarding, Branch}
use Rattle.lrc_named_statement.specs.Body.{Purpose, index_of, given, printed, asserted, if_condition, arm_condition, while_condition, for_first, for_end}
use Rattle.lrc_named_statement.specs.Body.{Spot, at_statement, before_place, after_place, in_expression, before_end, before_name, before_in, after_branch}
use Rattle.lrc_named_statement.specs.Body.{after_else, Owner, then_of, arm_of, else_of, guarded, while_of, for_of, Around, Body}
use Rattle.lrc_named_statement.specs.Body.{append, with_statement, append_arms, with_arm, whole_if, place_at}

abbrev pub branch : ℕ → Expression → Block → Branch
branch first condition then = record { first = first; condition = condition; then = then; arms = tree.no_arm }

-- The tokens complete the statements r, up to the end of the text: at a statement, behind the `}` of a block, and behind a
-- block of an `if`.
mutual
  pub data FromStatements : List Around → Block → Block → List Numbered → Type 0 where
    goes_on : {outer : List Around} {before r : Block} {s : Statement} {all more : List Numbered} →
        IsStatement s all more → FromStatements outer (with_statement before s) r more → FromStatements outer before r all
    block_ends : {a : Around} {outer : List Around} {inside r : Block} {closes : ℕ} {all : List Numbered} →
        FromOwner a.owner closes outer a.before inside r all → FromStatements (a ∷ outer) inside r (on closes (sign signs.CloseBrace) ∷ all)
    all_ends : {before r : Block} {last : ℕ} → before ≡ r → FromStatements [] before r (on last finish ∷ [])

  pub data FromOwner : Owner → ℕ → List Around → Block → Block → Block → List Numbered → Type 0 where
    then_ends : {first closes : ℕ} {condition : Expression} {outer : List Around} {before inside r : Block} {all : List Numbered} →
        FromElses (branch first condition inside) outer before r all → FromOwner (then_of first condition) closes outer before inside r all
    arm_ends : {b : Branch} {first closes : ℕ} {condition : Expression} {outer : List Around} {before inside r : Block} {all : List Numbered} →
        FromElses (with_arm b first condition inside) outer before r all → FromOwner (arm_of b first condition) closes outer before inside r all
    else_ends : {b : Branch} {closes : ℕ} {outer : List Around} {before inside r : Block} {all : List Numbered} →
        FromStatements outer (with_statement before (whole_if b inside)) r all → FromOwner (else_of b) closes outer before inside r all
    guarded_ends : {first closes : ℕ} {p : Place} {outer : List Around} {before inside r : Block} {all : List Numbered} →
        FromStatements outer (with_statement before (tree.with_do first p inside closes)) r all →
        FromOwner (guarded first p) closes outer before inside r all
    while_ends : {first closes : ℕ} {condition : Expression} {outer : List Around} {before inside r : Block} {all : List Numbered} →
        FromStatements outer (with_statement before (tree.while_do first condition inside)) r all →
        FromOwner (while_of first condition) closes outer before inside r all
    for_ends : {first closes : ℕ} {n : Named} {from end : Expression} {outer : List Around} {before inside r : Block} {all : List Numbered} →
        FromStatements outer (with_statement before (tree.for_do first n from end inside)) r all →
        FromOwner (for_of first n from end) closes outer before inside r all

  pub data FromElses : Branch → List Around → Block → Block → List Numbered → Type 0 where
    elses : {b : Branch} {others : Arms} {otherwise : Block} {outer : List Around} {before r : Block} {all more : List Numbered} →
        AreElses others otherwise all more →
        FromStatements outer (with_statement before (tree.if_else b.first b.condition b.then (append_arms b.arms others) otherwise)) r more →
        FromElses b outer before r all

-- behind a place
pub data FromTarget : Target → Place → List Around → Block → Block → List Numbered → Type 0 where
  sets : {p : Place} {update : Update} {mark : Sign} {value : Expression} {outer : List Around} {before r : Block} {at ends : ℕ} {all rest : List Numbered} →
      Updates mark update → IsExpression value all (on ends (sign signs.Semicolon) ∷ rest) →
      FromStatements outer (with_statement before (tree.assign p update value)) r rest →
      FromTarget assigned p outer before r (on at (sign mark) ∷ all)
  acquires : {first ends : ℕ} {p : Place} {outer : List Around} {before r : Block} {all : List Numbered} →
      FromStatements outer (with_statement before (tree.acquire first p)) r all →
      FromTarget (acquired first) p outer before r (on ends (sign signs.Semicolon) ∷ all)
  releases : {first ends : ℕ} {p : Place} {outer : List Around} {before r : Block} {all : List Numbered} →
      FromStatements outer (with_statement before (tree.release first p)) r all →
      FromTarget (released first) p outer before r (on ends (sign signs.Semicolon) ∷ all)
  guards : {first closes : ℕ} {p : Place} {inside : Block} {outer : List Around} {before r : Block} {all rest : List Numbered} →
      IsBlock inside closes all rest → FromStatements outer (with_statement before (tree.with_do first p inside closes)) r rest →
      FromTarget (guarding first) p outer before r all

pub data FromPlace : Target → Named → Expressions → List Around → Block → Block → List Numbered → Type 0 where
  place_goes_on : {t : Target} {n : Named} {others : Expressions} {e : Expression} {opens closes : ℕ} {outer : List Around} {before r : Block}
      {all behind : List Numbered} →
      IsExpression e all (on closes (sign signs.CloseBracket) ∷ behind) → FromPlace t n (push others e) outer before r behind →
      FromPlace t n others outer before r (on opens (sign signs.OpenBracket) ∷ all)
  place_ends : {t : Target} {n : Named} {others : Expressions} {outer : List Around} {before r : Block} {all : List Numbered} →
      FromTarget t (place_at n others) outer before r all → FromPlace t n others outer before r all

-- behind an expression
pub data FromPurpose : Purpose → Expression → List Around → Block → Block → List Numbered → Type 0 where
  index_ends : {t : Target} {n : Named} {others : Expressions} {value : Expression} {outer : List Around} {before r : Block} {at : ℕ} {all : List Numbered} →
      FromPlace t n (push others value) outer before r all →
      FromPurpose (index_of t n others) value outer before r (on at (sign signs.CloseBracket) ∷ all)
  given_ends : {p : Place} {update : Update} {value : Expression} {outer : List Around} {before r : Block} {ends : ℕ} {all : List Numbered} →
      FromStatements outer (with_statement before (tree.assign p update value)) r all →
      FromPurpose (given p update) value outer before r (on ends (sign signs.Semicolon) ∷ all)
  printed_ends : {first : ℕ} {others : Expressions} {value : Expression} {outer : List Around} {before r : Block} {ends : ℕ} {all : List Numbered} →
      FromStatements outer (with_statement before (tree.print first (push others value))) r all →
      FromPurpose (printed first others) value outer before r (on ends (sign signs.Semicolon) ∷ all)
  printed_goes_on : {first : ℕ} {others : Expressions} {value next : Expression} {outer : List Around} {before r : Block} {comma : ℕ}
      {all more : List Numbered} →
      IsExpression next all more → FromPurpose (printed first (push others value)) next outer before r more →
      FromPurpose (printed first others) value outer before r (on comma (sign signs.Comma) ∷ all)
  asserted_ends : {first : ℕ} {value : Expression} {outer : List Around} {before r : Block} {ends : ℕ} {all : List Numbered} →
      FromStatements outer (with_statement before (tree.assert first value)) r all →
      FromPurpose (asserted first) value outer before r (on ends (sign signs.Semicolon) ∷ all)
  if_ends : {first closes : ℕ} {value : Expression} {then : Block} {outer : List Around} {before r : Block} {all behind : List Numbered} →
      IsBlock then closes all behind → FromElses (branch first value then) outer before r behind →
      FromPurpose (if_condition first) value outer before r all
  arm_condition_ends : {b : Branch} {first closes : ℕ} {value : Expression} {then : Block} {outer : List Around} {before r : Block}
      {all behind : List Numbered} →
      IsBlock then closes all behind → FromElses (with_arm b first value then) outer before r behind →
      FromPurpose (arm_condition b first) value outer before r all
  while_condition_ends : {first closes : ℕ} {value : Expression} {inside : Block} {outer : List Around} {before r : Block} {all rest : List Numbered} →
      IsBlock inside closes all rest → FromStatements outer (with_statement before (tree.while_do first value inside)) r rest →
      FromPurpose (while_condition first) value outer before r all
  for_first_ends : {first range : ℕ} {n : Named} {value end : Expression} {outer : List Around} {before r : Block} {all behind : List Numbered} →
      IsExpression end all behind → FromPurpose (for_end first n value) end outer before r behind →
      FromPurpose (for_first first n) value outer before r (on range (sign signs.Range) ∷ all)
  for_end_ends : {first closes : ℕ} {n : Named} {from value : Expression} {inside : Block} {outer : List Around} {before r : Block}
      {all rest : List Numbered} →
      IsBlock inside closes all rest → FromStatements outer (with_statement before (tree.for_do first n from value inside)) r rest →
      FromPurpose (for_end first n from) value outer before r all

-- in front of the name of a place
pub data FromWord : Target → List Around → Block → Block → List Numbered → Type 0 where
  word_goes_on : {t : Target} {at : ℕ} {bytes : List ℕ} {outer : List Around} {before r : Block} {all : List Numbered} →
      FromPlace t (named at bytes) tree.none outer before r all → FromWord t outer before r (on at (name bytes) ∷ all)

-- in an expression
pub record FromInside (purpose : Purpose) (x : Partial) (outer : List Around) (before r : Block) (all : List Numbered) : Type 0 where
  pub value : Expression
  pub more : List Numbered
  pub inside : expressions.Completes x value all more
  pub behind : FromPurpose purpose value outer before r more

pub data FromEnd : Statement → List Around → Block → Block → List Numbered → Type 0 where
  statement_ends : {s : Statement} {ends : ℕ} {outer : List Around} {before r : Block} {all : List Numbered} →
      FromStatements outer (with_statement before s) r all → FromEnd s outer before r (on ends (sign signs.Semicolon) ∷ all)

-- in a `for`
pub data FromIn : ℕ → Named → List Around → Block → Block → List Numbered → Type 0 where
  in_goes_on : {first within : ℕ} {n : Named} {from : Expression} {outer : List Around} {before r : Block} {all more : List Numbered} →
      IsExpression from all more → FromPurpose (for_first first n) from outer before r more →
      FromIn first n outer before r (on within (keyword keywords.In) ∷ all)

pub data FromFor : ℕ → List Around → Block → Block → List Numbered → Type 0 where
  for_goes_on : {first own : ℕ} {bytes : List ℕ} {outer : List Around} {before r : Block} {all : List Numbered} →
      FromIn first (named own bytes) outer before r all → FromFor first outer before r (on own (name bytes) ∷ all)

-- behind an `else`
pub data FromElse : Branch → List Around → Block → Block → List Numbered → Type 0 where
  otherwise_ends : {b : Branch} {closes : ℕ} {inside : Block} {outer : List Around} {before r : Block} {all rest : List Numbered} →
      IsBlock inside closes all rest → FromStatements outer (with_statement before (whole_if b inside)) r rest → FromElse b outer before r all
  arm_goes_on : {b : Branch} {at : ℕ} {condition : Expression} {outer : List Around} {before r : Block} {all more : List Numbered} →
      IsExpression condition all more → FromPurpose (arm_condition b at) condition outer before r more →
      FromElse b outer before r (on at (keyword keywords.If) ∷ all)

abbrev pub CompletesAt : List Around → Block → Spot → Block → List Numbered → Type 0
CompletesAt outer before at_statement r all = FromStatements outer before r all
CompletesAt outer before (before_place t) r all = FromWord t outer before r all
CompletesAt outer before (after_place t n others) r all = FromPlace t n others outer before r all
CompletesAt outer before (in_expression purpose x) r all = FromInside purpose x outer before r all
CompletesAt outer before (before_end s) r all = FromEnd s outer before r all
CompletesAt outer before (before_name first) r all = FromFor first outer before r all
CompletesAt outer before (before_in first n) r all = FromIn first n outer before r all
CompletesAt outer before (after_branch b) r all = FromElses b outer before r all
CompletesAt outer before (after_else b) r all = FromElse b outer before r all

-- these tokens, up to the end of the text, complete what has come to these statements
abbrev pub Completes : Body → Block → List Numbered → Type 0
Completes b r all = CompletesAt b.outer b.before b.spot r all

-- ---- lists of statements, of places and of values, from their first and what comes behind it

pub append_with : (some : Block) (s : Statement) (others : Block) → append (with_statement some s) others ≡ append some (tree.next s others)
append_with tree.empty s others = refl
append_with (tree.next first some) s others = ap (tree.next first) (append_with some s others)

pub append_empty : (some : Block) → append some tree.empty ≡ some
append_empty tree.empty = refl
append_empty (tree.next first some) = ap (tree.next first) (append_empty some)

pub append_arm : (some : Arms) (at : ℕ) (c : Expression) (b : Block) (others : Arms) →
    append_arms (append_arms some (tree.arm at c b tree.no_arm)) others ≡ append_arms some (tree.arm at c b others)
append_arm tree.no_arm at c b others = refl
append_arm (tree.arm i d e some) at c b others = ap (tree.arm i d e) (append_arm some at c b others)

pub append_no_arm : (some : Arms) → append_arms some tree.no_arm ≡ some
append_no_arm tree.no_arm = refl
append_no_arm (tree.arm i d e some) = ap (tree.arm i d e) (append_no_arm some)

pub split_statements : {outer : List Around} (before : Block) {inside r : Block} {all more : List Numbered} → AreStatements inside all more →
    FromStatements outer (append before inside) r more → FromStatements outer before r all
split_statements {outer} before {r = r} {more = more} no_statement k = subst (λ b. FromStatements outer b r more) (append_empty before) k
split_statements {outer} before {r = r} {more = more} (one_statement {first = first} {others = others} d ds) k =
    goes_on d (split_statements (with_statement before first) ds
    (subst (λ b. FromStatements outer b r more) (sym (append_with before first others)) k))

pub split_place : {t : Target} {n : Named} {outer : List Around} {before r : Block} (others : Expressions) {indices : Expressions} {at last : ℕ}
    {all more : List Numbered} → AreIndices indices at last all more →
    FromTarget t (place_at n (partial.append others indices)) outer before r more → FromPlace t n others outer before r all
split_place {t} {n} {outer} {before} {r} others {more = more} no_index k =
    place_ends (subst (λ some. FromTarget t (place_at n some) outer before r more) (expressions.append_none others) k)
split_place {t} {n} {outer} {before} {r} others {more = more} (one_index {e = e} {others = indices} d ds) k =
    place_goes_on d (split_place (push others e) ds
    (subst (λ some. FromTarget t (place_at n some) outer before r more) (sym (expressions.append_push others e indices)) k))

-- the first of some values that are printed, and what comes behind it
pub record SplitsValues (first : ℕ) (others : Expressions) (outer : List Around) (before r : Block) (all : List Numbered) : Type 0 where
  pub value : Expression
  pub more : List Numbered
  pub spelled : IsExpression value all more
  pub behind : FromPurpose (printed first others) value outer before r more

pub split_values : {first ends : ℕ} {outer : List Around} {before r : Block} (others : Expressions) {values : Expressions} {all rest : List Numbered} →
    AreSeparate values all (on ends (sign signs.Semicolon) ∷ rest) →
    FromStatements outer (with_statement before (tree.print first (partial.append others values))) r rest →
    SplitsValues first others outer before r all
split_values others (the_last d) k = record { value = _; more = _; spelled = d; behind = printed_ends k }
split_values {first = first} {outer = outer} {before = before} {r = r} others {rest = rest} (one_of {e = e} {others = values} d ds) k =
    let s = split_values {first = first} {outer = outer} {before = before} {r = r} (push others e) ds
    (subst (λ some. FromStatements outer (with_statement before (tree.print first some)) r rest) (sym (expressions.append_push others e values)) k) in
    record { value = _; more = _; spelled = d; behind = printed_goes_on s.spelled s.behind }

-- ---- and back

pub record JoinsStatements (a : Around) (outer : List Around) (before r : Block) (all : List Numbered) : Type 0 where
  pub inside : Block
  pub closes : ℕ
  pub more : List Numbered
  pub spelled : AreStatements inside all (on closes (sign signs.CloseBrace) ∷ more)
  pub behind : FromOwner a.owner closes outer a.before (append before inside) r more

pub join_statements : {a : Around} {outer : List Around} {before r : Block} {all : List Numbered} → FromStatements (a ∷ outer) before r all →
    JoinsStatements a outer before r all
join_statements {a} {outer} {r = r} (goes_on {before = before} {s = s} d k) =
    let j = join_statements k in
    record {
      inside = tree.next s j.inside;
      closes = j.closes;
      more = j.more;
      spelled = one_statement d j.spelled;
      behind = subst (λ b. FromOwner a.owner j.closes outer a.before b r j.more) (append_with before s j.inside) j.behind;
    }
join_statements {a} {outer} {before} {r} (block_ends {closes = closes} {all = all} k) = record {
  inside = tree.empty;
  closes = closes;
  more = all;
  spelled = no_statement;
  behind = subst (λ b. FromOwner a.owner closes outer a.before b r all) (sym (append_empty before)) k;
}

pub record JoinsPlace (t : Target) (n : Named) (others : Expressions) (at : ℕ) (outer : List Around) (before r : Block) (all : List Numbered) : Type 0 where
  pub indices : Expressions
  pub last : ℕ
  pub more : List Numbered
  pub spelled : AreIndices indices at last all more
  pub behind : FromTarget t (place_at n (partial.append others indices)) outer before r more

pub join_place : {t : Target} {n : Named} {others : Expressions} (at : ℕ) {outer : List Around} {before r : Block} {all : List Numbered} →
    FromPlace t n others outer before r all → JoinsPlace t n others at outer before r all
join_place at (place_goes_on {t = t} {n = n} {others = others} {e = e} {closes = closes} {outer = outer} {before = before} {r = r} d k) =
    let j = join_place closes k in
    record {
      indices = tree.more e j.indices;
      last = j.last;
      more = j.more;
      spelled = one_index d j.spelled;
      behind = subst (λ some. FromTarget t (place_at n some) outer before r j.more) (expressions.append_push others e j.indices) j.behind;
    }
join_place at (place_ends {t = t} {n = n} {others = others} {outer = outer} {before = before} {r = r} {all = all} k) = record {
  indices = tree.none;
  last = at;
  more = all;
  spelled = no_index;
  behind = subst (λ some. FromTarget t (place_at n some) outer before r all) (sym (expressions.append_none others)) k;
}

pub record JoinsValues (first : ℕ) (others : Expressions) (outer : List Around) (before r : Block) (all : List Numbered) : Type 0 where
  pub values : Expressions
  pub ends : ℕ
  pub rest : List Numbered
  pub spelled : AreSeparate values all (on ends (sign signs.Semicolon) ∷ rest)
  pub behind : FromStatements outer (with_statement before (tree.print first (partial.append others values))) r rest

pub join_values : {first : ℕ} {others : Expressions} {outer : List Around} {before r : Block} {value : Expression} {all more : List Numbered} →
    IsExpression value all more → FromPurpose (printed first others) value outer before r more → JoinsValues first others outer before r all
join_values d (printed_ends k) = record { values = _; ends = _; rest = _; spelled = the_last d; behind = k }
join_values d (printed_goes_on {first = first} {others = others} {value = value} {outer = outer} {before = before} {r = r} e k) =
    let j = join_values e k in
    record {
      values = tree.more value j.values;
      ends = j.ends;
      rest = j.rest;
      spelled = one_of d j.spelled;
      behind = subst (λ some. FromStatements outer (with_statement before (tree.print first some)) r j.rest)
          (expressions.append_push others value j.values) j.behind;
    }
