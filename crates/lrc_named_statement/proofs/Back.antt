-- Where a token can stand, it and what completes the statements behind it complete the statements in front of it.
use Rattle.std.proofs.Common.{◌≡◌, ℕ, Bool, true, false, List, [], ◌∷◌, Option, Some, None, refl, sym, subst}
use Rattle.lrc_named_tokens.specs.declared.token.Keyword.TheVariants as keywords
use Rattle.lrc_named_tokens.specs.declared.token.Sign.{Sign}
use Rattle.lrc_named_tokens.specs.declared.token.Sign.TheVariants as signs
use Rattle.lrc_named_tokens.specs.Token.{Token, number, name, keyword, sign, finish}
use Rattle.lrc_named_tree.specs.Tree.{Named, Expression, Expressions, Place, Update, Statement, Block, Arms}
use Rattle.lrc_named_tree.specs.Tree as tree
use Rattle.lrc_named_tree.specs.Grammar.{Numbered, on, named, IsPlace, place, Updates, sets, adds, subtracts, IsStatement, IsBlock, braces, IsExpression}
use Rattle.lrc_named_tree.specs.Grammar as grammar
use Rattle.lrc_named_expression.specs.Partial.{Partial, nothing, partial_with, value_of, push}
use Rattle.lrc_named_expression.proofs.Options.{none_some, some_same}
use Rattle.lrc_named_expression.proofs.Back as expression_back
use Rattle.lrc_named_statement.specs.Body.{Target, assigned, acquired, released, guarding, Branch}
use Rattle.lrc_named_statement.specs.Body.{Purpose, index_of, given, printed, asserted, if_condition, arm_condition, while_condition, for_first, for_end}
use Rattle.lrc_named_statement.specs.Body.{Spot, at_statement, before_place, after_place, in_expression, before_end, before_name, before_in, after_branch}
use Rattle.lrc_named_statement.specs.Body.{after_else, Owner, then_of, arm_of, else_of, guarded, while_of, for_of, Around, Body, at}
use Rattle.lrc_named_statement.specs.Body.{with_statement, with_arm, whole_if, place_at, close_for, close, begin, behind_word, end_place}
use Rattle.lrc_named_statement.specs.Body.{behind_place, is_ending, ended, continued, ended_or_continued, at_end, behind_for, behind_name}
use Rattle.lrc_named_statement.specs.Body.{behind_branch, behind_else, moved, body_with, whole_in, whole_of}
use Rattle.lrc_named_statement.proofs.From.{branch, FromStatements, goes_on, block_ends, all_ends, FromOwner, then_ends, arm_ends, else_ends, guarded_ends}
use Rattle.lrc_named_statement.proofs.From.{while_ends, for_ends, FromElses, elses, FromTarget, acquires, releases, guards, FromPlace, place_goes_on, place_ends}
use Rattle.lrc_named_statement.proofs.From.{FromPurpose, index_ends, given_ends, printed_ends, printed_goes_on, asserted_ends, if_ends, arm_condition_ends}
use Rattle.lrc_named_statement.proofs.From.{while_condition_ends, for_first_ends, for_end_ends, FromWord, word_goes_on, FromInside, FromEnd, statement_ends, FromIn}
use Rattle.lrc_named_statement.proofs.From.{in_goes_on, FromFor, for_goes_on, FromElse, otherwise_ends, arm_goes_on, CompletesAt, Completes, join_statements}
use Rattle.lrc_named_statement.proofs.From.{join_place, join_values, append_arm, append_no_arm}
use Rattle.lrc_named_statement.proofs.From as from
use Rattle.lrc_named_statement.proofs.Turns.{false_true}

at_same : {b c : Body} (r : Block) (all : List Numbered) → Some b ≡ Some c → Completes c r all → Completes b r all
at_same r all q k = subst (λ b. Completes b r all) (sym (some_same q)) k

-- what an expression that begins is, and what comes behind it
record Whole (purpose : Purpose) (outer : List Around) (before r : Block) (all : List Numbered) : Type 0 where
  value : Expression
  more : List Numbered
  spelled : IsExpression value all more
  behind : FromPurpose purpose value outer before r more

outside : {purpose : Purpose} {outer : List Around} {before r : Block} {all : List Numbered} → FromInside purpose nothing outer before r all →
    Whole purpose outer before r all
outside k = record { value = _; more = _; spelled = expression_back.whole k.inside; behind = k.behind }

expressed : (purpose : Purpose) (outer : List Around) (before r : Block) (all : List Numbered) {c : Body} →
    at outer before (in_expression purpose nothing) ≡ Some c → Completes c r all → Whole purpose outer before r all
expressed purpose outer before r all q k =
    let f : FromInside purpose nothing outer before r all = at_same _ _ q k in
    outside f

-- ---- where a statement may begin

-- a place at the beginning of a statement, and what comes behind it
record Placed (t : Target) (outer : List Around) (before r : Block) (all : List Numbered) : Type 0 where
  p : Place
  more : List Numbered
  spelled : IsPlace p all more
  behind : FromTarget t p outer before r more

placed_at : {t : Target} {i : ℕ} {bytes : List ℕ} {outer : List Around} {before r : Block} {all : List Numbered} →
    FromPlace t (named i bytes) tree.none outer before r all → Placed t outer before r (on i (name bytes) ∷ all)
placed_at {i = i} k =
    let j = join_place i k in
    record { p = _; more = _; spelled = place j.spelled; behind = j.behind }

placed : {t : Target} {outer : List Around} {before r : Block} {all : List Numbered} → FromWord t outer before r all → Placed t outer before r all
placed (word_goes_on k) = placed_at k

assigned_statement : {p : Place} {outer : List Around} {before r : Block} {all more : List Numbered} → IsPlace p all more →
    FromTarget assigned p outer before r more → FromStatements outer before r all
assigned_statement p (from.sets u v k) = goes_on (grammar.assign p u v) k

acquired_statement : {i : ℕ} {p : Place} {outer : List Around} {before r : Block} {all more : List Numbered} → IsPlace p all more →
    FromTarget (acquired i) p outer before r more → FromStatements outer before r (on i (keyword keywords.Acquire) ∷ all)
acquired_statement p (acquires k) = goes_on (grammar.acquire p) k

released_statement : {i : ℕ} {p : Place} {outer : List Around} {before r : Block} {all more : List Numbered} → IsPlace p all more →
    FromTarget (released i) p outer before r more → FromStatements outer before r (on i (keyword keywords.Release) ∷ all)
released_statement p (releases k) = goes_on (grammar.release p) k

guarding_statement : {i : ℕ} {p : Place} {outer : List Around} {before r : Block} {all more : List Numbered} → IsPlace p all more →
    FromTarget (guarding i) p outer before r more → FromStatements outer before r (on i (keyword keywords.With) ∷ all)
guarding_statement p (guards b k) = goes_on (grammar.with_do p b) k

barrier_statement : {i : ℕ} {outer : List Around} {before r : Block} {all : List Numbered} → FromEnd (tree.barrier i) outer before r all →
    FromStatements outer before r (on i (keyword keywords.Barrier) ∷ all)
barrier_statement (statement_ends k) = goes_on grammar.barrier k

printed_statement : {i : ℕ} {outer : List Around} {before r : Block} {all : List Numbered} → Whole (printed i tree.none) outer before r all →
    FromStatements outer before r (on i (keyword keywords.Print) ∷ all)
printed_statement w =
    let j = join_values w.spelled w.behind in
    goes_on (grammar.print j.spelled) j.behind

asserted_statement : {i : ℕ} {value : Expression} {outer : List Around} {before r : Block} {all more : List Numbered} → IsExpression value all more →
    FromPurpose (asserted i) value outer before r more → FromStatements outer before r (on i (keyword keywords.Assert) ∷ all)
asserted_statement d (asserted_ends k) = goes_on (grammar.assert d) k

if_elses : {i closes : ℕ} {value : Expression} {then : Block} {outer : List Around} {before r : Block} {all body behind : List Numbered} →
    IsExpression value all body → IsBlock then closes body behind → FromElses (branch i value then) outer before r behind →
    FromStatements outer before r (on i (keyword keywords.If) ∷ all)
if_elses d b (elses others k) = goes_on (grammar.if_else d b others) k

if_statement : {i : ℕ} {value : Expression} {outer : List Around} {before r : Block} {all more : List Numbered} → IsExpression value all more →
    FromPurpose (if_condition i) value outer before r more → FromStatements outer before r (on i (keyword keywords.If) ∷ all)
if_statement d (if_ends b k) = if_elses d b k

while_statement : {i : ℕ} {value : Expression} {outer : List Around} {before r : Block} {all more : List Numbered} → IsExpression value all more →
    FromPurpose (while_condition i) value outer before r more → FromStatements outer before r (on i (keyword keywords.While) ∷ all)
while_statement d (while_condition_ends b k) = goes_on (grammar.while_do d b) k

for_second : {i own within range : ℕ} {bytes : List ℕ} {from end : Expression} {outer : List Around} {before r : Block} {all behind body : List Numbered} →
    IsExpression from all (on range (sign signs.Range) ∷ behind) → IsExpression end behind body →
    FromPurpose (for_end i (named own bytes) from) end outer before r body →
    FromStatements outer before r (on i (keyword keywords.For) ∷ on own (name bytes) ∷ on within (keyword keywords.In) ∷ all)
for_second d e (for_end_ends b k) = goes_on (grammar.for_do d e b) k

for_first_of : {i own within : ℕ} {bytes : List ℕ} {from : Expression} {outer : List Around} {before r : Block} {all more : List Numbered} →
    IsExpression from all more → FromPurpose (for_first i (named own bytes)) from outer before r more →
    FromStatements outer before r (on i (keyword keywords.For) ∷ on own (name bytes) ∷ on within (keyword keywords.In) ∷ all)
for_first_of d (for_first_ends e k) = for_second d e k

for_in : {i own : ℕ} {bytes : List ℕ} {outer : List Around} {before r : Block} {all : List Numbered} → FromIn i (named own bytes) outer before r all →
    FromStatements outer before r (on i (keyword keywords.For) ∷ on own (name bytes) ∷ all)
for_in (in_goes_on d k) = for_first_of d k

for_statement : {i : ℕ} {outer : List Around} {before r : Block} {all : List Numbered} → FromFor i outer before r all →
    FromStatements outer before r (on i (keyword keywords.For) ∷ all)
for_statement (for_goes_on k) = for_in k

close_back : (outer : List Around) (before : Block) (owner : Owner) (inside : Block) (i : ℕ) {c : Body} (r : Block) (all : List Numbered) →
    close_for outer before owner inside i ≡ Some c → Completes c r all → FromOwner owner i outer before inside r all
close_back outer before (then_of first condition) inside i r all q k = then_ends (at_same _ _ q k)
close_back outer before (arm_of b first condition) inside i r all q k = arm_ends (at_same _ _ q k)
close_back outer before (else_of b) inside i r all q k = else_ends (at_same _ _ q k)
close_back outer before (guarded first p) inside i r all q k = guarded_ends (at_same _ _ q k)
close_back outer before (while_of first condition) inside i r all q k = while_ends (at_same _ _ q k)
close_back outer before (for_of first n from end) inside i r all q k = for_ends (at_same _ _ q k)

closed_back : (outer : List Around) (inside : Block) (i : ℕ) {c : Body} (r : Block) (all : List Numbered) → close outer inside i ≡ Some c → Completes c r all →
    FromStatements outer inside r (on i (sign signs.CloseBrace) ∷ all)
closed_back [] inside i r all q k = absurd (none_some q)
closed_back (a ∷ outer) inside i r all q k = block_ends (close_back outer a.before a.owner inside i r all q k)

word_back : (t : Target) (outer : List Around) (before : Block) {c : Body} (r : Block) (all : List Numbered) →
    at outer before (before_place t) ≡ Some c → Completes c r all → Placed t outer before r all
word_back t outer before r all q k =
    let f : FromWord t outer before r all = at_same _ _ q k in
    placed f

begin_back : (outer : List Around) (before : Block) (i : ℕ) (t : Token) {c : Body} (r : Block) (all : List Numbered) →
    begin outer before i t ≡ Some c → Completes c r all → FromStatements outer before r (on i t ∷ all)
begin_back outer before i (name bytes) r all q k =
    let f : FromPlace assigned (named i bytes) tree.none outer before r all = at_same _ _ q k in
    let p = placed_at f in
    assigned_statement p.spelled p.behind
begin_back outer before i (keyword keywords.Acquire) r all q k =
    let p = word_back (acquired i) outer before r all q k in
    acquired_statement p.spelled p.behind
begin_back outer before i (keyword keywords.Release) r all q k =
    let p = word_back (released i) outer before r all q k in
    released_statement p.spelled p.behind
begin_back outer before i (keyword keywords.With) r all q k =
    let p = word_back (guarding i) outer before r all q k in
    guarding_statement p.spelled p.behind
begin_back outer before i (keyword keywords.Barrier) r all q k = barrier_statement (at_same _ _ q k)
begin_back outer before i (keyword keywords.Print) r all q k = printed_statement (expressed (printed i tree.none) outer before r all q k)
begin_back outer before i (keyword keywords.Assert) r all q k =
    let w = expressed (asserted i) outer before r all q k in
    asserted_statement w.spelled w.behind
begin_back outer before i (keyword keywords.If) r all q k =
    let w = expressed (if_condition i) outer before r all q k in
    if_statement w.spelled w.behind
begin_back outer before i (keyword keywords.While) r all q k =
    let w = expressed (while_condition i) outer before r all q k in
    while_statement w.spelled w.behind
begin_back outer before i (keyword keywords.For) r all q k = for_statement (at_same _ _ q k)
begin_back outer before i (sign signs.CloseBrace) r all q k = closed_back outer before i r all q k
begin_back outer before i (number n) r all q k = absurd (none_some q)
begin_back outer before i (keyword _) r all q k = absurd (none_some q)
begin_back outer before i (sign _) r all q k = absurd (none_some q)
begin_back outer before i finish r all q k = absurd (none_some q)

word_goes_back : (outer : List Around) (before : Block) (t : Target) (i : ℕ) (u : Token) {c : Body} (r : Block) (all : List Numbered) →
    behind_word outer before t i u ≡ Some c → Completes c r all → FromWord t outer before r (on i u ∷ all)
word_goes_back outer before t i (name bytes) r all q k = word_goes_on (at_same _ _ q k)
word_goes_back outer before t i _ r all q k = absurd (none_some q)

-- ---- behind a place

given_value : {p : Place} {update : Update} {i : ℕ} {outer : List Around} {before r : Block} {value : Expression} {mark : Sign} {all more : List Numbered} →
    Updates mark update → IsExpression value all more → FromPurpose (given p update) value outer before r more →
    FromTarget assigned p outer before r (on i (sign mark) ∷ all)
given_value u d (given_ends k) = from.sets u d k

guarded_block : {first i : ℕ} {p : Place} {outer : List Around} {before inside r : Block} {closes : ℕ} {all more : List Numbered} →
    grammar.AreStatements inside all (on closes (sign signs.CloseBrace) ∷ more) → FromOwner (guarded first p) closes outer before inside r more →
    FromTarget (guarding first) p outer before r (on i (sign signs.OpenBrace) ∷ all)
guarded_block d (guarded_ends k) = guards (braces d) k

opened_back : (owner : Owner) (outer : List Around) (before : Block) {c : Body} (r : Block) (all : List Numbered) →
    at (record { before = before; owner = owner } ∷ outer) tree.empty at_statement ≡ Some c → Completes c r all →
    from.JoinsStatements (record { before = before; owner = owner }) outer tree.empty r all
opened_back owner outer before r all q k =
    let f : FromStatements (record { before = before; owner = owner } ∷ outer) tree.empty r all = at_same _ _ q k in
    join_statements f

target_back : (outer : List Around) (before : Block) (t : Target) (p : Place) (i : ℕ) (u : Token) {c : Body} (r : Block) (all : List Numbered) →
    end_place outer before t p u ≡ Some c → Completes c r all → FromTarget t p outer before r (on i u ∷ all)
target_back outer before assigned p i (sign signs.Assign) r all q k =
    let w = expressed (given p Update.set) outer before r all q k in
    given_value sets w.spelled w.behind
target_back outer before assigned p i (sign signs.AddAssign) r all q k =
    let w = expressed (given p Update.add) outer before r all q k in
    given_value adds w.spelled w.behind
target_back outer before assigned p i (sign signs.SubtractAssign) r all q k =
    let w = expressed (given p Update.subtract) outer before r all q k in
    given_value subtracts w.spelled w.behind
target_back outer before (acquired first) p i (sign signs.Semicolon) r all q k = acquires (at_same _ _ q k)
target_back outer before (released first) p i (sign signs.Semicolon) r all q k = releases (at_same _ _ q k)
target_back outer before (guarding first) p i (sign signs.OpenBrace) r all q k =
    let j = opened_back (guarded first p) outer before r all q k in
    guarded_block j.spelled j.behind
target_back outer before assigned p i (sign _) r all q k = absurd (none_some q)
target_back outer before assigned p i _ r all q k = absurd (none_some q)
target_back outer before (acquired first) p i (sign _) r all q k = absurd (none_some q)
target_back outer before (acquired first) p i _ r all q k = absurd (none_some q)
target_back outer before (released first) p i (sign _) r all q k = absurd (none_some q)
target_back outer before (released first) p i _ r all q k = absurd (none_some q)
target_back outer before (guarding first) p i (sign _) r all q k = absurd (none_some q)
target_back outer before (guarding first) p i _ r all q k = absurd (none_some q)

index_value : {t : Target} {n : Named} {others : Expressions} {i : ℕ} {outer : List Around} {before r : Block} {value : Expression} {all more : List Numbered} →
    IsExpression value all more → FromPurpose (index_of t n others) value outer before r more →
    FromPlace t n others outer before r (on i (sign signs.OpenBracket) ∷ all)
index_value d (index_ends k) = place_goes_on d k

place_back : (outer : List Around) (before : Block) (t : Target) (n : Named) (others : Expressions) (i : ℕ) (u : Token) {c : Body} (r : Block)
    (all : List Numbered) → behind_place outer before t n others u ≡ Some c → Completes c r all → FromPlace t n others outer before r (on i u ∷ all)
place_back outer before t n others i (sign signs.OpenBracket) r all q k =
    let w = expressed (index_of t n others) outer before r all q k in
    index_value w.spelled w.behind
place_back outer before t n others i (sign mark) r all q k = place_ends (target_back outer before t (place_at n others) i (sign mark) r all q k)
place_back outer before t n others i u r all q k = place_ends (target_back outer before t (place_at n others) i u r all q k)

-- ---- in an expression

if_block : {first i : ℕ} {value : Expression} {outer : List Around} {before inside r : Block} {closes : ℕ} {all more : List Numbered} →
    grammar.AreStatements inside all (on closes (sign signs.CloseBrace) ∷ more) → FromOwner (then_of first value) closes outer before inside r more →
    FromPurpose (if_condition first) value outer before r (on i (sign signs.OpenBrace) ∷ all)
if_block d (then_ends k) = if_ends (braces d) k

arm_block : {b : Branch} {first i : ℕ} {value : Expression} {outer : List Around} {before inside r : Block} {closes : ℕ} {all more : List Numbered} →
    grammar.AreStatements inside all (on closes (sign signs.CloseBrace) ∷ more) → FromOwner (arm_of b first value) closes outer before inside r more →
    FromPurpose (arm_condition b first) value outer before r (on i (sign signs.OpenBrace) ∷ all)
arm_block d (arm_ends k) = arm_condition_ends (braces d) k

while_block : {first i : ℕ} {value : Expression} {outer : List Around} {before inside r : Block} {closes : ℕ} {all more : List Numbered} →
    grammar.AreStatements inside all (on closes (sign signs.CloseBrace) ∷ more) → FromOwner (while_of first value) closes outer before inside r more →
    FromPurpose (while_condition first) value outer before r (on i (sign signs.OpenBrace) ∷ all)
while_block d (while_ends k) = while_condition_ends (braces d) k

for_block : {first i : ℕ} {n : Named} {from value : Expression} {outer : List Around} {before inside r : Block} {closes : ℕ} {all more : List Numbered} →
    grammar.AreStatements inside all (on closes (sign signs.CloseBrace) ∷ more) → FromOwner (for_of first n from value) closes outer before inside r more →
    FromPurpose (for_end first n from) value outer before r (on i (sign signs.OpenBrace) ∷ all)
for_block d (for_ends k) = for_end_ends (braces d) k

ended_back : (outer : List Around) (before : Block) (purpose : Purpose) (value : Expression) (i : ℕ) (t : Token) {c : Body} (r : Block) (all : List Numbered) →
    is_ending purpose t ≡ true → ended outer before purpose value t ≡ Some c → Completes c r all → FromPurpose purpose value outer before r (on i t ∷ all)
ended_back outer before (index_of t n others) value i (sign signs.CloseBracket) r all is q k = index_ends (at_same _ _ q k)
ended_back outer before (given p update) value i (sign signs.Semicolon) r all is q k = given_ends (at_same _ _ q k)
ended_back outer before (printed first others) value i (sign signs.Semicolon) r all is q k = printed_ends (at_same _ _ q k)
ended_back outer before (printed first others) value i (sign signs.Comma) r all is q k =
    let w = expressed (printed first (push others value)) outer before r all q k in
    printed_goes_on w.spelled w.behind
ended_back outer before (asserted first) value i (sign signs.Semicolon) r all is q k = asserted_ends (at_same _ _ q k)
ended_back outer before (if_condition first) value i (sign signs.OpenBrace) r all is q k =
    let j = opened_back (then_of first value) outer before r all q k in
    if_block j.spelled j.behind
ended_back outer before (arm_condition b first) value i (sign signs.OpenBrace) r all is q k =
    let j = opened_back (arm_of b first value) outer before r all q k in
    arm_block j.spelled j.behind
ended_back outer before (while_condition first) value i (sign signs.OpenBrace) r all is q k =
    let j = opened_back (while_of first value) outer before r all q k in
    while_block j.spelled j.behind
ended_back outer before (for_first first n) value i (sign signs.Range) r all is q k =
    let w = expressed (for_end first n value) outer before r all q k in
    for_first_ends w.spelled w.behind
ended_back outer before (for_end first n from) value i (sign signs.OpenBrace) r all is q k =
    let j = opened_back (for_of first n from value) outer before r all q k in
    for_block j.spelled j.behind
ended_back outer before (index_of t n others) value i (sign _) r all is q k = absurd (false_true is)
ended_back outer before (index_of t n others) value i _ r all is q k = absurd (false_true is)
ended_back outer before (given p update) value i (sign _) r all is q k = absurd (false_true is)
ended_back outer before (given p update) value i _ r all is q k = absurd (false_true is)
ended_back outer before (printed first others) value i (sign _) r all is q k = absurd (false_true is)
ended_back outer before (printed first others) value i _ r all is q k = absurd (false_true is)
ended_back outer before (asserted first) value i (sign _) r all is q k = absurd (false_true is)
ended_back outer before (asserted first) value i _ r all is q k = absurd (false_true is)
ended_back outer before (if_condition first) value i (sign _) r all is q k = absurd (false_true is)
ended_back outer before (if_condition first) value i _ r all is q k = absurd (false_true is)
ended_back outer before (arm_condition b first) value i (sign _) r all is q k = absurd (false_true is)
ended_back outer before (arm_condition b first) value i _ r all is q k = absurd (false_true is)
ended_back outer before (while_condition first) value i (sign _) r all is q k = absurd (false_true is)
ended_back outer before (while_condition first) value i _ r all is q k = absurd (false_true is)
ended_back outer before (for_first first n) value i (sign _) r all is q k = absurd (false_true is)
ended_back outer before (for_first first n) value i _ r all is q k = absurd (false_true is)
ended_back outer before (for_end first n from) value i (sign _) r all is q k = absurd (false_true is)
ended_back outer before (for_end first n from) value i _ r all is q k = absurd (false_true is)

continued_back : (outer : List Around) (before : Block) (purpose : Purpose) (x : Partial) (i : ℕ) (t : Token) (y : Option Partial) {c : Body} (r : Block)
    (all : List Numbered) → partial_with x i t ≡ y → continued outer before purpose y ≡ Some c → Completes c r all →
    FromInside purpose x outer before r (on i t ∷ all)
continued_back outer before purpose x i t None r all p q k = absurd (none_some q)
continued_back outer before purpose x i t (Some y) r all p q k =
    let f : FromInside purpose y outer before r all = at_same _ _ q k in
    record { value = f.value; more = f.more; inside = expression_back.back x i t f.value all f.more p f.inside; behind = f.behind }

go_on_back : (outer : List Around) (before : Block) (purpose : Purpose) (x : Partial) (i : ℕ) (t : Token) (value : Option Expression) (is : Bool) {c : Body}
    (r : Block) (all : List Numbered) → value_of x ≡ value → is_ending purpose t ≡ is → ended_or_continued outer before purpose value is (partial_with x i t) t ≡ Some c →
    Completes c r all → FromInside purpose x outer before r (on i t ∷ all)
go_on_back outer before purpose x i t (Some v) true r all w e q k = record {
  value = v;
  more = on i t ∷ all;
  inside = expression_back.ended x v (on i t ∷ all) w;
  behind = ended_back outer before purpose v i t r all e q k;
}
go_on_back outer before purpose x i t (Some v) false r all w e q k = continued_back outer before purpose x i t (partial_with x i t) r all refl q k
go_on_back outer before purpose x i t None true r all w e q k = continued_back outer before purpose x i t (partial_with x i t) r all refl q k
go_on_back outer before purpose x i t None false r all w e q k = continued_back outer before purpose x i t (partial_with x i t) r all refl q k

-- ---- elsewhere

end_back : (outer : List Around) (before : Block) (s : Statement) (i : ℕ) (t : Token) {c : Body} (r : Block) (all : List Numbered) →
    at_end outer before s t ≡ Some c → Completes c r all → FromEnd s outer before r (on i t ∷ all)
end_back outer before s i (sign signs.Semicolon) r all q k = statement_ends (at_same _ _ q k)
end_back outer before s i (sign _) r all q k = absurd (none_some q)
end_back outer before s i _ r all q k = absurd (none_some q)

for_back : (outer : List Around) (before : Block) (first i : ℕ) (t : Token) {c : Body} (r : Block) (all : List Numbered) →
    behind_for outer before first i t ≡ Some c → Completes c r all → FromFor first outer before r (on i t ∷ all)
for_back outer before first i (name bytes) r all q k = for_goes_on (at_same _ _ q k)
for_back outer before first i _ r all q k = absurd (none_some q)

in_back : (outer : List Around) (before : Block) (first : ℕ) (n : Named) (i : ℕ) (t : Token) {c : Body} (r : Block) (all : List Numbered) →
    behind_name outer before first n t ≡ Some c → Completes c r all → FromIn first n outer before r (on i t ∷ all)
in_back outer before first n i (keyword keywords.In) r all q k =
    let w = expressed (for_first first n) outer before r all q k in
    in_goes_on w.spelled w.behind
in_back outer before first n i (keyword _) r all q k = absurd (none_some q)
in_back outer before first n i _ r all q k = absurd (none_some q)

-- behind a block of an `if`, with no `else`
pub no_more : (b : Branch) (outer : List Around) (before r : Block) (all : List Numbered) → FromStatements outer (with_statement before (whole_if b tree.empty)) r all →
    FromElses b outer before r all
no_more b outer before r all k =
    elses grammar.no_else (subst (λ arms. FromStatements outer (with_statement before (tree.if_else b.first b.condition b.then arms tree.empty)) r all)
    (sym (append_no_arm b.arms)) k)

arm_elses : {b : Branch} {at : ℕ} {condition : Expression} {outer : List Around} {before r : Block} {i closes : ℕ} {then : Block} {all body behind : List Numbered} →
    IsExpression condition all body → IsBlock then closes body behind → FromElses (with_arm b at condition then) outer before r behind →
    FromElses b outer before r (on i (keyword keywords.Else) ∷ on at (keyword keywords.If) ∷ all)
arm_elses {b} {at} {condition} {outer} {before} {r} {then = then} d e (elses {others = others} {otherwise = otherwise} {more = more} es k) =
    elses (grammar.else_if d e es) (subst (λ arms. FromStatements outer
    (with_statement before (tree.if_else b.first b.condition b.then arms otherwise)) r more) (append_arm b.arms at condition then others) k)

arm_back : {b : Branch} {at : ℕ} {condition : Expression} {outer : List Around} {before r : Block} {i : ℕ} {all more : List Numbered} →
    IsExpression condition all more → FromPurpose (arm_condition b at) condition outer before r more →
    FromElses b outer before r (on i (keyword keywords.Else) ∷ on at (keyword keywords.If) ∷ all)
arm_back d (arm_condition_ends e k) = arm_elses d e k

otherwise_back : {b : Branch} {outer : List Around} {before r : Block} {i : ℕ} {all : List Numbered} → FromElse b outer before r all →
    FromElses b outer before r (on i (keyword keywords.Else) ∷ all)
otherwise_back {b} {outer} {before} {r} (otherwise_ends {inside = inside} {rest = rest} d k) =
    elses (grammar.last_else d) (subst (λ arms. FromStatements outer (with_statement before (tree.if_else b.first b.condition b.then arms inside)) r rest)
    (sym (append_no_arm b.arms)) k)
otherwise_back (arm_goes_on d k) = arm_back d k

branch_back : (outer : List Around) (before : Block) (b : Branch) (i : ℕ) (t : Token) {c : Body} (r : Block) (all : List Numbered) →
    behind_branch outer before b i t ≡ Some c → Completes c r all → FromElses b outer before r (on i t ∷ all)
branch_back outer before b i (keyword keywords.Else) r all q k =
    let f : FromElse b outer before r all = at_same _ _ q k in
    otherwise_back f
branch_back outer before b i (keyword word) r all q k =
    no_more b outer before r (on i (keyword word) ∷ all) (begin_back outer (with_statement before (whole_if b tree.empty)) i (keyword word) r all q k)
branch_back outer before b i t r all q k =
    no_more b outer before r (on i t ∷ all) (begin_back outer (with_statement before (whole_if b tree.empty)) i t r all q k)

else_block : {b : Branch} {i : ℕ} {outer : List Around} {before inside r : Block} {closes : ℕ} {all more : List Numbered} →
    grammar.AreStatements inside all (on closes (sign signs.CloseBrace) ∷ more) → FromOwner (else_of b) closes outer before inside r more →
    FromElse b outer before r (on i (sign signs.OpenBrace) ∷ all)
else_block d (else_ends k) = otherwise_ends (braces d) k

else_back : (outer : List Around) (before : Block) (b : Branch) (i : ℕ) (t : Token) {c : Body} (r : Block) (all : List Numbered) →
    behind_else outer before b i t ≡ Some c → Completes c r all → FromElse b outer before r (on i t ∷ all)
else_back outer before b i (sign signs.OpenBrace) r all q k =
    let j = opened_back (else_of b) outer before r all q k in
    else_block j.spelled j.behind
else_back outer before b i (keyword keywords.If) r all q k =
    let w = expressed (arm_condition b i) outer before r all q k in
    arm_goes_on w.spelled w.behind
else_back outer before b i (sign _) r all q k = absurd (none_some q)
else_back outer before b i (keyword _) r all q k = absurd (none_some q)
else_back outer before b i _ r all q k = absurd (none_some q)

back_at : (outer : List Around) (before : Block) (spot : Spot) (i : ℕ) (t : Token) {c : Body} (r : Block) (all : List Numbered) →
    moved outer before spot i t ≡ Some c → Completes c r all → CompletesAt outer before spot r (on i t ∷ all)
back_at outer before at_statement i t r all q k = begin_back outer before i t r all q k
back_at outer before (before_place u) i t r all q k = word_goes_back outer before u i t r all q k
back_at outer before (after_place u n others) i t r all q k = place_back outer before u n others i t r all q k
back_at outer before (in_expression purpose x) i t r all q k = go_on_back outer before purpose x i t (value_of x) (is_ending purpose t) r all refl refl q k
back_at outer before (before_end s) i t r all q k = end_back outer before s i t r all q k
back_at outer before (before_name first) i t r all q k = for_back outer before first i t r all q k
back_at outer before (before_in first n) i t r all q k = in_back outer before first n i t r all q k
back_at outer before (after_branch b) i t r all q k = branch_back outer before b i t r all q k
back_at outer before (after_else b) i t r all q k = else_back outer before b i t r all q k

pub back : (b : Body) (i : ℕ) (t : Token) {c : Body} (r : Block) (all : List Numbered) → body_with b i t ≡ Some c → Completes c r all →
    Completes b r (on i t ∷ all)
back b i t r all q k = back_at b.outer b.before b.spot i t r all q k

-- ---- wholes

whole_at : (outer : List Around) (before : Block) (spot : Spot) (r : Block) (last : ℕ) → whole_in outer before spot ≡ Some r →
    CompletesAt outer before spot r (on last finish ∷ [])
whole_at [] before at_statement r last q = all_ends (some_same q)
whole_at [] before (after_branch b) r last q = no_more b [] before r (on last finish ∷ []) (all_ends (some_same q))
whole_at [] before (before_place u) r last q = absurd (none_some q)
whole_at [] before (after_place u n others) r last q = absurd (none_some q)
whole_at [] before (in_expression purpose x) r last q = absurd (none_some q)
whole_at [] before (before_end s) r last q = absurd (none_some q)
whole_at [] before (before_name first) r last q = absurd (none_some q)
whole_at [] before (before_in first n) r last q = absurd (none_some q)
whole_at [] before (after_else b) r last q = absurd (none_some q)
whole_at (a ∷ outer) before spot r last q = absurd (none_some q)

-- statements that may end are complete
pub ended_whole : (b : Body) (r : Block) (last : ℕ) → whole_of b ≡ Some r → Completes b r (on last finish ∷ [])
ended_whole b r last q = whole_at b.outer b.before b.spot r last q
