-- Where a symbol can stand, it and what completes the statements behind it complete those in front of it.
use Rattle.std.proofs.Common.{◌≡◌, ℕ, Bool, true, false, cond, List, [], ◌∷◌, Option, Some, None, refl, sym, subst}
use Rattle.lrc_lang.specs.declared.token.Keyword.TheVariants.{Acquire, Release, Barrier, Print, If, Else, While}
use Rattle.lrc_lang.specs.declared.token.Sign.TheVariants.{Semicolon, Assign, OpenBracket, CloseBracket, OpenBrace, CloseBrace}
use Rattle.lrc_lang.specs.Symbol.{Symbol, name, keyword, sign, finish}
use Rattle.lrc_program.specs.Tree.{Expression, Statement, Block, empty}
use Rattle.lrc_lang.specs.Grammar as grammar
use Rattle.lrc_lang.specs.Grammar.{IsExpression, IsStatement, IsBlock, braces, AreStatements, none, one_more}
use Rattle.lrc_lang.specs.Parser.Partial.{no_pending, Partial, nothing, partial_with, value_of}
use Rattle.lrc_lang.specs.Parser.Body as body
use Rattle.lrc_lang.specs.Parser.Body.{Purpose, assigned, word_read, word_written, written, acquired, released, printed, if_condition, while_condition}
use Rattle.lrc_lang.specs.Parser.Body.{Place, at_statement, after_name, after_equals, in_expression, after_word, before_end, after_then, after_else}
use Rattle.lrc_lang.specs.Parser.Body.{Owner, then_of, else_of, inside_of, Around, Body, push, body_with, whole_of, if_some, Ending, semicolon, bracket}
use Rattle.lrc_lang.specs.Parser.Body.{brace, is_ending, ending_of}
use Rattle.lrc_lang.proofs.Expressions as expressions
use Rattle.lrc_lang.proofs.Expressions.{Completes, Starts, starts, split_expression, join_expression, turns, back, ended, completion, completed}
use Rattle.lrc_lang.proofs.Options.{none_some, some_same}
use Rattle.lrc_lang.proofs.Statements.{CompletesBody, FromExpression, FromOwner, FromPlace, FromPurpose, FromStatement, FromThen, Leaves, acquires}
use Rattle.lrc_lang.proofs.Statements.{assigns, begins, closes, from_else, from_inside, from_then, has_else, in_brackets, in_else, in_end, in_equals}
use Rattle.lrc_lang.proofs.Statements.{in_name, in_statement, in_then, in_whole, in_word, is_all, leave, names_word, no_else, prints, reads, releases}
use Rattle.lrc_lang.proofs.Statements.{repeats, tests, writes}

at_same : {x y : Body} (whole : Block) (all : List Symbol) → Some x ≡ Some y → CompletesBody y whole all → CompletesBody x whole all
at_same whole all q k = subst (λ b. CompletesBody b whole all) (sym (some_same q)) k

-- an expression from what completes it
record Whole (outer : List Around) (before : Block) (purpose : Purpose) (whole : Block) (all : List Symbol) : Type 0 where
  value : Expression
  more : List Symbol
  spelled : IsExpression value all more
  behind : FromPurpose outer before purpose value whole more

is_whole : {outer : List Around} {before : Block} {purpose : Purpose} {inner value : Expression} {whole : Block} {all more rest : List Symbol} →
    IsExpression inner all more → expressions.FromValue [] inner value more rest → FromPurpose outer before purpose value whole rest →
    Whole outer before purpose whole all
is_whole {outer} {before} {purpose} {inner} {value} {whole} {all} {more} {rest} d (expressions.is_all q r) k =
    let behind = subst (λ e. FromPurpose outer before purpose e whole more) (sym q) (subst (λ t. FromPurpose outer before purpose value whole t) (sym r) k) in
    record { value = inner; more = more; spelled = d; behind = behind }

whole : {outer : List Around} {before : Block} {purpose : Purpose} {all_of : Block} {all : List Symbol} →
    FromExpression outer before purpose nothing all_of all → Whole outer before purpose all_of all
whole k =
    let s : Starts [] no_pending k.value _ k.more = k.completed in
    let w = join_expression s.spelled s.behind in
    is_whole w.spelled w.behind k.behind

assign_back : {outer : List Around} {before : Block} {k : ℕ} {value : Expression} {whole : Block} {all more : List Symbol} →
    IsExpression value all more → FromPurpose outer before (assigned k) value whole more → FromStatement outer before whole (name k ∷ sign Assign ∷ all)
assign_back d (assigns k) = begins (grammar.assign d) k

read_back : {outer : List Around} {before : Block} {k : ℕ} {value : Expression} {whole : Block} {all more : List Symbol} →
    IsExpression value all more → FromPurpose outer before (word_read k) value whole more
    → FromStatement outer before whole (name k ∷ sign Assign ∷ sign OpenBracket ∷ all)
read_back d (reads k) = begins (grammar.read d) k

name_back : {outer : List Around} {before : Block} {k : ℕ} {whole : Block} {all : List Symbol} →
    FromPlace outer before (after_name k) whole all → FromStatement outer before whole (name k ∷ all)
name_back (in_name (in_equals k)) = let w = whole k in assign_back w.spelled w.behind
name_back (in_name (in_brackets k)) = let w = whole k in read_back w.spelled w.behind

write_back : {outer : List Around} {before : Block} {value : Expression} {whole : Block} {all more : List Symbol} →
    IsExpression value all more → FromPurpose outer before word_written value whole more → FromStatement outer before whole (sign OpenBracket ∷ all)
write_back d (names_word v k) = begins (grammar.write d v) k

acquire_back : {outer : List Around} {before : Block} {value : Expression} {whole : Block} {all more : List Symbol} →
    IsExpression value all more → FromPurpose outer before acquired value whole more → FromStatement outer before whole (keyword Acquire ∷ all)
acquire_back d (acquires k) = begins (grammar.acquire d) k

release_back : {outer : List Around} {before : Block} {value : Expression} {whole : Block} {all more : List Symbol} →
    IsExpression value all more → FromPurpose outer before released value whole more → FromStatement outer before whole (keyword Release ∷ all)
release_back d (releases k) = begins (grammar.release d) k

print_back : {outer : List Around} {before : Block} {value : Expression} {whole : Block} {all more : List Symbol} →
    IsExpression value all more → FromPurpose outer before printed value whole more → FromStatement outer before whole (keyword Print ∷ all)
print_back d (prints k) = begins (grammar.print d) k

if_back : {outer : List Around} {before : Block} {value : Expression} {whole : Block} {all more : List Symbol} →
    IsExpression value all more → FromPurpose outer before if_condition value whole more → FromStatement outer before whole (keyword If ∷ all)
if_back d (tests b (no_else k)) = begins (grammar.if_alone d b) k
if_back d (tests b (has_else c k)) = begins (grammar.if_else d b c) k

while_back : {outer : List Around} {before : Block} {value : Expression} {whole : Block} {all more : List Symbol} →
    IsExpression value all more → FromPurpose outer before while_condition value whole more → FromStatement outer before whole (keyword While ∷ all)
while_back d (repeats b k) = begins (grammar.while_do d b) k

in_back : {outer : List Around} {before : Block} {purpose : Purpose} {all_of : Block} {all : List Symbol} →
    FromPlace outer before (in_expression purpose nothing) all_of all → Whole outer before purpose all_of all
in_back (in_whole k) = whole k

end_back : {outer : List Around} {before : Block} {whole : Block} {all : List Symbol} →
    FromPlace outer before (before_end Statement.barrier) whole all → FromStatement outer before whole (keyword Barrier ∷ all)
end_back (in_end k) = begins grammar.barrier k

statement_back : {outer : List Around} {before : Block} {whole : Block} {all : List Symbol} →
    FromPlace outer before at_statement whole all → FromStatement outer before whole all
statement_back (in_statement k) = k

then_back : {outer : List Around} {before : Block} {condition : Expression} {first whole : Block} {all : List Symbol} →
    FromPlace outer before (after_then condition first) whole all → FromThen outer before condition first whole all
then_back (in_then k) = k

owner_back : (outer : List Around) (before : Block) (owner : Owner) (inside : Block) {b : Body} {whole : Block} {all : List Symbol} →
    body.close_for outer before owner inside ≡ Some b → CompletesBody b whole all → FromOwner outer before owner inside whole all
owner_back outer before (then_of condition) inside q k = from_then (then_back (at_same _ _ q k))
owner_back outer before (else_of condition first) inside q k = from_else (statement_back (at_same _ _ q k))
owner_back outer before (inside_of condition) inside q k = from_inside (statement_back (at_same _ _ q k))

close_back : (outer : List Around) (inside : Block) {b : Body} {whole : Block} {all : List Symbol} →
    body.close outer inside ≡ Some b → CompletesBody b whole all → FromStatement outer inside whole (sign CloseBrace ∷ all)
close_back [] inside q k = absurd (none_some q)
close_back (around ∷ outer) inside q k = closes (owner_back outer around.before around.owner inside q k)

begin_back : (outer : List Around) (before : Block) (symbol : Symbol) {b : Body} {all_of : Block} {all : List Symbol} →
    body.begin outer before symbol ≡ Some b → CompletesBody b all_of all → FromStatement outer before all_of (symbol ∷ all)
begin_back outer before (name n) q k = name_back (at_same _ _ q k)
begin_back outer before (sign OpenBracket) q k = let w = in_back (at_same _ _ q k) in write_back w.spelled w.behind
begin_back outer before (keyword Acquire) q k = let w = in_back (at_same _ _ q k) in acquire_back w.spelled w.behind
begin_back outer before (keyword Release) q k = let w = in_back (at_same _ _ q k) in release_back w.spelled w.behind
begin_back outer before (keyword Barrier) q k = end_back (at_same _ _ q k)
begin_back outer before (keyword Print) q k = let w = in_back (at_same _ _ q k) in print_back w.spelled w.behind
begin_back outer before (keyword If) q k = let w = in_back (at_same _ _ q k) in if_back w.spelled w.behind
begin_back outer before (keyword While) q k = let w = in_back (at_same _ _ q k) in while_back w.spelled w.behind
begin_back outer before (sign CloseBrace) q k = close_back outer before q k
begin_back outer before _ q k = absurd (none_some q)

leave_back : {outer : List Around} {around : Around} {whole : Block} {all : List Symbol} →
    FromPlace (around ∷ outer) empty at_statement whole all → Leaves outer around empty whole all
leave_back (in_statement k) = leave empty k

first_back : {outer : List Around} {before : Block} {condition : Expression} {first whole : Block} {all : List Symbol} →
    FromOwner outer before (then_of condition) first whole all → FromThen outer before condition first whole all
first_back (from_then k) = k

second_back : {outer : List Around} {before : Block} {condition : Expression} {first second whole : Block} {all : List Symbol} →
    FromOwner outer before (else_of condition first) second whole all →
    FromStatement outer (push before (Statement.if_else condition first second)) whole all
second_back (from_else k) = k

inside_back : {outer : List Around} {before : Block} {condition : Expression} {inside whole : Block} {all : List Symbol} →
    FromOwner outer before (inside_of condition) inside whole all →
    FromStatement outer (push before (Statement.while_do condition inside)) whole all
inside_back (from_inside k) = k

reads_back : {outer : List Around} {before : Block} {n : ℕ} {value : Expression} {whole : Block} {all : List Symbol} →
    FromPlace outer before (before_end (Statement.read n value)) whole all →
    FromPurpose outer before (word_read n) value whole (sign CloseBracket ∷ all)
reads_back (in_end k) = reads k

written_back : {outer : List Around} {before : Block} {w value : Expression} {whole : Block} {all more : List Symbol} →
    IsExpression value all more → FromPurpose outer before (written w) value whole more →
    FromPurpose outer before word_written w whole (sign CloseBracket ∷ sign Assign ∷ all)
written_back d (writes k) = names_word d k

word_back : {outer : List Around} {before : Block} {w : Expression} {whole : Block} {all : List Symbol} →
    FromPlace outer before (after_word w) whole all →
    FromPurpose outer before word_written w whole (sign CloseBracket ∷ all)
word_back (in_word k) = let v = whole k in written_back v.spelled v.behind

-- the sign of an ending
abbrev sign_of : Ending → Symbol
sign_of semicolon = sign Semicolon
sign_of bracket = sign CloseBracket
sign_of brace = sign OpenBrace

is_sign : (ending : Ending) (symbol : Symbol) → is_ending ending symbol ≡ true → symbol ≡ sign_of ending
is_sign semicolon (sign Semicolon) q = refl
is_sign bracket (sign CloseBracket) q = refl
is_sign brace (sign OpenBrace) q = refl
is_sign _ _ q = cc

ended_back : (outer : List Around) (before : Block) (purpose : Purpose) (value : Expression) {b : Body} {all_of : Block} {all : List Symbol} →
    body.ended outer before purpose value ≡ Some b → CompletesBody b all_of all →
    FromPurpose outer before purpose value all_of (sign_of (ending_of purpose) ∷ all)
ended_back outer before (assigned n) value q k = assigns (statement_back (at_same _ _ q k))
ended_back outer before (word_read n) value q k = reads_back (at_same _ _ q k)
ended_back outer before word_written value q k = word_back (at_same _ _ q k)
ended_back outer before (written w) value q k = writes (statement_back (at_same _ _ q k))
ended_back outer before acquired value q k = acquires (statement_back (at_same _ _ q k))
ended_back outer before released value q k = releases (statement_back (at_same _ _ q k))
ended_back outer before printed value q k = prints (statement_back (at_same _ _ q k))
ended_back outer before if_condition value q k = let l = leave_back (at_same _ _ q k) in tests (braces l.spelled) (first_back l.behind)
ended_back outer before while_condition value q k = let l = leave_back (at_same _ _ q k) in repeats (braces l.spelled) (inside_back l.behind)

ending_back : (outer : List Around) (before : Block) (purpose : Purpose) (x : Partial)
    (found : Option Expression) {b : Body} {all_of : Block} {all : List Symbol} →
    value_of x ≡ found → if_some found (λ value. body.ended outer before purpose value) ≡ Some b → CompletesBody b all_of all →
    FromExpression outer before purpose x all_of (sign_of (ending_of purpose) ∷ all)
ending_back outer before purpose x None v q k = absurd (none_some q)
ending_back outer before purpose x (Some value) {all = all} v q k =
    record {
      value = value;
      more = sign_of (ending_of purpose) ∷ all;
      completed = ended x value (sign_of (ending_of purpose) ∷ all) v;
      behind = ended_back outer before purpose value q k;
    }

inside_expression : {outer : List Around} {before : Block} {purpose : Purpose} {x : Partial} {all_of : Block} {all : List Symbol} →
    FromPlace outer before (in_expression purpose x) all_of all → FromExpression outer before purpose x all_of all
inside_expression (in_whole k) = k

going_back : (outer : List Around) (before : Block) (purpose : Purpose) (x : Partial) (symbol : Symbol)
    (found : Option Partial) {b : Body} {all_of : Block} {all : List Symbol} →
    partial_with x symbol ≡ found → if_some found (λ y. body.at outer before (in_expression purpose y)) ≡ Some b → CompletesBody b all_of all →
    FromExpression outer before purpose x all_of (symbol ∷ all)
going_back outer before purpose x symbol None v q k = absurd (none_some q)
going_back outer before purpose x symbol (Some y) v q k =
    let e = inside_expression (at_same _ _ q k) in
    record { value = e.value; more = e.more; completed = back x symbol e.value _ e.more v e.completed; behind = e.behind }

go_on_back : (outer : List Around) (before : Block) (purpose : Purpose) (x : Partial) (symbol : Symbol)
    (ends : Bool) {b : Body} {all_of : Block} {all : List Symbol} →
    is_ending (ending_of purpose) symbol ≡ ends →
    cond ends (if_some (value_of x) (λ value. body.ended outer before purpose value))
    (if_some (partial_with x symbol) (λ y. body.at outer before (in_expression purpose y))) ≡ Some b →
    CompletesBody b all_of all →
    FromExpression outer before purpose x all_of (symbol ∷ all)
go_on_back outer before purpose x symbol true {all_of = all_of} {all = all} e q k =
    subst (λ s. FromExpression outer before purpose x all_of (s ∷ all)) (sym (is_sign (ending_of purpose) symbol e))
    (ending_back outer before purpose x (value_of x) refl q k)
go_on_back outer before purpose x symbol false e q k = going_back outer before purpose x symbol (partial_with x symbol) refl q k

equals_back : (outer : List Around) (before : Block) (n : ℕ) (symbol : Symbol) {b : Body} {all_of : Block} {all : List Symbol} →
    body.behind_equals outer before n symbol ≡ Some b → CompletesBody b all_of all →
    FromPlace outer before (after_equals n) all_of (symbol ∷ all)
equals_back outer before n (sign OpenBracket) q k = in_brackets (inside_expression (at_same _ _ q k))
equals_back outer before n symbol q k = in_equals (go_on_back outer before (assigned n) nothing symbol _ refl q k)

name_place_back : (outer : List Around) (before : Block) (n : ℕ) (symbol : Symbol) {b : Body} {all_of : Block} {all : List Symbol} →
    body.behind_name outer before n symbol ≡ Some b → CompletesBody b all_of all →
    FromPlace outer before (after_name n) all_of (symbol ∷ all)
name_place_back outer before n (sign Assign) q k = in_name (at_same _ _ q k)
name_place_back outer before n _ q k = absurd (none_some q)

word_place_back : (outer : List Around) (before : Block) (w : Expression) (symbol : Symbol) {b : Body} {all_of : Block} {all : List Symbol} →
    body.behind_word outer before w symbol ≡ Some b → CompletesBody b all_of all →
    FromPlace outer before (after_word w) all_of (symbol ∷ all)
word_place_back outer before w (sign Assign) q k = in_word (inside_expression (at_same _ _ q k))
word_place_back outer before w _ q k = absurd (none_some q)

end_place_back : (outer : List Around) (before : Block) (s : Statement) (symbol : Symbol) {b : Body} {all_of : Block} {all : List Symbol} →
    body.at_end outer before s symbol ≡ Some b → CompletesBody b all_of all →
    FromPlace outer before (before_end s) all_of (symbol ∷ all)
end_place_back outer before s (sign Semicolon) q k = in_end (statement_back (at_same _ _ q k))
end_place_back outer before s _ q k = absurd (none_some q)

otherwise_back : {outer : List Around} {before : Block} {condition : Expression} {first all_of : Block} {all : List Symbol} →
    FromPlace outer before (after_else condition first) all_of all →
    FromThen outer before condition first all_of (keyword Else ∷ all)
otherwise_back (in_else b k) = has_else b k

then_place_back : (outer : List Around) (before : Block) (condition : Expression) (first : Block)
    (symbol : Symbol) {b : Body} {all_of : Block} {all : List Symbol} →
    body.behind_then outer before condition first symbol ≡ Some b → CompletesBody b all_of all →
    FromPlace outer before (after_then condition first) all_of (symbol ∷ all)
then_place_back outer before condition first (keyword Else) q k = in_then (otherwise_back (at_same _ _ q k))
then_place_back outer before condition first symbol q k = in_then (no_else (begin_back outer _ symbol q k))

else_place_back : (outer : List Around) (before : Block) (condition : Expression) (first : Block)
    (symbol : Symbol) {b : Body} {all_of : Block} {all : List Symbol} →
    body.behind_else outer before condition first symbol ≡ Some b → CompletesBody b all_of all →
    FromPlace outer before (after_else condition first) all_of (symbol ∷ all)
else_place_back outer before condition first (sign OpenBrace) q k = let l = leave_back (at_same _ _ q k) in in_else (braces l.spelled) (second_back l.behind)
else_place_back outer before condition first _ q k = absurd (none_some q)

place_back : (outer : List Around) (before : Block) (place : Place) (symbol : Symbol) {b : Body} {all_of : Block} {all : List Symbol} →
    body.moved outer before place symbol ≡ Some b → CompletesBody b all_of all → FromPlace outer before place all_of (symbol ∷ all)
place_back outer before at_statement symbol q k = in_statement (begin_back outer before symbol q k)
place_back outer before (after_name n) symbol q k = name_place_back outer before n symbol q k
place_back outer before (after_equals n) symbol q k = equals_back outer before n symbol q k
place_back outer before (in_expression purpose x) symbol q k = in_whole (go_on_back outer before purpose x symbol _ refl q k)
place_back outer before (after_word w) symbol q k = word_place_back outer before w symbol q k
place_back outer before (before_end s) symbol q k = end_place_back outer before s symbol q k
place_back outer before (after_then condition first) symbol q k = then_place_back outer before condition first symbol q k
place_back outer before (after_else condition first) symbol q k = else_place_back outer before condition first symbol q k

-- where a symbol can stand, it and what completes the statements behind it complete the statements in front of it
pub back_body : (b : Body) (symbol : Symbol) {c : Body} (all_of : Block) (all : List Symbol) →
    body_with b symbol ≡ Some c → CompletesBody c all_of all → CompletesBody b all_of (symbol ∷ all)
back_body b symbol all_of all q k = place_back b.outer b.before b.place symbol q k

whole_at : (outer : List Around) (before : Block) (place : Place) (all_of : Block) →
    body.whole_in outer before place ≡ Some all_of → FromPlace outer before place all_of (finish ∷ [])
whole_at [] before at_statement all_of q = in_statement (is_all (some_same q))
whole_at [] before (after_then condition first) all_of q = in_then (no_else (is_all (some_same q)))
whole_at _ _ _ all_of q = absurd (none_some q)

-- statements that may end are complete
pub whole_body : (b : Body) (all_of : Block) → whole_of b ≡ Some all_of → CompletesBody b all_of (finish ∷ [])
whole_body b all_of q = whole_at b.outer b.before b.place all_of q
