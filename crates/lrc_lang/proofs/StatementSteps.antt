-- What completes statements begins with a symbol that can stand there, or with the end of the text where they may end.
use Rattle.std.proofs.Common.{◌≡◌, ℕ, false, List, [], ◌∷◌, Option, Some, None, refl, sym, ap, subst, ◌∙◌}
use Rattle.lrc_lang.specs.declared.token.Keyword.TheVariants.{Else}
use Rattle.lrc_lang.specs.declared.token.Sign.TheVariants.{Semicolon, OpenBracket, CloseBracket, OpenBrace}
use Rattle.lrc_lang.specs.Symbol.{Symbol, keyword, sign, finish}
use Rattle.lrc_program.specs.Tree.{Expression, Statement, Block, empty}
use Rattle.lrc_lang.specs.Grammar as grammar
use Rattle.lrc_lang.specs.Grammar.{IsExpression, IsStatement, IsBlock, braces, AreStatements, none, one_more}
use Rattle.lrc_lang.specs.Parser.Partial as partial
use Rattle.lrc_lang.specs.Parser.Partial.{Level, no_pending, Partial, nothing, partial_with, value_of}
use Rattle.lrc_lang.specs.Parser.Body as body
use Rattle.lrc_lang.specs.Parser.Body.{Purpose, assigned, word_read, word_written, written, acquired, released, printed, if_condition, while_condition}
use Rattle.lrc_lang.specs.Parser.Body.{Place, at_statement, after_name, after_equals, in_expression, after_word, before_end, after_then, after_else}
use Rattle.lrc_lang.specs.Parser.Body.{Owner, then_of, else_of, inside_of, Around, Body, push, body_with, whole_of, if_some, Ending, semicolon, bracket}
use Rattle.lrc_lang.specs.Parser.Body.{brace, is_ending, ending_of}
use Rattle.lrc_lang.proofs.Expressions as expressions
use Rattle.lrc_lang.proofs.Expressions.{Completes, Starts, starts, split_expression, join_expression, turns, back, ended, completion, completed}
use Rattle.lrc_lang.proofs.Options.{none_some}
use Rattle.lrc_lang.proofs.Statements.{CompletesBody, FromExpression, FromOwner, FromPlace, FromPurpose, FromStatement, FromThen, acquires, assigns}
use Rattle.lrc_lang.proofs.Statements.{begins, closes, enter, from_else, from_inside, from_then, has_else, in_brackets, in_else, in_end, in_equals}
use Rattle.lrc_lang.proofs.Statements.{in_name, in_statement, in_then, in_whole, in_word, is_all, names_word, no_else, prints, reads, releases, repeats}
use Rattle.lrc_lang.proofs.Statements.{tests, writes}

-- The next symbol can stand there, and the symbols behind it complete what has come with it; or it is the end of the
-- text, and the block is complete.
pub data Turns (step : Symbol → Option Body) (end : Option Block) (whole : Block) : List Symbol → Type 0 where
  goes : {symbol : Symbol} {all : List Symbol} (b : Body) → step symbol ≡ Some b → CompletesBody b whole all → Turns step end whole (symbol ∷ all)
  stops : end ≡ Some whole → Turns step end whole (finish ∷ [])

-- an expression, and what comes behind it
express : {outer : List Around} {before : Block} {purpose : Purpose} {value : Expression} {whole : Block} {all more : List Symbol} →
    IsExpression value all more → FromPurpose outer before purpose value whole more → FromExpression outer before purpose nothing whole all
express {value = value} {more = more} d k =
    record { value = value; more = more; completed = starts (split_expression d (expressions.is_all refl refl)); behind = k }

close_goes : (outer : List Around) (before : Block) (owner : Owner) (inside : Block) {whole : Block} {all : List Symbol} →
    FromOwner outer before owner inside whole all → (b : Body) × (body.close_for outer before owner inside ≡ Some b) × CompletesBody b whole all
close_goes outer before (then_of condition) inside (from_then k) = (_, refl, in_then k)
close_goes outer before (else_of condition first) inside (from_else k) = (_, refl, in_statement k)
close_goes outer before (inside_of condition) inside (from_inside k) = (_, refl, in_statement k)

begin_turns : (outer : List Around) (before : Block) {whole : Block} {all : List Symbol} →
    FromStatement outer before whole all → Turns (body.begin outer before) (body.whole_in outer before at_statement) whole all
begin_turns outer before (begins (grammar.assign d) k) = goes _ refl (in_name (in_equals (express d (assigns k))))
begin_turns outer before (begins (grammar.read d) k) = goes _ refl (in_name (in_brackets (express d (reads k))))
begin_turns outer before (begins (grammar.write d v) k) = goes _ refl (in_whole (express d (names_word v k)))
begin_turns outer before (begins (grammar.acquire d) k) = goes _ refl (in_whole (express d (acquires k)))
begin_turns outer before (begins (grammar.release d) k) = goes _ refl (in_whole (express d (releases k)))
begin_turns outer before (begins grammar.barrier k) = goes _ refl (in_end k)
begin_turns outer before (begins (grammar.print d) k) = goes _ refl (in_whole (express d (prints k)))
begin_turns outer before (begins (grammar.if_alone d b) k) = goes _ refl (in_whole (express d (tests b (no_else k))))
begin_turns outer before (begins (grammar.if_else d b c) k) = goes _ refl (in_whole (express d (tests b (has_else c k))))
begin_turns outer before (begins (grammar.while_do d b) k) = goes _ refl (in_whole (express d (repeats b k)))
begin_turns (around ∷ outer) before (closes o) =
    let c = close_goes outer around.before around.owner before o in
    goes c.0 c.1 c.2
begin_turns [] before (is_all q) = stops (ap Some q)

-- a sign that may end an expression goes on with none
semicolon_refused : (outer : List Level) (level : Level) (operand : Option Expression) → partial.moved outer level operand (sign Semicolon) ≡ None
semicolon_refused outer level None = refl
semicolon_refused outer level (Some e) = refl

bracket_refused : (outer : List Level) (level : Level) (operand : Option Expression) → partial.moved outer level operand (sign CloseBracket) ≡ None
bracket_refused outer level None = refl
bracket_refused outer level (Some e) = refl

brace_refused : (outer : List Level) (level : Level) (operand : Option Expression) → partial.moved outer level operand (sign OpenBrace) ≡ None
brace_refused outer level None = refl
brace_refused outer level (Some e) = refl

no_ending : (ending : Ending) (x : Partial) (symbol : Symbol) {y : Partial} → partial_with x symbol ≡ Some y → is_ending ending symbol ≡ false
no_ending semicolon x (sign Semicolon) q = absurd (none_some (sym (semicolon_refused x.outer x.level x.operand) ∙ q))
no_ending bracket x (sign CloseBracket) q = absurd (none_some (sym (bracket_refused x.outer x.level x.operand) ∙ q))
no_ending brace x (sign OpenBrace) q = absurd (none_some (sym (brace_refused x.outer x.level x.operand) ∙ q))
no_ending _ x _ q = refl

goes_on : (outer : List Around) (before : Block) (purpose : Purpose) (x : Partial) (symbol : Symbol) {y : Partial} →
    partial_with x symbol ≡ Some y →
    body.go_on outer before purpose x symbol ≡ body.at outer before (in_expression purpose y)
goes_on outer before purpose x symbol q = simp (no_ending (ending_of purpose) x symbol q, q)

purpose_turns : (outer : List Around) (before : Block) (purpose : Purpose) (x : Partial) {value : Expression}
    (end : Option Block) {whole : Block} {all : List Symbol} →
    value_of x ≡ Some value → FromPurpose outer before purpose value whole all →
    Turns (body.go_on outer before purpose x) end whole all
purpose_turns outer before purpose x end q (assigns {k = k} r) =
    goes _ (ap (λ v. if_some v (λ value. body.ended outer before (assigned k) value)) q) (in_statement r)
purpose_turns outer before purpose x end q (reads {k = k} r) = goes _ (ap (λ v. if_some v (λ value. body.ended outer before (word_read k) value)) q) (in_end r)
purpose_turns outer before purpose x end q (names_word d r) =
    goes _ (ap (λ v. if_some v (λ value. body.ended outer before word_written value)) q) (in_word (express d (writes r)))
purpose_turns outer before purpose x end q (writes {w = w} r) =
    goes _ (ap (λ v. if_some v (λ value. body.ended outer before (written w) value)) q) (in_statement r)
purpose_turns outer before purpose x end q (acquires r) = goes _ (ap (λ v. if_some v (λ value. body.ended outer before acquired value)) q) (in_statement r)
purpose_turns outer before purpose x end q (releases r) = goes _ (ap (λ v. if_some v (λ value. body.ended outer before released value)) q) (in_statement r)
purpose_turns outer before purpose x end q (prints r) = goes _ (ap (λ v. if_some v (λ value. body.ended outer before printed value)) q) (in_statement r)
purpose_turns outer before purpose x end q (tests (braces d) r) =
    goes _ (ap (λ v. if_some v (λ value. body.ended outer before if_condition value)) q) (in_statement (enter empty d (closes (from_then r))))
purpose_turns outer before purpose x end q (repeats (braces d) r) =
    goes _ (ap (λ v. if_some v (λ value. body.ended outer before while_condition value)) q) (in_statement (enter empty d (closes (from_inside r))))

expression_turns : (outer : List Around) (before : Block) (purpose : Purpose) (x : Partial)
    (end : Option Block) {value : Expression} {whole : Block} {all more : List Symbol} →
    expressions.Turns (partial_with x) (value_of x) value all more → FromPurpose outer before purpose value whole more →
    Turns (body.go_on outer before purpose x) end whole all
expression_turns outer before purpose x end (expressions.goes {symbol = symbol} y q c) k =
    goes _ (goes_on outer before purpose x symbol q) (in_whole (record { value = _; more = _; completed = c; behind = k }))
expression_turns outer before purpose x end {value} {whole} (expressions.ends q r) k =
    purpose_turns outer before purpose x end q (subst (λ all. FromPurpose outer before purpose value whole all) (sym r) k)

from_expression_turns : (outer : List Around) (before : Block) (purpose : Purpose) (x : Partial) (end : Option Block) {whole : Block} {all : List Symbol} →
    FromExpression outer before purpose x whole all → Turns (body.go_on outer before purpose x) end whole all
from_expression_turns outer before purpose x end k = expression_turns outer before purpose x end (turns x k.completed) k.behind

behind_then_is : (outer : List Around) (before : Block) (condition : Expression) (first : Block) (symbol : Symbol) {b : Body} →
    body.begin outer (push before (Statement.if_else condition first empty)) symbol ≡ Some b →
    body.behind_then outer before condition first symbol ≡ Some b
behind_then_is outer before condition first (keyword Else) q = absurd (none_some q)
behind_then_is outer before condition first _ q = q

whole_behind_then : (outer : List Around) (before : Block) (condition : Expression) (first : Block) →
    body.whole_in outer (push before (Statement.if_else condition first empty)) at_statement ≡ body.whole_in outer before (after_then condition first)
whole_behind_then [] before condition first = refl
whole_behind_then (around ∷ outer) before condition first = refl

then_turns : (outer : List Around) (before : Block) (condition : Expression) (first : Block) {whole : Block} {all : List Symbol} →
    Turns (body.begin outer (push before (Statement.if_else condition first empty)))
    (body.whole_in outer (push before (Statement.if_else condition first empty)) at_statement) whole all →
    Turns (body.behind_then outer before condition first) (body.whole_in outer before (after_then condition first)) whole all
then_turns outer before condition first (goes {symbol = symbol} b q k) = goes b (behind_then_is outer before condition first symbol q) k
then_turns outer before condition first (stops q) = stops (sym (whole_behind_then outer before condition first) ∙ q)

from_then_turns : (outer : List Around) (before : Block) (condition : Expression) (first : Block) {whole : Block} {all : List Symbol} →
    FromThen outer before condition first whole all →
    Turns (body.behind_then outer before condition first) (body.whole_in outer before (after_then condition first)) whole all
from_then_turns outer before condition first (has_else b k) = goes _ refl (in_else b k)
from_then_turns outer before condition first (no_else k) = then_turns outer before condition first (begin_turns outer _ k)

behind_equals_is : (outer : List Around) (before : Block) (k : ℕ) (symbol : Symbol) {b : Body} →
    body.go_on outer before (assigned k) nothing symbol ≡ Some b → body.behind_equals outer before k symbol ≡ Some b
behind_equals_is outer before k (sign OpenBracket) q = absurd (none_some q)
behind_equals_is outer before k _ q = q

equals_turns : (outer : List Around) (before : Block) (k : ℕ) (end : Option Block) {whole : Block} {all : List Symbol} →
    Turns (body.go_on outer before (assigned k) nothing) None whole all → Turns (body.behind_equals outer before k) end whole all
equals_turns outer before k end (goes {symbol = symbol} b q r) = goes b (behind_equals_is outer before k symbol q) r
equals_turns outer before k end (stops q) = absurd (none_some q)

place_turns : (outer : List Around) (before : Block) (place : Place) {whole : Block} {all : List Symbol} →
    FromPlace outer before place whole all → Turns (body.moved outer before place) (body.whole_in outer before place) whole all
place_turns outer before at_statement (in_statement k) = begin_turns outer before k
place_turns outer before (after_name n) (in_name k) = goes _ refl k
place_turns outer before (after_equals n) (in_equals k) = equals_turns outer before n _ (from_expression_turns outer before (assigned n) nothing None k)
place_turns outer before (after_equals n) (in_brackets k) = goes _ refl (in_whole k)
place_turns outer before (in_expression purpose x) (in_whole k) = from_expression_turns outer before purpose x _ k
place_turns outer before (after_word w) (in_word k) = goes _ refl (in_whole k)
place_turns outer before (before_end s) (in_end k) = goes _ refl (in_statement k)
place_turns outer before (after_then condition first) (in_then k) = from_then_turns outer before condition first k
place_turns outer before (after_else condition first) (in_else (braces d) k) = goes _ refl (in_statement (enter empty d (closes (from_else k))))

-- what completes the statements begins with a symbol that can stand there, or with the end of the text where they may end
pub turns_body : (b : Body) {whole : Block} {all : List Symbol} → CompletesBody b whole all → Turns (body_with b) (whole_of b) whole all
turns_body b k = place_turns b.outer b.before b.place k
