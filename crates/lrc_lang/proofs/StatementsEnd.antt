-- All statements that have begun can be completed.
use Rattle.std.proofs.Common.{List, [], ◌∷◌, refl}
use Rattle.lrc_lang.specs.declared.token.Sign.TheVariants.{Semicolon, Assign, CloseBracket, OpenBrace, CloseBrace}
use Rattle.lrc_lang.specs.Token.{Token}
use Rattle.lrc_lang.specs.Symbol.{Symbol, number, Names, symbols_after}
use Rattle.lrc_program.specs.Tree.{Expression, Statement, Block, empty}
use Rattle.lrc_lang.specs.Grammar as grammar
use Rattle.lrc_lang.specs.Grammar.{IsExpression, IsStatement, IsBlock, braces, AreStatements, none, one_more}
use Rattle.lrc_lang.specs.Parser.Partial.{Partial, nothing}
use Rattle.lrc_lang.specs.Parser.Body.{Purpose, assigned, word_read, word_written, written, acquired, released, printed, if_condition}
use Rattle.lrc_lang.specs.Parser.Body.{while_condition, Place, at_statement, after_name, after_equals, in_expression, after_word}
use Rattle.lrc_lang.specs.Parser.Body.{before_end, after_then, after_else, Owner, then_of, else_of, inside_of, Around, Body, push}
use Rattle.lrc_lang.proofs.Expressions.{completion, completed}
use Rattle.lrc_lang.proofs.Statements.{CompletesBody, FromExpression, FromOwner, FromPlace, FromPurpose, FromStatement, acquires, assigns}
use Rattle.lrc_lang.proofs.Statements.{closes, from_else, from_inside, from_then, in_else, in_end, in_equals, in_name, in_statement, in_then}
use Rattle.lrc_lang.proofs.Statements.{in_whole, in_word, is_all, names_word, no_else, prints, reads, releases, repeats, tests, writes}

-- the braces that close these blocks, and then the end of the text
abbrev closing : List Around → List Token
closing [] = Token.finish ∷ []
closing (around ∷ outer) = Token.sign CloseBrace ∷ closing outer

-- behind an expression that stands for this
abbrev ending : List Around → Purpose → List Token
ending outer (assigned n) = Token.sign Semicolon ∷ closing outer
ending outer (word_read n) = Token.sign CloseBracket ∷ Token.sign Semicolon ∷ closing outer
ending outer word_written = Token.sign CloseBracket ∷ Token.sign Assign ∷ Token.number 0 ∷ Token.sign Semicolon ∷ closing outer
ending outer (written w) = Token.sign Semicolon ∷ closing outer
ending outer acquired = Token.sign Semicolon ∷ closing outer
ending outer released = Token.sign Semicolon ∷ closing outer
ending outer printed = Token.sign Semicolon ∷ closing outer
ending outer if_condition = Token.sign OpenBrace ∷ Token.sign CloseBrace ∷ closing outer
ending outer while_condition = Token.sign OpenBrace ∷ Token.sign CloseBrace ∷ closing outer

abbrev completing : List Around → Place → List Token
completing outer at_statement = closing outer
completing outer (after_name n) = Token.sign Assign ∷ Token.number 0 ∷ Token.sign Semicolon ∷ closing outer
completing outer (after_equals n) = Token.number 0 ∷ Token.sign Semicolon ∷ closing outer
completing outer (in_expression purpose x) = completion x (ending outer purpose)
completing outer (after_word w) = Token.sign Assign ∷ Token.number 0 ∷ Token.sign Semicolon ∷ closing outer
completing outer (before_end s) = Token.sign Semicolon ∷ closing outer
completing outer (after_then condition first) = closing outer
completing outer (after_else condition first) = Token.sign OpenBrace ∷ Token.sign CloseBrace ∷ closing outer

-- tokens that complete what has come
abbrev pub body_completion : Body → List Token
body_completion b = completing b.outer b.place

-- the number that stands in for an expression
abbrev zero_value : Expression
zero_value = Expression.number 0

zero_spelled : {rest : List Symbol} → IsExpression zero_value (number 0 ∷ rest) rest
zero_spelled = grammar.one_sum (grammar.term (grammar.factor grammar.a_number))

-- a block that ends in front of these symbols, which complete any statements around it
owner_closed : (outer : List Around) (before : Block) (owner : Owner) (inside : Block) (all : List Symbol) →
    ((b : Block) → (all_of : Block) × FromStatement outer b all_of all) → (all_of : Block) × FromOwner outer before owner inside all_of all
owner_closed outer before (then_of condition) inside all close = let k = close (push before (Statement.if_else condition inside empty)) in
    (k.0, from_then (no_else k.1))
owner_closed outer before (else_of condition first) inside all close = let k = close (push before (Statement.if_else condition first inside)) in
    (k.0, from_else k.1)
owner_closed outer before (inside_of condition) inside all close = let k = close (push before (Statement.while_do condition inside)) in (k.0, from_inside k.1)

closed : (names : Names) (outer : List Around) (before : Block) → (all_of : Block) × FromStatement outer before all_of (symbols_after names (closing outer))
closed names [] before = (before, is_all refl)
closed names (around ∷ outer) before =
    let k = owner_closed outer around.before around.owner before (symbols_after names (closing outer)) (closed names outer) in
    (k.0, closes k.1)

purpose_closed : (names : Names) (outer : List Around) (before : Block) (purpose : Purpose) (value : Expression) →
    (all_of : Block) × FromPurpose outer before purpose value all_of (symbols_after names (ending outer purpose))
purpose_closed names outer before (assigned n) value = let k = closed names outer (push before (Statement.assign n value)) in (k.0, assigns k.1)
purpose_closed names outer before (word_read n) value = let k = closed names outer (push before (Statement.read n value)) in (k.0, reads k.1)
purpose_closed names outer before word_written value = let k = closed names outer (push before (Statement.write value zero_value)) in
    (k.0, names_word zero_spelled k.1)
purpose_closed names outer before (written w) value = let k = closed names outer (push before (Statement.write w value)) in (k.0, writes k.1)
purpose_closed names outer before acquired value = let k = closed names outer (push before (Statement.acquire value)) in (k.0, acquires k.1)
purpose_closed names outer before released value = let k = closed names outer (push before (Statement.release value)) in (k.0, releases k.1)
purpose_closed names outer before printed value = let k = closed names outer (push before (Statement.print value)) in (k.0, prints k.1)
purpose_closed names outer before if_condition value = let k = closed names outer (push before (Statement.if_else value empty empty)) in
    (k.0, tests (braces none) (no_else k.1))
purpose_closed names outer before while_condition value = let k = closed names outer (push before (Statement.while_do value empty)) in
    (k.0, repeats (braces none) k.1)

expression_closed : (names : Names) (outer : List Around) (before : Block) (purpose : Purpose) (x : Partial) →
    (all_of : Block) × FromExpression outer before purpose x all_of (symbols_after names (completion x (ending outer purpose)))
expression_closed names outer before purpose x =
    let e = completed names x (ending outer purpose) in
    let k = purpose_closed names outer before purpose e.0 in
    (k.0, record { value = e.0; more = symbols_after names (ending outer purpose); completed = e.1; behind = k.1 })

place_closed : (names : Names) (outer : List Around) (before : Block) (place : Place) →
    (all_of : Block) × FromPlace outer before place all_of (symbols_after names (completing outer place))
place_closed names outer before at_statement = let k = closed names outer before in (k.0, in_statement k.1)
place_closed names outer before (after_name n) = let k = expression_closed names outer before (assigned n) nothing in (k.0, in_name (in_equals k.1))
place_closed names outer before (after_equals n) = let k = expression_closed names outer before (assigned n) nothing in (k.0, in_equals k.1)
place_closed names outer before (in_expression purpose x) = let k = expression_closed names outer before purpose x in (k.0, in_whole k.1)
place_closed names outer before (after_word w) = let k = expression_closed names outer before (written w) nothing in (k.0, in_word k.1)
place_closed names outer before (before_end s) = let k = closed names outer (push before s) in (k.0, in_end k.1)
place_closed names outer before (after_then condition first) = let k = closed names outer (push before (Statement.if_else condition first empty)) in
    (k.0, in_then (no_else k.1))
place_closed names outer before (after_else condition first) = let k = closed names outer (push before (Statement.if_else condition first empty)) in
    (k.0, in_else (braces none) k.1)

pub body_completed : (names : Names) (b : Body) → (all_of : Block) × CompletesBody b all_of (symbols_after names (body_completion b))
body_completed names b = place_closed names b.outer b.before b.place
