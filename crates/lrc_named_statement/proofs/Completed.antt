-- Statements that have begun can be completed.
use Rattle.std.proofs.Common.{ℕ, ◌+◌, List, [], ◌∷◌, refl}
use Rattle.lrc_named_tokens.specs.declared.token.Keyword.TheVariants as keywords
use Rattle.lrc_named_tokens.specs.declared.token.Sign.TheVariants as signs
use Rattle.lrc_named_tokens.specs.Token.{Token}
use Rattle.lrc_named_tree.specs.Tree.{Named, Expression, Expressions, Place, Update, Statement, Block, Arms}
use Rattle.lrc_named_tree.specs.Tree as tree
use Rattle.lrc_named_tree.specs.Grammar.{Numbered, on, named, numbered, IsExpression, IsFactor, braces, no_statement, sets}
use Rattle.lrc_named_tree.specs.Grammar as grammar
use Rattle.lrc_named_expression.specs.Partial.{push}
use Rattle.lrc_named_expression.proofs.Completed as expressions
use Rattle.lrc_named_statement.specs.Body.{Target, assigned, acquired, released, guarding}
use Rattle.lrc_named_statement.specs.Body.{Purpose, index_of, given, printed, asserted, if_condition, arm_condition, while_condition, for_first, for_end}
use Rattle.lrc_named_statement.specs.Body.{Spot, at_statement, before_place, after_place, in_expression, before_end, before_name, before_in, after_branch}
use Rattle.lrc_named_statement.specs.Body.{after_else, Owner, then_of, arm_of, else_of, guarded, while_of, for_of, Around, Body}
use Rattle.lrc_named_statement.specs.Body.{with_statement, with_arm, whole_if, place_at}
use Rattle.lrc_named_statement.proofs.From.{branch, FromStatements, block_ends, all_ends, FromOwner, then_ends, arm_ends, else_ends, guarded_ends}
use Rattle.lrc_named_statement.proofs.From.{while_ends, for_ends, FromElses, FromTarget, acquires, releases, guards, FromPlace, place_ends}
use Rattle.lrc_named_statement.proofs.From.{FromPurpose, index_ends, given_ends, printed_ends, asserted_ends, if_ends, arm_condition_ends, while_condition_ends}
use Rattle.lrc_named_statement.proofs.From.{for_first_ends, for_end_ends, word_goes_on, statement_ends, FromIn, in_goes_on, for_goes_on, FromElse, otherwise_ends}
use Rattle.lrc_named_statement.proofs.From.{CompletesAt, Completes}
use Rattle.lrc_named_statement.proofs.From as from
use Rattle.lrc_named_statement.proofs.Back.{no_more}

-- the `}` of each open block, and the end of the text
abbrev pub closing : List Around → List Token
closing [] = Token.finish ∷ []
closing (a ∷ outer) = Token.sign signs.CloseBrace ∷ closing outer

abbrev with_block : List Token → List Token
with_block rest = Token.sign signs.OpenBrace ∷ Token.sign signs.CloseBrace ∷ rest

abbrev target_end : Target → List Token → List Token
target_end assigned rest = Token.sign signs.Assign ∷ Token.number 0 ∷ Token.sign signs.Semicolon ∷ rest
target_end (acquired first) rest = Token.sign signs.Semicolon ∷ rest
target_end (released first) rest = Token.sign signs.Semicolon ∷ rest
target_end (guarding first) rest = with_block rest

abbrev purpose_end : Purpose → List Token → List Token
purpose_end (index_of t n others) rest = Token.sign signs.CloseBracket ∷ target_end t rest
purpose_end (given p update) rest = Token.sign signs.Semicolon ∷ rest
purpose_end (printed first others) rest = Token.sign signs.Semicolon ∷ rest
purpose_end (asserted first) rest = Token.sign signs.Semicolon ∷ rest
purpose_end (if_condition first) rest = with_block rest
purpose_end (arm_condition b first) rest = with_block rest
purpose_end (while_condition first) rest = with_block rest
purpose_end (for_first first n) rest = Token.sign signs.Range ∷ Token.number 0 ∷ with_block rest
purpose_end (for_end first n from) rest = with_block rest

abbrev in_end : List Token → List Token
in_end rest = Token.keyword keywords.In ∷ Token.number 0 ∷ Token.sign signs.Range ∷ Token.number 0 ∷ with_block rest

abbrev spot_end : Spot → List Token → List Token
spot_end at_statement rest = rest
spot_end (before_place t) rest = Token.name [] ∷ target_end t rest
spot_end (after_place t n others) rest = target_end t rest
spot_end (in_expression purpose x) rest = expressions.completion x (purpose_end purpose rest)
spot_end (before_end s) rest = Token.sign signs.Semicolon ∷ rest
spot_end (before_name first) rest = Token.name [] ∷ in_end rest
spot_end (before_in first n) rest = in_end rest
spot_end (after_branch b) rest = rest
spot_end (after_else b) rest = with_block rest

-- tokens that complete what has come
abbrev pub completion : Body → List Token
completion b = spot_end b.spot (closing b.outer)

zero_expression : {at : ℕ} {rest : List Numbered} → IsExpression (tree.number at 0) (on at (Token.number 0) ∷ rest) rest
zero_expression =
    grammar.expression (grammar.both (grammar.one_sum (grammar.sum (grammar.term grammar.a_number grammar.no_factor) grammar.no_term)) grammar.no_test)
    grammar.no_both

-- any statements are completed by the tokens of this rest, whose first has this index
abbrev Ready : List Around → ℕ → List Token → Type 0
Ready outer n rest = (before : Block) → (r : Block) × FromStatements outer before r (numbered n rest)

owner_completed : (n : ℕ) (owner : Owner) (outer : List Around) (before inside : Block) (rest : List Token) → Ready outer n rest → (closes : ℕ) →
    (r : Block) × FromOwner owner closes outer before inside r (numbered n rest)
owner_completed n (then_of first condition) outer before inside rest ready closes =
    let b = branch first condition inside in
    let k = ready (with_statement before (whole_if b tree.empty)) in
    (k.0, then_ends (no_more b outer before k.0 (numbered n rest) k.1))
owner_completed n (arm_of b first condition) outer before inside rest ready closes =
    let c = with_arm b first condition inside in
    let k = ready (with_statement before (whole_if c tree.empty)) in
    (k.0, arm_ends (no_more c outer before k.0 (numbered n rest) k.1))
owner_completed n (else_of b) outer before inside rest ready closes =
    let k = ready (with_statement before (whole_if b inside)) in
    (k.0, else_ends k.1)
owner_completed n (guarded first p) outer before inside rest ready closes =
    let k = ready (with_statement before (tree.with_do first p inside closes)) in
    (k.0, guarded_ends k.1)
owner_completed n (while_of first condition) outer before inside rest ready closes =
    let k = ready (with_statement before (tree.while_do first condition inside)) in
    (k.0, while_ends k.1)
owner_completed n (for_of first name from end) outer before inside rest ready closes =
    let k = ready (with_statement before (tree.for_do first name from end inside)) in
    (k.0, for_ends k.1)

ready_at : (n : ℕ) (outer : List Around) → Ready outer n (closing outer)
ready_at n [] before = (before, all_ends refl)
ready_at n (a ∷ outer) before =
    let k = owner_completed (n + 1) a.owner outer a.before before (closing outer) (ready_at (n + 1) outer) n in
    (k.0, block_ends k.1)

-- so many tokens on, such statements are ready too
abbrev AllReady : List Around → List Token → Type 0
AllReady outer rest = (n : ℕ) → Ready outer n rest

target_completed : (n : ℕ) (t : Target) (p : Place) (outer : List Around) (before : Block) (rest : List Token) → AllReady outer rest →
    (r : Block) × FromTarget t p outer before r (numbered n (target_end t rest))
target_completed n assigned p outer before rest ready =
    let k = ready (n + 1 + 1 + 1) (with_statement before (tree.assign p Update.set (tree.number (n + 1) 0))) in
    (k.0, from.sets sets zero_expression k.1)
target_completed n (acquired first) p outer before rest ready =
    let k = ready (n + 1) (with_statement before (tree.acquire first p)) in
    (k.0, acquires k.1)
target_completed n (released first) p outer before rest ready =
    let k = ready (n + 1) (with_statement before (tree.release first p)) in
    (k.0, releases k.1)
target_completed n (guarding first) p outer before rest ready =
    let k = ready (n + 1 + 1) (with_statement before (tree.with_do first p tree.empty (n + 1))) in
    (k.0, guards (braces no_statement) k.1)

place_completed : (n : ℕ) (t : Target) (name : Named) (others : Expressions) (outer : List Around) (before : Block) (rest : List Token) → AllReady outer rest →
    (r : Block) × FromPlace t name others outer before r (numbered n (target_end t rest))
place_completed n t name others outer before rest ready =
    let k = target_completed n t (place_at name others) outer before rest ready in
    (k.0, place_ends k.1)

for_end_completed : (n first : ℕ) (name : Named) (from value : Expression) (outer : List Around) (before : Block) (rest : List Token) → AllReady outer rest →
    (r : Block) × FromPurpose (for_end first name from) value outer before r (numbered n (with_block rest))
for_end_completed n first name from value outer before rest ready =
    let k = ready (n + 1 + 1) (with_statement before (tree.for_do first name from value tree.empty)) in
    (k.0, for_end_ends (braces no_statement) k.1)

purpose_completed : (n : ℕ) (purpose : Purpose) (value : Expression) (outer : List Around) (before : Block) (rest : List Token) → AllReady outer rest →
    (r : Block) × FromPurpose purpose value outer before r (numbered n (purpose_end purpose rest))
purpose_completed n (index_of t name others) value outer before rest ready =
    let k = place_completed (n + 1) t name (push others value) outer before rest ready in
    (k.0, index_ends k.1)
purpose_completed n (given p update) value outer before rest ready =
    let k = ready (n + 1) (with_statement before (tree.assign p update value)) in
    (k.0, given_ends k.1)
purpose_completed n (printed first others) value outer before rest ready =
    let k = ready (n + 1) (with_statement before (tree.print first (push others value))) in
    (k.0, printed_ends k.1)
purpose_completed n (asserted first) value outer before rest ready =
    let k = ready (n + 1) (with_statement before (tree.assert first value)) in
    (k.0, asserted_ends k.1)
purpose_completed n (if_condition first) value outer before rest ready =
    let b = branch first value tree.empty in
    let k = ready (n + 1 + 1) (with_statement before (whole_if b tree.empty)) in
    (k.0, if_ends (braces no_statement) (no_more b outer before k.0 (numbered (n + 1 + 1) rest) k.1))
purpose_completed n (arm_condition b first) value outer before rest ready =
    let c = with_arm b first value tree.empty in
    let k = ready (n + 1 + 1) (with_statement before (whole_if c tree.empty)) in
    (k.0, arm_condition_ends (braces no_statement) (no_more c outer before k.0 (numbered (n + 1 + 1) rest) k.1))
purpose_completed n (while_condition first) value outer before rest ready =
    let k = ready (n + 1 + 1) (with_statement before (tree.while_do first value tree.empty)) in
    (k.0, while_condition_ends (braces no_statement) k.1)
purpose_completed n (for_first first name) value outer before rest ready =
    let k = for_end_completed (n + 1 + 1) first name value (tree.number (n + 1) 0) outer before rest ready in
    (k.0, for_first_ends zero_expression k.1)
purpose_completed n (for_end first name from) value outer before rest ready = for_end_completed n first name from value outer before rest ready

in_completed : (n first : ℕ) (name : Named) (outer : List Around) (before : Block) (rest : List Token) → AllReady outer rest →
    (r : Block) × FromIn first name outer before r (numbered n (in_end rest))
in_completed n first name outer before rest ready =
    let k = purpose_completed (n + 1 + 1) (for_first first name) (tree.number (n + 1) 0) outer before rest ready in
    (k.0, in_goes_on zero_expression k.1)

spot_completed : (n : ℕ) (spot : Spot) (outer : List Around) (before : Block) (rest : List Token) → AllReady outer rest →
    (r : Block) × CompletesAt outer before spot r (numbered n (spot_end spot rest))
spot_completed n at_statement outer before rest ready = ready n before
spot_completed n (before_place t) outer before rest ready =
    let k = place_completed (n + 1) t (named n []) tree.none outer before rest ready in
    (k.0, word_goes_on k.1)
spot_completed n (after_place t name others) outer before rest ready = place_completed n t name others outer before rest ready
spot_completed n (in_expression purpose x) outer before rest ready =
    let e = expressions.completed n x (purpose_end purpose rest) in
    let k = purpose_completed e.1 purpose e.0 outer before rest ready in
    (k.0, record { value = e.0; more = numbered e.1 (purpose_end purpose rest); inside = e.2; behind = k.1 })
spot_completed n (before_end s) outer before rest ready =
    let k = ready (n + 1) (with_statement before s) in
    (k.0, statement_ends k.1)
spot_completed n (before_name first) outer before rest ready =
    let k = in_completed (n + 1) first (named n []) outer before rest ready in
    (k.0, for_goes_on k.1)
spot_completed n (before_in first name) outer before rest ready = in_completed n first name outer before rest ready
spot_completed n (after_branch b) outer before rest ready =
    let k = ready n (with_statement before (whole_if b tree.empty)) in
    (k.0, no_more b outer before k.0 (numbered n rest) k.1)
spot_completed n (after_else b) outer before rest ready =
    let k = ready (n + 1 + 1) (with_statement before (whole_if b tree.empty)) in
    (k.0, otherwise_ends (braces no_statement) k.1)

-- the tokens of the completion, whatever the first one's index, complete what has come
pub completed : (n : ℕ) (b : Body) → (r : Block) × Completes b r (numbered n (completion b))
completed n b = spot_completed n b.spot b.outer b.before (closing b.outer) (λ m. ready_at m b.outer)
