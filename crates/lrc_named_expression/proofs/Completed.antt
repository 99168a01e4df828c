-- Every expression that has begun can be completed.
use Rattle.std.proofs.Common.{ℕ, ◌+◌, List, [], ◌∷◌, refl}
use Rattle.lrc_named_tokens.specs.declared.token.Sign.{Sign}
use Rattle.lrc_named_tokens.specs.declared.token.Sign.TheVariants as signs
use Rattle.lrc_named_tokens.specs.Token.{Token}
use Rattle.lrc_named_tree.specs.Tree.{Named, Expression, Expressions}
use Rattle.lrc_named_tree.specs.Tree as tree
use Rattle.lrc_named_tree.specs.Grammar.{Numbered, on, numbered}
use Rattle.lrc_named_tree.specs.Grammar as grammar
use Rattle.lrc_named_expression.specs.Partial.{Level, Opening, group, argument, index, Around, Place, Partial}
use Rattle.lrc_named_expression.specs.Partial.{at_test, at_factor, after_name, after_index, after_call, after_operand, bare, push, whole_of}
use Rattle.lrc_named_expression.proofs.From.{FromClosed, closes_group, closes_call, closes_index, indices_end, term_ends, sum_ends}
use Rattle.lrc_named_expression.proofs.From.{comparison_ends, both_ends, either_ends, FromValue, closes, is_all}
use Rattle.lrc_named_expression.proofs.From.{an_element, GoesOn, CompletesAt, Completes, join_test}

-- the sign that closes a bracket
abbrev pub closer : Opening → Sign
closer (group opens) = signs.CloseParenthesis
closer (argument name others) = signs.CloseParenthesis
closer (index name others) = signs.CloseBracket

-- the signs that close these brackets, and then the rest
abbrev pub closing : List Around → List Token → List Token
closing [] rest = rest
closing (a ∷ outer) rest = Token.sign (closer a.opening) ∷ closing outer rest

abbrev completing : List Around → Place → List Token → List Token
completing outer at_test rest = Token.number 0 ∷ closing outer rest
completing outer at_factor rest = Token.number 0 ∷ closing outer rest
completing outer (after_call name) rest = Token.sign signs.CloseParenthesis ∷ closing outer rest
completing outer _ rest = closing outer rest

-- tokens that complete what has come, and then the rest
abbrev pub completion : Partial → List Token → List Token
completion x rest = completing x.outer x.place rest

-- behind so many tokens these tokens, up to the rest, complete an operand
abbrev Completed : ℕ → List Around → Level → Expression → List Token → Type 0
Completed n outer level operand rest = (e : Expression) × (m : ℕ) × GoesOn outer level operand e (numbered n (closing outer rest)) (numbered m rest)

with_value : {outer : List Around} (level : Level) (operand : Expression) {e : Expression} {all rest : List Numbered} → FromValue outer (whole_of level operand) e all rest →
    GoesOn outer level operand e all rest
with_value level operand k = term_ends (sum_ends (comparison_ends (both_ends (either_ends k))))

closed_completed : (n : ℕ) (a : Around) (outer : List Around) (level : Level) (operand : Expression) (rest : List Token) (opening : Opening) →
    ((k : ℕ) (o : Expression) → Completed k outer a.level o rest) →
    (e : Expression) × (m : ℕ) × FromClosed opening a.level outer (whole_of level operand) e
    (on n (Token.sign (closer opening)) ∷ numbered (n + 1) (closing outer rest)) (numbered m rest)
closed_completed n a outer level operand rest (group opens) later =
    let k = later (n + 1) (tree.group opens (whole_of level operand) n) in
    (k.0, k.1, closes_group k.2)
closed_completed n a outer level operand rest (argument name others) later =
    let k = later (n + 1) (tree.call name (push others (whole_of level operand)) n) in
    (k.0, k.1, closes_call k.2)
closed_completed n a outer level operand rest (index name others) later =
    let k = later (n + 1) (tree.element name (push others (whole_of level operand)) n) in
    (k.0, k.1, closes_index (indices_end k.2))

go_on_completed : (n : ℕ) (outer : List Around) (level : Level) (operand : Expression) (rest : List Token) → Completed n outer level operand rest
go_on_completed n [] level operand rest = (_, n, with_value level operand (is_all refl refl))
go_on_completed n (a ∷ outer) level operand rest =
    let k = closed_completed n a outer level operand rest a.opening (λ m o. go_on_completed m outer a.level o rest) in
    (k.0, k.1, with_value level operand (closes k.2))

completed_at : (n : ℕ) (outer : List Around) (level : Level) (place : Place) (rest : List Token) →
    (e : Expression) × (m : ℕ) × CompletesAt outer level place e (numbered n (completing outer place rest)) (numbered m rest)
completed_at n outer level at_test rest =
    let k = go_on_completed (n + 1) outer (bare level.tests) (tree.number n 0) rest in
    (k.0, k.1, join_test grammar.a_number k.2)
completed_at n outer level at_factor rest =
    let k = go_on_completed (n + 1) outer level (tree.number n 0) rest in
    (k.0, k.1, record { first = _; more = _; spelled = grammar.a_number; behind = k.2 })
completed_at n outer level (after_name name) rest =
    let k = go_on_completed n outer level (tree.element name tree.none name.at) rest in
    (k.0, k.1, an_element (indices_end k.2))
completed_at n outer level (after_index name others last) rest =
    let k = go_on_completed n outer level (tree.element name others last) rest in
    (k.0, k.1, indices_end k.2)
completed_at n outer level (after_call name) rest =
    let k = go_on_completed (n + 1) outer level (tree.call name tree.none n) rest in
    (k.0, k.1, record { arguments = _; last = _; more = _; spelled = grammar.no_argument; behind = k.2 })
completed_at n outer level (after_operand operand) rest = go_on_completed n outer level operand rest

pub completed : (n : ℕ) (x : Partial) (rest : List Token) →
    (e : Expression) × (m : ℕ) × Completes x e (numbered n (completion x rest)) (numbered m rest)
completed n x rest = completed_at n x.outer x.level x.place rest
