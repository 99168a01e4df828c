-- The text of expressions. Parentheses stand where the grammar needs them, and nowhere else.
use Rattle.std.specs.Prelude.{ℕ, Bool, true, false, List, ◌++◌, codes, decimal}
use Rattle.lrc_program.specs.declared.Operator.{Operator}
use Rattle.lrc_program.specs.declared.Operator.TheVariants.{Add, Subtract, Multiply, Divide, Remainder, Equal, NotEqual}
use Rattle.lrc_program.specs.declared.Operator.TheVariants.{Less, LessOrEqual, Greater, GreaterOrEqual}
use Rattle.lrc_lang.specs.Grammar.{Joins, factors, terms, sums, joins}
use Rattle.lrc_named_core.specs.Tree.{Private, named, own, Expression, number, private, me, nodes, binary}
use Rattle.lrc_named_text.specs.declared.expression.Room.{Room}
use Rattle.lrc_named_text.specs.declared.expression.Room.TheVariants.{Factor, Term, Sum, Whole}

abbrev pub operator_text : Operator → List ℕ
operator_text Add = codes "+"
operator_text Subtract = codes "-"
operator_text Multiply = codes "*"
operator_text Divide = codes "/"
operator_text Remainder = codes "%"
operator_text Equal = codes "=="
operator_text NotEqual = codes "!="
operator_text Less = codes "<"
operator_text LessOrEqual = codes "<="
operator_text Greater = codes ">"
operator_text GreaterOrEqual = codes ">="

abbrev pub private_text : Private → List ℕ
private_text (named bytes) = bytes
private_text (own n first last) = codes "_" ++ decimal n

-- whether what an operator joins so needs parentheses where there is room for this
abbrev pub is_grouped : Room → Joins → Bool
is_grouped Factor joined = true
is_grouped Term factors = false
is_grouped Term terms = true
is_grouped Term sums = true
is_grouped Sum factors = false
is_grouped Sum terms = false
is_grouped Sum sums = true
is_grouped Whole joined = false

-- for what there is room to the left and to the right of an operator: those of one level group to the left
abbrev pub left_room : Joins → Room
left_room factors = Term
left_room terms = Sum
left_room sums = Sum

abbrev pub right_room : Joins → Room
right_room factors = Factor
right_room terms = Term
right_room sums = Sum

abbrev pub grouped : Bool → List ℕ → List ℕ
grouped true text = codes "(" ++ text ++ codes ")"
grouped false text = text

-- the text of an expression where there is room for this
abbrev pub expression_text : Room → Expression → List ℕ
expression_text room (number n) = decimal n
expression_text room (private name) = private_text name
expression_text room me = codes "me"
expression_text room nodes = codes "nodes"
expression_text room (binary left o right) =
    grouped (is_grouped room (joins o))
    (expression_text (left_room (joins o)) left ++ codes " " ++ operator_text o ++ codes " " ++ expression_text (right_room (joins o)) right)
