-- The words of each reason.
use Rattle.std.proofs.Common.{◌∙◌, ◌++◌, [], ap, refl}
use Rattle.lrc_races_lines.specs.Table.{names_of}
use Rattle.lrc_races_score.specs.Claims.{statement_of}
use Rattle.lrc_races_claims.proofs.Saying.{one_part, reasoned, three_at_once, two_parts, two_and_none, three_parts}
use Rattle.lrc_races_claims.proofs.spelling.push_reason.Goals as goal

pub returns-in-TraceEnds : goal.returns-in-TraceEnds
returns-in-TraceEnds c =
    reasoned c.push_number.result c.args.sought (names_of c.args.threads.now) (statement_of c.args.claim) c.args.reason _ c.args.text.now.items
    c.push_number.new.text.items _ c.in-TraceEnds.is c.push_number.ensures.ok (two_parts c.args.text.now.items _ _)

pub returns-in_ok-push_number-in-NoAccess : goal.returns-in_ok-push_number-in-NoAccess
returns-in_ok-push_number-in-NoAccess c =
    reasoned c.push_three.result c.args.sought (names_of c.args.threads.now) (statement_of c.args.claim) c.args.reason _ c.args.text.now.items
    c.push_three.new.text.items _ c.in-NoAccess.is c.push_three.ensures
    (three_parts c.args.text.now.items c.push_number-in-NoAccess.new.text.items _ _ _ c.in_ok-push_number-in-NoAccess.ensures.ok)

pub returns-in-OneThread : goal.returns-in-OneThread
returns-in-OneThread c =
    reasoned c.push_three-in-OneThread.result c.args.sought (names_of c.args.threads.now) (statement_of c.args.claim) c.args.reason _ c.args.text.now.items
    c.push_three-in-OneThread.new.text.items _ c.in-OneThread.is c.push_three-in-OneThread.ensures
    (ap (λ w. ((c.args.text.now.items ++ _) ++ w) ++ []) c.name_of.ensures ∙ two_and_none c.args.text.now.items _ _)

pub returns-in-NoneAtFirst : goal.returns-in-NoneAtFirst
returns-in-NoneAtFirst c =
    reasoned c.push_three-in-NoneAtFirst.result c.args.sought (names_of c.args.threads.now) (statement_of c.args.claim) c.args.reason _ c.args.text.now.items
    c.push_three-in-NoneAtFirst.new.text.items _ c.in-NoneAtFirst.is c.push_three-in-NoneAtFirst.ensures
    (ap (λ w. ((c.args.text.now.items ++ _) ++ w) ++ []) c.first_place.ensures ∙ two_and_none c.args.text.now.items _ _)

pub returns-in-NoneAtSecond : goal.returns-in-NoneAtSecond
returns-in-NoneAtSecond c =
    reasoned c.push_three-in-NoneAtSecond.result c.args.sought (names_of c.args.threads.now) (statement_of c.args.claim) c.args.reason _ c.args.text.now.items
    c.push_three-in-NoneAtSecond.new.text.items _ c.in-NoneAtSecond.is c.push_three-in-NoneAtSecond.ensures
    (ap (λ w. ((c.args.text.now.items ++ _) ++ w) ++ []) c.second_place.ensures ∙ two_and_none c.args.text.now.items _ _)

pub returns-in-NoneOfVariable : goal.returns-in-NoneOfVariable
returns-in-NoneOfVariable c =
    reasoned c.push_three-in-NoneOfVariable.result c.args.sought (names_of c.args.threads.now) (statement_of c.args.claim) c.args.reason _ c.args.text.now.items
    c.push_three-in-NoneOfVariable.new.text.items _ c.in-NoneOfVariable.is c.push_three-in-NoneOfVariable.ensures
    (ap (λ w. ((c.args.text.now.items ++ _) ++ w) ++ []) c.variable_named.ensures ∙ two_and_none c.args.text.now.items _ _)

pub returns-in-FirstIs : goal.returns-in-FirstIs
returns-in-FirstIs c =
    reasoned c.push_number-in-FirstIs.result c.args.sought (names_of c.args.threads.now) (statement_of c.args.claim) c.args.reason _ c.args.text.now.items
    c.push_number-in-FirstIs.new.text.items _ c.in-FirstIs.is c.push_number-in-FirstIs.ensures.ok (two_parts c.args.text.now.items _ _)

pub returns-in-NoEarlier : goal.returns-in-NoEarlier
returns-in-NoEarlier c =
    reasoned c.push_three-in-NoEarlier.result c.args.sought (names_of c.args.threads.now) (statement_of c.args.claim) c.args.reason _ c.args.text.now.items
    c.push_three-in-NoEarlier.new.text.items _ c.in-NoEarlier.is c.push_three-in-NoEarlier.ensures (one_part c.args.text.now.items _)

pub returns-in-TwoVariables : goal.returns-in-TwoVariables
returns-in-TwoVariables c =
    reasoned c.push_three-in-TwoVariables.result c.args.sought (names_of c.args.threads.now) (statement_of c.args.claim) c.args.reason _ c.args.text.now.items
    c.push_three-in-TwoVariables.new.text.items _ c.in-TwoVariables.is c.push_three-in-TwoVariables.ensures (one_part c.args.text.now.items _)

pub returns-in-BothRead : goal.returns-in-BothRead
returns-in-BothRead c =
    reasoned c.push_three-in-BothRead.result c.args.sought (names_of c.args.threads.now) (statement_of c.args.claim) c.args.reason _ c.args.text.now.items
    c.push_three-in-BothRead.new.text.items _ c.in-BothRead.is c.push_three-in-BothRead.ensures (one_part c.args.text.now.items _)

pub returns-in-PlacesApart : goal.returns-in-PlacesApart
returns-in-PlacesApart c =
    reasoned c.push_three-in-PlacesApart.result c.args.sought (names_of c.args.threads.now) (statement_of c.args.claim) c.args.reason _ c.args.text.now.items
    c.push_three-in-PlacesApart.new.text.items _ c.in-PlacesApart.is c.push_three-in-PlacesApart.ensures (one_part c.args.text.now.items _)

pub returns-in-Separated : goal.returns-in-Separated
returns-in-Separated c =
    reasoned c.push_separated.result c.args.sought (names_of c.args.threads.now) (statement_of c.args.claim) c.args.reason _ c.args.text.now.items
    c.push_separated.new.text.items _ c.in-Separated.is c.push_separated.ensures refl

pub returns-in-VariableApart : goal.returns-in-VariableApart
returns-in-VariableApart c =
    reasoned c.push_three-in-VariableApart.result c.args.sought (names_of c.args.threads.now) (statement_of c.args.claim) c.args.reason _ c.args.text.now.items
    c.push_three-in-VariableApart.new.text.items _ c.in-VariableApart.is c.push_three-in-VariableApart.ensures
    (ap (λ w. ((c.args.text.now.items ++ _) ++ w) ++ _) c.variable_named-in-VariableApart.ensures ∙ three_at_once c.args.text.now.items _ _ _)
