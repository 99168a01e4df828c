use Rattle.std.proofs.Common.{◌∙◌, ℕ, ap, map, sym, List}
use Rattle.std.specs.List.{list_any}
use Rattle.lrc_program.specs.Statements.{Expression as Part, expression_of, statement_of}
use Rattle.lrc_lint_warned.specs.Blocks.{some_marked}
use Rattle.lrc_lint_warned.specs.Names.{is_name}
use Rattle.lrc_lint_warned.proofs.Learns.{learns_ok}
use Rattle.lrc_lint_warned.proofs.blocks.learns_nothing.Goals as goal

pub returns : goal.returns
returns c =
    let nodes_are = ap (map (λ n. expression_of n.now)) c.deref.ensures.value ∙ c.in_ok-nodes.ensures in
    let nodes_are_2 = ap (map (λ n. expression_of n.now)) c.deref-2.ensures.value ∙ c.in_ok-nodes.ensures in
    learns_ok c.names_set-set.result c.names_read-of_condition.result (map (λ s. statement_of s.now) c.args.statements.now) (expression_of c.args.condition.now)
    c.names_set-set.ensures
    (λ (k : ℕ). c.names_read-of_condition.ensures k ∙ ap (λ (l : List Part). list_any (is_name k) l) nodes_are_2)
    c.all_still.result
    (sym c.some_learns.ensures ∙ c.if-some_learns.false)
    (ap (λ (l : List Part). some_marked c.names_set-set.result l) (sym nodes_are) ∙ sym c.some_marked.ensures ∙ c.if-not-some_marked.false)
    c.all_still.ensures
