use Rattle.std.proofs.Common.{◌≡◌, ◌∙◌, ◌∷◌, [], ◌++◌, ℕ, List, ap, ap₂, arith, map, sym}
use Rattle.std.proofs.lemmas.List.{map-append}
use Rattle.std.proofs.lemmas.List.FromFn.{map-range_with_len_more}
use Rattle.lrc_lines.specs.Statements.{numbers_of}
use Rattle.lrc_lines.specs.Walks.{line_behind}
use Rattle.lrc_lines.proofs.Several.{line_found}
use Rattle.lrc_named_core.specs.Tree.{Trap}
use Rattle.lrc_named_core.specs.View.{trap_of}
use Rattle.lrc_named_core.specs.declared.tree.Trap as code_trap
use Rattle.lrc_explain_waits.specs.Traps.{trap_at, trap_behind}
use Rattle.lrc_explain_waits.proofs.traps.found_at.Goals as goal

pub loop-node-preserved : goal.loop-node-preserved
loop-node-preserved c = λ program acts are.
    let nodes = c.args.nodes in
    let node = c.loop-node.node in
    let traps : List Trap = map trap_of c.args.traps.now in
    let walks = c.args.followed.now.walks in
    let of = trap_behind traps program nodes acts in
    let line : c.line.result ≡ line_behind program nodes (numbers_of program) acts node =
    c.line.ensures ∙ line_found program nodes (numbers_of program) acts walks.nodes.items walks.end node are.walks_are are.end_is in
    let here : trap_of c.trap_at.result ≡ of node = c.trap_at.ensures ∙ ap (λ (place : ℕ). trap_at traps place) line in
    ap (λ (l : List code_trap.Trap). map trap_of l) c.in_ok-push.ensures.items
    ∙ map-append trap_of c.loop-node.found.items (c.trap_at.result ∷ [])
    ∙ ap₂ (λ (l : List Trap) (t : Trap). l ++ t ∷ []) (c.loop-node.invariant program acts are) here
    ∙ sym (map-range_with_len_more of 0 node node (omega arith))
