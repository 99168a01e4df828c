-- The statements that leave the right side of `and` or `or` out.
use Rattle.std.proofs.Common.{◌≡◌, Vec, List, [], ◌∷◌, ◌++◌, ap, ◌∙◌, append_assoc}
use Rattle.std.specs.declared.alloc.Global.{Global}
use Rattle.lrc_named_core.specs.declared.tree.Expression as code_core
use Rattle.lrc_named_core.specs.declared.tree.Origin as code_origin
use Rattle.lrc_named_core.specs.declared.tree.Private as code_private
use Rattle.lrc_named_core.specs.declared.tree.Statement.{Statement, Assign, If}
use Rattle.lrc_named_core.specs.Tree.{Expression, assign, if_else, behind, only, next, empty}
use Rattle.lrc_named_core.specs.View.{statement_of, block_of, origin_of, private_of, expression_of}
use Rattle.lrc_named_translation.specs.declared.parts.Kind.{Kind}
use Rattle.lrc_named_translation.specs.Added.{IsAdded}
use Rattle.lrc_named_translation.specs.Made.{truth}
use Rattle.lrc_named_translation.specs.Turn.{condition, in_turn}
use Rattle.lrc_named_translation.proofs.Adding.{block_of-append}
use Rattle.lrc_named_translation.proofs.Rows.{if_seen}

pub turn_added : (at : code_origin.Origin) (kind : Kind) (left whole : code_private.Private) (p q : Expression)
    (first second test : code_core.Expression) (inside : List Statement) (body rest : Vec Statement Global) (old mid new : List Statement)
    → expression_of first ≡ truth p → expression_of second ≡ truth q → expression_of test ≡ condition kind (private_of left)
    → body.items ≡ inside ++ Assign at whole second ∷ [] → rest.items ≡ []
    → mid ≡ old ++ Assign at left first ∷ [] → new ≡ mid ++ If at test body rest ∷ []
    → IsAdded (λ b. b ≡ in_turn (origin_of at) kind (private_of left) (private_of whole) p (block_of inside) q) old new
turn_added at kind left whole p q first second test inside body rest old mid new is_p is_q tests has none one two =
    let o = origin_of at in
    let w = private_of whole in
    let r : block_of body.items ≡ behind (block_of inside) (only (assign o w (truth q))) =
    ap block_of has ∙ block_of-append inside (Assign at whole second ∷ []) ∙ ap (λ e. behind (block_of inside) (only (assign o w e))) is_q in
    let s : statement_of (If at test body rest) ≡ if_else o (condition kind (private_of left)) (behind (block_of inside) (only (assign o w (truth q)))) empty =
    if_seen at test body rest ∙ ap (λ e. if_else o e (block_of body.items) (block_of rest.items)) tests
    ∙ ap (λ x. if_else o (condition kind (private_of left)) x (block_of rest.items)) r
    ∙ ap (λ l. if_else o (condition kind (private_of left)) (behind (block_of inside) (only (assign o w (truth q)))) (block_of l)) none in
    record {
      more = Assign at left first ∷ (If at test body rest ∷ []);
      grown = two ∙ ap (λ l. l ++ If at test body rest ∷ []) one ∙ append_assoc old (Assign at left first ∷ []) (If at test body rest ∷ []);
      made = ap (λ e. next (assign o (private_of left) e) (only (statement_of (If at test body rest)))) is_p
          ∙ ap (λ x. next (assign o (private_of left) (truth p)) (only x)) s;
    }
