-- Whether the node of the order's next act is at its turn.
use Rattle.std.proofs.Common.{◌≡◌, ◌≢◌, ◌∙◌, ℕ, Bool, true, false, List, Option, None, Some, inr, sym, ap, subst, length, get_or, map}
use Rattle.std.specs.Prelude.{MatchOption, if◌then◌else◌, nat_lt, option_map, position, slice_get, slice_index_or}
use Rattle.std.proofs.lemmas.Bool.{ltb-true}
use Rattle.std.proofs.lemmas.Option.{same_Some, slice_get-get_or}
use Rattle.lrc_program.specs.declared.Program.{Program}
use Rattle.lrc_trace.specs.declared.act.Act.{Act}
use Rattle.lrc_exec.specs.declared.machine.Ask.{Ask}
use Rattle.lrc_exec.specs.declared.machine.Ask.TheVariants.{End}
use Rattle.lrc_exec.specs.Ask.{ask_of}
use Rattle.lrc_exec.specs.Meaning.{next_of}
use Rattle.lrc_lines.specs.Seen.{walks_of}
use Rattle.lrc_lines.specs.Statements.{act_statements, numbers_of}
use Rattle.lrc_lines.specs.Walks.{Walk, line_at}
use Rattle.lrc_lines.proofs.Several.{line_found}
use Rattle.lrc_protocol.specs.declared.event.Event.{Event}
use Rattle.lrc_protocol.specs.declared.event.Event.TheVariants.{Deliver, Run}
use Rattle.lrc_protocol.specs.Run.{World}
use Rattle.lrc_along.specs.Along.{NoneDue}
use Rattle.lrc_along.specs.Asked.{IsAsked}
use Rattle.lrc_along.specs.Due.{IsAtTurn, IsDue, ask_behind, envelopes_in, event_for, is_ready_at, may_come, needs_message, statement_behind}
use Rattle.lrc_explore_events.specs.declared.player.Player.{Player}
use Rattle.lrc_explore_events.specs.Player.{IsPlayer}

-- what is read at a place that is there
pub read : {X : Type 0} (xs : List X) (i : ℕ) (x d : X) → true ≡ nat_lt i (length xs) → x ≡ get_or xs i d → slice_get xs i ≡ Some x
read xs i x d within is = slice_get-get_or xs i d (ltb-true i (length xs) (sym within)) ∙ ap Some (sym is)

module _ (program : Program) (nodes : ℕ) (player : Player) (world : World) (is : IsPlayer program nodes player world) where
  -- where the walks find a node
  line_is : (node : ℕ) → slice_index_or (map (line_at player.walks.end) (walks_of player.walks)) node player.walks.end
      ≡ statement_behind program nodes world.acts node
  line_is node = line_found program nodes (numbers_of program) world.acts player.walks.nodes.items player.walks.end node is.walks is.end

  ask_is : (node : ℕ) → slice_index_or (map (λ (walk : Walk). ask_of (next_of walk.thread)) (walks_of player.walks)) node End
      ≡ ask_behind program nodes world.acts node
  ask_is node = ap (λ (ws : List Walk). slice_index_or (map (λ (walk : Walk). ask_of (next_of walk.thread)) ws) node End) is.walks

  module _ (order : List Act) (statements : List ℕ) (are : statements ≡ act_statements program nodes order) (act : Act) (statement : ℕ)
      (next : slice_get order player.acts ≡ Some act) (stood : slice_get statements player.acts ≡ Some statement) (line : ℕ)
      (line_so : line ≡ slice_index_or (map (line_at player.walks.end) (walks_of player.walks)) act.node player.walks.end) where
    next_there : slice_get order (length world.acts) ≡ Some act
    next_there = subst (λ k. slice_get order k ≡ Some act) is.acts next

    stood_there : slice_get (act_statements program nodes order) (length world.acts) ≡ Some statement
    stood_there = subst (λ k. slice_get (act_statements program nodes order) k ≡ Some statement) is.acts (ap (λ l. slice_get l player.acts) (sym are) ∙ stood)

    line_there : line ≡ statement_behind program nodes world.acts act.node
    line_there = line_so ∙ line_is act.node

    -- another act is not
    same_act : (other : Act) → IsAtTurn program nodes order world.acts other → other ≡ act
    same_act other turn = same_Some other act (sym turn.next ∙ next_there)

    -- the node stands elsewhere
    pub stands_elsewhere : line ≢ statement → (other : Act) → IsAtTurn program nodes order world.acts other → ⊥
    stands_elsewhere apart other turn =
        let there : statement_behind program nodes world.acts other.node ≡ statement =
        same_Some (statement_behind program nodes world.acts other.node) statement (sym turn.stands ∙ stood_there) in
        apart (line_there ∙ sym (ap (λ (a : Act). statement_behind program nodes world.acts a.node) (same_act other turn)) ∙ there)

    module _ (ask : Ask) (ask_so : ask ≡ slice_index_or (map (λ (walk : Walk). ask_of (next_of walk.thread)) (walks_of player.walks)) act.node End) where
      pub at_turn : line ≡ statement → IsAsked ask act.deed → IsAtTurn program nodes order world.acts act
      at_turn same asked = record {
        next = next_there;
        stands = stood_there ∙ ap Some (sym same ∙ line_there);
        asks = subst (λ a. IsAsked a act.deed) (ask_so ∙ ask_is act.node) asked;
      }

      -- or it asks for another deed
      pub asks_otherwise : (IsAsked ask act.deed → ⊥) → (other : Act) → IsAtTurn program nodes order world.acts other → ⊥
      asks_otherwise never other turn =
          never (subst (λ a. IsAsked a act.deed) (sym (ask_so ∙ ask_is act.node))
          (subst (λ (a : Act). IsAsked (ask_behind program nodes world.acts a.node) a.deed) (same_act other turn) turn.asks))

-- ---- the event for it

module _ (world : World) (act : Act) where
  -- a message, where one is needed
  pub event_delivered : needs_message world act ≡ true
      → option_map Deliver (position (may_come act.node) (envelopes_in world)) ≡ event_for world act
  event_delivered needs =
      sym (ap (λ (b : Bool). if b then option_map Deliver (position (may_come act.node) (envelopes_in world))
      else (if is_ready_at world act.node then Some (Run act.node) else None)) needs)

  -- or the node goes on by itself
  pub event_alone : needs_message world act ≡ false → (if is_ready_at world act.node then Some (Run act.node) else None) ≡ event_for world act
  event_alone needs =
      sym (ap (λ (b : Bool). if b then option_map Deliver (position (may_come act.node) (envelopes_in world))
      else (if is_ready_at world act.node then Some (Run act.node) else None)) needs)

-- so it is due, if there is one
pub due_so : (program : Program) (nodes : ℕ) (order : List Act) (world : World) (act : Act) → IsAtTurn program nodes order world.acts act
    → (event : Option Event) → event ≡ event_for world act → MatchOption event (NoneDue program nodes order world) (IsDue program nodes order world)
due_so program nodes order world act turn None is = inr (act, turn, sym is)
due_so program nodes order world act turn (Some event) is = record { act = act; turn = turn; is = sym is }
