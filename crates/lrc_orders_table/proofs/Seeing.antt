-- What is seen at a row is seen at the states that it stands for.
use Rattle.std.proofs.Common.{◌≡◌, ℕ, ◌<◌, Bool, true, false, length, refl, sym, ◌∙◌, ap}
use Rattle.std.specs.Prelude.{◌↔◌, IsTrue, Option, Some, None, is_some, slice_get}
use Rattle.std.proofs.lemmas.Bool.{true≢false}
use Rattle.std.proofs.lemmas.List.{length-map}
use Rattle.std.proofs.lemmas.Option.{get_or_from_slice_get, slice_get_within}
use Rattle.lrc_exec.specs.declared.spot.Spot.{Spot}
use Rattle.lrc_exec.specs.Plain.{plain_step, thread_in}
use Rattle.lrc_exec.specs.Spots.{spot_thread}
use Rattle.lrc_exec.specs.States.{plain_at}
use Rattle.lrc_exec.proofs.States.{stopped_thread}
use Rattle.lrc_orders.specs.declared.noted.Noted.{Noted}
use Rattle.lrc_orders.specs.Meeting.{next_access}
use Rattle.lrc_orders.specs.Stuck.{IsUnfinished}
use Rattle.lrc_orders.proofs.Standing.{unfinished}
use Rattle.lrc_orders_laws.specs.Steps.{AllWait, waits_in}
use Rattle.lrc_orders_table.specs.declared.rows.Row.{Row}
use Rattle.lrc_orders_table.specs.Nexts.{next_in}
use Rattle.lrc_orders_table.specs.declared.known.Means.{Means}
use Rattle.lrc_orders_table.specs.declared.table.Table.{Table}
use Rattle.lrc_orders_table.specs.Shared.{access_by, can_act, given, is_stopped, is_waiting}
use Rattle.lrc_orders_table.specs.Tables.{IsRowOf, IsTable, next_at}
use Rattle.lrc_orders_table.proofs.NextActs.{access_is, act_is, stopped_is, waits_is}
use Rattle.lrc_orders_table.proofs.RowNodes.{NodeAt, next_here, node_at}

pub none_of : {A : Type 0} (o : Option A) → is_some o ≡ false → o ≡ None
none_of None e = refl
none_of (Some x) e = absurd (true≢false e)

module _ (means : Means) (table : Table) (row : Row) (key : Noted) (known : IsTable means table) (of : IsRowOf means table row key) where
  pub spots_count : length key.state.spots.items ≡ table.rows.nodes
  spots_count = of.stands.threads.count

  pub threads_count : length (plain_at means.flat key.state).threads ≡ table.rows.nodes
  threads_count = length-map key.state.spots.items (spot_thread means.flat) ∙ spots_count

  module _ (node : ℕ) (lt : node < table.rows.nodes) where
    at : NodeAt table row key node
    at = node_at table row key node of.stands lt

    pub access_known : access_by (next_at table row node) ≡ next_access (plain_at means.flat key.state) node
    access_known = ap access_by (next_here means table row key node at.spot known of at.here) ∙ access_is means.flat key.state node at.spot at.here

    pub waiting_known : is_waiting (next_at table row node) ≡ waits_in (thread_in (plain_at means.flat key.state) node)
    waiting_known = ap is_waiting (next_here means table row key node at.spot known of at.here) ∙ waits_is means.flat key.state node at.spot at.here

    stopped_so : is_stopped (next_at table row node) ≡ at.spot.stopped
    stopped_so = ap is_stopped (next_here means table row key node at.spot known of at.here) ∙ stopped_is means.flat at.spot

    pub stopped_known : is_stopped (next_at table row node) ≡ true → thread_in (plain_at means.flat key.state) node ≡ None
    stopped_known e =
        let spots = key.state.spots.items in
        stopped_thread means.flat key.state node at.spot (slice_get_within spots node at.spot at.here)
        (sym (get_or_from_slice_get spots node at.spot at.spot at.here)) (sym stopped_so ∙ e)

    pub going_known : is_stopped (next_at table row node) ≡ false → IsUnfinished (plain_at means.flat key.state)
    going_known e =
        let spots = key.state.spots.items in
        unfinished means.flat key.state node at.spot (slice_get_within spots node at.spot at.here)
        (ap (λ (s : Spot). s.stopped) (get_or_from_slice_get spots node at.spot at.spot at.here) ∙ sym stopped_so ∙ e)

    pub act_known : (departs : Bool) → IsTrue departs ↔ AllWait (plain_at means.flat key.state)
        → can_act (next_at table row node) key.state.holders.items departs ≡ is_some (plain_step (plain_at means.flat key.state) node)
    act_known departs all =
        ap (λ n. can_act n key.state.holders.items departs) (next_here means table row key node at.spot known of at.here)
        ∙ act_is means.flat key.state node at.spot at.here of.valid of.stands.counted departs all

  -- the value that a node's next act gives
  pub given_there : (node : ℕ) (spot : Spot) → slice_get key.state.spots.items node ≡ Some spot
      → given (next_in means.flat spot) key.state.memory.items key.state.holders.items
      ≡ given (next_at table row node) key.state.memory.items key.state.holders.items
  given_there node spot here =
      sym (ap (λ n. given n key.state.memory.items key.state.holders.items) (next_here means table row key node spot known of here))
