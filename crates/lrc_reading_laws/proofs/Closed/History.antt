-- A run, and beside it the list of all intervals that were closed in it, with their changes: each turn adds the one that it closes.
use Rattle.std.proofs.Common.{◌≡◌, ℕ, List, [], ◌∷◌, ◌++◌, refl}
use Rattle.std.specs.Prelude.{◌==◌, Some, map, slice_get, if◌then◌else◌}
use Rattle.lrc_program.specs.declared.Program.{Program}
use Rattle.lrc_time.specs.Time.{entry}
use Rattle.lrc_store.specs.Store.{StoredRecord}
use Rattle.lrc_protocol.specs.declared.event.Event.{Event}
use Rattle.lrc_protocol.specs.Times.{next_time}
use Rattle.lrc_protocol.specs.Pages.{all_changes}
use Rattle.lrc_protocol.specs.Node.{Node, OptionsRecord}
use Rattle.lrc_protocol.specs.Run.{Input, EntryRecord, Logged, World, Flying, fresh_world, with_turn, run_of}
use Rattle.lrc_protocol.proofs.Worlds.{IsEntry}
use Rattle.lrc_protocol.proofs.Induction.{Comes}
use Rattle.lrc_order_laws.proofs.Reached.{IsReached, KeptByReached, by_reached}

-- a node's open interval as it stands once it is closed: its stamp, and the pages written in it with their changes
abbrev pub closed_record : Node → StoredRecord
closed_record node = record {
  node = node.setting.me;
  stamp = next_time node.setting.me node.locks.time;
  notices = map (λ page. record { page = page.0; changes = Some page.1 }) (all_changes node.memory);
}

-- what a turn of a node closes: nothing where its own entry stays
abbrev pub closed_by : Node → Node → List StoredRecord
closed_by node after =
    if entry after.locks.time node.setting.me == entry node.locks.time node.setting.me then [] else closed_record node ∷ []

module _ (program : Program) (nodes : ℕ) (options : OptionsRecord) where
  -- some events lead to the world, and these intervals were closed on the way, in this order
  pub data History : World → List StoredRecord → Type 0 where
    at_first : History (fresh_world program nodes options) []
    one_more : (world : World) (made : List StoredRecord) (flight : List Flying) (n : ℕ) (l after : Logged) (input : Input) (entry : EntryRecord)
        → slice_get world.nodes n ≡ Some l → Comes world n input flight → IsEntry l input entry after
        → IsReached program nodes options world → IsReached program nodes options (with_turn world flight n entry after)
        → History world made → History (with_turn world flight n entry after) (made ++ closed_by l.node after.node)

  -- every turn keeps what holds of a world and the intervals closed up to it
  abbrev pub KeptByHistory : (World → List StoredRecord → Type 0) → Type 0
  KeptByHistory P =
      (world : World) (made : List StoredRecord) (flight : List Flying) (n : ℕ) (l after : Logged) (input : Input) (entry : EntryRecord)
      → slice_get world.nodes n ≡ Some l → Comes world n input flight → IsEntry l input entry after
      → IsReached program nodes options world → IsReached program nodes options (with_turn world flight n entry after)
      → History world made → P world made → P (with_turn world flight n entry after) (made ++ closed_by l.node after.node)

  -- what holds at the start and is kept by every turn holds in every history
  pub by_history : (P : World → List StoredRecord → Type 0) → P (fresh_world program nodes options) [] → KeptByHistory P
      → (world : World) (made : List StoredRecord) → History world made → P world made
  by_history P start kept _ _ at_first = start
  by_history P start kept _ _ (one_more world made flight n l after input entry at comes i r r' h) =
      kept world made flight n l after input entry at comes i r r' h (by_history P start kept world made h)

  -- a world with a history is reached
  pub reached_by : (world : World) (made : List StoredRecord) → History world made → IsReached program nodes options world
  reached_by _ _ at_first = record { events = []; runs = refl }
  reached_by _ _ (one_more world made flight n l after input entry at comes i r r' h) = r'

  HasHistory : World → Type 0
  HasHistory world = (made : List StoredRecord) × History world made

  kept-history : KeptByReached program nodes options HasHistory
  unfolding HasHistory
  kept-history world flight n l after input entry at comes i r r' h =
      (h.0 ++ closed_by l.node after.node, one_more world h.0 flight n l after input entry at comes i r r' h.1)

  -- every run has one
  pub history_of : (events : List Event) (world : World) → run_of program nodes options events ≡ Some world
      → (made : List StoredRecord) × History world made
  unfolding HasHistory
  history_of events world e = by_reached program nodes options HasHistory kept-history events world ([], at_first) e
