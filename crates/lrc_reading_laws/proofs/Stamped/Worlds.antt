-- A node of a world that is reached: its place, its time and its turn.
use Rattle.std.proofs.Common.{◌≡◌, ℕ, ◌<◌, List, [], ◌++◌, Bool, true, false, length, sym, ap, subst, ◌∙◌, inl, inr, append-nil}
use Rattle.std.specs.Prelude.{Some, None, slice_get, slice_set, if◌then◌else◌}
use Rattle.std.proofs.lemmas.Bool.{cases_eq}
use Rattle.std.proofs.lemmas.Option.{same_Some, slice_get_within}
use Rattle.lrc_program.specs.declared.Program.{Program}
use Rattle.lrc_exec.specs.Meaning.{Setting}
use Rattle.lrc_exec.specs.Plain.{setting_of}
use Rattle.lrc_envelope.specs.Envelope.{EnvelopeRecord}
use Rattle.lrc_protocol.specs.Node.{Node, OptionsRecord}
use Rattle.lrc_protocol.specs.Turn.{TurnRecord, done, run_turn, is_repeat, empty_turn}
use Rattle.lrc_protocol.specs.Run.{Input, run, taken, EntryRecord, Logged, outcome_of, World, Flying, with_turn}
use Rattle.lrc_protocol.specs.Follows.{pending}
use Rattle.lrc_protocol.specs.Follows.{turns_of}
use Rattle.lrc_protocol.proofs.Ruled.{by_rule}
use Rattle.lrc_protocol.proofs.Induction.{Comes}
use Rattle.lrc_protocol.proofs.Worlds.{IsEntry, get_set_same, get_set_other, run-whole}
use Rattle.lrc_order_laws.proofs.Shape.{NodeShape, shape_at}
use Rattle.lrc_order_laws.proofs.Sends.{by_itself, comes}
use Rattle.lrc_order_laws.proofs.Pending.{new_of, Took, took, Lost, Goes, all_pending, pending-goes}
use Rattle.lrc_order_laws.proofs.Reached.{IsReached}
use Rattle.lrc_node_laws.specs.Reached.{IsReached as IsReachedNode}
use Rattle.lrc_reading_laws.proofs.Closed.Stocks.{Stocked, Stocking, alone as stocks_alone, again as stocks_again, anew as stocks_anew, stockings}
use Rattle.lrc_reading_laws.proofs.Closed.Stored.{reached}

-- the node in this place, of so many, is reached, and its time has an entry for each
pub record Placed (nodes n : ℕ) (node : Node) : Type 0 where
  pub me : node.setting.me ≡ n
  pub count : node.setting.nodes ≡ nodes
  pub within : n < nodes
  pub long : length node.locks.time ≡ nodes
  pub reached : IsReachedNode node

pub placed : (program : Program) (nodes : ℕ) (options : OptionsRecord) (world : World) → IsReached program nodes options world
    → (n : ℕ) (l : Logged) → slice_get world.nodes n ≡ Some l → Placed nodes n l.node
placed program nodes options world r n l at =
    let shape : NodeShape (setting_of program nodes n) options (record { node = l.node; turns = turns_of l.log }) =
    shape_at program nodes options r.events world n l r.runs at in
    record {
      me = ap (λ (s : Setting). s.me) shape.setting;
      count = ap (λ (s : Setting). s.nodes) shape.setting;
      within = subst (λ k. n < k) (run-whole program nodes options r.events world r.runs).count (slice_get_within world.nodes n l at);
      long = shape.shape.times;
      reached = reached program nodes options r.events world r.runs n l at;
    }

-- what holds of the node that made a turn and of all others before holds of all after
pub each_node : (P : ℕ → Logged → Type 0) (world : World) (n : ℕ) (l after : Logged) → slice_get world.nodes n ≡ Some l → P n after
    → ((q : ℕ) (lq : Logged) → slice_get world.nodes q ≡ Some lq → P q lq)
    → (q : ℕ) (lq : Logged) → slice_get (slice_set world.nodes n after) q ≡ Some lq → P q lq
each_node P world n l after at here others q lq is = elim (cases_eq n q) [
  | inl e ↦
      let same : after ≡ lq = same_Some after lq (sym (get_set_same world.nodes n l after at) ∙ ap (slice_get (slice_set world.nodes n after)) e ∙ is) in
      subst (λ k. P k lq) e (subst (P n) same here)
  | inr ne ↦ others q lq (sym (get_set_other world.nodes n q after ne) ∙ is)
]

-- ---- a turn

-- By itself, with a message that was taken before, or with one that is taken anew: which was expected and is pending no more. And
-- what is pending then.
pub data TurnBy (node : Node) (was : List EnvelopeRecord) : Input → TurnRecord → Node → List EnvelopeRecord → Type 0 where
  alone : {turn : TurnRecord} {after : Node} {now : List EnvelopeRecord} → run_turn node ≡ done turn after → Stocked node by_itself turn after
      → now ≡ was ++ turn.out → TurnBy node was run turn after now
  again : (e : EnvelopeRecord) {now : List EnvelopeRecord} → now ≡ was → TurnBy node was (taken e) empty_turn node now
  anew : (e : EnvelopeRecord) {turn : TurnRecord} {after : Node} {now : List EnvelopeRecord} → Took node e turn after
      → Stocked node (comes e.from e.message) turn after → Lost e was turn.out now → TurnBy node was (taken e) turn after now

module _ (node : Node) (was : List EnvelopeRecord) where
  lost_by : (e : EnvelopeRecord) (out now : List EnvelopeRecord) (b : Bool) → b ≡ false → Goes (if b then None else Some e) was out now → Lost e was out now
  lost_by e out now true is g = cc
  lost_by e out now false is g = g

  none_lost : (e : EnvelopeRecord) (now : List EnvelopeRecord) (b : Bool) → b ≡ true → Goes (if b then None else Some e) was [] now → now ≡ was
  none_lost e now true is g = g ∙ append-nil was
  none_lost e now false is g = cc

  turn_by : (input : Input) (turn : TurnRecord) (after : Node) (now : List EnvelopeRecord) → outcome_of node input ≡ done turn after
      → Stocking node input turn after → Goes (new_of node input) was turn.out now → TurnBy node was input turn after now
  turn_by _ turn after now o (stocks_alone k) g = alone o k g
  turn_by _ _ _ now o (stocks_again e is) g = again e (none_lost e now (is_repeat node e) is g)
  turn_by _ turn after now o (stocks_anew e new k) g = anew e (took node e turn after new o) k (lost_by e turn.out now (is_repeat node e) new g)

pub turn_at : (program : Program) (nodes : ℕ) (options : OptionsRecord) (world : World) (flight : List Flying) (n : ℕ) (l after : Logged) (input : Input)
    (entry : EntryRecord) → slice_get world.nodes n ≡ Some l → Comes world n input flight → IsEntry l input entry after
    → IsReached program nodes options world
    → TurnBy l.node (pending world) input entry.turn after.node (pending (with_turn world flight n entry after))
turn_at program nodes options world flight n l after input entry at come i r =
    turn_by l.node (pending world) input entry.turn after.node (pending (with_turn world flight n entry after)) i.turn_is
    (stockings l.node input entry.turn after.node (by_rule l.node input entry.turn after.node i.turn_is))
    (pending-goes program nodes options world flight n l after input entry at come i (all_pending program nodes options r.events world r.runs))
