-- One turn of a run as departures see it, a repeat too; and what the manager of barriers makes sure of before it takes an arrival.
use Rattle.std.proofs.Common.{◌≡◌, ℕ, ◌+◌, ◌-◌, List, [], ◌∷◌, Bool, true, false, map, refl, sym, ap, subst, ◌∙◌, append-nil}
use Rattle.std.specs.Prelude.{Option, Some, None, ◌==◌, option_map, slice_get, slice_index, unwrap_or, if◌then◌else◌}
use Rattle.std.specs.List.{list_all, range_with_len}
use Rattle.std.proofs.lemmas.Bool.{and_parts, eqb-true}
use Rattle.lrc_program.specs.declared.Program.{Program}
use Rattle.lrc_exec.specs.Meaning.{Setting}
use Rattle.lrc_exec.specs.Plain.{setting_of}
use Rattle.lrc_time.specs.Time.{entry}
use Rattle.lrc_time.proofs.Times.{covers-refl}
use Rattle.lrc_store.specs.Interval.{IntervalRecord}
use Rattle.lrc_envelope.specs.Envelope.{EnvelopeRecord}
use Rattle.lrc_envelope.specs.Records.{ArriveRecord}
use Rattle.lrc_envelope.specs.declared.message.Message.TheVariants.{Arrive}
use Rattle.lrc_barrier.specs.declared.arrival.Arrival.{Arrival}
use Rattle.lrc_barrier.specs.Barrier.{ManagerRecord, is_accepted, arrived}
use Rattle.lrc_protocol.specs.Times.{indices_by}
use Rattle.lrc_protocol.specs.Node.{Letter, Node, OptionsRecord}
use Rattle.lrc_protocol.specs.Turn.{TurnRecord, is_repeat, empty_turn, done}
use Rattle.lrc_protocol.specs.Follows.{is_expected}
use Rattle.lrc_protocol.specs.Run.{Input, EntryRecord, Logged, outcome_of, World, Flying, with_turn}
use Rattle.lrc_protocol.specs.Follows.{pending}
use Rattle.lrc_protocol.specs.Follows.{turns_of}
use Rattle.lrc_protocol.proofs.Worlds.{IsEntry}
use Rattle.lrc_protocol.proofs.Induction.{Comes}
use Rattle.lrc_protocol.specs.Barriers.{arrival_in}
use Rattle.lrc_protocol.proofs.Expecting.{fulfilled}
use Rattle.lrc_order_laws.specs.Shape.{HasShape}
use Rattle.lrc_order_laws.proofs.Shift.{AllFrom}
use Rattle.lrc_order_laws.proofs.Shape.{NodeShape, shape_at}
use Rattle.lrc_order_laws.proofs.Sends.{Came, by_itself, comes, site_of, letter_in, Sent, Sending}
use Rattle.lrc_order_laws.proofs.Sends.{alone as sent_alone, repeats, anew as sent_anew, SendingIf, sendings}
use Rattle.lrc_order_laws.proofs.Flows.{Brings, IsFromNode}
use Rattle.lrc_order_laws.proofs.Pending.{new_of, Took, took, Goes, pending-goes, all_pending}
use Rattle.lrc_order_laws.proofs.Passing.{Passing, passing, serving, same_arrivals}
use Rattle.lrc_order_laws.proofs.Reached.{IsReached}
use Rattle.lrc_node_laws.proofs.Indices.{indices-there}
use Rattle.lrc_node_laws.proofs.Tests.{same_numbers}
use Rattle.lrc_reading_laws.proofs.Asked.Departs.{IsOwn}
use Rattle.lrc_reading_laws.proofs.Asked.Lines.{Line, same_line, alone, line, Rises, rises}

-- ---- what came was expected

abbrev pub CameExpected : Node → Came → Type 0
CameExpected node by_itself = Unit {0}
CameExpected node (comes from message) = is_expected node from message ≡ true

-- a repeat changes nothing; else what came was expected and is pending no more, and what the turn sends is
pub data Expecting (node : Node) (was now : List EnvelopeRecord) : TurnRecord → Node → Type 0 where
  again : now ≡ was → Expecting node was now empty_turn node
  once : {turn : TurnRecord} {after : Node} (came : Came) (o : Option EnvelopeRecord) → Brings node.setting.me came o
      → IsFromNode node.setting.nodes came → CameExpected node came → Sent node came turn after
      → Goes o was turn.out now → Expecting node was now turn after

repeated : (e : EnvelopeRecord) (was now : List EnvelopeRecord) (b : Bool) → b ≡ true
    → Goes (if b then None else Some e) was [] now → now ≡ was
repeated e was now true is g = g ∙ append-nil was
repeated e was now false is g = cc

fresh : (e : EnvelopeRecord) (was out now : List EnvelopeRecord) (b : Bool) → b ≡ false → Goes (if b then None else Some e) was out now
    → Goes (Some e) was out now
fresh e was out now true is g = cc
fresh e was out now false is g = g

expecting : (node : Node) (input : Input) (turn : TurnRecord) (after : Node) (was now : List EnvelopeRecord) → outcome_of node input ≡ done turn after
    → Sending node input turn after → Goes (new_of node input) was turn.out now → Expecting node was now turn after
expecting node _ _ _ was now o (sent_alone k) g = once by_itself None tt tt tt k g
expecting node _ _ _ was now o (repeats e is) g = again (repeated e was now (is_repeat node e) is g)
expecting node _ turn after was now o (sent_anew e to from new k) g =
    let t : Took node e turn after = took node e turn after new o in
    once (comes e.from e.message) (Some e) (to, refl, refl) from t.expected k (fresh e was turn.out now (is_repeat node e) new g)

-- ---- an arrival that is taken

others-none : (from : ℕ) (intervals : List IntervalRecord) (q : ℕ) → list_all (λ (i : IntervalRecord). i.node == from) intervals ≡ true
    → (from ≡ q → ⊥) → indices_by intervals q ≡ []
others-none from [] q all other = refl
others-none from (x ∷ intervals) q all other =
    let parts : _ = and_parts _ _ all in
    indices-there x intervals q (λ e. other (sym (eqb-true x.node from parts.0) ∙ e)) ∙ others-none from intervals q parts.1 other

manager_here : (o : Option ManagerRecord) (a : Arrival) (from : ℕ)
    → unwrap_or (option_map is_accepted (option_map (λ manager. arrived manager from a) o)) false ≡ true → (x : ManagerRecord) × (o ≡ Some x)
manager_here None a from e = cc
manager_here (Some x) a from e = (x, refl)

-- it tells of its node's own intervals, from one after the last that the manager has of it, and of no others
pub arrives_own : (node : Node) (from : ℕ) (m : ArriveRecord) (manager : ManagerRecord)
    → ((x : ManagerRecord) → node.barrier.manager ≡ Some x → x ≡ manager)
    → is_expected node from (Arrive m) ≡ true → IsOwn (entry manager.last) (entry m.time) from m.intervals
arrives_own node from m manager is e =
    let outer : _ = and_parts _ _ (fulfilled node from (Arrive m) e) in
    let between : _ = and_parts _ _ outer.1 in
    let own : _ = and_parts _ _ between.0 in
    let here : (x : ManagerRecord) × (node.barrier.manager ≡ Some x) = manager_here node.barrier.manager (arrival_in m) from outer.0 in
    let at : node.barrier.manager ≡ Some manager = here.1 ∙ ap Some (is here.0 here.1) in
    let last_is : unwrap_or (option_map (λ (manager : ManagerRecord). slice_index manager.last from) node.barrier.manager) 0 ≡ entry manager.last from =
    ap (λ o. unwrap_or (option_map (λ (manager : ManagerRecord). slice_index manager.last from) o) 0) at in
    record {
      own = same_numbers _ _ between.1 ∙ ap (λ k. range_with_len (k + 1) (entry m.time from - k)) last_is;
      only = λ q other. others-none from m.intervals q own.1 other;
    }

-- ---- a turn, with what it does to the manager and to its node's time

pub record LineStep (node : Node) (manager : ManagerRecord) (nodes : ℕ) (was now : List EnvelopeRecord) (turn : TurnRecord) (after : Node) : Type 0 where
  pub came : Came
  pub acts : Bool
  pub o : Option EnvelopeRecord
  pub brings : Brings node.setting.me came o
  pub sender : IsFromNode nodes came
  pub expected : CameExpected node came
  pub goes : Goes o was turn.out now
  pub letters : List Letter
  pub out : map letter_in turn.out ≡ letters
  pub from : AllFrom node.setting.me turn.out
  pub passes : Passing (site_of node) came acts after.mail.wait after.locks after.barrier letters
  pub line_is : Line (site_of node) manager came after.barrier letters
  pub rises_so : Rises (site_of node) came after.locks

pub line_step : (node : Node) (manager : ManagerRecord) (nodes : ℕ) (is : (x : ManagerRecord) → node.barrier.manager ≡ Some x → x ≡ manager)
    (was now : List EnvelopeRecord) (turn : TurnRecord) (after : Node) → node.setting.nodes ≡ nodes → after.setting ≡ node.setting
    → Expecting node was now turn after → LineStep node manager nodes was now turn after
line_step node manager nodes is was now _ _ count set (again e) = record {
  came = by_itself;
  acts = false;
  o = None;
  brings = tt;
  sender = tt;
  expected = tt;
  goes = e ∙ sym (append-nil was);
  letters = [];
  out = refl;
  from = tt;
  passes = serving (site_of node) by_itself node.locks node.barrier [] tt (same_arrivals node.barrier.manager) refl refl;
  line_is = same_line (site_of node) manager by_itself node.barrier [] node.barrier.manager refl is refl;
  rises_so = alone (site_of node) node.locks (covers-refl node.locks.time);
}
line_step node manager nodes is was now turn after count set (once came o brings from expected sent goes) = record {
  came = came;
  acts = sent.acts;
  o = o;
  brings = brings;
  sender = subst (λ n. IsFromNode n came) count from;
  expected = expected;
  goes = goes;
  letters = sent.letters;
  out = sent.out;
  from = subst (λ (s : Setting). AllFrom s.me turn.out) set sent.from;
  passes = passing (site_of node) came sent.acts after.mail.wait after.locks after.barrier sent.letters sent.sent;
  line_is = line (site_of node) manager is came sent.acts after.mail.wait after.locks after.barrier sent.letters sent.sent;
  rises_so = rises (site_of node) came sent.acts after.mail.wait after.locks after.barrier sent.letters sent.sent;
}

module _ (program : Program) (nodes : ℕ) (options : OptionsRecord) where
  -- each turn of each run is one of these
  pub expecting_at : (world : World) (flight : List Flying) (n : ℕ) (l after : Logged) (input : Input) (log_entry : EntryRecord)
      → slice_get world.nodes n ≡ Some l → Comes world n input flight → IsEntry l input log_entry after → IsReached program nodes options world
      → Expecting l.node (pending world) (pending (with_turn world flight n log_entry after)) log_entry.turn after.node
  expecting_at world flight n l after input log_entry at come i r =
      let own : NodeShape (setting_of program nodes n) options (record { node = l.node; turns = turns_of l.log }) =
      shape_at program nodes options r.events world n l r.runs at in
      let shape : HasShape l.node.setting l.node.locks = subst (λ s. HasShape s l.node.locks) (sym own.setting) own.shape in
      let sending : Sending l.node input log_entry.turn after.node = subst (SendingIf l.node input) i.turn_is (sendings l.node input shape) in
      expecting l.node input log_entry.turn after.node (pending world) _ i.turn_is sending
      (pending-goes program nodes options world flight n l after input log_entry at come i (all_pending program nodes options r.events world r.runs))
