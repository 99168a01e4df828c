-- In every run there is a list of the intervals that were closed, and what is stored, told or kept is among them.
use Rattle.std.proofs.Common.{◌≡◌, ℕ, zero, suc, ◌+◌, ◌<◌, List, [], ◌∷◌, ◌++◌, Bool, true, false, length, refl, sym, ap, subst, ◌∙◌, inl, inr, append-nil}
use Rattle.std.specs.Prelude.{Option, Some, None, ◌==◌, replicate, slice_get, slice_set, if◌then◌else◌}
use Rattle.std.specs.List.{range_with_len}
use Rattle.std.proofs.lemmas.Bool.{cases_eq, eq-eqb}
use Rattle.std.proofs.lemmas.Option.{same_Some, slice_get_within}
use Rattle.lrc_program.specs.declared.Program.{Program}
use Rattle.lrc_exec.specs.Meaning.{Setting}
use Rattle.lrc_exec.specs.Plain.{setting_of}
use Rattle.lrc_time.specs.Time.{entry}
use Rattle.lrc_time.proofs.Times.{entry-zeros}
use Rattle.lrc_store.specs.Interval.{IntervalRecord}
use Rattle.lrc_store.specs.Store.{intervals_of}
use Rattle.lrc_envelope.specs.Envelope.{EnvelopeRecord}
use Rattle.lrc_envelope.specs.declared.message.Message.{Message}
use Rattle.lrc_envelope.specs.declared.message.Message.TheVariants.{LockRequest, LockForward, LockGrant, Arrive, Depart, Clean, Discard}
use Rattle.lrc_envelope.specs.declared.message.Message.TheVariants.{ChangesRequest, ChangesReply, PageRequest, PageReply}
use Rattle.lrc_barrier.specs.Barrier.{ManagerRecord, first_manager}
use Rattle.lrc_protocol.specs.declared.event.Event.{Event}
use Rattle.lrc_protocol.specs.Times.{indices_by, next_time}
use Rattle.lrc_protocol.specs.Pages.{closed_interval}
use Rattle.lrc_protocol.specs.Node.{Node, OptionsRecord}
use Rattle.lrc_protocol.specs.Turn.{TurnRecord, is_repeat}
use Rattle.lrc_protocol.specs.Run.{Input, run, taken, EntryRecord, Logged, World, Flying, fresh_world, with_turn, run_of}
use Rattle.lrc_protocol.specs.Follows.{pending}
use Rattle.lrc_protocol.specs.Follows.{turns_of}
use Rattle.lrc_protocol.proofs.Ruled.{by_rule}
use Rattle.lrc_protocol.proofs.Worlds.{IsEntry, get_set_same, get_set_other, fresh_at, run-whole}
use Rattle.lrc_protocol.proofs.Induction.{Comes}
use Rattle.lrc_order_laws.specs.Shape.{HasShape}
use Rattle.lrc_order_laws.proofs.Shape.{NodeShape, shape_at}
use Rattle.lrc_order_laws.proofs.Sends.{Came, by_itself, comes, site_of, Sent, Sending, alone, repeats, anew, SendingIf, sendings}
use Rattle.lrc_order_laws.proofs.Pending.{new_of, Lost, Goes, all_pending, pending-goes}
use Rattle.lrc_order_laws.proofs.Reached.{IsReached, KeptByReached, by_reached}
use Rattle.lrc_reading_laws.specs.Made.{AllMade, AllTold, AllKept, ManagerKeeps, intervals_in, AreMade}
use Rattle.lrc_reading_laws.proofs.Closed.Stocks.{Stocked, Stocking, alone as stocks_alone, again as stocks_again, anew as stocks_anew, stockings}
use Rattle.lrc_reading_laws.proofs.Closed.Told.{made-more, told-more, kept-more, told-append, told-without, told-there}
use Rattle.lrc_reading_laws.proofs.Closed.MadeSteps.{CameSo, DepartsSo, closed_between, MadeThen, made_then, out_so}
use Rattle.lrc_reading_laws.proofs.Closed.MadeManagers.{ArrivesSo, ManagedSo, managed_so, BoundsIn, bounded}

-- ---- what comes

no_comes : (from : ℕ) (message : Message) → by_itself ≡ comes from message → ⊥
no_comes from message e = cc

same_message : (from from' : ℕ) (m m' : Message) → comes from m ≡ comes from' m' → m ≡ m'
same_message from from' m m' e = cc

alone_so : (made : List IntervalRecord) (me : ℕ) (time : List ℕ) → CameSo made me time by_itself
alone_so made me time = record { grant = λ from m e. absurd (no_comes from (LockGrant m) e); depart = λ from m e. absurd (no_comes from (Depart m) e) }

message_so : (made : List IntervalRecord) (node : Node) (from : ℕ) (message : Message) → AllMade made (intervals_in message)
    → BoundsIn (site_of node) (comes from message) → CameSo made node.setting.me node.locks.time (comes from message)
message_so made node from message h b = record {
  grant = λ from' m e.
      let is : message ≡ LockGrant m = same_message from from' message (LockGrant m) e in
      (subst (λ message. AllMade made (intervals_in message)) is h, subst (λ message. BoundsIn (site_of node) (comes from message)) is b);
  depart = λ from' m e.
      let is : message ≡ Depart m = same_message from from' message (Depart m) e in
      (subst (λ message. AllMade made (intervals_in message)) is h, subst (λ message. BoundsIn (site_of node) (comes from message)) is b);
}

arrives_so : (made : List IntervalRecord) (from : ℕ) (message : Message) → AllMade made (intervals_in message) → ArrivesSo made (comes from message)
arrives_so made from (Arrive m) h = h
arrives_so made from (LockRequest m) h = tt
arrives_so made from (LockForward m) h = tt
arrives_so made from (LockGrant m) h = tt
arrives_so made from (Depart m) h = tt
arrives_so made from (Clean episode) h = tt
arrives_so made from (Discard episode) h = tt
arrives_so made from (ChangesRequest m) h = tt
arrives_so made from (ChangesReply m) h = tt
arrives_so made from (PageRequest page) h = tt
arrives_so made from (PageReply m) h = tt

manager-more : (made new : List IntervalRecord) (o : Option ManagerRecord) → ManagerKeeps made o → ManagerKeeps (made ++ new) o
manager-more made new None h = tt
manager-more made new (Some manager) h = kept-more made new manager.arrivals h

-- ---- one turn

-- what was made after a turn of a node, and what the node and the pending messages tell of it
record TurnMade (made new : List IntervalRecord) (me : ℕ) (after : Node) (now : List EnvelopeRecord) : Type 0 where
  own : indices_by (made ++ new) me ≡ range_with_len 1 (entry after.locks.time me)
  others : (q : ℕ) → (me ≡ q → ⊥) → indices_by (made ++ new) q ≡ indices_by made q
  stored : AllMade (made ++ new) (intervals_of after.memory.store)
  told : AllTold (made ++ new) now
  kept : ManagerKeeps (made ++ new) after.barrier.manager

-- a turn with the same inputs, as the store sees it
abbrev StockFact : Node → Input → TurnRecord → Node → Type 0
StockFact node run turn after = Stocked node by_itself turn after
StockFact node (taken e) turn after = is_repeat node e ≡ false → Stocked node (comes e.from e.message) turn after

true_false : (b : Bool) → b ≡ true → b ≡ false → ⊥
true_false true is not = cc
true_false false is not = cc

stock_fact : (node : Node) (input : Input) (turn : TurnRecord) (after : Node) → Stocking node input turn after → StockFact node input turn after
stock_fact node _ turn after (stocks_alone k) = k
stock_fact node _ _ _ (stocks_again e is) = λ new. absurd (true_false (is_repeat node e) is new)
stock_fact node _ turn after (stocks_anew e new k) = λ _. k

module _ (made : List IntervalRecord) (node : Node) (within : node.setting.me < length node.locks.time)
    (exact : indices_by made node.setting.me ≡ range_with_len 1 (entry node.locks.time node.setting.me))
    (stored : AllMade made (intervals_of node.memory.store)) (kept : ManagerKeeps made node.barrier.manager) (was : List EnvelopeRecord)
    (told : AllTold made was) where
  -- what the node closes in a turn
  abbrev closed_to : Node → List IntervalRecord
  closed_to after = closed_between node.setting.me node.locks.time node.memory after.locks.time

  turn_made : (came : Came) (turn : TurnRecord) (after : Node) (now : List EnvelopeRecord) → CameSo made node.setting.me node.locks.time came
      → ((new : List IntervalRecord) → ArrivesSo (made ++ new) came) → Sent node came turn after → Stocked node came turn after
      → ((new : List IntervalRecord) → AllTold (made ++ new) turn.out → AllTold (made ++ new) now)
      → TurnMade made (closed_to after) node.setting.me after now
  turn_made came turn after now so arrives sent k goes =
      let new : List IntervalRecord = closed_to after in
      let m : MadeThen made new node.setting.me after.memory.store after.locks.time =
      made_then made node.setting.me node.locks.time node.memory within exact stored came after.memory.store after.locks.time k.change so in
      let all : List IntervalRecord = made ++ new in
      let managed : ManagedSo all after.barrier sent.letters =
      managed_so all (site_of node) (manager-more made new node.barrier.manager kept) came sent.acts after.mail.wait after.locks after.barrier
      sent.letters (arrives new) sent.sent in
      record {
        own = m.own;
        others = m.others;
        stored = m.stored;
        told =
            goes new
            (out_so all after.memory.store node.setting.me turn.out k.letters k.out m.stored k.told
            (subst (DepartsSo all) (sym sent.out ∙ k.out) managed.departs));
        kept = managed.keeps;
      }

  repeated : (e : EnvelopeRecord) (now : List EnvelopeRecord) (b : Bool) → b ≡ true → Goes (if b then None else Some e) was [] now → AllTold made now
  repeated e now true is g = subst (AllTold made) (sym g) (told-append made was [] told tt)
  repeated e now false is g = cc

  fresh : (e : EnvelopeRecord) (out now : List EnvelopeRecord) (b : Bool) → b ≡ false → Goes (if b then None else Some e) was out now → Lost e was out now
  fresh e out now true is g = cc
  fresh e out now false is g = g

  step_made : (input : Input) (turn : TurnRecord) (after : Node) (now : List EnvelopeRecord) → Sending node input turn after → StockFact node input turn after
      → Goes (new_of node input) was turn.out now
      → TurnMade made (closed_to after) node.setting.me after now
  step_made _ turn after now (alone sent) k g =
      turn_made by_itself turn after now (alone_so made node.setting.me node.locks.time) (λ new. tt) sent k
      (λ new h. subst (AllTold (made ++ new)) (sym g) (told-append (made ++ new) was turn.out (told-more made new was told) h))
  step_made _ _ _ now (repeats e is) k g =
      subst (λ b. TurnMade made (if b then [] else closed_interval node.setting.me
      (next_time node.setting.me node.locks.time) node.memory ∷ []) node.setting.me node now)
      (sym (eq-eqb (entry node.locks.time node.setting.me) (entry node.locks.time node.setting.me) refl)) (record {
        own = ap (λ all. indices_by all node.setting.me) (append-nil made) ∙ exact;
        others = λ q ne. ap (λ all. indices_by all q) (append-nil made);
        stored = subst (λ all. AllMade all (intervals_of node.memory.store)) (sym (append-nil made)) stored;
        told = subst (λ all. AllTold all now) (sym (append-nil made)) (repeated e now (is_repeat node e) is g);
        kept = subst (λ all. ManagerKeeps all node.barrier.manager) (sym (append-nil made)) kept;
      })
  step_made _ turn after now (anew e to from new sent) k g =
      let lost : Lost e was turn.out now = fresh e turn.out now (is_repeat node e) new g in
      let here : AllMade made (intervals_in e.message) = told-there made lost.front lost.back e (subst (AllTold made) lost.before told) in
      turn_made (comes e.from e.message) turn after now
      (message_so made node e.from e.message here
      (bounded (site_of node) (comes e.from e.message) sent.acts after.mail.wait after.locks after.barrier sent.letters sent.sent))
      (λ more. arrives_so (made ++ more) e.from e.message (made-more made more (intervals_in e.message) here)) sent (k new)
      (λ more h.
      subst (AllTold (made ++ more)) (sym lost.after)
      (told-append (made ++ more) (lost.front ++ lost.back) turn.out
      (told-without (made ++ more) lost.front lost.back e (subst (AllTold (made ++ more)) lost.before (told-more made more was told))) h))

-- ---- every run

module _ (program : Program) (nodes : ℕ) (options : OptionsRecord) where
  -- every turn keeps what was made, with what it closes
  pub are-kept : (world : World) (made : List IntervalRecord) (flight : List Flying) (n : ℕ) (l after : Logged) (input : Input) (log_entry : EntryRecord)
      → slice_get world.nodes n ≡ Some l → Comes world n input flight → IsEntry l input log_entry after
      → IsReached program nodes options world → AreMade made world
      → AreMade (made ++ closed_between l.node.setting.me l.node.locks.time l.node.memory after.node.locks.time) (with_turn world flight n log_entry after)
  are-kept world made flight n l after input log_entry at come i reached are =
      let shape : NodeShape (setting_of program nodes n) options (record { node = l.node; turns = turns_of l.log }) =
      shape_at program nodes options reached.events world n l reached.runs at in
      let me : l.node.setting.me ≡ n = ap (λ (s : Setting). s.me) shape.setting in
      let own_shape : HasShape l.node.setting l.node.locks = subst (λ (s : Setting). HasShape s l.node.locks) (sym shape.setting) shape.shape in
      let now : List EnvelopeRecord = pending (with_turn world flight n log_entry after) in
      let all : List Logged = slice_set world.nodes n after in
      let within : n < length l.node.locks.time =
      subst (λ k. n < k) (sym shape.shape.times)
      (subst (λ k. n < k) (run-whole program nodes options reached.events world reached.runs).count (slice_get_within world.nodes n l at)) in
      let new : List IntervalRecord = closed_between l.node.setting.me l.node.locks.time l.node.memory after.node.locks.time in
      let turn : TurnMade made new l.node.setting.me after.node now =
      step_made made l.node (subst (λ k. k < length l.node.locks.time) (sym me) within)
      (subst (λ k. indices_by made k ≡ range_with_len 1 (entry l.node.locks.time k)) (sym me) (are.exact n l at))
      (are.stored n l at) (are.kept n l at) (pending world) are.told input log_entry.turn after.node now
      (subst (SendingIf l.node input) i.turn_is (sendings l.node input own_shape))
      (stock_fact l.node input log_entry.turn after.node (stockings l.node input log_entry.turn after.node (by_rule l.node input log_entry.turn after.node i.turn_is)))
      (pending-goes program nodes options world flight n l after input log_entry at come i
      (all_pending program nodes options reached.events world reached.runs)) in
      let there : slice_get all n ≡ Some after = get_set_same world.nodes n l after at in
      record {
        exact = λ q lq is. elim (cases_eq n q) [
          | inl e ↦
              let same : after ≡ lq = same_Some after lq (sym there ∙ ap (slice_get all) e ∙ is) in
              subst (λ (x : Logged). indices_by (made ++ new) q ≡ range_with_len 1 (entry x.node.locks.time q)) same
              (subst (λ k. indices_by (made ++ new) k ≡ range_with_len 1 (entry after.node.locks.time k)) (me ∙ e) turn.own)
          | inr ne ↦ turn.others q (λ e. ne (sym me ∙ e)) ∙ are.exact q lq (sym (get_set_other world.nodes n q after ne) ∙ is)
        ];
        stored = λ q lq is. elim (cases_eq n q) [
          | inl e ↦
              let same : after ≡ lq = same_Some after lq (sym there ∙ ap (slice_get all) e ∙ is) in
              subst (λ (x : Logged). AllMade (made ++ new) (intervals_of x.node.memory.store)) same turn.stored
          | inr ne ↦
              made-more made new (intervals_of lq.node.memory.store) (are.stored q lq (sym (get_set_other world.nodes n q after ne) ∙ is))
        ];
        told = turn.told;
        kept = λ q lq is. elim (cases_eq n q) [
          | inl e ↦
              let same : after ≡ lq = same_Some after lq (sym there ∙ ap (slice_get all) e ∙ is) in
              subst (λ (x : Logged). ManagerKeeps (made ++ new) x.node.barrier.manager) same turn.kept
          | inr ne ↦
              manager-more made new lq.node.barrier.manager (are.kept q lq (sym (get_set_other world.nodes n q after ne) ∙ is))
        ];
      }

  none_kept : (k : ℕ) → AllKept [] (replicate k None)
  none_kept zero = tt
  none_kept (suc k) = none_kept k

  first_keeps : (b : Bool) → ManagerKeeps [] (if b then Some (first_manager nodes) else None)
  first_keeps true = none_kept nodes
  first_keeps false = tt

  pub are-fresh : AreMade [] (fresh_world program nodes options)
  are-fresh = record {
    exact = λ q l is.
        subst (λ (x : Logged). [] ≡ range_with_len 1 (entry x.node.locks.time q)) (sym (fresh_at program nodes options 0 nodes q l is))
        (ap (range_with_len 1) (sym (entry-zeros nodes q)));
    stored = λ q l is. subst (λ (x : Logged). AllMade [] (intervals_of x.node.memory.store)) (sym (fresh_at program nodes options 0 nodes q l is)) tt;
    told = tt;
    kept = λ q l is.
        subst (λ (x : Logged). ManagerKeeps [] x.node.barrier.manager) (sym (fresh_at program nodes options 0 nodes q l is)) (first_keeps ((0 + q) == 0));
  }

  pub record Knows (world : World) : Type 0 where
    pub made : List IntervalRecord
    pub are : AreMade made world

  knows-kept : KeptByReached program nodes options Knows
  knows-kept world flight n l after input log_entry at come i reached reached' h = record {
    made = h.made ++ closed_between l.node.setting.me l.node.locks.time l.node.memory after.node.locks.time;
    are = are-kept world h.made flight n l after input log_entry at come i reached h.are;
  }

  pub knows : (events : List Event) (world : World) → run_of program nodes options events ≡ Some world → Knows world
  knows events world e = by_reached program nodes options Knows knows-kept events world (record { made = []; are = are-fresh }) e
