-- In every run: what a node awaits of pages is on its way, once, as a request or as its reply, and nothing else of pages is.
use Rattle.std.proofs.Common.{◌≡◌, ℕ, ◌+◌, List, [], Bool, true, false, refl, sym, ap, subst, ◌∙◌, inl, inr, arith, append-nil}
use Rattle.std.specs.Prelude.{Some, None, count_by, slice_get, slice_set, if◌then◌else◌}
use Rattle.std.proofs.lemmas.Bool.{cases_eq}
use Rattle.std.proofs.lemmas.Option.{same_Some}
use Rattle.lrc_program.specs.declared.Program.{Program}
use Rattle.lrc_exec.specs.Meaning.{Setting}
use Rattle.lrc_exec.specs.Plain.{setting_of}
use Rattle.lrc_envelope.specs.Envelope.{EnvelopeRecord}
use Rattle.lrc_protocol.specs.declared.event.Event.{Event}
use Rattle.lrc_protocol.specs.Node.{Wait, Letter, Node, OptionsRecord}
use Rattle.lrc_protocol.specs.Turn.{TurnRecord, is_repeat}
use Rattle.lrc_protocol.specs.Run.{Input, Logged, World, fresh_world, with_turn, run_of}
use Rattle.lrc_protocol.specs.Follows.{pending}
use Rattle.lrc_protocol.specs.Follows.{turns_of}
use Rattle.lrc_protocol.proofs.Ruled.{by_rule}
use Rattle.lrc_protocol.proofs.Worlds.{get_set_same, get_set_other, fresh_at}
use Rattle.lrc_protocol.proofs.Turned.{Turned, Turns, turns}
use Rattle.lrc_order_laws.specs.Shape.{HasShape}
use Rattle.lrc_order_laws.proofs.Shift.{AllFrom}
use Rattle.lrc_order_laws.proofs.Shape.{NodeShape, shape_at}
use Rattle.lrc_order_laws.proofs.Sends.{Came, by_itself, comes, Sending, alone, repeats, anew, SendingIf, sendings}
use Rattle.lrc_order_laws.proofs.Flows.{came_count, count_of, counts}
use Rattle.lrc_order_laws.proofs.Standing.{Flow}
use Rattle.lrc_order_laws.proofs.Pending.{new_of, Goes, all_pending, pending-goes}
use Rattle.lrc_order_laws.proofs.Reached.{KeptByReached, by_reached}
use Rattle.lrc_reading_laws.proofs.Closed.Stored.{reached}
use Rattle.lrc_reading_laws.specs.Requested.{Wish}
use Rattle.lrc_reading_laws.proofs.Asked.Wishes.{wanted_test, request_test, reply_test, awaited, Steady}
use Rattle.lrc_reading_laws.proofs.Asked.Turns.{Asks, AskFact, asks}

-- among these messages there is, for each thing that a node awaits, once its request or the reply
abbrev pub AreBalanced : List EnvelopeRecord → ℕ → Wait → Type 0
AreBalanced es n wait = (q : ℕ) (w : Wish)
    → count_of (request_test n q w) es + count_of (reply_test n q w) es ≡ count_by (wanted_test q w) (awaited wait)

-- a turn of a node keeps it so of that node and of each other
record Kept (me : ℕ) (was now : List EnvelopeRecord) (before after : Wait) : Type 0 where
  own : AreBalanced was me before → AreBalanced now me after
  other : (n : ℕ) (wait : Wait) → (me ≡ n → ⊥) → AreBalanced was n wait → AreBalanced now n wait

balances : (me : ℕ) (came : Came) (letters : List Letter) (was now : List EnvelopeRecord) (before after : Wait)
    → Steady me came letters (awaited before) (awaited after) → Flow me came letters was now → Kept me was now before after
balances me came letters was now before after s f = record {
  own = λ h q w.
      let a : count_of (request_test me q w) now + came_count (request_test me q w) me came
      ≡ count_of (request_test me q w) was + count_by (request_test me q w me) letters = f (request_test me q w) in
      let b : count_of (reply_test me q w) now + came_count (reply_test me q w) me came
      ≡ count_of (reply_test me q w) was + count_by (reply_test me q w me) letters = f (reply_test me q w) in
      let c : count_by (wanted_test q w) (awaited after) + came_count (request_test me q w) me came + came_count (reply_test me q w) me came
      ≡ count_by (wanted_test q w) (awaited before) + count_by (request_test me q w me) letters + count_by (reply_test me q w me) letters = s.own q w in
      let d : count_of (request_test me q w) was + count_of (reply_test me q w) was ≡ count_by (wanted_test q w) (awaited before) = h q w in
      omega (arith, a, b, c, d);
  other = λ n wait ne h q w.
      let a : count_of (request_test n q w) now + came_count (request_test n q w) me came
      ≡ count_of (request_test n q w) was + count_by (request_test n q w me) letters = f (request_test n q w) in
      let b : count_of (reply_test n q w) now + came_count (reply_test n q w) me came
      ≡ count_of (reply_test n q w) was + count_by (reply_test n q w me) letters = f (reply_test n q w) in
      let c : came_count (request_test n q w) me came + came_count (reply_test n q w) me came
      ≡ count_by (request_test n q w me) letters + count_by (reply_test n q w me) letters = s.other n q w ne in
      let d : count_of (request_test n q w) was + count_of (reply_test n q w) was ≡ count_by (wanted_test q w) (awaited wait) = h q w in
      omega (arith, a, b, c, d);
}

-- ---- one turn

again : (e : EnvelopeRecord) (was now : List EnvelopeRecord) (b : Bool) → b ≡ true → Goes (if b then None else Some e) was [] now → now ≡ was
again e was now true is g = g ∙ append-nil was
again e was now false is g = cc

fresh : (e : EnvelopeRecord) (was out now : List EnvelopeRecord) (b : Bool) → b ≡ false → Goes (if b then None else Some e) was out now
    → Goes (Some e) was out now
fresh e was out now true is g = cc
fresh e was out now false is g = g

same : (me : ℕ) (was now : List EnvelopeRecord) (wait : Wait) → now ≡ was → Kept me was now wait wait
same me was now wait e = record {
  own = λ h. subst (λ es. AreBalanced es me wait) (sym e) h;
  other = λ n w ne h. subst (λ es. AreBalanced es n w) (sym e) h;
}

steps : (node : Node) (input : Input) (turn : TurnRecord) (after : Node) (was now : List EnvelopeRecord) → after.setting ≡ node.setting
    → Sending node input turn after → AskFact node input turn after → Goes (new_of node input) was turn.out now
    → Kept node.setting.me was now node.mail.wait after.mail.wait
steps node _ turn after was now set (alone sent) k g =
    balances node.setting.me by_itself k.letters was now node.mail.wait after.mail.wait k.steady
    (λ test. counts test node.setting.me by_itself None was now turn.out k.letters tt g (subst (λ (s : Setting). AllFrom s.me turn.out) set sent.from) k.out)
steps node _ _ _ was now set (repeats e is) k g = same node.setting.me was now node.mail.wait (again e was now (is_repeat node e) is g)
steps node _ turn after was now set (anew e to from new sent) k g =
    let asked : Asks node (comes e.from e.message) turn after = k new in
    balances node.setting.me (comes e.from e.message) asked.letters was now node.mail.wait after.mail.wait asked.steady
    (λ test.
    counts test node.setting.me (comes e.from e.message) (Some e) was now turn.out asked.letters (to, refl, refl)
    (fresh e was turn.out now (is_repeat node e) new g) (subst (λ (s : Setting). AllFrom s.me turn.out) set sent.from) asked.out)

-- ---- every run

module _ (program : Program) (nodes : ℕ) (options : OptionsRecord) where
  pub record AllBalanced (world : World) : Type 0 where
    pub each : (n : ℕ) (l : Logged) → slice_get world.nodes n ≡ Some l → AreBalanced (pending world) n l.node.mail.wait

  balanced-kept : KeptByReached program nodes options AllBalanced
  balanced-kept world flight n l after input log_entry at come i r r' h =
      let shape : NodeShape (setting_of program nodes n) options (record { node = l.node; turns = turns_of l.log }) =
      shape_at program nodes options r.events world n l r.runs at in
      let me : l.node.setting.me ≡ n = ap (λ (s : Setting). s.me) shape.setting in
      let own_shape : HasShape l.node.setting l.node.locks = subst (λ (s : Setting). HasShape s l.node.locks) (sym shape.setting) shape.shape in
      let t : Turned l.node log_entry.turn after.node = subst (Turns l.node) i.turn_is (turns l.node input) in
      let now : List EnvelopeRecord = pending (with_turn world flight n log_entry after) in
      let kept : Kept l.node.setting.me (pending world) now l.node.mail.wait after.node.mail.wait =
      steps l.node input log_entry.turn after.node (pending world) now t.setting
      (subst (SendingIf l.node input) i.turn_is (sendings l.node input own_shape))
      (asks l.node input log_entry.turn after.node (reached program nodes options r.events world r.runs n l at)
      (by_rule l.node input log_entry.turn after.node i.turn_is))
      (pending-goes program nodes options world flight n l after input log_entry at come i (all_pending program nodes options r.events world r.runs)) in
      record {
        each = λ m lm is. elim (cases_eq n m) [
          | inl e ↦
              let same : after ≡ lm =
              same_Some after lm (sym (get_set_same world.nodes n l after at) ∙ ap (slice_get (slice_set world.nodes n after)) e ∙ is) in
              subst (λ (x : Logged). AreBalanced now m x.node.mail.wait) same
              (subst (λ k. AreBalanced now k after.node.mail.wait) (me ∙ e)
              (kept.own (subst (λ k. AreBalanced (pending world) k l.node.mail.wait) (sym me) (h.each n l at))))
          | inr ne ↦
              kept.other m lm.node.mail.wait (λ e. ne (sym me ∙ e)) (h.each m lm (sym (get_set_other world.nodes n m after ne) ∙ is))
        ];
      }

  balanced-fresh : AllBalanced (fresh_world program nodes options)
  balanced-fresh = record {
    each = λ n l is. subst (λ (x : Logged). AreBalanced [] n x.node.mail.wait) (sym (fresh_at program nodes options 0 nodes n l is)) (λ q w. refl);
  }

  pub all_balanced : (events : List Event) (world : World) → run_of program nodes options events ≡ Some world → AllBalanced world
  all_balanced events world e = by_reached program nodes options AllBalanced balanced-kept events world balanced-fresh e
