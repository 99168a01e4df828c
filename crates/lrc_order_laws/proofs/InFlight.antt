-- In every run the messages in flight from one node to another have numbers of their own, all among those that were sent.
use Rattle.std.proofs.Common.{◌≡◌, ℕ, ◌+◌, ◌<◌, List, [], ◌++◌, length, refl, sym, ap, subst, ◌∙◌, inl, inr, arith, append-nil}
use Rattle.std.specs.Prelude.{Some, slice_get, slice_set, slice_index}
use Rattle.std.specs.List.{range_with_len}
use Rattle.std.proofs.lemmas.Bool.{cases_eq}
use Rattle.std.proofs.lemmas.List.{length-replicate}
use Rattle.std.proofs.lemmas.Option.{same_Some}
use Rattle.lrc_program.specs.declared.Program.{Program}
use Rattle.lrc_exec.specs.Meaning.{Setting}
use Rattle.lrc_exec.specs.Plain.{setting_of}
use Rattle.lrc_envelope.specs.Envelope.{EnvelopeRecord}
use Rattle.lrc_protocol.specs.declared.event.Event.{Event}
use Rattle.lrc_protocol.specs.Node.{Node, OptionsRecord, fresh_node}
use Rattle.lrc_protocol.specs.Turn.{TurnRecord}
use Rattle.lrc_protocol.specs.Run.{Logged, World, fresh_world, sent_by, run_of}
use Rattle.lrc_protocol.proofs.Numbers.{GoOn}
use Rattle.lrc_protocol.proofs.Worlds.{get_set_same, get_set_other, fresh_at}
use Rattle.lrc_protocol.proofs.Turned.{Turned, Turns, turns}
use Rattle.lrc_protocol.proofs.Induction.{KeptByTurns, by_turns}
use Rattle.lrc_order_laws.specs.Numbers.{numbers_between, Rises}
use Rattle.lrc_order_laws.proofs.Shift.{AllFrom, Shifted, ShiftedIf, shifts}
use Rattle.lrc_order_laws.proofs.Numbers.{envelopes_in, rises-append, rises-range, between-sent, comes-rises, between-own, between-other}

-- of a node, with so many nodes
pub record Sends (s : Setting) (o : OptionsRecord) (envelopes : List EnvelopeRecord) (node : Node) : Type 0 where
  pub setting : node.setting ≡ s
  pub options : node.options ≡ o
  pub size : length node.mail.sent ≡ s.nodes
  pub numbers : (to : ℕ) → to < s.nodes → Rises o.first (o.first + slice_index node.mail.sent to) (numbers_between s.me to envelopes)

module _ (program : Program) (nodes : ℕ) (options : OptionsRecord) where
  pub record AllSend (world : World) : Type 0 where
    pub each : (n : ℕ) (l : Logged) → slice_get world.nodes n ≡ Some l → Sends (setting_of program nodes n) options (envelopes_in world.flight) l.node

  -- the numbers of what the node sends go on
  more_sent : (node after : Node) (turn : TurnRecord) (n to : ℕ) (old : List ℕ) → Turned node turn after → AllFrom n turn.out → node.options ≡ options
      → to < length node.mail.sent → Rises options.first (options.first + slice_index node.mail.sent to) old
      → Rises options.first (options.first + slice_index after.mail.sent to) (old ++ numbers_between n to turn.out)
  more_sent node after turn n to old t from o lt r =
      let g : GoOn node.options.first node.mail.sent turn.out after.mail.sent to = t.numbers.each to lt in
      let before : ℕ = slice_index node.mail.sent to in
      let counted : slice_index after.mail.sent to ≡ before + g.more = g.counted in
      let numbers : numbers_between n to turn.out ≡ range_with_len (options.first + before) g.more =
      between-own n to turn.out from ∙ g.numbers ∙ ap (λ (o : OptionsRecord). range_with_len (o.first + before) g.more) o in
      rises-append options.first (options.first + before) (options.first + slice_index after.mail.sent to) old (numbers_between n to turn.out)
      (omega arith) (omega (arith, counted)) r
      (subst (Rises (options.first + before) (options.first + slice_index after.mail.sent to)) (sym numbers)
      (rises-range (options.first + before) g.more (options.first + slice_index after.mail.sent to) (omega (arith, counted))))

  pub all-kept : KeptByTurns AllSend
  all-kept world flight n l after input entry at comes i h =
      let t : Turned l.node entry.turn after.node = subst (Turns l.node) i.turn_is (turns l.node input) in
      let sh : Shifted l.node entry.turn after.node = subst (ShiftedIf l.node) i.turn_is (shifts l.node input) in
      let own : Sends (setting_of program nodes n) options (envelopes_in world.flight) l.node = h.each n l at in
      let from : AllFrom n entry.turn.out = subst (λ (s : Setting). AllFrom s.me entry.turn.out) (t.setting ∙ own.setting) sh.from in
      record {
        each = λ m lm is. elim (cases_eq n m) [
          | inl e ↦
              let same : after ≡ lm = same_Some after lm
              (sym (get_set_same world.nodes n l after at) ∙ ap (slice_get (slice_set world.nodes n after)) e ∙ is) in
              subst (λ k. Sends (setting_of program nodes k) options (envelopes_in (flight ++ sent_by entry)) lm.node) e
              (subst (λ (x : Logged). Sends (setting_of program nodes n) options (envelopes_in (flight ++ sent_by entry)) x.node) same
              (record {
                setting = t.setting ∙ own.setting;
                options = t.options ∙ own.options;
                size = t.numbers.size ∙ own.size;
                numbers = λ to lt.
                    subst (Rises options.first (options.first + slice_index after.node.mail.sent to)) (sym (between-sent n to flight entry))
                    (more_sent l.node after.node entry.turn n to (numbers_between n to (envelopes_in flight)) t from own.options
                    (subst (λ k. to < k) (sym own.size) lt)
                    (comes-rises world _ input flight n to options.first (options.first + slice_index l.node.mail.sent to) comes (own.numbers to lt)));
              }))
          | inr ne ↦
              let old : Sends (setting_of program nodes m) options (envelopes_in world.flight) lm.node =
              h.each m lm (sym (get_set_other world.nodes n m after ne) ∙ is) in
              record {
                setting = old.setting;
                options = old.options;
                size = old.size;
                numbers = λ to lt.
                    subst (Rises options.first (options.first + slice_index lm.node.mail.sent to))
                    (sym (between-sent m to flight entry
                    ∙ ap (λ ns. numbers_between m to (envelopes_in flight) ++ ns) (between-other n m to entry.turn.out ne from)
                    ∙ append-nil (numbers_between m to (envelopes_in flight))))
                    (comes-rises world _ input flight m to options.first (options.first + slice_index lm.node.mail.sent to) comes (old.numbers to lt));
              }
        ];
      }

  fresh-sends : (n : ℕ) → Sends (setting_of program nodes n) options [] (fresh_node program nodes options n)
  fresh-sends n = record { setting = refl; options = refl; size = length-replicate nodes 0; numbers = λ to lt. tt }

  pub all-fresh : AllSend (fresh_world program nodes options)
  all-fresh = record {
    each = λ n l is.
        subst (λ (x : Logged). Sends (setting_of program nodes n) options [] x.node)
        (sym (fresh_at program nodes options 0 nodes n l is ∙ ap (λ m. record { node = fresh_node program nodes options m; log = [] }) (omega arith)))
        (fresh-sends n);
  }

  pub all_send : (events : List Event) (world : World) → run_of program nodes options events ≡ Some world → AllSend world
  all_send events world e = by_turns AllSend all-kept program nodes options events world all-fresh e
