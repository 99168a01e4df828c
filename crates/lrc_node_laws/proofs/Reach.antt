-- Every node that is reached has come by changes from a fresh one, and has its tokens as its text holds them.
use Rattle.std.proofs.Common.{◌≡◌, ℕ, List, [], ◌∷◌, ◌<◌, ◌≤◌, length, sym, ap, subst, ◌∙◌, arith}
use Rattle.std.proofs.lemmas.List.{length-replicate}
use Rattle.lrc_time.specs.Time.{entry}
use Rattle.std.specs.Prelude.{Option, Some, None, fold}
use Rattle.lrc_program.specs.declared.Program.{Program}
use Rattle.lrc_exec.specs.Meaning.{Setting}
use Rattle.lrc_exec.specs.Plain.{setting_of}
use Rattle.lrc_protocol.specs.Node.{Node, OptionsRecord, fresh_node}
use Rattle.lrc_protocol.specs.Turn.{TurnRecord, Outcome, done, not_ready, unexpected, worn}
use Rattle.lrc_protocol.specs.Run.{Input, outcome_of}
use Rattle.lrc_protocol.specs.Follows.{local_step}
use Rattle.lrc_protocol.specs.Follows.{local_after}
use Rattle.lrc_protocol.specs.Follows.{Local}
use Rattle.lrc_protocol.proofs.Turned.{Turns, turns}
use Rattle.lrc_order_laws.proofs.Shift.{part_of, Shifted, ShiftedIf, shifts}
use Rattle.lrc_order_laws.proofs.TextHolds.{TextIs}
use Rattle.lrc_order_laws.proofs.Held.{Tokened, node-tokened, fresh-tokened}
use Rattle.lrc_node_laws.specs.Reached.{LeadsTo}
use Rattle.lrc_node_laws.proofs.Change.{View, view_of, Walk, stands}
use Rattle.lrc_node_laws.proofs.Mailed.{early-kept}
use Rattle.lrc_node_laws.proofs.Entered.{entered-kept}
use Rattle.lrc_order_laws.specs.Counts.{is_inside}
use Rattle.lrc_node_laws.proofs.Inversion.{AtEnd, turn-at}

module _ (program : Program) (nodes : ℕ) (options : OptionsRecord) (me : ℕ) (among : me < nodes) where
  abbrev pub first_view : View
  first_view = view_of (fresh_node program nodes options me)

  pub record Come (l : Local) : Type 0 where
    pub tokened : Tokened (setting_of program nodes me) options l
    pub walked : Walk first_view (view_of l.node)
    pub sent : length l.node.mail.sent ≡ nodes
    pub early : l.node.barrier.episode ≤ entry l.node.locks.time me
    pub entered : is_inside l.node.mail.wait ≤ l.node.barrier.episode

  ComeIf : Option Local → Type 0
  ComeIf None = Unit {0}
  ComeIf (Some l) = Come l

  -- it arrives no more often than it closes intervals
  still_early : (l : Local) (turn : TurnRecord) (after : Node) → Shifted l.node turn after → Come l → after.barrier.episode ≤ entry after.locks.time me
  still_early l turn after s c =
      let here : l.node.setting.me ≡ me = ap (λ (x : Setting). x.me) c.tokened.shape.setting in
      let within : l.node.setting.me < length l.node.locks.time = omega (arith, here, among, c.tokened.shape.shape.times) in
      subst (λ k. after.barrier.episode ≤ entry after.locks.time k) here
      (early-kept (part_of l.node) within (subst (λ k. l.node.barrier.episode ≤ entry l.node.locks.time k) (sym here) c.early)
      s.acts after.mail.wait after.locks after.barrier.episode s.shift)

  by_outcome : (l : Local) (o : Outcome) → Turns l.node o → ShiftedIf l.node o → AtEnd first_view o → Come l → ComeIf (local_after l.turns o)
  unfolding ComeIf
  by_outcome l (done turn after) t s w c = record {
    tokened = node-tokened (setting_of program nodes me) options program.few_locks l turn after t s c.tokened;
    walked = w;
    sent = t.numbers.size ∙ c.sent;
    early = still_early l turn after s c;
    entered = entered-kept (part_of l.node) c.entered s.acts after.mail.wait after.locks after.barrier.episode s.shift;
  }
  by_outcome l not_ready t s w c = tt
  by_outcome l unexpected t s w c = tt
  by_outcome l worn t s w c = tt

  text_of : (l : Local) → Come l → TextIs l.node.setting l.node.course
  text_of l c = subst (λ s. TextIs s l.node.course) (sym c.tokened.shape.setting) c.tokened.text

  by_step : (o : Option Local) (input : Input) → ComeIf o → ComeIf (local_step o input)
  unfolding ComeIf
  by_step None input c = tt
  by_step (Some l) input c =
      by_outcome l (outcome_of l.node input) (turns l.node input) (shifts l.node input)
      (turn-at first_view l.node input (text_of l c) c.walked) c

  by_inputs : (inputs : List Input) (o : Option Local) → ComeIf o → ComeIf (fold local_step o inputs)
  by_inputs [] o c = c
  by_inputs (input ∷ inputs) o c = by_inputs inputs (local_step o input) (by_step o input c)

  pub come : (l : Local) → LeadsTo program nodes options me l → Come l
  unfolding ComeIf
  come l leads =
      subst ComeIf leads.made
      (by_inputs leads.inputs (Some (record { node = fresh_node program nodes options me; turns = [] }))
      (record {
        tokened = fresh-tokened program nodes options me;
        walked = stands;
        sent = length-replicate nodes 0;
        early =
            omega arith;
        entered = omega arith;
      }))
