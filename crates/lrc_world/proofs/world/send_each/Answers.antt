use Rattle.std.proofs.Common.{◌≡◌, ◌∙◌, ◌++◌, ◌+◌, ◌||◌, [], ◌∷◌, ℕ, Bool, true, false, List, Some, append_assoc, arith, sym, ap, map, suc, take}
use Rattle.std.specs.Prelude.{slice_get}
use Rattle.std.specs.List.{list_any}
use Rattle.lrc_envelope.specs.Envelope.{EnvelopeRecord}
use Rattle.lrc_consistency_laws.proofs.Ahead.{take_ahead}
use Rattle.lrc_world.specs.declared.flying.Flying.{Flying}
use Rattle.lrc_world.specs.declared.report.TurnFault.{TurnFault}
use Rattle.lrc_world.specs.declared.report.TurnFault.TheVariants.{NoMemory, Worn}
use Rattle.lrc_world.specs.World.{IsSendFault, is_long, seen_flying, shown_new}
use Rattle.lrc_world.proofs.Events.{fault_up, get_at, take_whole}
use Rattle.lrc_world.proofs.Lists.{map-both}
use Rattle.lrc_world.proofs.Over.{none_more, one_is}
use Rattle.lrc_world.proofs.world.send_each.Goals as goal

alone : (b : Bool) → (b || false) ≡ true → b ≡ true
alone true e = e
alone false e = e

module _ (out : List EnvelopeRecord) (k : ℕ) (envelope : EnvelopeRecord) (there : slice_get out k ≡ Some envelope) where
  -- one message more is in flight
  flies : (stamp : ℕ) (start before after : List Flying) (flying : Flying) → after ≡ before ++ flying ∷ [] → seen_flying flying ≡ shown_new stamp envelope
      → map seen_flying before ≡ map seen_flying start ++ map (shown_new stamp) (take k out)
      → map seen_flying after ≡ map seen_flying start ++ map (shown_new stamp) (take (k + 1) out)
  flies stamp start before after flying more shown so_far =
      let next : k + 1 ≡ suc k = omega arith in
      ap (map seen_flying) more ∙ map-both seen_flying before (flying ∷ [])
      ∙ ap (λ xs. xs ++ seen_flying flying ∷ []) so_far
      ∙ ap (λ x. (map seen_flying start ++ map (shown_new stamp) (take k out)) ++ x ∷ []) shown
      ∙ append_assoc (map seen_flying start) (map (shown_new stamp) (take k out)) (shown_new stamp envelope ∷ [])
      ∙ ap (λ xs. map seen_flying start ++ xs) (sym (ap (λ n. map (shown_new stamp) (take n out)) next
      ∙ ap (map (shown_new stamp)) (take_ahead out k envelope there)
      ∙ map-both (shown_new stamp) (take k out) (envelope ∷ [])))

  -- why one of the messages is not sent
  one_fault : (fault : TurnFault) → IsSendFault (envelope ∷ []) fault → IsSendFault out fault
  one_fault Worn is = one_is is_long out k envelope there (alone (is_long envelope) is)
  one_fault NoMemory is = tt

pub returns-in_err-bytes-clause-err : goal.returns-in_err-bytes-clause-err
returns-in_err-bytes-clause-err c =
    let there = get_at c.args.out.now c.loop-envelope.envelope-index c.envelope-item.result (omega (arith, c.loop-envelope-test.true))
    ∙ ap Some (sym c.envelope-item.is) in
    fault_up c.from_residual.result c.in_err-bytes.field-0.0 (IsSendFault c.args.out.now) c.from_residual.ensures.1
    (one_fault c.args.out.now c.loop-envelope.envelope-index c.envelope-item.result there c.in_err-bytes.field-0.0 c.in_err-bytes.ensures.err)

pub returns-in_err-push_back-clause-err : goal.returns-in_err-push_back-clause-err
returns-in_err-push_back-clause-err c =
    fault_up c.from_residual-in_err-push_back.result NoMemory (IsSendFault c.args.out.now) c.from_residual-in_err-push_back.ensures.1 tt

pub loop-envelope-preserved : goal.loop-envelope-preserved
loop-envelope-preserved c =
    let there = get_at c.args.out.now c.loop-envelope.envelope-index c.envelope-item.result (omega (arith, c.loop-envelope-test.true))
    ∙ ap Some (sym c.envelope-item.is) in (
      flies c.args.out.now c.loop-envelope.envelope-index c.envelope-item.result there c.args.stamp c.args.flight.now.items c.loop-envelope.flight.items
          c.push_back.new.self.items _ c.in_ok-push_back.ensures.items (ap (λ o. (o, (c.args.stamp, false))) c.in_ok-bytes.ensures.written)
          c.loop-envelope.invariant.0,
      none_more is_long c.args.out.now c.loop-envelope.envelope-index c.envelope-item.result there c.loop-envelope.invariant.1 c.in_ok-bytes.ensures.short,
    )

pub returns-clause-flight : goal.returns-clause-flight
returns-clause-flight c =
    c.loop-envelope.invariant.0
    ∙ ap (λ xs. map seen_flying c.args.flight.now.items ++ map (shown_new c.args.stamp) xs)
    (take_whole c.args.out.now c.loop-envelope.envelope-index (omega (arith, c.loop-envelope-test.false)))

pub returns-clause-short : goal.returns-clause-short
returns-clause-short c =
    ap (list_any is_long) (sym (take_whole c.args.out.now c.loop-envelope.envelope-index (omega (arith, c.loop-envelope-test.false))))
    ∙ c.loop-envelope.invariant.1
