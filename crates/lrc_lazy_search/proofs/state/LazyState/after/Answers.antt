use Rattle.std.proofs.Common.{◌≡◌, ◌<◌, ◌∙◌, ap, subst, arith, length}
use Rattle.std.specs.Prelude.{slice_index}
use Rattle.std.proofs.lemmas.List.{get_or_read}
use Rattle.lrc_trace.specs.Run.{act_of}
use Rattle.lrc_orders.specs.Notes.{notes_with}
use Rattle.lrc_lazy_known.specs.Effect.{IsKnowledgeAfter}
use Rattle.lrc_lazy_search.specs.Fit.{effect_of_flat}
use Rattle.lrc_lazy_search.proofs.state.LazyState.after.Goals as goal

pub returns-clause-steps : goal.returns-clause-steps
returns-clause-steps c =
    let flat = c.args.flat.now in
    let key = c.args.self.now in
    let node = c.args.node in
    let deed = c.args.deed in
    let within : node < length key.state.arrivals.items = omega (arith, c.requires.node, c.requires.fit.valid.arrivals) in
    let arrived : c.index-arrived.result.now ≡ slice_index key.state.arrivals.items node =
    get_or_read key.state.arrivals.items node c.index-arrived.result.now within c.index-arrived.ensures 0 in
    record {
      makes = c.in_ok-state.ensures.made;
      gives = c.requires.can.gives;
      effect = subst (λ n. IsKnowledgeAfter (effect_of_flat flat n node deed) key.knowledge c.in_ok-knowledge.knowledge) arrived
          (subst (λ e. IsKnowledgeAfter e key.knowledge c.in_ok-knowledge.knowledge) c.effect_of-effect.ensures.effect c.in_ok-knowledge.ensures.after);
      notes = c.in_ok-note.ensures ∙ ap (λ n. notes_with n (act_of node deed)) (c.in_ok-notes.ensures ∙ c.deref.ensures.value);
    }

pub returns-clause-neat : goal.returns-clause-neat
returns-clause-neat c = λ neat. record { blank = c.in_ok-state.ensures.blank; tidy = c.in_ok-knowledge.ensures.tidy neat.tidy }
