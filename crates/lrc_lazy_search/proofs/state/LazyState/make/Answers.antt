use Rattle.std.proofs.Common.{◌≡◌, ◌<◌, ◌∙◌, ap, sym, subst, arith, length}
use Rattle.std.specs.Prelude.{slice_index}
use Rattle.std.proofs.lemmas.List.{get_or_read}
use Rattle.lrc_trace.specs.Run.{act_of}
use Rattle.lrc_exec.specs.declared.state.State.{State}
use Rattle.lrc_orders.specs.Notes.{notes_with}
use Rattle.lrc_orders.proofs.Faults.{ok_says}
use Rattle.lrc_lazy_known.specs.declared.known.Knowledge.{Knowledge}
use Rattle.lrc_lazy_known.specs.Effect.{IsKnowledgeAfter}
use Rattle.lrc_lazy_known.specs.Tidy.{IsTidy}
use Rattle.lrc_lazy_search.specs.Fit.{effect_of_flat}
use Rattle.lrc_lazy_search.specs.Searching.{IsBlank, Makes}
use Rattle.lrc_lazy_search.proofs.state.LazyState.make.Goals as goal

pub returns-clause-steps : goal.returns-clause-steps
returns-clause-steps c =
    let flat = c.args.flat.now in
    let key = c.args.self.now in
    let node = c.args.node in
    let deed = c.args.deed in
    let within : node < length key.state.arrivals.items = omega (arith, c.requires.node, c.requires.fit.valid.arrivals) in
    let arrived : c.index.result.now ≡ slice_index key.state.arrivals.items node =
    get_or_read key.state.arrivals.items node c.index.result.now within c.index.ensures 0 in
    let e = c.in_ok-learn.ensures in
    let moved = c.move_on.ensures in
    let kept = c.learn.new.self.knowledge in
    ok_says c.note.result
    (λ noted. record {
      makes = subst (λ (s : State). Makes flat key.state node deed s) (sym e.state) moved.made;
      gives = c.requires.can.gives;
      effect = subst (λ n. IsKnowledgeAfter (effect_of_flat flat n node deed) key.knowledge kept) arrived
          (subst (λ x. IsKnowledgeAfter x key.knowledge kept) c.effect_of-effect.ensures.effect
          (subst (λ (k : Knowledge). IsKnowledgeAfter c.effect_of-effect.result k kept) moved.knowledge e.known));
      notes = noted ∙ ap (λ ns. notes_with ns.items (act_of node deed)) (e.notes ∙ moved.notes);
    })
    c.note.ensures

pub returns-clause-neat : goal.returns-clause-neat
returns-clause-neat c =
    let flat = c.args.flat.now in
    let moved = c.move_on.ensures in
    ok_says c.note.result
    (λ noted neat. record {
      blank = subst (λ (s : State). IsBlank flat s) (sym c.in_ok-learn.ensures.state) (moved.blank neat.blank);
      tidy = c.in_ok-learn.ensures.tidy (subst IsTidy (sym moved.knowledge) neat.tidy);
    })
    c.note.ensures
