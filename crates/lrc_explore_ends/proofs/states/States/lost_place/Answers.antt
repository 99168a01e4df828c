use Rattle.std.proofs.Common.{◌≡◌, ◌∙◌, Bool, true, false, List, ℕ, ap, get_or, length, subst, sym}
use Rattle.std.specs.Prelude.{◌↔◌}
use Rattle.lrc_graph.specs.Graph.{LeadsToSome}
use Rattle.lrc_explore_ends.proofs.Answering.{SaysFirst, edges_within, first_lost}
use Rattle.lrc_explore_ends.proofs.states.States.lost_place.Goals as goal

pub still_places-requires : goal.still_places-requires
still_places-requires c = c.requires.stepped.found

pub leading_to-requires-clause-within : goal.leading_to-requires-clause-within
leading_to-requires-clause-within c = edges_within c.args.task.now c.args.self.now c.requires

pub leading_to-requires-clause-ends : goal.leading_to-requires-clause-ends
leading_to-requires-clause-ends c = ap (λ l. length l) c.deref.ensures.value ∙ c.in_ok-still.ensures.count ∙ sym c.requires.even

pub returns : goal.returns
returns c = first_lost c.args.task.now c.args.self.now c.requires c.in_ok-still.still.items c.in_ok-ending.ending.items c.in_ok-still.ensures.exact
    c.in_ok-still.ensures.count c.in_ok-ending.ensures.count
    (subst (λ (l : List Bool). (from : ℕ) → ((get_or c.in_ok-ending.ending.items from false ≡ true) ↔ LeadsToSome c.args.self.now.steps l from)) c.deref.ensures.value
    c.in_ok-ending.ensures.exact)
    c.first_false.result
    (subst (λ (l : List Bool). SaysFirst l c.first_false.result) c.deref-2.ensures.value c.first_false.ensures)
