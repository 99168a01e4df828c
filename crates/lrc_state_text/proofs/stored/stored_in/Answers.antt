use Rattle.std.proofs.Common.{◌∙◌, ◌++◌, ◌∷◌, [], List, ap, map, sym}
use Rattle.std.proofs.lemmas.List.{map-append}
use Rattle.lrc_state_text.specs.Intervals.{StoredInterval, with_changes}
use Rattle.lrc_state_text.proofs.stored.stored_in.Goals as goal

pub loop-interval-preserved : goal.loop-interval-preserved
loop-interval-preserved c =
    let with_its = with_changes c.args.memory.now.memory in
    let before = map with_its c.loop-interval.yielded in
    c.in_ok-push.ensures.items
    ∙ ap (λ (l : List StoredInterval). l ++ c.in_ok-with_changes.field-0 ∷ []) c.loop-interval.invariant
    ∙ ap (λ (s : StoredInterval). before ++ s ∷ []) c.in_ok-with_changes.ensures
    ∙ sym (map-append with_its c.loop-interval.yielded (c.in-Some.interval ∷ []))
