-- Each act has its time.
use Rattle.std.proofs.Common.{◌≡◌, ◌+◌, List, length, map, sym, ap, ◌∙◌, length-append}
use Rattle.std.specs.Option.{option_to_list}
use Rattle.std.proofs.lemmas.List.{length-map}
use Rattle.lrc_trace.specs.declared.act.Act.{Act}
use Rattle.lrc_protocol.specs.Run.{World}
use Rattle.lrc_protocol.proofs.Induction.{KeptByTurns}

-- as many times as acts
abbrev pub IsTimed : World → Type 0
IsTimed world = length world.times ≡ length world.acts

pub timed-kept : KeptByTurns IsTimed
timed-kept world flight n l after input entry at comes i timed =
    let acts : List Act = option_to_list entry.turn.act in
    length-append world.times (map (λ (act : Act). after.node.locks.time) acts)
    ∙ ap (λ k. k + length (map (λ (act : Act). after.node.locks.time) acts)) timed
    ∙ ap (λ k. length world.acts + k) (length-map acts (λ (act : Act). after.node.locks.time))
    ∙ sym (length-append world.acts acts)
