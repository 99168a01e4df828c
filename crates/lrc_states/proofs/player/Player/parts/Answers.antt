use Rattle.std.proofs.Common.{◌≡◌, ◌∙◌, ◌∷◌, [], ◌++◌, List, ℕ, Vec, Global, ap, map, rules}
use Rattle.std.specs.Prelude.{Err}
use Rattle.lrc_labels.specs.Reading.{label_seen}
use Rattle.lrc_states.specs.declared.fault.StatesFault.TheVariants.{TooLong}
use Rattle.lrc_states.specs.States.{first_line, turn_lines, turns_shown}
use Rattle.lrc_states.proofs.Whole.{behind_first}
use Rattle.lrc_states.proofs.player.Player.parts.Goals as goal

pub returns-clause-told : goal.returns-clause-told
returns-clause-told c plan world end turns is goes =
    let tells = c.in_ok-tell_all.ensures.told plan world end turns is goes in (
      behind_first c.in_ok-first.first (first_line plan c.args.telling c.args.size (map label_seen c.args.labels.now) world)
          (turn_lines plan c.args.telling (turns_shown c.args.to turns world c.args.events.now)) c.push.new.self.items c.tell_all.new.parts.items
          (c.in_ok-first.ensures plan world turns is)
          (c.in_ok-push.ensures.items ∙ ap (λ (l : List (Vec ℕ Global)). l ++ c.in_ok-first.first ∷ []) c.new-parts.ensures.items)
          tells.0,
      tells.1,
    )

pub returns-in_err-tell_all-clause-fault : goal.returns-in_err-tell_all-clause-fault
returns-in_err-tell_all-clause-fault c plan world end turns is goes fails =
    let same : c.tell_all.result ≡ Err TooLong = search rules in
    c.tell_all.ensures.fault plan world end turns is goes same
