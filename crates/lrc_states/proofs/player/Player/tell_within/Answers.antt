use Rattle.std.proofs.Common.{◌≡◌, ◌∙◌, ◌∷◌, [], ℕ, Option, Vec, Global, ap, arith, false, length, rules, subst, sym, true}
use Rattle.lrc_protocol.specs.Run.{World}
use Rattle.lrc_replay.proofs.Coursing.{on_ok}
use Rattle.lrc_replay.specs.Turns.{turn_by}
use Rattle.lrc_states.specs.Players.{TellsTurn}
use Rattle.lrc_states.specs.States.{is_within, shown_now}
use Rattle.std.proofs.lemmas.List.{length-append}
use Rattle.lrc_states.proofs.Playing.{on_both}
use Rattle.lrc_states.proofs.Shown.{hidden, lines_more, lines_same, shown_one}
use Rattle.lrc_states.proofs.player.Player.tell_within.Goals as goal

pub returns-in-Some-clause-player : goal.returns-in-Some-clause-player
returns-in-Some-clause-player c plan world next turns is goes =
    on_ok c.keep.result c.keep.ensures.few (λ few. c.in_ok-line.ensures.player plan world next turns is goes)

pub returns-in-Some-clause-told : goal.returns-in-Some-clause-told
returns-in-Some-clause-told c plan world next turns is goes =
    let told = subst (λ (o : Option (Vec ℕ Global)). TellsTurn plan c.args.telling world turns (turn_by world c.args.event) o) c.in-Some.is
    (c.in_ok-line.ensures.told plan world next turns is goes) in
    let within : is_within c.args.to c.args.self.now.course.acts ≡ true = search rules in
    let shown = ap (shown_now c.args.to turns) told.1
    ∙ shown_one c.args.to turns told.0 true
    (ap (λ (w : World). is_within c.args.to (length w.acts)) told.2 ∙ ap (is_within c.args.to) (sym is.course.counted) ∙ within) in
    on_ok c.keep.result c.keep.ensures.kept
    (λ kept. lines_more plan c.args.telling (shown_now c.args.to turns (turn_by world c.args.event)) turns told.0 c.args.parts.now.items c.keep.new.parts.items
    c.in-Some.line shown told.3 kept)

pub returns-in-Some-clause-fault : goal.returns-in-Some-clause-fault
returns-in-Some-clause-fault c plan world next turns is goes fails =
    let told = subst (λ (o : Option (Vec ℕ Global)). TellsTurn plan c.args.telling world turns (turn_by world c.args.event) o) c.in-Some.is
    (c.in_ok-line.ensures.told plan world next turns is goes) in
    let within : is_within c.args.to c.args.self.now.course.acts ≡ true = search rules in
    let shown = ap (shown_now c.args.to turns) told.1
    ∙ shown_one c.args.to turns told.0 true
    (ap (λ (w : World). is_within c.args.to (length w.acts)) told.2 ∙ ap (is_within c.args.to) (sym is.course.counted) ∙ within) in
    (c.keep.ensures.fault fails, ap length shown)

pub returns-in-None-clause-told : goal.returns-in-None-clause-told
returns-in-None-clause-told c plan world next turns is goes =
    let none = subst (λ (o : Option (Vec ℕ Global)). TellsTurn plan c.args.telling world turns (turn_by world c.args.event) o) c.in-None.is
    (c.in_ok-line.ensures.told plan world next turns is goes) in
    lines_same plan c.args.telling (shown_now c.args.to turns (turn_by world c.args.event)) c.args.parts.now.items (ap (shown_now c.args.to turns) none)

pub returns-in-Some-clause-few : goal.returns-in-Some-clause-few
returns-in-Some-clause-few c =
    on_both c.keep.result c.keep.ensures.kept c.keep.ensures.few
    (λ kept few. omega (arith, ap length kept, length-append c.args.parts.now.items (c.in-Some.line ∷ []), few))

pub returns-then-not-is_within-clause-told : goal.returns-then-not-is_within-clause-told
returns-then-not-is_within-clause-told c plan world next turns is goes =
    let late : is_within c.args.to c.args.self.now.course.acts ≡ false = search rules in
    lines_same plan c.args.telling (shown_now c.args.to turns (turn_by world c.args.event)) c.args.parts.now.items
    (hidden c.args.to turns world c.args.event (ap (is_within c.args.to) (sym is.course.counted) ∙ late))
