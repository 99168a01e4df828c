-- Two accesses that conflict race, and others do not.
use Rattle.std.proofs.Common.{◌<◌, length, arith}
use Rattle.std.proofs.lemmas.Option.{slice_get-get_or}
use Rattle.lrc_races_text.specs.Tables.{naming_of}
use Rattle.lrc_races_why.proofs.Answering.{neither_added, race_added, held_same}
use Rattle.lrc_races_why.proofs.answer.push_unordered.Goals as goal

pub returns-then-not-conflict : goal.returns-then-not-conflict
returns-then-not-conflict c = λ a b lines at there apart unordered.
    let events = c.args.events.now in
    let lt : c.args.earlier < length events = omega (arith, c.requires.order, c.requires.within) in
    neither_added c.args.form (naming_of c.args.names.now) events lines c.args.earlier c.args.later a b at there _ _ c.conflict.result c.conflict.ensures
    (record { is = slice_get-get_or events c.args.earlier _ lt }) (record { is = slice_get-get_or events c.args.later _ c.requires.within })
    c.if-not-conflict.true apart unordered c.args.text.now.items _ c.in_ok-push_neither.ensures

pub returns : goal.returns
returns c = λ a b lines at there apart unordered.
    let events = c.args.events.now in
    let lt : c.args.earlier < length events = omega (arith, c.requires.order, c.requires.within) in
    race_added c.args.form (naming_of c.args.names.now) events lines c.args.earlier c.args.later a b at there _ _ c.conflict.result c.conflict.ensures
    (record { is = slice_get-get_or events c.args.earlier _ lt }) (record { is = slice_get-get_or events c.args.later _ c.requires.within })
    c.requires.order c.if-not-conflict.false unordered c.in_ok-held.held.items c.in_ok-others.others.items
    c.in_ok-held.ensures c.in_ok-others.ensures c.args.text.now.items _ _ c.in_ok-push_race.ensures
    (held_same (naming_of c.args.names.now) _ _ _ _ _ _ _ _ c.in_ok-push_held.ensures c.as_slice.ensures.value c.as_slice-2.ensures.value)
