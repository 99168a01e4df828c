-- Of one thread, or of two.
use Rattle.std.proofs.Common.{◌<◌, length, arith}
use Rattle.std.proofs.lemmas.Option.{slice_get-get_or}
use Rattle.lrc_races_text.specs.Tables.{naming_of}
use Rattle.lrc_races_why.proofs.Answering.{one_thread_added, two_threads}
use Rattle.lrc_races_why.proofs.answer.push_why.Goals as goal

pub returns-then-one-other : goal.returns-then-one-other
returns-then-one-other c = λ a b at there.
    let events = c.args.events.now in
    let lt : c.args.earlier < length events = omega (arith, c.requires.order, c.requires.within) in
    one_thread_added c.args.form (naming_of c.args.names.now) events c.args.lines.now c.args.earlier c.args.later a b at there _ _
    (record { is = slice_get-get_or events c.args.earlier _ lt }) (record { is = slice_get-get_or events c.args.later _ c.requires.within })
    c.if-one-other.true c.args.text.now.items _ c.in_ok-push_one_thread.ensures

pub returns : goal.returns
returns c = λ a b at there.
    let events = c.args.events.now in
    let lt : c.args.earlier < length events = omega (arith, c.requires.order, c.requires.within) in
    c.in_ok-push_apart.ensures a b at there
    (two_threads c.args.form (naming_of c.args.names.now) events c.args.lines.now c.args.earlier c.args.later a b at there _ _
    (record { is = slice_get-get_or events c.args.earlier _ lt }) (record { is = slice_get-get_or events c.args.later _ c.requires.within })
    c.if-one-other.false)
