-- One event more is missed, or not.
use Rattle.std.proofs.Common.{◌≡◌, ◌+◌, ℕ, ◌<◌, List, false, true, length, sym, subst, arith, rules}
use Rattle.std.proofs.lemmas.Option.{slice_get-get_or}
use Rattle.lrc_races_missed.proofs.EventLemmas.{GivenLines, line_missed, line_passed, lines_are, lines_none}
use Rattle.lrc_races_missed.proofs.events.missed_events.Goals as goal

pub loop-position-init : goal.loop-position-init
loop-position-init c = λ by_line. lines_none c.args.events.now c.args.marks.now c.args.keys.now.keys _ c.new-lines.ensures.items

pub loop-position-preserved-then-not-is_missed : goal.loop-position-preserved-then-not-is_missed
loop-position-preserved-then-not-is_missed c = λ by_line.
    let events = c.args.events.now in
    let marks = c.args.marks.now in
    let n = c.loop-position.position in
    let within : n < length marks = omega arith in
    line_passed events marks c.args.keys.now.keys by_line n _ _ c.is_missed.result (slice_get-get_or events n _ c.loop-position-test.true)
    (slice_get-get_or marks n _ within) c.is_missed.ensures (λ is. let none : c.is_missed.result ≡ false = search rules in let never : ⊥ = cc in never)
    c.loop-position.lines.items (c.loop-position.invariant by_line)

pub loop-position-preserved : goal.loop-position-preserved
loop-position-preserved c = λ by_line.
    let events = c.args.events.now in
    let marks = c.args.marks.now in
    let n = c.loop-position.position in
    let within : n < length marks = omega arith in
    let is : c.is_missed.result ≡ true = search rules in
    subst (λ (lines : List ℕ). GivenLines events marks c.args.keys.now.keys (n + 1) lines) (sym c.in_ok-push.ensures.items)
    (line_missed events marks c.args.keys.now.keys by_line n _ _ c.is_missed.result (slice_get-get_or events n _ c.loop-position-test.true)
    (slice_get-get_or marks n _ within) c.is_missed.ensures is c.loop-position.lines.items (c.loop-position.invariant by_line))

pub returns : goal.returns
returns c =
    let done : c.loop-position.position ≡ length c.args.events.now = omega arith in
    λ sought claims variables places by_line marked are.
    lines_are sought c.args.events.now c.args.marks.now c.args.keys.now.keys claims variables places c.loop-position.position c.loop-position.lines.items done
    marked are (c.loop-position.invariant by_line)
