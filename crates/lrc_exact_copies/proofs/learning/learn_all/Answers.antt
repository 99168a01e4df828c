use Rattle.std.proofs.Common.{◌≡◌, suc, length, refl, sym, subst, ap, ◌∙◌, arith, add-one}
use Rattle.std.specs.Prelude.{Some, slice_get}
use Rattle.std.proofs.lemmas.Option.{slice_get-get_or}
use Rattle.lrc_time.specs.Time.{entry, joined}
use Rattle.lrc_exact.specs.Rule.{with_learned}
use Rattle.lrc_exact_copies.specs.Copies.{CopyOf, IsCopyOf, look_in, word_in}
use Rattle.lrc_exact_copies.specs.Learned.{with_row, with_rows}
use Rattle.lrc_exact_copies.specs.Made.{in_row, row_of, row_or}
use Rattle.lrc_exact_copies.proofs.Copying.{or-none, same-view}
use Rattle.lrc_exact_copies.proofs.Rows.{rows-joined, rows-one}
use Rattle.lrc_exact_copies.proofs.learning.learn_all.Goals as goal

pub loop-node-init : goal.loop-node-init
loop-node-init c = λ shape node a state news lt same times among old.
    same-view old (with_rows 0 c.copy-known.result news state) (λ w. refl) (λ w. refl) (λ p. refl) (λ p. or-none (state.stale p)) refl

pub loop-node-preserved : goal.loop-node-preserved
loop-node-preserved c = λ shape node a state news lt same times among old.
    let q = c.loop-node.node in
    let made = c.args.made.now in
    let time = c.args.time.now in
    let known = c.copy-known.result in
    let row = c.as_slice-row.result.now in
    let so_far = c.loop-node.invariant shape node a state news lt same times among old in
    let seen = with_rows q known news state in
    let test = c.loop-node-test.true in
    let all = c.nodes-node-end.ensures.all in
    let rows = c.requires.rows in
    let place = c.from.ensures in
    let row_is : row_of made q ≡ row =
    ap (λ k. row_or (slice_get made k)) (sym place)
    ∙ ap row_or (slice_get-get_or made c.from.result c.index-made-from.result (omega arith) ∙ ap Some (sym c.index-made-from.is))
    ∙ sym c.as_slice-row.ensures.value in
    let step : CopyOf shape node a c.args.now c.learn_row.new.copy (with_row q (in_row row) c.at.result c.at-in-loop-node.result seen) =
    c.in_ok-learn_row.ensures shape node a seen lt same so_far in
    subst (λ n. CopyOf shape node a c.args.now c.learn_row.new.copy (with_rows n known news state)) (sym (add-one q))
    (rows-one q row known news state (λ i less. among.is q i less ∙ ap (λ xs. in_row xs (suc i)) row_is)
    (subst (λ n. CopyOf shape node a c.args.now c.learn_row.new.copy (with_row q (in_row row) (entry known q) n seen))
    (c.at-in-loop-node.ensures ∙ ap (λ t. entry t q) (sym times))
    (subst (λ n. CopyOf shape node a c.args.now c.learn_row.new.copy (with_row q (in_row row) n c.at-in-loop-node.result seen)) c.at.ensures step)))

pub returns-clause-copy : goal.returns-clause-copy
returns-clause-copy c = λ shape node a state news lt same times among own old.
    let copy = c.loop-node.copy in
    let time = c.args.time.now in
    let known = c.copy-known.result in
    let so_far = c.loop-node.invariant shape node a state news lt same times among old in
    let is : known ≡ copy.time = c.copy-known.ensures ∙ sym old.time_is ∙ so_far.time_is in
    let all = c.nodes-node-end.ensures.all in
    let low = c.loop-node-test.false in
    let high = c.loop-node.auto.node-end in
    let end : c.loop-node.node ≡ length time = omega arith in
    let whole : CopyOf shape node a c.args.now copy (with_rows (length time) copy.time news state) =
    subst (λ n. CopyOf shape node a c.args.now copy (with_rows n copy.time news state)) end
    (subst (λ t. CopyOf shape node a c.args.now copy (with_rows c.loop-node.node t news state)) is so_far) in
    let here = ap (λ t. entry t node) times in
    let there : entry c.args.copy.now.time node ≡ entry copy.time node = ap (λ t. entry t node) (sym old.time_is ∙ so_far.time_is) in
    subst (λ t. IsCopyOf shape node a c.args.now (word_in copy.words) (look_in copy.looks) copy.open_words.items copy.open_pages.items copy.named.items t
    (with_learned (length time) news state))
    (ap (joined copy.time) times ∙ ap (λ t. joined t time) (sym is) ∙ sym c.join.ensures)
    (rows-joined (length time) news state (omega arith) whole so_far.time_is)
