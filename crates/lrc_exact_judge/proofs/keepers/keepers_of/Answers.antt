use Rattle.std.proofs.Common.{◌≡◌, suc, length, sym, subst, ap, ◌∙◌, arith, add-one}
use Rattle.std.specs.Prelude.{Some, slice_get}
use Rattle.std.specs.Ordering.{nat_cmp}
use Rattle.std.specs.BTreeMap.{get}
use Rattle.std.proofs.lemmas.Option.{slice_get-get_or}
use Rattle.lrc_time.specs.Time.{entry}
use Rattle.lrc_exact.specs.Rule.{is_writer, keeper_of, names_between}
use Rattle.lrc_exact_copies.specs.Made.{in_row, row_of, row_or}
use Rattle.lrc_exact_judge.specs.Keepers.{IsKeeper, kept_or, known_of}
use Rattle.lrc_exact_judge.proofs.Keeping.{keeper-more}
use Rattle.lrc_exact_judge.proofs.keepers.keepers_of.Goals as goal

pub loop-node-preserved : goal.loop-node-preserved
loop-node-preserved c = λ page.
    let q = c.loop-node.node in
    let made = c.args.made.now in
    let dropped = c.args.dropped.now in
    let all = c.args.all.now in
    let row = c.as_slice-row.result.now in
    let test = c.loop-node-test.true in
    let long = c.nodes-node-end.ensures.all in
    let rows = c.requires.rows in
    let row_is : row_of made q ≡ row =
    ap (λ k. row_or (slice_get made k)) (sym c.from.ensures)
    ∙ ap row_or (slice_get-get_or made c.from.result c.index-made-from.result (omega arith) ∙ ap Some (sym c.index-made-from.is))
    ∙ sym c.as_slice-row.ensures.value in
    let writes : names_between (in_row row) page c.at.result c.at-in-loop-node.result ≡ is_writer dropped (known_of made all) page q =
    ap (λ n. names_between (in_row row) page n c.at-in-loop-node.result) c.at.ensures
    ∙ ap (λ n. names_between (in_row row) page (entry dropped q) n) c.at-in-loop-node.ensures
    ∙ ap (λ xs. names_between (in_row xs) page (entry dropped q) (entry all q)) (sym row_is) in
    subst (λ n. IsKeeper n (keeper_of n dropped (known_of made all) page) (get nat_cmp c.add_row.new.keepers page)) (sym (add-one q))
    (subst (λ o. IsKeeper (suc q) (keeper_of (suc q) dropped (known_of made all) page) o)
    (sym (c.in_ok-add_row.ensures page ∙ ap (λ b. kept_or q b (get nat_cmp c.loop-node.keepers page)) writes))
    (keeper-more dropped (known_of made all) page q (get nat_cmp c.loop-node.keepers page) (c.loop-node.invariant page)))

pub returns : goal.returns
returns c = λ page.
    let long = c.nodes-node-end.ensures.all in
    let low = c.loop-node-test.false in
    let high = c.loop-node.auto.node-end in
    let end : c.loop-node.node ≡ length c.args.all.now = omega arith in
    subst (λ n. IsKeeper n (keeper_of n c.args.dropped.now (known_of c.args.made.now c.args.all.now) page) (get nat_cmp c.loop-node.keepers page)) end
    (c.loop-node.invariant page)
