use Rattle.std.proofs.Common.{◌*◌, ◌-◌, ◌≤◌, sym, subst, slice_index}
use Rattle.lrc_exact_copies.specs.Copies.{CopyOf, with_fixed_words, with_fresh_page, with_fixed_page}
use Rattle.lrc_exact_copies.proofs.Fixing.{fixed-page}
use Rattle.lrc_exact_copies.proofs.copy.NodeCopy.fix_page.Goals as goal

pub returns : goal.returns
returns c = λ shape node a l state same old.
    let page = c.args.page in
    let values = c.args.values.now in
    let fixed = c.in_ok-fix_words.ensures shape node a l state same old in
    let fresh = c.in_ok-freshen.ensures shape node a l (with_fixed_words (page * c.args.size) c.args.size values state) fixed in
    let some : 1 ≤ shape.size = subst (λ n. 1 ≤ n) (sym same) c.requires.some in
    subst (λ n. CopyOf shape node a l c.freshen.new.self (with_fixed_page shape page (λ w. slice_index values (w - page * n)) state)) same
    (fixed-page page values state some
    (subst (λ n. CopyOf shape node a l c.freshen.new.self (with_fresh_page page (with_fixed_words (page * n) n values state))) (sym same) fresh))
