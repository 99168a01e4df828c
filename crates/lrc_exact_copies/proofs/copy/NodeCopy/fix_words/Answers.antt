use Rattle.std.proofs.Common.{◌≡◌, ◌*◌, ◌+◌, ap, ◌∙◌, subst, arith}
use Rattle.std.specs.Prelude.{slice_index}
use Rattle.lrc_exact_copies.specs.Copies.{CopyOf, with_fixed_word, with_fixed_words}
use Rattle.lrc_exact_copies.proofs.Fixing.{fixed-none, fixed-more}
use Rattle.lrc_exact_copies.proofs.copy.NodeCopy.fix_words.Goals as goal

pub loop-offset-init : goal.loop-offset-init
loop-offset-init c = λ shape node a k state same old. fixed-none (c.args.page * c.args.size) c.args.values.now state old

pub loop-offset-preserved : goal.loop-offset-preserved
loop-offset-preserved c = λ shape node a k state same old.
    let page = c.args.page in
    let first = page * c.args.size in
    let i = c.loop-offset.offset in
    let values = c.args.values.now in
    let so_far = c.loop-offset.invariant shape node a k state same old in
    let at : c.from.result * c.from-2.result + c.from-in-loop-offset.result ≡ first + i =
    ap (λ n. n * c.from-2.result + c.from-in-loop-offset.result) c.from.ensures
    ∙ ap (λ n. page * n + c.from-in-loop-offset.result) c.from-2.ensures
    ∙ ap (λ n. first + n) c.from-in-loop-offset.ensures in
    fixed-more first i values state
    (subst (λ w. CopyOf shape node a k c.fix_word.new.self (with_fixed_word w (slice_index values i) (with_fixed_words first i values state))) at
    (c.in_ok-fix_word.ensures shape node a k (with_fixed_words first i values state) so_far))

pub returns : goal.returns
returns c = λ shape node a k state same old.
    let end : c.loop-offset.offset ≡ c.args.size = omega arith in
    subst (λ n. CopyOf shape node a k c.loop-offset.self (with_fixed_words (c.args.page * c.args.size) n c.args.values.now state)) end
    (c.loop-offset.invariant shape node a k state same old)
