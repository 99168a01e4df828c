use Rattle.std.proofs.Common.{◌≡◌, true, take, sym, subst}
use Rattle.std.specs.Prelude.{None, slice_index_or}
use Rattle.lrc_memory.specs.View.{NodeMemory}
use Rattle.lrc_protocol.specs.Pages.{is_readable, changes_of, copy_at}
use Rattle.lrc_node.proofs.Keeping.{can_keep_next}
use Rattle.lrc_node.proofs.collections.clean.keep_all.Goals as goal

pub keep_base-requires-clause-readable : goal.keep_base-requires-clause-readable
keep_base-requires-clause-readable c =
    let k = c.loop-page.page-index in
    let page = slice_index_or c.args.pages.now k 0 in
    subst (λ (m : NodeMemory). is_readable (copy_at m.memory page) ≡ true) (sym c.loop-page.invariant.so_far)
    (can_keep_next c.args.memory.now.memory (take k c.args.pages.now) page (c.requires k 0 c.loop-page-test.true)).readable

pub keep_base-requires-clause-closed : goal.keep_base-requires-clause-closed
keep_base-requires-clause-closed c =
    let k = c.loop-page.page-index in
    let page = slice_index_or c.args.pages.now k 0 in
    subst (λ (m : NodeMemory). changes_of (copy_at m.memory page) ≡ None) (sym c.loop-page.invariant.so_far)
    (can_keep_next c.args.memory.now.memory (take k c.args.pages.now) page (c.requires k 0 c.loop-page-test.true)).closed
