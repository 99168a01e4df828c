use Rattle.std.proofs.Common.{◌<◌, ◌∙◌, List, [], Option, ap, get_or, sym, subst, Bor}
use Rattle.std.specs.Prelude.{All, unwrap_or}
use Rattle.lrc_page.specs.declared.changes.Change.{Change}
use Rattle.lrc_page.specs.declared.size.Size.{Size}
use Rattle.lrc_page.specs.Page.{words_of}
use Rattle.std.specs.Option.{option_copied}
use Rattle.lrc_store.specs.declared.key.Key.{Key}
use Rattle.lrc_table.specs.PageCopy.{patched}
use Rattle.lrc_table.specs.Table.{Table, copy_at, with_copy}
use Rattle.lrc_memory.proofs.Loops.{patch_more, patch_none, sized-known}
use Rattle.lrc_memory.proofs.fetching.patch_all.Goals as goal
use Rattle.lrc_memory.proofs.fetching.patch_all.Goals.{in-Some, in_default}

abbrev first : Key
first = record { node = 0; index = 0; page = 0 }

pub patch-requires-clause-sized : goal.patch-requires-clause-sized
patch-requires-clause-sized c =
    subst (λ (size : Size). All (λ c. c.offset < words_of size) c.in-Some.changes.now) (sym (ap (λ (t : Table). t.size) c.loop-key.invariant))
    (sized-known c.args.table.now.size c.args.store.now _ c.in-Some.changes.now c.requires.sized (sym c.in-Some.ensures))

pub loop-key-preserved : goal.loop-key-preserved
loop-key-preserved c =
    let store = c.args.store.now in
    let old = c.args.table.now in
    let keys = c.args.keys.now in
    let mid = c.loop-key.table in
    let page = c.args.page in
    elim c.match-changes.branch [
      | in-Some w ↦
          patch_more store old mid c.match-changes.table page keys c.loop-key.key-index _ c.requires.in_range c.loop-key-test.true c.loop-key.invariant
          (w.table-is ∙ w.patch.ensures
          ∙ ap (λ (found : Option (List Change)). with_copy mid page (patched (copy_at mid page) (unwrap_or found []))) w.in-Some.ensures)
      | in_default w ↦
          patch_more store old mid c.match-changes.table page keys c.loop-key.key-index first c.requires.in_range c.loop-key-test.true c.loop-key.invariant
          (w.table-is ∙ patch_none store mid page (get_or keys c.loop-key.key-index first)
          (sym c.changes.ensures ∙ ap (λ (found : Option (Bor (List Change))). option_copied found) w.in_default.is))
    ]
