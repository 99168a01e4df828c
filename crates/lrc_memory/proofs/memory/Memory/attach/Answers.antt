use Rattle.std.proofs.Common.{◌≡◌, ◌∙◌, ◌<◌, List, Some, take, get_or, ap, length, sym, subst, refl, arith}
use Rattle.std.specs.Prelude.{All, fold}
use Rattle.std.proofs.lemmas.List.{take_all}
use Rattle.std.proofs.lemmas.List.Sums.{fold_more}
use Rattle.lrc_page.specs.declared.changes.Change.{Change}
use Rattle.lrc_page.specs.Page.{words_of}
use Rattle.lrc_store.specs.Store.{StoreRecord, notice_at, unread, attached}
use Rattle.lrc_envelope.specs.Records.{IndexedChangesRecord, AreParts}
use Rattle.lrc_protocol.specs.Pages.{with_part}
use Rattle.lrc_memory.specs.View.{NodeMemory, with_known}
use Rattle.lrc_memory.proofs.Attaches.{part_key, still-awaited}
use Rattle.lrc_memory.proofs.Learns.{same-same, same-trans}
use Rattle.lrc_memory.proofs.memory.Memory.attach.Goals as goal

pub keep-requires : goal.keep-requires
keep-requires c =
    let n = c.args.self.now in
    let k = c.loop-part.part-index in
    let item = c.part-item.result in
    let items = c.as_slice-part-items.result.now in
    let maker = c.args.maker in
    let page = c.args.page in
    let all : items ≡ c.args.parts.now = c.as_slice-part-items.ensures.all in
    let at : item ≡ get_or c.args.parts.now k item = c.part-item.is ∙ ap (λ (l : List IndexedChangesRecord). get_or l k item) all in
    let index : c.part.inside.index ≡ item.index = ap (λ (p : IndexedChangesRecord). p.index) c.part.view_is in
    let changes : c.in_ok-duplicate.field-0 ≡ item.changes = c.in_ok-duplicate.ensures ∙ ap (λ (p : IndexedChangesRecord). p.changes) c.part.view_is in
    let given = subst (λ (p : IndexedChangesRecord). (notice_at n.memory.store (part_key maker page p.index) ≡ Some (unread page))
    × All (λ c. c.offset < words_of n.size) p.changes) (sym at)
    (c.requires.awaited k item (omega (arith, ap length all, c.loop-part-test.true))) in record {
      awaited = ap (λ (m : NodeMemory). notice_at m.memory.store (part_key maker page c.part.inside.index)) c.loop-part.invariant.so_far
          ∙ ap (λ i. notice_at (fold (with_part maker page) n.memory.store (take k items)) (part_key maker page i)) index
          ∙ still-awaited maker page items n.memory.store k item (subst AreParts (sym all) c.as_slice-part-items.ensures.are)
          c.loop-part-test.true c.part-item.is given.0;
      sized = rw (changes, c.loop-part.invariant.same.size) given.1;
    }

pub loop-part-init : goal.loop-part-init
loop-part-init c = record { so_far = refl; same = same-same c.args.self.now }

pub loop-part-preserved : goal.loop-part-preserved
loop-part-preserved c =
    let n = c.args.self.now in
    let k = c.loop-part.part-index in
    let item = c.part-item.result in
    let items = c.as_slice-part-items.result.now in
    let maker = c.args.maker in
    let page = c.args.page in
    let index : c.part.inside.index ≡ item.index = ap (λ (p : IndexedChangesRecord). p.index) c.part.view_is in
    let changes : c.in_ok-duplicate.field-0 ≡ item.changes = c.in_ok-duplicate.ensures ∙ ap (λ (p : IndexedChangesRecord). p.changes) c.part.view_is in
    let before = fold (with_part maker page) n.memory.store (take k items) in record {
      so_far = c.keep.ensures.kept
          ∙ ap (λ (m : NodeMemory). with_known m
          (record m.memory { store = attached m.memory.store (part_key maker page c.part.inside.index) c.in_ok-duplicate.field-0 }))
          c.loop-part.invariant.so_far
          ∙ ap (λ i. with_known n (record n.memory { store = attached before (part_key maker page i) c.in_ok-duplicate.field-0 })) index
          ∙ ap (λ (cs : List Change). with_known n (record n.memory { store = attached before (part_key maker page item.index) cs })) changes
          ∙ ap (λ (s : StoreRecord). with_known n (record n.memory { store = s }))
          (ap (with_part maker page before) c.part-item.is ∙ sym (fold_more (with_part maker page) n.memory.store items k item c.loop-part-test.true));
      same = same-trans n c.loop-part.self c.keep.new.self c.loop-part.invariant.same c.keep.ensures.same;
    }

pub returns-clause-ok : goal.returns-clause-ok
returns-clause-ok c =
    let n = c.args.self.now in
    c.loop-part.invariant.so_far
    ∙ ap (λ (ps : List IndexedChangesRecord). with_known n (record n.memory { store = fold (with_part c.args.maker c.args.page) n.memory.store ps }))
    (take_all c.loop-part.part-index c.as_slice-part-items.result.now c.loop-part-test.false ∙ c.as_slice-part-items.ensures.all)
