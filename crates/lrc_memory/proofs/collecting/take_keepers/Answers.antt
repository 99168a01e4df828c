use Rattle.std.proofs.Common.{◌≡◌, ◌∙◌, ◌+◌, List, Vec, Global, length, set, get_or, refl, ap, sym, subst, length-set, arith}
use Rattle.std.proofs.lemmas.List.{map-set}
use Rattle.lrc_memory.specs.declared.memory.PageNote.{PageNote}
use Rattle.lrc_memory.specs.Notes.{keepers_of, named_of, since_of}
use Rattle.lrc_memory.proofs.Noting.{long-keepers, named-stays, since-stays}
use Rattle.lrc_memory.proofs.Renewed.{IsRenewed, renew_ends, renew_keeps, renew_sets, renew_starts}
use Rattle.lrc_memory.proofs.collecting.take_keepers.Goals as goal
use Rattle.lrc_memory.proofs.collecting.take_keepers.Goals.{in-Some, in_default}

pub loop-page-init : goal.loop-page-init
loop-page-init c = record {
  keepers = renew_starts c.args.store.now (keepers_of c.args.notes.now.items);
  since = refl;
  named = refl;
  long = refl;
}

pub loop-page-preserved : goal.loop-page-preserved
loop-page-preserved c =
    let store = c.args.store.now in
    let old = keepers_of c.args.notes.now.items in
    let notes = c.loop-page.notes.items in
    let page = c.loop-page.page in
    let so_far = c.loop-page.invariant in
    elim c.match-lowest_namer.branch [
      | in-Some w ↦
          let note = w.index_mut.result.now in
          let new : PageNote = record note { keeper = w.in-Some.node } in
          let here : w.from.result ≡ page = w.from.ensures in
          let read : note ≡ get_or notes page note = w.index_mut.ensures.value ∙ ap (λ p. get_or notes p note) here in
          let is : c.match-lowest_namer.notes.items ≡ set notes page new =
          ap (λ (v : Vec PageNote Global). v.items) w.notes-is ∙ ap (λ p. set notes p new) here in record {
            keepers = subst (λ (ns : List PageNote). IsRenewed store old (keepers_of ns) (page + 1)) (sym is)
                (subst (λ ks. IsRenewed store old ks (page + 1)) (sym (map-set (λ (n : PageNote). n.keeper) notes page new))
                (renew_sets store old (keepers_of notes) page w.in-Some.node (sym c.lowest_namer.ensures ∙ w.in-Some.is)
                (omega (arith, long-keepers c.args.notes.now.items, c.loop-page-test.true, c.loop-page.auto.page-end, c.len-page-end.ensures)) so_far.keepers));
            since = ap since_of is ∙ since-stays notes page note read new refl ∙ so_far.since;
            named = ap named_of is ∙ named-stays notes page note read new refl ∙ so_far.named;
            long = ap length is ∙ length-set notes page new ∙ so_far.long;
          }
      | in_default w ↦
          let is : c.match-lowest_namer.notes.items ≡ notes = ap (λ (v : Vec PageNote Global). v.items) w.notes-is in record {
            keepers = subst (λ (ns : List PageNote). IsRenewed store old (keepers_of ns) (page + 1)) (sym is)
                (renew_keeps store old (keepers_of notes) page (sym c.lowest_namer.ensures ∙ w.in_default.is) so_far.keepers);
            since = ap since_of is ∙ so_far.since;
            named = ap named_of is ∙ so_far.named;
            long = ap length is ∙ so_far.long;
          }
    ]

pub returns-clause-keepers : goal.returns-clause-keepers
returns-clause-keepers c =
    renew_ends c.args.store.now (keepers_of c.args.notes.now.items) (keepers_of c.loop-page.notes.items) c.loop-page.page
    (omega (
      arith,
      c.requires,
      long-keepers c.args.notes.now.items,
      c.len-page-end.ensures,
      c.loop-page-test.false,
      c.loop-page.auto.page-end,
    ))
    c.loop-page.invariant.keepers
