use Rattle.std.proofs.Common.{◌≡◌, ◌∙◌, ◌+◌, get_or, sym, subst, arith}
use Rattle.lrc_table.specs.Table.{Table}
use Rattle.lrc_memory.specs.Notes.{keepers_of}
use Rattle.lrc_memory.proofs.Noting.{keeper-at}
use Rattle.lrc_memory.proofs.Loops.{IsDropped, drop_starts, drop_keeps, drop_drops, drop_ends}
use Rattle.lrc_memory.proofs.collecting.drop_bases.Goals as goal
use Rattle.lrc_memory.proofs.collecting.drop_bases.Goals.{then-note-me, else-note-me}

pub loop-page-init : goal.loop-page-init
loop-page-init c = drop_starts c.args.me (keepers_of c.args.notes.now) c.args.table.now

pub loop-page-preserved : goal.loop-page-preserved
loop-page-preserved c =
    let note = c.index-notes-page.result in
    let here : note.keeper ≡ get_or (keepers_of c.args.notes.now) c.loop-page.page 0 =
    keeper-at c.args.notes.now c.loop-page.page note c.index-notes-page.is c.loop-page-test.true in
    elim c.if-note-me.branch [
      | then-note-me w ↦
          subst (λ (t : Table). IsDropped c.args.me (keepers_of c.args.notes.now) c.args.table.now t (c.loop-page.page + 1)) (sym w.table-is)
          (drop_drops c.args.me (keepers_of c.args.notes.now) c.args.table.now c.loop-page.table w.drop_base.new.self c.loop-page.page (λ same. w.if-note-me.true (here ∙ same))
          (omega (arith, c.requires, c.loop-page-test.true)) w.drop_base.ensures c.loop-page.invariant)
      | else-note-me w ↦
          subst (λ (t : Table). IsDropped c.args.me (keepers_of c.args.notes.now) c.args.table.now t (c.loop-page.page + 1)) (sym w.table-is)
          (drop_keeps c.args.me (keepers_of c.args.notes.now) c.args.table.now c.loop-page.table c.loop-page.page (sym here ∙ w.if-note-me.false) c.loop-page.invariant)
    ]

pub returns : goal.returns
returns c =
    drop_ends c.args.me (keepers_of c.args.notes.now) c.args.table.now c.loop-page.table c.loop-page.page
    (omega (arith, c.requires, c.loop-page-test.false)) c.loop-page.invariant
