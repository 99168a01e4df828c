use Rattle.std.proofs.Common.{List, refl, subst, ℕ, ◌++◌}
use Rattle.std.specs.Prelude.{Contains}
use Rattle.lrc_trace.specs.declared.act.Act.{Act}
use Rattle.lrc_trace.specs.declared.act.Deed.TheVariants.{Quiet}
use Rattle.lrc_trace.proofs.Positions.{Does-read}
use Rattle.lrc_judge_all.specs.Known.{AreKept}
use Rattle.lrc_judge_all.proofs.Readers.{batch_within, fresh, learned, learned_known}
use Rattle.lrc_judge_all.proofs.learning.learn.Goals as goal

abbrev quiet : Act
quiet = record { node = 0; deed = Quiet }

pub newly_known-requires : goal.newly_known-requires
newly_known-requires c = λ node lt.
    let here = Does-read c.args.acts.now c.args.position quiet c.requires.within in
    let reader = c.requires.known _ _ here in
    reader.within node lt

pub note_all-requires-clause-within : goal.note_all-requires-clause-within
note_all-requires-clause-within c = λ k there.
    let here = Does-read c.args.acts.now c.args.position quiet c.requires.within in
    let reader = c.requires.known _ _ here in
    batch_within c.args.acts.now c.args.order.now c.requires.order c.requires.nodes c.args.position _ _ here c.args.reader.now c.newly_known.new.next
    c.in_ok-batch.batch.items reader c.in_ok-batch.ensures k (subst (λ (l : List ℕ). Contains l k) c.as_slice.ensures.value there)

pub returns-clause-known : goal.returns-clause-known
returns-clause-known c =
    let run = c.args.acts.now in
    let batch = c.in_ok-batch.batch.items in
    let here = Does-read run c.args.position quiet c.requires.within in
    let reader = c.requires.known _ _ here in
    let words : AreKept run (reader.known ++ batch) c.note_all.new.words =
    subst (λ (l : List ℕ). AreKept run (reader.known ++ l) c.note_all.new.words) c.as_slice.ensures.value
    (c.in_ok-note_all.ensures reader.known
    (λ k there. fresh run c.args.order.now c.requires.order c.requires.nodes c.args.position _ _ here c.args.reader.now c.newly_known.new.next batch reader
    c.in_ok-batch.ensures k (subst (λ (l : List ℕ). Contains l k) c.as_slice.ensures.value there))
    reader.words) in (
      reader.known ++ batch,
      learned_known run c.args.order.now c.requires.order c.requires.nodes c.args.position _ _ here c.args.reader.now c.newly_known.new.next batch reader
          c.in_ok-batch.ensures,
      words,
    )

pub returns-clause-reader : goal.returns-clause-reader
returns-clause-reader c = λ node deed here.
    let run = c.args.acts.now in
    let batch = c.in_ok-batch.batch.items in
    let reader = c.requires.known node deed here in
    let words : AreKept run (reader.known ++ batch) c.note_all.new.words =
    subst (λ (l : List ℕ). AreKept run (reader.known ++ l) c.note_all.new.words) c.as_slice.ensures.value
    (c.in_ok-note_all.ensures reader.known
    (λ k there. fresh run c.args.order.now c.requires.order c.requires.nodes c.args.position node deed here c.args.reader.now c.newly_known.new.next batch
    reader c.in_ok-batch.ensures k (subst (λ (l : List ℕ). Contains l k) c.as_slice.ensures.value there))
    reader.words) in
    learned run c.args.order.now c.requires.order c.requires.nodes c.args.position node deed here c.args.reader.now c.newly_known.new.next batch reader
    c.in_ok-batch.ensures _ refl words
