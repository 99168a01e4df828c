use Rattle.std.proofs.Common.{◌≡◌, ◌∙◌, ◌+◌, ◌++◌, List, ap, arith, drop, length, subst, sym, take}
use Rattle.std.proofs.Math.Seq.{take-append_seam}
use Rattle.lrc_judge_all.specs.Known.{AreReaders}
use Rattle.lrc_judge_all.specs.declared.reader.Reader.{Reader}
use Rattle.lrc_trace.proofs.Positions.{Does-within}
use Rattle.lrc_judge.specs.Reading.{Misreads}
use Rattle.lrc_judge_all.specs.JudgesAll.{TellsMisread, unlazy}
use Rattle.lrc_judge_all.proofs.Telling.{told_all, told_more, told_none}
use Rattle.lrc_judge_all.proofs.misreads.tell_from.Goals as goal

pub loop-position-init : goal.loop-position-init
loop-position-init c = record {
  told = told_none (Misreads c.args.acts.now) (TellsMisread c.args.acts.now c.args.lines.now) c.args.first c.args.text.now.items
      (λ i lt m. m.refused (c.requires.first.earlier i m.word m.value lt m.read));
  many = c.in_ok-readers.ensures.many;
  readers = c.in_ok-readers.ensures.readers c.args.acts.now c.args.first;
}

pub loop-position-preserved : goal.loop-position-preserved
loop-position-preserved c =
    let new = c.tell_at.new.readers in
    let rest = drop (length new) c.loop-position.readers.items in
    let long : c.loop-position.readers.len ≡ length new = omega (arith, c.tell_at.auto.readers, c.as_mut_slice.ensures.len) in
    let is : take c.loop-position.readers.len (new ++ rest) ≡ new = ap (λ n. take n (new ++ rest)) long ∙ take-append_seam new rest in
    record {
      told = told_more (Misreads c.args.acts.now) (TellsMisread c.args.acts.now c.args.lines.now) c.loop-position.position c.args.text.now.items
          c.loop-position.text.items c.tell_at.new.text.items c.loop-position.invariant.told c.in_ok-tell_at.ensures.text;
      many = c.loop-position.invariant.many;
      readers = subst (λ (l : List Reader). AreReaders c.args.acts.now (c.loop-position.position + 1) l) (sym is) c.in_ok-tell_at.ensures.readers;
    }

pub returns : goal.returns
returns c =
    let each = told_all (Misreads c.args.acts.now) (TellsMisread c.args.acts.now c.args.lines.now) c.loop-position.position c.args.text.now.items
    c.loop-position.text.items (λ i m. let lt = Does-within m.read.1 in omega arith) c.loop-position.invariant.told in
    record { added = each.added; whole = each.whole; so = unlazy c.requires.first.misread each.so }
