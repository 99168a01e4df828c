use Rattle.std.proofs.Common.{arith}
use Rattle.lrc_trace.proofs.Positions.{Does-within}
use Rattle.lrc_judge_all.specs.JudgesAll.{IsDisorder, TellsDisorder, unordered}
use Rattle.lrc_judge_all.proofs.Memory.{memory_none}
use Rattle.lrc_judge_all.proofs.Telling.{told_all, told_more, told_none}
use Rattle.lrc_judge_all.proofs.disorders.tell_each.Goals as goal

pub loop-position-init : goal.loop-position-init
loop-position-init c = record {
  told = told_none (IsDisorder c.args.acts.now) (TellsDisorder c.args.acts.now c.args.lines.now) 0 c.args.text.now.items (λ i lt. absurd (omega (arith, lt)));
  memory = memory_none c.args.acts.now c.new-memory.result c.new-memory.ensures.empty;
}

pub loop-position-preserved : goal.loop-position-preserved
loop-position-preserved c = record {
  told = told_more (IsDisorder c.args.acts.now) (TellsDisorder c.args.acts.now c.args.lines.now) c.loop-position.position c.args.text.now.items
      c.loop-position.text.items c.tell_at.new.text.items c.loop-position.invariant.told c.in_ok-tell_at.ensures.text;
  memory = c.in_ok-tell_at.ensures.memory;
}

pub returns : goal.returns
returns c =
    let each = told_all (IsDisorder c.args.acts.now) (TellsDisorder c.args.acts.now c.args.lines.now) c.loop-position.position c.args.text.now.items
    c.loop-position.text.items (λ i d. let lt = Does-within d.read.1 in omega arith) c.loop-position.invariant.told in
    record { added = each.added; whole = each.whole; so = unordered c.requires.some.1 each.so }
