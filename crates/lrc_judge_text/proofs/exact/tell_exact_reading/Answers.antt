use Rattle.std.proofs.Common.{[], Option, append-nil, subst, sym, true}
use Rattle.std.specs.Prelude.{IfOk}
use Rattle.lrc_judge_text.specs.Judgement.{AddsText, TellsExactReading, unasked}
use Rattle.lrc_judge_text.specs.declared.memory.ExactMemory.{ExactMemory}
use Rattle.lrc_judge_text.proofs.exact.tell_exact_reading.Goals as goal

pub returns-in-Some : goal.returns-in-Some
returns-in-Some c =
    subst (λ (m : Option ExactMemory). IfOk c.tell_reading_of.result (λ holds. AddsText c.args.text.now.items c.tell_reading_of.new.text.items
    (TellsExactReading c.args.nodes m c.args.acts.now c.args.lines.now holds))) (sym c.in-Some.is) c.tell_reading_of.ensures

pub returns-in-None : goal.returns-in-None
returns-in-None c = record {
  added = [];
  whole = sym (append-nil c.args.text.now.items);
  so = subst (λ (m : Option ExactMemory). TellsExactReading c.args.nodes m c.args.acts.now c.args.lines.now true []) (sym c.in-None.is) unasked;
}
