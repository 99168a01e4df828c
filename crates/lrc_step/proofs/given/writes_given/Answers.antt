use Rattle.std.proofs.Common.{ℕ, List, subst, sym}
use Rattle.lrc_why_chains.specs.Writes.{AreExactly, IsKnownWrite}
use Rattle.lrc_step.proofs.given.writes_given.Goals as goal

pub returns : goal.returns
returns c value reads =
    let run = c.args.acts.now in
    let position = c.args.position in
    let word = c.args.word in
    let known = subst (λ (list : List ℕ). AreExactly (IsKnownWrite run position word) list) (sym c.deref.ensures.value) c.in_ok-writes.ensures in
    record {
      word = word;
      value = value;
      reads = reads;
      last = c.in_ok-last.ensures run position word c.requires.order known;
      unknown = c.last_written-unknown.ensures;
    }
