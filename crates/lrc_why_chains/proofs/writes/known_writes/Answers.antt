-- One position more, and all of them.
use Rattle.std.proofs.Common.{arith, sym, ◌∙◌}
use Rattle.std.proofs.lemmas.Bool.{false≢true}
use Rattle.lrc_why_chains.specs.Writes.{IsKnownWrite}
use Rattle.lrc_why_chains.proofs.Exactly.{below_same, below_push, below_all}
use Rattle.lrc_why_chains.proofs.KnownWrites.{known_within}
use Rattle.lrc_why_chains.proofs.writes.known_writes.Goals as goal
use Rattle.lrc_why_chains.proofs.writes.known_writes.Goals.{then-is_write+then-is_before+in_ok-push, else-is_write, else-is_write-via-then-is_write+else-is_before, else-is_write-via-else-is_write}

pub loop-k-preserved : goal.loop-k-preserved
loop-k-preserved c =
    let run = c.args.acts.now in
    let position = c.args.position in
    let word = c.args.word in
    let n = c.loop-k.k in
    let old = c.loop-k.invariant in
    let IsSo = IsKnownWrite run position word in
    elim c.if-is_write.branch [
      | then-is_write+then-is_before+in_ok-push w ↦
          let (value, write) = w.if-is_write.ensures in
          let here : IsSo n = (value, record { write = write; before = (c.requires n position).0 (sym w.if-is_before.ensures) }) in
          rw w.writes-is (below_push IsSo c.loop-k.writes.items _ n here w.in_ok-push.ensures.items old)
      | else-is_write w ↦
          rw w.writes-is (below_same IsSo c.loop-k.writes.items n (elim w.else-is_write.branch [
            | else-is_write-via-then-is_write+else-is_before w' ↦ λ (v, h). false≢true (w'.if-is_before.ensures ∙ (c.requires n position).1 h.before)
            | else-is_write-via-else-is_write w' ↦ λ (v, h). w'.if-is_write.ensures (v, h.write)
          ]) old)
    ]

pub returns : goal.returns
returns c =
    let run = c.args.acts.now in
    below_all (IsKnownWrite run c.args.position c.args.word) c.loop-k.writes.items c.loop-k.k
    (λ i h. let lt = known_within run c.args.position c.args.word i h in omega arith) c.loop-k.invariant
