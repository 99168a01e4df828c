-- One position more, and the whole run.
use Rattle.std.proofs.Common.{◌≡◌, inl, inr, subst, sym, get_or, arith}
use Rattle.std.proofs.lemmas.Bool.{cases_eq}
use Rattle.std.proofs.lemmas.Result.{IfOk-from_err}
use Rattle.lrc_trace.specs.declared.act.Act.{Act}
use Rattle.lrc_trace.specs.declared.act.Deed.TheVariants.{Quiet, Read, Write}
use Rattle.lrc_trace.specs.Run.{Does}
use Rattle.lrc_trace.proofs.Positions.{Does-read, Does-deed, Does-one_deed, Does-within}
use Rattle.lrc_judge.specs.InOrder.{IsLastWritten}
use Rattle.lrc_judge.proofs.Deeds.{read_not_write, read_value, read_word}
use Rattle.lrc_judge.proofs.LastWritten.{IsMemory-none, IsMemory-same, IsMemory-next}
use Rattle.lrc_judge.proofs.in_order.first_out_of_order.Goals as goal
use Rattle.lrc_judge.proofs.in_order.first_out_of_order.Goals.{in-Read+else-value-last_written, in-Write+in_ok-insert-in-Write, in_default}

pub loop-position-preserved : goal.loop-position-preserved
loop-position-preserved c =
    let quiet : Act = record { node = 0; deed = Quiet } in
    let run = c.args.acts.now in
    let n = c.loop-position.position in
    let node = (get_or run n quiet).node in
    let here = Does-read run n quiet c.loop-position-test.true in
    let old = c.loop-position.invariant.reads in
    elim c.match-acts-position.branch [
      | in-Read+else-value-last_written w ↦
          let read : Does run n node (Read w.in-Read.word w.in-Read.value) = Does-deed w.in-Read.is here in
          record {
            memory = rw w.memory-is (IsMemory-same run n c.loop-position.memory
                (λ word v (p, d). read_not_write (Does-one_deed read d)) c.loop-position.invariant.memory);
            reads = λ j word v lt (p, r).
                elim (cases_eq j n) [
                  | inl same ↦
                      let both : Read w.in-Read.word w.in-Read.value ≡ Read word v = Does-one_deed read (subst (λ k. Does run k p (Read word v)) same r) in
                      let words : w.in-Read.word ≡ word = read_word both in
                      let values : w.in-Read.value ≡ v = read_value both in
                      let now = c.loop-position.invariant.memory w.in-Read.word in
                      let is : w.in-Read.value ≡ w.last_written-last_written.result = w.if-value-last_written.false in
                      rw (same, ← words, ← values, is, w.last_written-last_written.ensures) now
                  | inr other ↦ old j word v (omega arith) (p, r)
                ];
          }
      | in-Write+in_ok-insert-in-Write w ↦
          let write : Does run n node (Write w.in-Write.word w.in-Write.value) = Does-deed w.in-Write.is here in
          record {
            memory = rw w.memory-is (IsMemory-next run n node w.in-Write.word w.in-Write.value c.loop-position.memory w.insert.new.self write
                w.in_ok-insert-in-Write.ensures.updates c.loop-position.invariant.memory);
            reads = λ j word v lt (p, r).
                elim (cases_eq j n) [
                  | inl same ↦ absurd (read_not_write (sym (Does-one_deed write (subst (λ k. Does run k p (Read word v)) same r))))
                  | inr other ↦ old j word v (omega arith) (p, r)
                ];
          }
      | in_default w ↦ record {
        memory = rw w.memory-is (IsMemory-same run n c.loop-position.memory
            (λ word v (p, d). w.in_default.not-Write word v (Does-one_deed here d)) c.loop-position.invariant.memory);
        reads = λ j word v lt (p, r).
            elim (cases_eq j n) [
              | inl same ↦ absurd (w.in_default.not-Read word v (Does-one_deed here (subst (λ k. Does run k p (Read word v)) same r)))
              | inr other ↦ old j word v (omega arith) (p, r)
            ];
      }
    ]

pub loop-position-init : goal.loop-position-init
loop-position-init c = record {
  memory = IsMemory-none c.args.acts.now c.new-memory.result c.new-memory.ensures.empty;
  reads = λ j word v lt. absurd (omega arith);
}

pub returns-in_err-insert-in-Write : goal.returns-in_err-insert-in-Write
returns-in_err-insert-in-Write c = IfOk-from_err _ _ c.from_residual.ensures.0

pub returns-then-value-last_written : goal.returns-then-value-last_written
returns-then-value-last_written c =
    let quiet : Act = record { node = 0; deed = Quiet } in
    let run = c.args.acts.now in
    let n = c.loop-position.position in
    record {
      word = c.in-Read.word;
      value = c.in-Read.value;
      read = ((get_or run n quiet).node, Does-deed c.in-Read.is (Does-read run n quiet c.loop-position-test.true));
      written = subst (λ v. IsLastWritten run n c.in-Read.word v) (sym c.last_written-last_written.ensures)
          (c.loop-position.invariant.memory c.in-Read.word);
      apart = c.if-value-last_written.true;
      earlier = c.loop-position.invariant.reads;
    }

pub returns : goal.returns
returns c j word value r =
    let within = Does-within r.1 in
    c.loop-position.invariant.reads j word value (omega arith) r
