use Rattle.std.proofs.Common.{◌≡◌, ◌+◌, [], ◌∷◌, ◌++◌, length, inl, inr, refl, sym, subst, ap, ◌∙◌, arith}
use Rattle.std.specs.Prelude.{None, slice_get}
use Rattle.std.proofs.lemmas.Bool.{cases_eq, cases_lt}
use Rattle.std.proofs.lemmas.List.{length_push}
use Rattle.std.proofs.lemmas.Option.{slice_get_past}
use Rattle.lrc_trace.proofs.Positions.{slice_get-front, slice_get-seam}
use Rattle.lrc_time.proofs.Times.{entry-zeros, length-zeros}
use Rattle.lrc_exact.specs.Rule.{exact_rule, state_at_start}
use Rattle.lrc_exact.proofs.LocalRules.{keeps-none}
use Rattle.lrc_exact_copies.specs.Made.{row_of, row_or}
use Rattle.lrc_exact_judge.specs.Memory.{Having, IsReleased, never}
use Rattle.lrc_exact_judge.specs.Shape.{shape_of}
use Rattle.lrc_exact_judge.proofs.Among.{nothing-among}
use Rattle.lrc_exact_judge.proofs.Steps.{current-none}
use Rattle.lrc_exact_judge.proofs.memory.Memory.new.Goals as goal

pub loop-node-preserved : goal.loop-node-preserved
loop-node-preserved c =
    let copies = c.loop-node.copies.items in
    let made = c.loop-node.made.items in
    let i = c.loop-node._node in
    let inv = c.loop-node.invariant in
    let long = inv.copies_long in
    let long' = inv.made_long in
    let pushed = c.in_ok-push.ensures.items in
    let pushed' = c.in_ok-push-2.ensures.items in
    record {
      copies_long = ap length pushed ∙ length_push copies c.new.result ∙ ap (λ n. n + 1) long;
      made_long = ap length pushed' ∙ length_push made c.new-in-loop-node.result ∙ ap (λ n. n + 1) long';
      copies_are = λ q lt.
          elim (cases_lt q i) [
            | inl less ↦
                let old = inv.copies_are q less in
                (old.0, ap (λ xs. slice_get xs q) pushed ∙ slice_get-front copies (c.new.result ∷ []) q (omega arith) ∙ old.1, old.2)
            | inr le ↦
                let same : q ≡ length copies = omega arith in (
                  c.new.result,
                  ap (λ xs. slice_get xs q) pushed ∙ ap (slice_get (copies ++ c.new.result ∷ [])) same ∙ slice_get-seam copies c.new.result [],
                  λ shape node e. c.new.ensures shape node e,
                )
          ];
      rows_are = λ q.
          elim (cases_lt q (length made)) [
            | inl less ↦
                ap (λ xs. row_of xs q) pushed' ∙ ap row_or (slice_get-front made (c.new-in-loop-node.result ∷ []) q less) ∙ inv.rows_are q
            | inr le ↦
                elim (cases_eq q (length made)) [
                  | inl same ↦
                      ap (λ xs. row_of xs q) pushed' ∙ ap (row_of (made ++ c.new-in-loop-node.result ∷ [])) same
                      ∙ ap row_or (slice_get-seam made c.new-in-loop-node.result []) ∙ c.new-in-loop-node.ensures.items
                  | inr other ↦
                      let more = length_push made c.new-in-loop-node.result in
                      ap (λ xs. row_of xs q) pushed' ∙ ap row_or (slice_get_past (made ++ c.new-in-loop-node.result ∷ []) q (omega arith))
                ]
          ];
    }

pub returns-clause-memory : goal.returns-clause-memory
returns-clause-memory c =
    let layout = c.args.layout in
    let n = layout.nodes in
    let shape = shape_of layout in
    let made = c.loop-node.made.items in
    let inv = c.loop-node.invariant in
    let low = c.loop-node-test.false in
    let high = c.loop-node.auto._node-end in
    let all : c.loop-node._node ≡ n = omega arith in
    let low' = c.loop-lock-test.false in
    let high' = c.loop-lock.auto._lock-end in
    let locks : c.loop-lock._lock ≡ 256 = omega arith in
    let having : Having = record { have = λ q. state_at_start n; released = λ l. None } in
    record {
      states = [];
      keeps = keeps-none (exact_rule shape) n;
      having = having;
      kept = record {
        all_copies = inv.copies_long ∙ all;
        all_made = inv.made_long ∙ all;
        all_locks = c.loop-lock.invariant.long ∙ locks;
        wide = ap length c.new-2.ensures ∙ length-zeros n;
        nodes = λ q lt.
            let old = inv.copies_are q (omega arith) in
            record {
              copy = old.0;
              stands = old.1;
              is = old.2 shape q refl;
              among = nothing-among made n;
              own = entry-zeros n q ∙ sym (ap length (inv.rows_are q));
              wide = length-zeros n;
              dropped_is = sym c.new-2.ensures;
            };
        locks = λ l lt. subst (λ o. IsReleased n made o None) (sym (c.loop-lock.invariant.none l)) never;
        short = λ q. let e = ap length (inv.rows_are q) in omega arith;
      };
      departs = λ q lt. entry-zeros 16 q;
      current = current-none shape having (λ q. refl) (λ l. refl);
    }
