use Rattle.std.proofs.Common.{◌≡◌, ◌∙◌, ◌+◌, ◌-◌, ◌<◌, ◌≤◌, List, [], ◌∷◌, ◌++◌, length, sym, ap, subst, append_assoc, arith}
use Rattle.std.specs.Int.{w64}
use Rattle.std.proofs.lemmas.List.{append-nil, length-append}
use Rattle.std.proofs.lemmas.Result.{err_from_is_err_and}
use Rattle.lrc_page.specs.declared.changes.Change.{Change}
use Rattle.lrc_wire.specs.Runs.{changes_in_run}
use Rattle.lrc_wire.specs.Reading.{elements_at, number_at, values_at}
use Rattle.lrc_wire.proofs.Elements.{with_nothing, goes_on, ends, is_done}
use Rattle.lrc_envelope.proofs.Last.{last_pushed}
use Rattle.lrc_wire.proofs.Leads.{changes_of-push}
use Rattle.lrc_wire.proofs.reading.changes.read_run_values.Goals as goal

pub loop-offset-init : goal.loop-offset-init
unfolding values_at
loop-offset-init c =
    let none : c.args.more + 1 - (c.from-offset.result - c.args.first) ≡ c.args.more + 1 = omega (arith, c.from-offset.ensures) in
    record {
      values = [];
      long = omega (arith, c.from-offset.ensures);
      put = sym (append-nil c.args.changes.now);
      last = λ x e. omega (arith, c.from-offset.ensures, c.requires.above x e);
      read = rw none (with_nothing (elements_at (λ _ rest. number_at w64 rest) (λ state _. state) (c.args.more + 1) (tt {0}) c.args.bytes.now.now));
    }

pub returns-in_err-value-clause-put : goal.returns-in_err-value-clause-put
returns-in_err-value-clause-put c =
    let p = err_from_is_err_and c.from_residual.result c.from_residual.ensures.1 in
    let lt : c.loop-offset.offset - c.args.first < c.args.more + 1 = omega (arith, c.loop-offset-test.true, c.from.ensures, c.from-2.ensures) in
    rw (p.1, p.2) (ends (λ _ rest. number_at w64 rest) (λ state _. state) c.in_err-value.field-0.0 c.loop-offset.invariant.values (c.args.more + 1)
    (c.loop-offset.offset - c.args.first) (tt {0}) c.loop-offset.bytes.now _ lt c.in_err-value.ensures c.loop-offset.invariant.read)

pub loop-offset-preserved : goal.loop-offset-preserved
loop-offset-preserved c =
    let vs = c.loop-offset.invariant.values in
    let offset = c.loop-offset.offset in
    let first = c.args.first in
    let value = c.in_ok-value.value in
    let long = c.loop-offset.invariant.long in
    let from : first ≤ offset = omega (arith, c.loop-offset.auto.offset, c.from-offset.ensures) in
    let lt : offset - first < c.args.more + 1 = omega (arith, c.loop-offset-test.true, c.from.ensures, c.from-2.ensures) in
    let place : offset ≡ first + length vs = omega (arith, long, from) in
    let count : offset + 1 - first ≡ offset - first + 1 = omega (arith, from) in
    record {
      values = vs ++ value ∷ [];
      long = omega (arith, length-append vs (value ∷ []), long, from);
      put = rw (
        c.in_ok-push.ensures.ok,
        c.loop-offset.invariant.put,
      ) (append_assoc c.args.changes.now (changes_in_run (record { first = first; values = vs })) (record {
        offset = offset;
        value =
            value;
      } ∷ []) ∙ ap (λ (cs : List Change). c.args.changes.now ++ cs) (changes_of-push first vs offset value place));
      last = λ x e. subst (λ (y : Change). y.offset < offset + 1) (last_pushed c.loop-offset.changes (record {
        offset = offset;
        value =
            value;
      }) x (rw c.in_ok-push.ensures.ok at e)) (omega arith);
      read = rw count (goes_on (λ _ rest. number_at w64 rest) (λ state _. state) vs (c.args.more + 1) (offset - first)
          (tt {0}) c.loop-offset.bytes.now value c.read_u64.new.bytes.now _ lt c.in_ok-value.ensures c.loop-offset.invariant.read);
    }

pub returns-clause-put : goal.returns-clause-put
returns-clause-put c =
    let past : c.args.more + 1 ≤ c.loop-offset.offset - c.args.first = omega (arith, c.loop-offset-test.false, c.from.ensures, c.from-2.ensures) in (
      c.loop-offset.invariant.values,
      is_done (λ _ rest. number_at w64 rest) (λ state _. state) c.loop-offset.invariant.values (c.args.more + 1) (c.loop-offset.offset - c.args.first)
          (tt {0}) c.loop-offset.bytes.now _ past c.loop-offset.invariant.read,
      c.loop-offset.invariant.put,
    )
