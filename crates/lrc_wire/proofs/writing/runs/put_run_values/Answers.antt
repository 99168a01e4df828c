use Rattle.std.proofs.Common.{◌≡◌, ℕ, take, subst, arith}
use Rattle.std.specs.Prelude.{All}
use Rattle.std.specs.Int.{w64}
use Rattle.std.proofs.lemmas.Option.{get_or_from_slice_get, slice_get_within}
use Rattle.std.proofs.lemmas.List.Elements.{All-more}
use Rattle.lrc_page.specs.declared.changes.Change.{Change}
use Rattle.lrc_wire.specs.Ranges.{HasBits}
use Rattle.lrc_wire.specs.Spelling.{number}
use Rattle.lrc_wire.proofs.Written.{numbers-more}
use Rattle.lrc_wire.proofs.Leads.{values_more}
use Rattle.lrc_wire.proofs.writing.runs.put_run_values.Goals as goal

pub loop-place-preserved : goal.loop-place-preserved
unfolding number
loop-place-preserved c =
    let cs = c.args.changes.now in
    let place = c.loop-place.place in
    let x = c.at.result in
    let within = slice_get_within cs place x c.at.ensures in
    let fits : HasBits 64 x.value = omega arith in
    let more = values_more cs c.args.start place x (omega arith) c.at.ensures in
    record {
      written = rw (c.in_ok-put_u64.ensures.ok, c.loop-place.invariant.written, more) (numbers-more w64 c.args.out.now.items _ x.value);
      bits = All-more (λ (y : Change). HasBits 64 y.value) cs place x within c.loop-place.invariant.bits
          (rw (get_or_from_slice_get cs place x x c.at.ensures) fits);
    }

pub returns-clause-bits : goal.returns-clause-bits
returns-clause-bits c =
    let same : c.loop-place.place ≡ c.args.end = omega (arith, c.loop-place-test.false) in
    subst (λ (n : ℕ). All (λ x. HasBits 64 x.value) (take n c.args.changes.now)) same c.loop-place.invariant.bits
