use Rattle.std.proofs.Common.{◌⊎◌, ◌≡◌, subst, sym}
use Rattle.std.specs.Prelude.{◌↔◌, Contains}
use Rattle.lrc_lazy_known.specs.Word.{values_of}
use Rattle.lrc_lazy_known.proofs.Made.{written_values}
use Rattle.lrc_lazy_known.proofs.word.values_written.Goals as goal

pub returns-in_ok-new-clause-values : goal.returns-in_ok-new-clause-values
returns-in_ok-new-clause-values c = λ v.
    subst (λ w. Contains w.items v ↔ (Contains (values_of c.args.word.now c.args.knower) v ⊎ ((c.args.knower ≡ c.args.writer) × (v ≡ c.args.value))))
    (sym c.in_ok-new.ensures.ok)
    (written_values c.values_of.result.now _ c.in_ok-all.all.items c.args.knower c.args.writer c.args.value c.values_of.ensures
    c.if-knower-writer.true c.in_ok-all.ensures.values v)
