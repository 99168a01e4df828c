-- The last write is known, or it is not.
use Rattle.std.proofs.Common.{◌-◌, arith, inl, inr, sym, subst, ◌∙◌}
use Rattle.std.proofs.lemmas.Bool.{cases_eq, cases_lt, false≢true}
use Rattle.lrc_trace.specs.Order.{HappensBefore}
use Rattle.lrc_why_chains.specs.Writes.{IsWrite}
use Rattle.lrc_why_chains.proofs.writes.last_written.Goals as goal

pub returns-then-is_before : goal.returns-then-is_before
returns-then-is_before c i h =
    let run = c.args.acts.now in
    let n = c.loop-k.k - 1 in
    let le = h.last n c.if-is_write.ensures (omega arith) in
    elim (cases_eq i n) [
      | inl same ↦ h.unknown (subst (λ m. HappensBefore run m c.args.position) (sym same) ((c.requires n c.args.position).0 (sym c.if-is_before.ensures)))
      | inr other ↦ c.loop-k.invariant i (omega arith) h.earlier h.write
    ]

pub returns-then-is_write : goal.returns-then-is_write
returns-then-is_write c = record {
  write = c.if-is_write.ensures;
  earlier = omega arith;
  last = λ k w lt.
      elim (cases_lt k c.loop-k.k) [ inl below ↦ omega arith | inr above ↦ absurd (c.loop-k.invariant k above lt w) ];
  unknown = λ h. false≢true (c.if-is_before.ensures ∙ (c.requires (c.loop-k.k - 1) c.args.position).1 h);
}

pub loop-k-preserved : goal.loop-k-preserved
loop-k-preserved c m le lt w =
    elim (cases_eq m (c.loop-k.k - 1)) [
      | inl same ↦ c.if-is_write.ensures (subst (λ n. IsWrite c.args.acts.now c.args.word n) same w)
      | inr other ↦ c.loop-k.invariant m (omega arith) lt w
    ]

pub returns : goal.returns
returns c i h = c.loop-k.invariant i (omega arith) h.earlier h.write
