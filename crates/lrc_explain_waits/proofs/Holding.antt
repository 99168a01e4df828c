-- Who holds a lock, one act later.
use Rattle.std.proofs.Common.{◌≡◌, ◌∙◌, ◌<◌, ◌+◌, ℕ, List, [], ◌∷◌, ◌++◌, length, take, get_or, ap, arith}
use Rattle.std.specs.Prelude.{Option, Some, None, slice_index}
use Rattle.std.proofs.lemmas.List.{length-take-le, take_more}
use Rattle.lrc_trace.specs.declared.act.Act.{Act}
use Rattle.lrc_explain_waits.specs.declared.holder.Holder.{Holder}
use Rattle.lrc_explain_waits.specs.Holder.{held_from, holder_after, holder_of}

held_more : (lock : ℕ) (lines : List ℕ) (acts : List Act) (position : ℕ) (held : Option Holder) (act : Act)
    → held_from lock lines position held (acts ++ act ∷ [])
    ≡ holder_after lock (slice_index lines (position + length acts)) (held_from lock lines position held acts) act
held_more lock lines [] position held act =
    let same : position ≡ position + 0 = omega arith in ap (λ p. holder_after lock (slice_index lines p) held act) same
held_more lock lines (a ∷ acts) position held act =
    let before = holder_after lock (slice_index lines position) held a in
    let same : position + 1 + length acts ≡ position + length (a ∷ acts) = omega arith in
    held_more lock lines acts (position + 1) before act
    ∙ ap (λ p. holder_after lock (slice_index lines p) (held_from lock lines (position + 1) before acts) act) same

pub holder_more : (lock : ℕ) (lines : List ℕ) (acts : List Act) (i : ℕ) (d : Act) → i < length acts
    → holder_of lock (take (i + 1) acts) lines
    ≡ holder_after lock (slice_index lines i) (holder_of lock (take i acts) lines) (get_or acts i d)
holder_more lock lines acts i d lt =
    let here = get_or acts i d in
    let many : 0 + length (take i acts) ≡ i = omega (arith, length-take-le i acts (omega arith)) in
    ap (held_from lock lines 0 None) (take_more acts i d lt) ∙ held_more lock lines (take i acts) 0 None here
    ∙ ap (λ p. holder_after lock (slice_index lines p) (holder_of lock (take i acts) lines) here) many
