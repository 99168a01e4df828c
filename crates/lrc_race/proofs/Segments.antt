-- The segment that is read at an index.
use Rattle.std.proofs.Common.{◌≡◌, ℕ, ◌<◌, ◌∙◌, Some, List, length, get_or, sym, ap}
use Rattle.std.specs.Prelude.{slice_get}
use Rattle.std.proofs.lemmas.Option.{get_or_from_slice_get, slice_get-get_or}
use Rattle.lrc_trace.specs.declared.trace.Segment.{Segment}

module _ (read all : List Segment) (n : ℕ) (s : Segment) (same : read ≡ all) (is : s ≡ get_or read n s) where
  pub segment_at : n < length all → slice_get all n ≡ Some s
  segment_at within = slice_get-get_or all n s within ∙ ap (λ (x : Segment). Some x) (ap (λ segments. get_or segments n s) (sym same) ∙ sym is)

  -- there is no other
  pub segment_is : (t : Segment) → slice_get all n ≡ Some t → s ≡ t
  segment_is t found = is ∙ ap (λ segments. get_or segments n s) same ∙ get_or_from_slice_get all n t s found
