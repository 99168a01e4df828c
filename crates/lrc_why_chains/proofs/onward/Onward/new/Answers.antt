-- Every table is empty.
use Rattle.std.proofs.Common.{◌≡◌, refl}
use Rattle.std.specs.Prelude.{Option, Some, None}
use Rattle.lrc_why_chains.specs.declared.starts.Start.{Start}
use Rattle.lrc_why_chains.specs.Known.{IsActOf}
use Rattle.lrc_why_chains.specs.Onward.{IsAcquireOf, IsDepartOf}
use Rattle.lrc_why_chains.proofs.Gates.{each-none}
use Rattle.lrc_why_chains.proofs.onward.Onward.new.Goals as goal

-- a clone of none is none
none_clones : (R : Option Start → Type 0) → ((x : Start) → R (Some x) → ⊥) → (y : Option Start) → R y → y ≡ None
none_clones R never None h = refl
none_clones R never (Some x) h = absurd (never x h)

pub returns : goal.returns
returns c = (
  c.in_ok-vec-3.ensures.len,
  λ run to. record {
    nodes = each-none run to 256 (IsActOf run) _ (c.in_ok-vec.ensures.items_if_clones_equal (none_clones _ (λ x h. h)));
    acquires = each-none run to 256 (IsAcquireOf run) _ (c.in_ok-vec-2.ensures.items_if_clones_equal (none_clones _ (λ x h. h)));
    departs = each-none run to c.args.most (IsDepartOf run) _ (c.in_ok-vec-3.ensures.items_if_clones_equal (none_clones _ (λ x h. h)));
  },
)
