use Rattle.std.proofs.Common.{◌≡◌, ◌⊎◌, inl, inr, refl, sym}
use Rattle.std.specs.Prelude.{Some, slice_get}
use Rattle.lrc_orders.proofs.Alike.{acts_same}
use Rattle.lrc_orders.proofs.Gathering.{put_all}
use Rattle.lrc_explore_less.proofs.seek.keep.Goals as goal

pub returns-clause-has : goal.returns-clause-has
returns-clause-has c =
    let s = c.in_ok-insert_full.ensures.stored in
    record { place = _; outcome = s.0; there = s.1; same = sym (acts_same c.args.notes.items s.0.notes.items s.2) }

pub returns-clause-only : goal.returns-clause-only
returns-clause-only c =
    let old = c.args.outcomes.now.keys in
    put_all (λ k o. (slice_get old k ≡ Some o) ⊎ (o.notes.items ≡ c.args.notes.items)) _ old c.insert_full.new.self.keys _
    c.in_ok-insert_full.ensures.keys (λ k o at. inl at) (inr refl)
