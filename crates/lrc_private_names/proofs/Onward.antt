-- A node's way, one act further.
use Rattle.std.proofs.Common.{◌≡◌, ℕ, ◌+◌, ◌<◌, List, Option, length, get_or, refl, sym, ap, subst, ◌∙◌}
use Rattle.lrc_program.specs.declared.Program.{Program}
use Rattle.lrc_trace.specs.declared.act.Act.{Act}
use Rattle.lrc_trace.proofs.Positions.{Does-node}
use Rattle.lrc_exec.specs.Meaning.{Thread}
use Rattle.lrc_private_names.specs.declared.way.Way.{Way}
use Rattle.lrc_private_names.specs.Standing.{AreLastSets, set_by, thread_before}
use Rattle.lrc_private_names.specs.Ways.{IsOnWay, IsWayTo, noted, thread_led, thread_of}
use Rattle.lrc_private_names.proofs.Lasts.{Does-here, other_lasts, own_lasts}
use Rattle.lrc_private_names.proofs.Led.{other_step, own_step}

module _ (program : Program) (nodes : ℕ) (lines : List ℕ) (acts : List Act) (node at : ℕ) (act : Act) (within : at < length acts)
    (is : act ≡ get_or acts at act) where
  -- the node's own act
  pub own_way : (old new : Way) → IsWayTo program nodes lines acts node at old → act.node ≡ node → IsOnWay new
      → thread_of new ≡ thread_led (thread_of old) act.deed → new.set.items ≡ noted at (set_by (thread_of old) act.deed) old.set.items
      → IsWayTo program nodes lines acts node (at + 1) new
  own_way old new so_far same on thread set =
      let deed = act.deed in
      let before = thread_before program nodes lines acts node at in
      record {
        on = on;
        thread = thread ∙ ap (λ t. thread_led t deed) so_far.thread ∙ sym (own_step program nodes lines acts node at act within is same);
        lasts = subst (AreLastSets program nodes lines acts node (at + 1)) (sym (set ∙ ap (λ t. noted at (set_by t deed) old.set.items) so_far.thread))
            (own_lasts program nodes lines acts node at deed (Does-node same (Does-here acts at act within is)) (set_by before deed) old.set.items refl so_far.lasts);
      }

  -- an act of another node
  pub other_way : (old : Way) → IsWayTo program nodes lines acts node at old → (act.node ≡ node → ⊥) → IsWayTo program nodes lines acts node (at + 1) old
  other_way old so_far other = record {
    on = so_far.on;
    thread = so_far.thread ∙ sym (other_step program nodes lines acts node at act within is other);
    lasts = other_lasts program nodes lines acts node at act.node act.deed old.set.items (Does-here acts at act within is) other so_far.lasts;
  }
