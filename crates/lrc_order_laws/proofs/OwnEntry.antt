-- The own entry of a node's time counts the intervals that it has closed, in every run.
use Rattle.std.proofs.Common.{◌≡◌, ℕ, ◌+◌, ◌<◌, List, [], length, sym, ap, subst, ◌∙◌}
use Rattle.std.specs.Prelude.{Some, slice_get}
use Rattle.std.proofs.lemmas.Option.{slice_get_within}
use Rattle.lrc_program.specs.declared.Program.{Program}
use Rattle.lrc_time.specs.Time.{entry}
use Rattle.lrc_time.proofs.Times.{entry-zeros}
use Rattle.lrc_exec.specs.Meaning.{Setting}
use Rattle.lrc_exec.specs.Plain.{setting_of, start_of}
use Rattle.lrc_exec.specs.Follows.{deeds_of}
use Rattle.lrc_protocol.specs.declared.event.Event.{Event}
use Rattle.lrc_protocol.specs.Node.{OptionsRecord, fresh_node}
use Rattle.lrc_protocol.specs.Run.{Logged, World, run_of}
use Rattle.lrc_protocol.specs.Follows.{Local}
use Rattle.lrc_protocol.specs.Follows.{turns_of, deeds_in}
use Rattle.lrc_protocol.proofs.Worlds.{Whole, run-whole}
use Rattle.lrc_protocol.proofs.Texts.{follows_at}
use Rattle.lrc_order_laws.specs.Counts.{closes, count, awaits_acquire}
use Rattle.lrc_order_laws.proofs.Shift.{part_of}
use Rattle.lrc_order_laws.proofs.Inputs.{KeptByShifts, at_each}
use Rattle.lrc_order_laws.proofs.Waiting.{NodeFits, node-fits, departs_arrived}
use Rattle.lrc_order_laws.proofs.Shape.{NodeShape, node-shape, fresh_node-shape}
use Rattle.lrc_order_laws.proofs.Counts.{Own, own-kept, count_more}

-- a node of this setting, with what is carried beside
pub record Owned (s : Setting) (o : OptionsRecord) (l : Local) : Type 0 where
  pub shape : NodeShape s o l
  pub fits : NodeFits l
  pub own : Own (part_of l.node) (count closes (deeds_in l.turns))

within : (s : Setting) (o : OptionsRecord) (l : Local) → s.me < s.nodes → NodeShape s o l → (part_of l.node).me < length (part_of l.node).locks.time
within s o l lt h =
    subst (λ k. l.node.setting.me < k) (sym h.shape.times) (subst (λ (t : Setting). t.me < s.nodes) (sym h.setting) lt)

node-owned : (s : Setting) (o : OptionsRecord) → s.me < s.nodes → KeptByShifts (Owned s o)
node-owned s o lt l turn after t sh h = record {
  shape = node-shape s o l turn after t sh h.shape;
  fits = node-fits l turn after t sh h.fits;
  own =
      ap (λ (t : Setting). entry after.locks.time t.me) t.setting
      ∙ own-kept (part_of l.node) (within s o l lt h.shape) h.fits (count closes (deeds_in l.turns)) h.own
      sh.acts after.mail.wait after.locks after.barrier.episode _ after.course sh.shift sh.moved
      ∙ ap (λ k. k + awaits_acquire after.mail.wait) (sym (count_more closes l.turns turn));
}

fresh-owned : (program : Program) (nodes : ℕ) (options : OptionsRecord) (n : ℕ)
    → Owned (setting_of program nodes n) options (record { node = fresh_node program nodes options n; turns = [] })
fresh-owned program nodes options n = record {
  shape = fresh_node-shape program nodes options n;
  fits = departs_arrived (start_of program nodes n);
  own = entry-zeros nodes n;
}

module _ (program : Program) (nodes : ℕ) (options : OptionsRecord) (events : List Event) (world : World)
    (e : run_of program nodes options events ≡ Some world) where
  whole : Whole program nodes options world
  whole = run-whole program nodes options events world e

  pub in_range : (n : ℕ) (l : Logged) → slice_get world.nodes n ≡ Some l → n < nodes
  in_range n l at = subst (λ k. n < k) whole.count (slice_get_within world.nodes n l at)

  pub own_entry : (n : ℕ) (l : Logged) → slice_get world.nodes n ≡ Some l
      → entry l.node.locks.time n ≡ count closes (deeds_of n world.acts) + awaits_acquire l.node.mail.wait
  own_entry n l at =
      let h : Owned (setting_of program nodes n) options (record { node = l.node; turns = turns_of l.log }) =
      at_each (Owned (setting_of program nodes n) options) (node-owned (setting_of program nodes n) options (in_range n l at))
      program nodes options events world n l (fresh-owned program nodes options n) e at in
      ap (λ (s : Setting). entry l.node.locks.time s.me) (sym h.shape.setting)
      ∙ h.own
      ∙ ap (λ ds. count closes ds + awaits_acquire l.node.mail.wait) (sym (follows_at program nodes options events world e n l at).deeds)
