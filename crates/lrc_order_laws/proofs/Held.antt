-- In every run the text of a node holds the locks whose tokens it holds, and who waits for a grant awaits that token alone.
use Rattle.std.proofs.Common.{◌≡◌, ℕ, zero, suc, ◌≤◌, List, [], ◌∷◌, Bool, true, false, map, refl, sym, ap, subst, ◌∙◌}
use Rattle.std.specs.Prelude.{Some, ◌==◌, replicate, slice_get, slice_index_or, if◌then◌else◌}
use Rattle.std.specs.List.{range_with_len}
use Rattle.std.proofs.lemmas.List.{length-replicate}
use Rattle.lrc_program.specs.declared.Program.{Program}
use Rattle.lrc_time.specs.Time.{zeros}
use Rattle.lrc_exec.specs.Meaning.{Setting, Thread}
use Rattle.lrc_exec.specs.Plain.{setting_of, start_of}
use Rattle.lrc_lock.specs.declared.state.LockState.{LockState}
use Rattle.lrc_lock.specs.declared.state.LockState.TheVariants.{Away, Free}
use Rattle.lrc_lock.specs.Lock.{manager_of}
use Rattle.lrc_lock.specs.Held.{is_held, first_state}
use Rattle.lrc_protocol.specs.declared.event.Event.{Event}
use Rattle.lrc_protocol.specs.Node.{OptionsRecord, fresh_node}
use Rattle.lrc_protocol.specs.Run.{Logged, World, run_of}
use Rattle.lrc_protocol.specs.Follows.{Local}
use Rattle.lrc_protocol.specs.Follows.{turns_of}
use Rattle.lrc_order_laws.specs.Tokens.{HoldsTokens, AwaitsOne}
use Rattle.lrc_lock.specs.Held.{is_awaited}
use Rattle.lrc_order_laws.proofs.Shift.{part_of}
use Rattle.lrc_order_laws.proofs.Inputs.{KeptByShifts, at_each}
use Rattle.lrc_order_laws.proofs.Waiting.{NodeFits, node-fits, departs_arrived}
use Rattle.lrc_order_laws.proofs.Shape.{NodeShape, node-shape, fresh_node-shape}
use Rattle.lrc_order_laws.proofs.Holding.{going_same}
use Rattle.lrc_order_laws.proofs.Tokens.{awaits-kept}
use Rattle.lrc_order_laws.proofs.TextHolds.{IsText, TextIs, text-kept, acquired_below, holds-kept}

-- a node of this setting, with what is carried beside
pub record Tokened (s : Setting) (o : OptionsRecord) (l : Local) : Type 0 where
  pub shape : NodeShape s o l
  pub fits : NodeFits l
  pub text : TextIs s l.node.course
  pub waits : AwaitsOne l.node.mail.wait l.node.locks.held
  pub holding : HoldsTokens l.node.course l.node.locks.held

pub node-tokened : (s : Setting) (o : OptionsRecord) → s.locks ≤ 64 → KeptByShifts (Tokened s o)
node-tokened s o few l turn after t sh h = record {
  shape = node-shape s o l turn after t sh h.shape;
  fits = node-fits l turn after t sh h.fits;
  text = text-kept s sh.acts l.node.course after.course _ sh.moved h.text;
  waits =
      awaits-kept (part_of l.node) s h.shape.shape.tokens h.fits h.waits (acquired_below s l.node.course h.text)
      sh.acts after.mail.wait after.locks after.barrier.episode sh.shift;
  holding =
      holds-kept (part_of l.node) s few h.shape.shape.tokens h.fits h.text h.waits h.holding
      sh.acts after.mail.wait after.locks after.barrier.episode _ after.course sh.shift sh.moved;
}

-- ---- at the start

first_by : (q : LockState → Bool) (nodes : ℕ) (b : Bool) → q (Free (zeros nodes)) ≡ false → q Away ≡ false
    → q (if b then Free (zeros nodes) else Away) ≡ false
first_by q nodes true f a = f
first_by q nodes false f a = a

first_none : (q : LockState → Bool) (me nodes : ℕ) → q (Free (zeros nodes)) ≡ false → q Away ≡ false
    → (locks : List ℕ) (lock : ℕ) → q (slice_index_or (map (first_state me nodes) locks) lock Away) ≡ false
first_none q me nodes f a [] lock = a
first_none q me nodes f a (l ∷ locks) zero = first_by q nodes (manager_of nodes l == me) f a
first_none q me nodes f a (l ∷ locks) (suc lock) = first_none q me nodes f a locks lock

nothing_held : (n lock : ℕ) → slice_index_or (replicate n false) lock false ≡ false
nothing_held zero lock = refl
nothing_held (suc n) zero = refl
nothing_held (suc n) (suc lock) = nothing_held n lock

pub fresh-tokened : (program : Program) (nodes : ℕ) (options : OptionsRecord) (n : ℕ)
    → Tokened (setting_of program nodes n) options (record { node = fresh_node program nodes options n; turns = [] })
fresh-tokened program nodes options n =
    let start : Thread = start_of program nodes n in
    record {
      shape = fresh_node-shape program nodes options n;
      fits = departs_arrived start;
      text = λ t e. subst (IsText (setting_of program nodes n)) (going_same start t e) (record { setting = refl; places = length-replicate 64 false });
      waits = first_none is_awaited n nodes refl refl (range_with_len 0 program.locks);
      holding = λ t e lock.
          ap (λ (t : Thread). slice_index_or t.held lock false) (sym (going_same start t e))
          ∙ nothing_held 64 lock
          ∙ sym (first_none is_held n nodes refl refl (range_with_len 0 program.locks) lock);
    }

pub tokened_at : (program : Program) (nodes : ℕ) (options : OptionsRecord) (events : List Event) (world : World) (n : ℕ) (l : Logged)
    → run_of program nodes options events ≡ Some world → slice_get world.nodes n ≡ Some l
    → Tokened (setting_of program nodes n) options (record { node = l.node; turns = turns_of l.log })
tokened_at program nodes options events world n l e at =
    at_each (Tokened (setting_of program nodes n) options) (node-tokened (setting_of program nodes n) options program.few_locks)
    program nodes options events world n l (fresh-tokened program nodes options n) e at
