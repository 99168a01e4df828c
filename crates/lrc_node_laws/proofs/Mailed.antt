-- A node counts messages of every node, only node 0 has the manager of barriers, and nobody arrives more often than it closes
-- an interval.
use Rattle.std.proofs.Common.{◌≡◌, ℕ, ◌+◌, ◌<◌, ◌≤◌, Bool, true, false, length, refl, subst, ◌∙◌, arith}
use Rattle.std.specs.Prelude.{Some, None, ◌==◌, slice_set, if◌then◌else◌}
use Rattle.std.proofs.lemmas.List.{length-set}
use Rattle.lrc_time.specs.Time.{entry}
use Rattle.lrc_time.proofs.Times.{entry-set_same, entry-joined, length-zeros}
use Rattle.lrc_barrier.specs.Barrier.{ManagerRecord, first_manager}
use Rattle.lrc_protocol.specs.Locks.{Locks}
use Rattle.lrc_protocol.specs.Node.{Wait}
use Rattle.lrc_order_laws.proofs.Shift.{Part, Shift, plain, misses as misses_shift, takes, asks, releasing, arriving, manages as manages_shift}
use Rattle.lrc_order_laws.proofs.Shift.{forwarding, grants, departing, collecting, clean_at_once, discarding, accessing, still_misses, still_collects}
use Rattle.lrc_order_laws.proofs.Shift.{cleaning, rests}
use Rattle.lrc_node_laws.specs.Ranges.{HasManager}
use Rattle.lrc_node_laws.proofs.Change.{View, Change, receives, manages, moves, puts, closes, learns, resumes, begins}
use Rattle.lrc_node_laws.proofs.Change.{cleans, discards, misses, mends, gets_changes, gets_page}

pub record Mailed (v : View) : Type 0 where
  pub taken : length v.taken ≡ v.setting.nodes
  pub manager : HasManager v.setting.me v.setting.nodes v.manager

manages-so : (me nodes : ℕ) (before manager : ManagerRecord) → length manager.last ≡ length before.last → HasManager me nodes (Some before)
    → HasManager me nodes (Some manager)
manages-so me nodes before manager many h = (h.0, many ∙ h.1)

pub mailed-kept : (v after : View) → Change v after → Mailed v → Mailed after
mailed-kept v _ (receives from numbers) h = record { taken = length-set v.taken from _ ∙ h.taken; manager = h.manager }
mailed-kept v _ (manages before manager e many) h = record {
  taken = h.taken;
  manager = manages-so v.setting.me v.setting.nodes before manager many (subst (HasManager v.setting.me v.setting.nodes) e h.manager);
}
mailed-kept v _ (moves course n) h = record { taken = h.taken; manager = h.manager }
mailed-kept v _ (puts word value w) h = record { taken = h.taken; manager = h.manager }
mailed-kept v _ (closes wait w s) h = record { taken = h.taken; manager = h.manager }
mailed-kept v _ (learns time intervals o news) h = record { taken = h.taken; manager = h.manager }
mailed-kept v _ (resumes o) h = record { taken = h.taken; manager = h.manager }
mailed-kept v _ (begins before time w t c long) h = record { taken = h.taken; manager = h.manager }
mailed-kept v _ (cleans collection needs w met) h = record { taken = h.taken; manager = h.manager }
mailed-kept v _ (discards collection w) h = record { taken = h.taken; manager = h.manager }
mailed-kept v _ (misses page w lt b n) h = record { taken = h.taken; manager = h.manager }
mailed-kept v _ (mends need w met) h = record { taken = h.taken; manager = h.manager }
mailed-kept v _ (gets_changes from m r) h = record { taken = h.taken; manager = h.manager }
mailed-kept v _ (gets_page from page values s) h = record { taken = h.taken; manager = h.manager }

first_by : (me nodes : ℕ) (b : Bool) → (me == 0) ≡ b → HasManager me nodes (if b then Some (first_manager nodes) else None)
first_by me nodes true e = (e, length-zeros nodes)
first_by me nodes false e = e

pub first-manager : (me nodes : ℕ) → HasManager me nodes (if me == 0 then Some (first_manager nodes) else None)
first-manager me nodes = first_by me nodes (me == 0) refl

-- ---- how often a node has arrived

ticked : (p : Part) → p.me < length p.locks.time → entry (slice_set p.locks.time p.me (entry p.locks.time p.me + 1)) p.me ≡ entry p.locks.time p.me + 1
ticked p lt = entry-set_same p.locks.time p.me (entry p.locks.time p.me + 1) lt

pub early-kept : (p : Part) → p.me < length p.locks.time → p.episode ≤ entry p.locks.time p.me
    → (acts : Bool) (wait : Wait) (locks : Locks) (episode : ℕ) → Shift p acts wait locks episode → episode ≤ entry locks.time p.me
early-kept p lt h _ _ _ _ (plain next w n is) = h
early-kept p lt h _ _ _ _ (misses_shift w n) = h
early-kept p lt h _ _ _ _ (takes lock w n free) = omega (arith, h, ticked p lt)
early-kept p lt h _ _ _ _ (asks w n away) = omega (arith, h, ticked p lt)
early-kept p lt h _ _ _ _ (releasing lock next w n) = omega (arith, h, ticked p lt)
early-kept p lt h _ _ _ _ (arriving next w n) = omega (arith, h, ticked p lt)
early-kept p lt h _ _ _ _ (manages_shift lock from) = h
early-kept p lt h _ _ _ _ (forwarding lock asker time) = h
early-kept p lt h _ _ _ _ (grants lock time w k) = omega (arith, h, entry-joined p.locks.time time p.me)
early-kept p lt h _ _ _ _ (departing time w k) = omega (arith, h, entry-joined p.locks.time time p.me)
early-kept p lt h _ _ _ _ (collecting time w k same) = omega (arith, h, entry-joined p.locks.time time p.me)
early-kept p lt h _ _ _ _ (clean_at_once time w k same) = omega (arith, h, entry-joined p.locks.time time p.me)
early-kept p lt h _ _ _ _ (discarding collection w) = h
early-kept p lt h _ _ _ _ (accessing need w) = h
early-kept p lt h _ _ _ _ (still_misses before w) = h
early-kept p lt h _ _ _ _ (still_collects before had w same) = h
early-kept p lt h _ _ _ _ (cleaning before had w same) = h
early-kept p lt h _ _ _ _ rests = h
