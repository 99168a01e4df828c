-- What a turn of a node does to its own entry, and whether its deed writes.
use Rattle.std.proofs.Common.{◌≡◌, ℕ, ◌+◌, ◌<◌, ◌≤◌, List, Bool, true, false, length, refl, sym, ap, subst, ◌∙◌, ◌⊎◌, inl, inr, arith}
use Rattle.std.specs.Prelude.{Option, Some, None}
use Rattle.lrc_time.specs.Time.{entry}
use Rattle.lrc_trace.specs.declared.act.Deed.{Deed}
use Rattle.lrc_exec.specs.Meaning.{Thread, Next, acquires, releases, arrives}
use Rattle.lrc_protocol.specs.Times.{next_time}
use Rattle.lrc_protocol.specs.Locks.{Locks}
use Rattle.lrc_protocol.specs.Node.{Course, deed_of, Wait, nothing, grant, departure, access, upkeep, discard}
use Rattle.lrc_order_laws.specs.Waiting.{acquiring}
use Rattle.lrc_protocol.specs.Node.{next_in}
use Rattle.lrc_order_laws.specs.Counts.{awaits_acquire}
use Rattle.lrc_order_laws.proofs.Shift.{Part, Acted, Rested, Moved, Shift, plain, misses, takes, asks, releasing, arriving, manages, forwarding, grants}
use Rattle.lrc_order_laws.proofs.Shift.{departing, collecting, clean_at_once, discarding, accessing, still_misses, still_collects, cleaning, rests}
use Rattle.lrc_order_laws.proofs.Counts.{deed_next, lock_next, ticked_entry, learned_entry}
use Rattle.lrc_reading_laws.specs.Written.{written_to}

-- the deed, if there is one, writes no word
abbrev pub WritesNone : Option Deed → Type 0
WritesNone None = Unit {0}
WritesNone (Some deed) = (word : ℕ) → written_to word deed ≡ None

-- a deed of what the text does next, or none
by_next : (c after : Course) (deed : Option Deed) (next : Next) → Acted c deed after → next_in c ≡ Some next
    → ((value word : ℕ) → written_to word (deed_of value next) ≡ None) → WritesNone deed
by_next c after deed next a e h = subst WritesNone (sym (a.deed_is ∙ deed_next a.value c next e)) (h a.value)

by_rest : (c after : Course) (deed : Option Deed) → Rested c deed after → WritesNone deed
by_rest c after deed r = subst WritesNone (sym r.deed_is) tt

-- who acquires a lock next writes nothing
pub acquires_next : (acts : Bool) (c after : Course) (deed : Option Deed) (lock : ℕ) → Moved acts c deed after → acquiring (next_in c) ≡ Some lock
    → WritesNone deed
acquires_next true c after deed lock m e =
    let next : (t : Thread) × (next_in c ≡ Some (acquires lock t)) = lock_next (next_in c) lock e in
    by_next c after deed (acquires lock next.0) m next.1 (λ value word. refl)
acquires_next false c after deed lock m e = by_rest c after deed m

-- who closed an interval that is not counted by its acts waits for a grant
pub awaits_some : (w : Wait) → 1 ≤ awaits_acquire w → (lock : ℕ) × (w ≡ grant lock)
awaits_some (grant lock) le = (lock, refl)
awaits_some nothing le = absurd (omega (arith, le))
awaits_some departure le = absurd (omega (arith, le))
awaits_some (access need) le = absurd (omega (arith, le))
awaits_some (upkeep collection needs) le = absurd (omega (arith, le))
awaits_some (discard collection) le = absurd (omega (arith, le))

-- ---- the own entry

-- it stays, or it is one greater and nothing was written
abbrev pub OwnMoves : ℕ → List ℕ → Option Deed → List ℕ → Type 0
OwnMoves me time deed after = (entry after me ≡ entry time me) ⊎ ((entry after me ≡ entry time me + 1) × WritesNone deed)

module _ (p : Part) (within : p.me < length p.locks.time) where
  closes : (after : List ℕ) (deed : Option Deed) → after ≡ next_time p.me p.locks.time → WritesNone deed → OwnMoves p.me p.locks.time deed after
  closes after deed e none = inr (ap (λ t. entry t p.me) e ∙ ticked_entry p.me p.locks.time within, none)

  pub own_moves : (acts : Bool) (wait : Wait) (locks : Locks) (episode : ℕ) (deed : Option Deed) (after : Course)
      → Shift p acts wait locks episode → Moved acts p.course deed after → OwnMoves p.me p.locks.time deed locks.time
  own_moves _ _ _ _ deed after (takes lock w n free) m = closes _ deed refl (acquires_next true p.course after deed lock m n)
  own_moves _ _ _ _ deed after (asks {lock = lock} w n away) m = closes _ deed refl (by_rest p.course after deed m)
  own_moves _ _ _ _ deed after (releasing lock next w n) m =
      closes _ deed refl (by_next p.course after deed (releases lock next) m n (λ value word. refl))
  own_moves _ _ _ _ deed after (arriving next w n) m = closes _ deed refl (by_next p.course after deed (arrives next) m n (λ value word. refl))
  own_moves _ _ _ _ deed after (plain next w n is) m = inl refl
  own_moves _ _ _ _ deed after (misses w n) m = inl refl
  own_moves _ _ _ _ deed after (manages lock from) m = inl refl
  own_moves _ _ _ _ deed after (forwarding lock asker time) m = inl refl
  own_moves _ _ _ _ deed after (grants lock time w l) m = inl (learned_entry p time l)
  own_moves _ _ _ _ deed after (departing time w l) m = inl (learned_entry p time l)
  own_moves _ _ _ _ deed after (collecting time w l same) m = inl (learned_entry p time l)
  own_moves _ _ _ _ deed after (clean_at_once time w l same) m = inl (learned_entry p time l)
  own_moves _ _ _ _ deed after (discarding collection w) m = inl refl
  own_moves _ _ _ _ deed after (accessing need w) m = inl refl
  own_moves _ _ _ _ deed after (still_misses before w) m = inl refl
  own_moves _ _ _ _ deed after (still_collects before had w same) m = inl refl
  own_moves _ _ _ _ deed after (cleaning before had w same) m = inl refl
  own_moves _ _ _ _ deed after rests m = inl refl
