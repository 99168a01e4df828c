-- A node's time is that of its last act, but for what it waits for.
use Rattle.std.proofs.Common.{◌≡◌, ℕ, ◌≤◌, List, [], ◌∷◌, ◌++◌, Bool, length, map, refl, sym, ap, subst, ◌∙◌, arith, append-nil}
use Rattle.std.specs.Prelude.{Option, Some, None, ◌==◌, option_map}
use Rattle.std.specs.Option.{option_to_list}
use Rattle.std.proofs.lemmas.Bool.{eq-eqb, ne_eqb}
use Rattle.std.proofs.lemmas.List.{get_or_push, length_push}
use Rattle.lrc_trace.specs.declared.act.Act.{Act}
use Rattle.lrc_trace.specs.declared.act.Deed.{Deed}
use Rattle.lrc_trace.specs.Run.{act_of}
use Rattle.lrc_trace.proofs.Positions.{slice_get-seam}
use Rattle.lrc_time.specs.Time.{joined}
use Rattle.lrc_clock.specs.Times.{is_act, acts_at, raised, time_before}
use Rattle.lrc_clock.proofs.Lasting.{last-here, last-not_here}
use Rattle.lrc_clock.proofs.Prefixes.{time_before-prefix}
use Rattle.lrc_exec.specs.Meaning.{Thread, Next, acquires, releases, arrives, departs}
use Rattle.lrc_protocol.specs.Locks.{Locks}
use Rattle.lrc_protocol.specs.Node.{Course, deed_of, Wait, nothing, grant, departure, access, upkeep, discard}
use Rattle.lrc_order_laws.specs.Waiting.{FixesNext}
use Rattle.lrc_protocol.specs.Node.{next_in}
use Rattle.lrc_order_laws.specs.Present.{IsPresent}
use Rattle.lrc_order_laws.proofs.Shift.{Part, Acted, Rested, Moved, Shift, plain, misses, takes, asks, releasing, arriving, manages, forwarding, grants}
use Rattle.lrc_order_laws.proofs.Shift.{departing, collecting, clean_at_once, discarding, accessing, still_misses, still_collects, cleaning, rests}
use Rattle.lrc_order_laws.proofs.Counts.{deed_next, lock_next, departure_next, access_next}

-- ---- the time at a node's last act, by one act more or none

-- the acts with one more of a node, if it makes one, and their times
abbrev pub more_acts : ℕ → Option Deed → List Act
more_acts n deed = option_to_list (option_map (act_of n) deed)

abbrev pub more_times : ℕ → List ℕ → Option Deed → List (List ℕ)
more_times n time deed = map (λ (act : Act). time) (more_acts n deed)

-- the time at the last act afterwards
abbrev pub last_after : Option Deed → List ℕ → List ℕ → List ℕ
last_after None last time = last
last_after (Some deed) last time = time

module _ (nodes : ℕ) (acts : List Act) (times : List (List ℕ)) (timed : length times ≡ length acts) (n : ℕ) (time : List ℕ) where
  last_of : ℕ → List Act → List (List ℕ) → List ℕ
  last_of m acts times = time_before nodes acts times m (length acts)

  nothing_more : (m : ℕ) → last_of m (acts ++ []) (times ++ []) ≡ last_of m acts times
  nothing_more m = ap (λ acts. last_of m acts (times ++ [])) (append-nil acts) ∙ ap (last_of m acts) (append-nil times)

  pub last_own : (deed : Option Deed) → time_before nodes (acts ++ more_acts n deed) (times ++ more_times n time deed) n (length (acts ++ more_acts n deed))
      ≡ last_after deed (time_before nodes acts times n (length acts)) time
  unfolding last_of
  last_own None = nothing_more n
  last_own (Some d) =
      let acts' : List Act = acts ++ act_of n d ∷ [] in
      let times' : List (List ℕ) = times ++ time ∷ [] in
      ap (time_before nodes acts' times' n) (length_push acts (act_of n d))
      ∙ last-here nodes (acts_at acts' n) times' (length acts)
      (ap (is_act (λ a. a.node == n)) (slice_get-seam acts (act_of n d) []) ∙ eq-eqb n n refl)
      ∙ get_or_push times time [] (length acts) timed

  pub last_other : (m : ℕ) → (n ≡ m → ⊥) → (deed : Option Deed)
      → time_before nodes (acts ++ more_acts n deed) (times ++ more_times n time deed) m (length (acts ++ more_acts n deed))
      ≡ time_before nodes acts times m (length acts)
  unfolding last_of
  last_other m ne None = nothing_more m
  last_other m ne (Some d) =
      let acts' : List Act = acts ++ act_of n d ∷ [] in
      let times' : List (List ℕ) = times ++ time ∷ [] in
      let within : length acts ≤ length acts = omega arith in
      ap (time_before nodes acts' times' m) (length_push acts (act_of n d))
      ∙ last-not_here nodes (acts_at acts' m) times' (length acts)
      (ap (is_act (λ a. a.node == m)) (slice_get-seam acts (act_of n d) []) ∙ ne_eqb n m ne)
      ∙ time_before-prefix acts (act_of n d ∷ []) times (time ∷ []) timed nodes m (length acts) within

-- ---- every turn

module _ (p : Part) (fits : FixesNext p.wait (next_in p.course)) (last : List ℕ) (present : IsPresent p.me p.wait last p.locks.time) where
  now : (w : Wait) → p.wait ≡ w → IsPresent p.me w last p.locks.time
  now w e = subst (λ w. IsPresent p.me w last p.locks.time) e present

  next_then : (w : Wait) → p.wait ≡ w → FixesNext w (next_in p.course)
  next_then w e = subst (λ w. FixesNext w (next_in p.course)) e fits

  -- no act is made
  rested : (wait : Wait) (time : List ℕ) (deed : Option Deed) (after : Course) → Rested p.course deed after
      → IsPresent p.me wait last time → IsPresent p.me wait (last_after deed last time) time
  rested wait time deed after m i = subst (λ deed. IsPresent p.me wait (last_after deed last time) time) (sym m.deed_is) i

  -- an act is made, and nothing is awaited, or a departure
  deed_is : (deed : Option Deed) (after : Course) (next : Next) → (m : Acted p.course deed after) → next_in p.course ≡ Some next
      → deed ≡ Some (deed_of m.value next)
  deed_is deed after next m n = m.deed_is ∙ deed_next m.value p.course next n

  acted : (time : List ℕ) (deed : Option Deed) (after : Course) (next : Next) → Acted p.course deed after → next_in p.course ≡ Some next
      → IsPresent p.me nothing (last_after deed last time) time
  acted time deed after next m n = subst (λ deed. IsPresent p.me nothing (last_after deed last time) time) (sym (deed_is deed after next m n)) refl

  pub present-kept : (acts : Bool) (wait : Wait) (locks : Locks) (episode : ℕ) (deed : Option Deed) (after : Course)
      → Shift p acts wait locks episode → Moved acts p.course deed after → IsPresent p.me wait (last_after deed last locks.time) locks.time
  present-kept _ _ locks _ deed after (plain next w n is) m = acted locks.time deed after next m n
  present-kept _ _ locks _ deed after (misses {need = need} w n) m = rested (access need) locks.time deed after m (now nothing w)
  present-kept _ _ locks _ deed after (takes lock w n free) m =
      let next : (x : Thread) × (next_in p.course ≡ Some (acquires lock x)) = lock_next (next_in p.course) lock n in
      acted locks.time deed after (acquires lock next.0) m next.1
  present-kept _ _ locks _ deed after (asks {lock = lock} w n away) m =
      rested (grant lock) locks.time deed after m (ap (λ t. raised t p.me) (now nothing w))
  present-kept _ _ locks _ deed after (releasing lock next w n) m = acted locks.time deed after (releases lock next) m n
  present-kept _ _ locks _ deed after (arriving next w n) m = acted locks.time deed after (arrives next) m n
  present-kept _ _ locks _ deed after (manages lock from) m = rested p.wait locks.time deed after m present
  present-kept _ _ locks _ deed after (forwarding lock asker time) m = rested p.wait locks.time deed after m present
  present-kept _ _ locks _ deed after (grants lock time w k) m =
      let next : (x : Thread) × (next_in p.course ≡ Some (acquires lock x)) = lock_next (next_in p.course) lock (next_then (grant lock) w) in
      acted locks.time deed after (acquires lock next.0) m next.1
  present-kept _ _ locks _ deed after (departing time w k) m =
      let next : (x : Thread) × (next_in p.course ≡ Some (departs x)) = departure_next (next_in p.course) (next_then departure w) in
      acted locks.time deed after (departs next.0) m next.1
  present-kept _ _ locks _ deed after (collecting time {collection = c} {needs = ns} w k same) m =
      rested (upkeep c ns) locks.time deed after m (ap (λ t. joined t time) (now departure w) ∙ ap (joined last) (sym same))
  present-kept _ _ locks _ deed after (clean_at_once time {collection = c} w k same) m =
      rested (discard c) locks.time deed after m (ap (λ t. joined t time) (now departure w) ∙ ap (joined last) (sym same))
  present-kept _ _ locks _ deed after (discarding collection w) m =
      let next : (x : Thread) × (next_in p.course ≡ Some (departs x)) = departure_next (next_in p.course) (next_then (discard collection) w) in
      acted locks.time deed after (departs next.0) m next.1
  present-kept _ _ locks _ deed after (accessing need w) m =
      let next : _ = access_next (next_in p.course) (next_then (access need) w) in
      acted locks.time deed after next.0 m next.1.0
  present-kept _ _ locks _ deed after (still_misses before {need = need} w) m = rested (access need) locks.time deed after m (now (access before) w)
  present-kept _ _ locks _ deed after (still_collects before had {collection = c} {needs = ns} w same) m =
      rested (upkeep c ns) locks.time deed after m (now (upkeep before had) w ∙ ap (joined last) (sym same))
  present-kept _ _ locks _ deed after (cleaning before had {collection = c} w same) m =
      rested (discard c) locks.time deed after m (now (upkeep before had) w ∙ ap (joined last) (sym same))
  present-kept _ _ locks _ deed after rests m = rested p.wait locks.time deed after m present
