-- The order of a prefix is that of the whole.
use Rattle.std.proofs.Common.{◌≡◌, ℕ, zero, suc, ◌<◌, ◌≤◌, List, [], ◌∷◌, ◌++◌, length, refl, sym, ◌∙◌, ap, arith}
use Rattle.std.specs.Prelude.{Some, slice_get}
use Rattle.lrc_races_trace.specs.declared.event.Event.{Event}
use Rattle.lrc_races_trace.specs.Trace.{At}
use Rattle.lrc_races_trace.specs.Cycles.{Cycles, cycles_before, after_event}
use Rattle.lrc_races_trace.specs.Order.{Precedes, program, lock, fork, join, fork_join, barrier, HappensBefore, base, further}
use Rattle.lrc_races_trace.proofs.Positions.{At-within}
use Rattle.lrc_races_trace.proofs.HappensBefore.{Precedes-forward}

slice_get-front : (xs ys : List Event) (k : ℕ) → k < length xs → slice_get (xs ++ ys) k ≡ slice_get xs k
slice_get-front [] ys k h = absurd (omega arith)
slice_get-front (x ∷ xs) ys zero h = refl
slice_get-front (x ∷ xs) ys (suc k) h = slice_get-front xs ys k (omega arith)

pub At-longer : {events : List Event} {i : ℕ} {a : Event} (more : List Event) → At events i a → At (events ++ more) i a
At-longer {events} {i} more h = record { is = slice_get-front events more i (At-within h) ∙ h.is }

pub At-shorter : {events : List Event} (more : List Event) {i : ℕ} {a : Event} → i < length events → At (events ++ more) i a → At events i a
At-shorter {events} more {i} lt h = record { is = sym (slice_get-front events more i lt) ∙ h.is }

module _ (events more : List Event) where
  cycles-prefix : (x n : ℕ) → n ≤ length events → cycles_before (events ++ more) x n ≡ cycles_before events x n
  unfolding cycles_before
  cycles-prefix x zero le = refl
  cycles-prefix x (suc n) le =
      ap (λ e. after_event x e (cycles_before (events ++ more) x n)) (slice_get-front events more n (omega arith))
      ∙ ap (λ c. after_event x (slice_get events n) c) (cycles-prefix x n (omega arith))

  Precedes-longer : {i j : ℕ} → Precedes events i j → Precedes (events ++ more) i j
  Precedes-longer (program lt a b e) = program lt (At-longer more a) (At-longer more b) e
  Precedes-longer (lock lt a b e f) = lock lt (At-longer more a) (At-longer more b) e f
  Precedes-longer (fork lt a b e) = fork lt (At-longer more a) (At-longer more b) e
  Precedes-longer (join lt a b e) = join lt (At-longer more a) (At-longer more b) e
  Precedes-longer (fork_join lt a b e f) = fork_join lt (At-longer more a) (At-longer more b) e f
  Precedes-longer {i} {j} (barrier {x = x} {a = c} {b = d} lt a b e f g) =
      let in_events = At-within b in
      let late = cycles-prefix x j (omega arith) in
      let early = cycles-prefix x i (omega arith) in
      barrier lt (At-longer more a) (At-longer more b) e f
      (ap (λ (y : Cycles). y.of d.thread) late ∙ g ∙ ap (λ (y : Cycles). Some y.current) (sym early))

  pub longer : {i j : ℕ} → HappensBefore events i j → HappensBefore (events ++ more) i j
  longer (base p) = base (Precedes-longer p)
  longer (further h p) = further (longer h) (Precedes-longer p)

  Precedes-shorter : {i j : ℕ} → j < length events → Precedes (events ++ more) i j → Precedes events i j
  Precedes-shorter {i} within (program lt a b e) = let first : i < length events = omega arith in program lt (At-shorter more first a) (At-shorter more within b) e
  Precedes-shorter {i} within (lock lt a b e f) = let first : i < length events = omega arith in lock lt (At-shorter more first a) (At-shorter more within b) e f
  Precedes-shorter {i} within (fork lt a b e) = let first : i < length events = omega arith in fork lt (At-shorter more first a) (At-shorter more within b) e
  Precedes-shorter {i} within (join lt a b e) = let first : i < length events = omega arith in join lt (At-shorter more first a) (At-shorter more within b) e
  Precedes-shorter {i} within (fork_join lt a b e f) =
      let first : i < length events = omega arith in fork_join lt (At-shorter more first a) (At-shorter more within b) e f
  Precedes-shorter {i} {j} within (barrier {x = x} {a = c} {b = d} lt a b e f g) =
      let first : i < length events = omega arith in
      let late = cycles-prefix x j (omega arith) in
      let early = cycles-prefix x i (omega arith) in
      barrier lt (At-shorter more first a) (At-shorter more within b) e f
      (ap (λ (y : Cycles). y.of d.thread) (sym late) ∙ g ∙ ap (λ (y : Cycles). Some y.current) early)

  pub shorter : {i j : ℕ} → j < length events → HappensBefore (events ++ more) i j → HappensBefore events i j
  shorter within (base p) = base (Precedes-shorter within p)
  shorter within (further {j = k} h p) =
      let lt = Precedes-forward p in
      let first : k < length events = omega arith in
      further (shorter first h) (Precedes-shorter within p)
