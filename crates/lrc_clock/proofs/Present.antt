-- The time of a node, a lock and a barrier, as of a position: where it is taken from, when it stands still, and that it knows
-- of no interval that is open there.
use Rattle.std.proofs.Common.{◌≡◌, ℕ, zero, suc, ◌+◌, ◌<◌, ◌≤◌, ◌⊎◌, true, false, List, length, inl, inr, refl, sym, ap, ◌∙◌, arith}
use Rattle.std.proofs.lemmas.Bool.{cases_Bool, cases_eq, cases_lt, cond-false, false≢true}
use Rattle.lrc_trace.specs.declared.act.Act.{Act}
use Rattle.lrc_trace.specs.declared.act.Deed.{Deed}
use Rattle.lrc_trace.specs.declared.act.Deed.TheVariants.{Release, Arrive, Depart}
use Rattle.lrc_trace.specs.Run.{Does, is_arrive, is_depart, arrives_before}
use Rattle.lrc_trace.specs.Interval.{closes, interval_at}
use Rattle.lrc_trace.specs.Synchronization.{IsWellSynchronized, WaitsAtBarriers}
use Rattle.lrc_trace.proofs.Positions.{Does-within}
use Rattle.lrc_trace.proofs.HappensBefore.{Reaches-forward}
use Rattle.lrc_trace.proofs.Intervals.{count_of-rises, count_of-more, numbered_arrive, numbered_depart}
use Rattle.lrc_time.specs.Time.{zeros, entry, Covers, joined}
use Rattle.lrc_time.proofs.Times.{entry-joined, covers-trans}
use Rattle.lrc_clock.specs.Times.{time_at, acts_at, releases_at, arrives_at, time_before, released_time, arrived_time}
use Rattle.lrc_clock.specs.Keeping.{KeepsTime}
use Rattle.lrc_clock.specs.Cover.{ClosesAt, IsClosedBefore, IsClosedAtArrive}
use Rattle.lrc_clock.proofs.Passing.{acts_at-true, acts_at-act, releases_at-true, releases_at-act, arrives_at-act}
use Rattle.lrc_clock.proofs.Lasting.{last-is, last-stays, last-entry, join-entry}
use Rattle.lrc_clock.proofs.Counting.{own_entry, entry_bound, entry_before_bound}
use Rattle.lrc_clock.proofs.Covering.{sound, closing-entry, sound-before, complete-before, program-covers}
use Rattle.lrc_clock.proofs.Learning.{sound-arrived, complete-arrived, arrived-covers, arrived-least}

-- a closing act is no depart
stays : (d : Deed) → closes d ≡ true → is_depart d ≡ false
stays Depart h = absurd (false≢true h)
stays _ h = refl

module _ (nodes : ℕ) (run : List Act) (times : List (List ℕ)) where
  -- a node's time before a position is that at its last position before, or zeros
  pub before-is : (i j node : ℕ) (deed : Deed) → i < j → Does run i node deed → ((k : ℕ) (d : Deed) → i < k → k < j → Does run k node d → ⊥)
      → time_before nodes run times node j ≡ time_at times i
  before-is i j node deed lt h none =
      last-is nodes (acts_at run node) times i j lt (acts_at-true run i node deed h) (λ k least most holds.
      let (d, does) = acts_at-act run k node holds in none k d least most does)

  pub before-none : (j node : ℕ) → ((k : ℕ) (d : Deed) → k < j → Does run k node d → ⊥) → time_before nodes run times node j ≡ zeros nodes
  before-none j node none =
      last-stays nodes (acts_at run node) times 0 j (omega arith) (λ k least most holds.
      let (d, does) = acts_at-act run k node holds in none k d most does)

  -- and that of a lock is that at its last release
  pub released-is : (i j p l : ℕ) → i < j → Does run i p (Release l) → ((k q : ℕ) → i < k → k < j → Does run k q (Release l) → ⊥)
      → released_time nodes run times l j ≡ time_at times i
  released-is i j p l lt h none =
      last-is nodes (releases_at run l) times i j lt (releases_at-true run i p l h) (λ k least most holds.
      let (q, does) = releases_at-act run k l holds in none k q least most does)

  pub released-none : (j l : ℕ) → ((k q : ℕ) → k < j → Does run k q (Release l) → ⊥) → released_time nodes run times l j ≡ zeros nodes
  released-none j l none =
      last-stays nodes (releases_at run l) times 0 j (omega arith) (λ k least most holds.
      let (q, does) = releases_at-act run k l holds in none k q most does)

  join-step : (number j : ℕ) → ((p : ℕ) → Does run j p Arrive → arrives_before run p j ≡ number → ⊥)
      → arrived_time nodes run times number (suc j) ≡ arrived_time nodes run times number j
  join-step number j none =
      elim (cases_Bool (arrives_at run number j)) [
        | inr fails ↦ cond-false (arrives_at run number j) (joined (arrived_time nodes run times number j) (time_at times j))
            (arrived_time nodes run times number j) fails
        | inl holds ↦ let (p, does, same) = arrives_at-act run j number holds in absurd (none p does same)
      ]

module _ {nodes : ℕ} {run : List Act} {times : List (List ℕ)} (keeps : KeepsTime nodes run times) where
  -- once every node has made its arrive with a number, the time of that barrier is settled
  pub arrived-settled : (number i j : ℕ) → i ≤ j → ((p : ℕ) → p < nodes → number < arrives_before run p i)
      → arrived_time nodes run times number j ≡ arrived_time nodes run times number i
  arrived-settled number i zero le all = let e : 0 ≡ i = omega arith in ap (λ k. arrived_time nodes run times number k) e
  arrived-settled number i (suc j) le all =
      elim (cases_eq i (suc j)) [
        | inl same ↦ ap (λ k. arrived_time nodes run times number k) (sym same)
        | inr other ↦
            join-step nodes run times number j (λ p does same.
            let few = all p (keeps.in_range j p Arrive does) in
            let rises = count_of-rises is_arrive run p i j (omega arith) in omega arith)
            ∙ arrived-settled number i j (omega arith) all
      ]

  -- the times of barriers rise
  pub barriers_rise : (number j : ℕ) → j ≤ length run → ((p : ℕ) → p < nodes → number + 1 < arrives_before run p j)
      → Covers (arrived_time nodes run times (number + 1) j) (arrived_time nodes run times number j)
  barriers_rise number j within all =
      arrived-least keeps (arrived_time nodes run times (number + 1) j) j number (λ i p lt does same.
      let (m, less, does', same') = numbered_arrive run p j (number + 1) within (all p (keeps.in_range i p Arrive does)) in
      let later : i < m = elim (cases_lt i m) [
        | inl before ↦ before
        | inr le ↦ let fall = count_of-rises is_arrive run p m i le in absurd {A = i < m} (omega arith)
      ] in
      covers-trans (arrived_time nodes run times (number + 1) j) (time_at times m) (time_at times i)
      (arrived-covers keeps m j p (number + 1) less does' same')
      (program-covers keeps i m p Arrive Arrive later does does'))

  -- no time knows of an interval that is open at its position or later
  pub open_at : (j m node : ℕ) (deed : Deed) (q : ℕ) → j < m → Does run j node deed → entry (time_at times j) q < interval_at run q m
  open_at j m node deed q lt h =
      let bound = entry_bound keeps j node deed h q in
      let rises = count_of-rises closes run q (j + 1) m (omega arith) in
      omega arith

  pub open_before : (j m node q : ℕ) → j ≤ m → entry (time_before nodes run times node j) q < interval_at run q m
  open_before j m node q le =
      let bound = entry_before_bound keeps j node q in
      let rises = count_of-rises closes run q j m le in
      omega arith

  pub open_released : (j m l q : ℕ) → j ≤ m → entry (released_time nodes run times l j) q < interval_at run q m
  open_released j m l q le =
      last-entry nodes (releases_at run l) times (λ e. e < interval_at run q m) q j (omega arith) (λ i lt holds.
      let (p, does) = releases_at-act run i l holds in open_at i m p (Release l) q (omega arith) does)

  pub open_arrived : (j m number q : ℕ) → j ≤ m → entry (arrived_time nodes run times number j) q < interval_at run q m
  open_arrived j m number q le =
      join-entry nodes (arrives_at run number) times (λ e. e < interval_at run q m) q j (omega arith) (λ i lt holds.
      let (p, does, same) = arrives_at-act run i number holds in open_at i m p Arrive q (omega arith) does)

  module _ (ws : IsWellSynchronized nodes run) where
    -- a node that has taken the time of a barrier, and has not departed yet
    pub meeting-sound : (j node number q k : ℕ) → 1 ≤ k → k ≤ entry (joined (time_before nodes run times node j) (arrived_time nodes run times number j)) q
        → IsClosedBefore run q k node j ⊎ IsClosedAtArrive run q k number j
    meeting-sound j node number q k some known =
        let is = entry-joined (time_before nodes run times node j) (arrived_time nodes run times number j) q in
        elim (cases_lt (entry (time_before nodes run times node j) q) k) [
          | inr own ↦ inl (sound-before keeps j node q k some own)
          | inl less ↦ inr (sound-arrived keeps j number q k some (omega arith))
        ]

    pub meeting-complete : (j node number q k : ℕ) → IsClosedBefore run q k node j ⊎ IsClosedAtArrive run q k number j
        → k ≤ entry (joined (time_before nodes run times node j) (arrived_time nodes run times number j)) q
    meeting-complete j node number q k (inl h) =
        let is = entry-joined (time_before nodes run times node j) (arrived_time nodes run times number j) q in
        let known = complete-before keeps ws j node q k h in omega arith
    meeting-complete j node number q k (inr h) =
        let is = entry-joined (time_before nodes run times node j) (arrived_time nodes run times number j) q in
        let known = complete-arrived keeps ws j number q k h in omega arith

    module _ (waits : WaitsAtBarriers run) where
      -- nobody knows more of a node at an arrive than the node at its own arrive with that number
      knows_no_more : (a i p q number : ℕ) → Does run a q Arrive → arrives_before run q a ≡ number → Does run i p Arrive → arrives_before run p i ≡ number
          → (k c : ℕ) → 1 ≤ k → ClosesAt run q k c → c ≤ i → k ≤ entry (time_at times a) q
      knows_no_more a i p q number arrives same arrives' same' k c some closer le =
          elim (cases_lt a c) [
            | inr before ↦
                let own = own_entry keeps a q Arrive arrives in
                let here = own_entry keeps c q closer.deed closer.does in
                let is = closing-entry keeps q k c closer in
                let rises = count_of-rises closes run q (c + 1) (a + 1) (omega arith) in
                omega arith
            | inl after ↦
                let within = Does-within closer.does in
                let more = count_of-more is_arrive run q a Arrive arrives refl in
                let rises = count_of-rises is_arrive run q (a + 1) c (omega arith) in
                let few = waits.departed c q closer.deed closer.does (stays closer.deed closer.closing) in
                let (d, earlier, departs, count) = numbered_depart run q c number (omega arith) (omega arith) in
                let all = ws.departs d q departs p (keeps.in_range i p Arrive arrives') in
                let back : d ≤ i = omega arith in
                let fall = count_of-rises is_arrive run p d i back in
                absurd (omega arith)
          ]

      -- so the time of a barrier has for each node what the node knew of itself at its arrive
      pub barrier-own : (j number a q : ℕ) → a < j → Does run a q Arrive → arrives_before run q a ≡ number
          → entry (arrived_time nodes run times number j) q ≡ entry (time_at times a) q
      barrier-own j number a q lt arrives same =
          let least = arrived-covers keeps a j q number lt arrives same q in
          let most : entry (arrived_time nodes run times number j) q ≤ entry (time_at times a) q =
          join-entry nodes (arrives_at run number) times (λ e. e ≤ entry (time_at times a) q) q j (omega arith) (λ i less holds.
          let (p, arrives', same') = arrives_at-act run i number holds in
          elim (cases_lt 0 (entry (time_at times i) q)) [
            | inr none ↦ omega arith
            | inl some ↦
                let (c, closer, reaches) = sound keeps i p Arrive q (entry (time_at times i) q) arrives' some (omega arith) in
                knows_no_more a i p q number arrives same arrives' same' (entry (time_at times i) q) c some closer (Reaches-forward run reaches)
          ]) in
          omega arith
