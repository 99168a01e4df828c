-- An act happens before one of another node exactly where the other's time covers its interval.
use Rattle.std.proofs.Common.{◌≡◌, ℕ, ◌+◌, ◌≤◌, ◌⊎◌, true, List, inl, inr, refl, subst, arith}
use Rattle.std.proofs.lemmas.Bool.{cases_eq, cases_lt}
use Rattle.lrc_trace.specs.declared.act.Act.{Act}
use Rattle.lrc_trace.specs.declared.act.Deed.{Deed}
use Rattle.lrc_trace.specs.declared.act.Deed.TheVariants.{Release, Arrive}
use Rattle.lrc_trace.specs.Run.{Does}
use Rattle.lrc_trace.specs.Order.{Precedes, program, lock, barrier, HappensBefore, base, further, Reaches}
use Rattle.lrc_trace.specs.Interval.{closes, interval_at}
use Rattle.lrc_trace.specs.Synchronization.{IsWellSynchronized}
use Rattle.lrc_trace.proofs.Positions.{Does-node, Does-one_node, Does-within}
use Rattle.lrc_trace.proofs.HappensBefore.{Reaches-extends}
use Rattle.lrc_trace.proofs.Intervals.{count_of-more, never_fall, closed_between}
use Rattle.lrc_time.specs.Time.{entry}
use Rattle.lrc_clock.specs.Times.{time_at}
use Rattle.lrc_clock.specs.Keeping.{KeepsTime}
use Rattle.lrc_clock.specs.Cover.{ClosesAt, IsClosedBy}
use Rattle.lrc_clock.proofs.Covering.{sound, complete}

module _ (run : List Act) where
  -- a closing act ends its interval
  pub next_interval : (q k c : ℕ) → ClosesAt run q k c → interval_at run q (c + 1) ≡ k + 1
  next_interval q k c closer =
      let more = count_of-more closes run q c closer.deed closer.does closer.closing in
      let index = closer.interval in
      omega arith

  -- an interval is closed at one position alone
  pub closed_once : (q k c e : ℕ) → ClosesAt run q k c → ClosesAt run q k e → c ≡ e
  closed_once q k c e a b =
      elim (cases_lt c e) [
        | inl less ↦
            let next = next_interval q k c a in
            let rise = never_fall run q (c + 1) e (omega arith) in
            let index = b.interval in absurd (omega arith)
        | inr le ↦
            elim (cases_lt e c) [
              | inl less ↦
                  let next = next_interval q k e b in
                  let rise = never_fall run q (e + 1) c (omega arith) in
                  let index = a.interval in absurd (omega arith)
              | inr le' ↦ omega arith
            ]
      ]

  -- where a closing act of the node stands from i on, i's interval is closed there or before
  pub closer_from : (i m node : ℕ) (e : Deed) → i ≤ m → Does run m node e → closes e ≡ true
      → (c : ℕ) × (i ≤ c) × (c ≤ m) × ClosesAt run node (interval_at run node i) c
  closer_from i m node e le h closing =
      let within = Does-within h in
      let more = count_of-more closes run node m e h closing in
      let rise = never_fall run node i m le in
      let (c, least, most, (d, does, ends, index)) = closed_between run node i (m + 1) (interval_at run node i) (omega arith) (omega arith) (omega arith)
      (omega arith) in
      (c, least, omega arith, record { deed = d; does = does; closing = ends; interval = index })

  -- a node's own acts reach its later ones
  pub own_reaches : (c m node : ℕ) (d e : Deed) → c ≤ m → Does run c node d → Does run m node e → Reaches run c m
  own_reaches c m node d e le a b =
      elim (cases_eq c m) [
        | inl same ↦ inl same
        | inr other ↦ inr (base (program (omega arith) a b))
      ]

  module _ (i p : ℕ) (d : Deed) (first : Does run i p d) where
    -- a position that i reaches is its node's own, or i's interval is closed where it is reached
    Crosses : ℕ → Type 0
    Crosses m = ((e : Deed) × Does run m p e × (i ≤ m)) ⊎ IsClosedBy run p (interval_at run p i) m

    leaves : (m j : ℕ) (e : Deed) → i ≤ m → Does run m p e → closes e ≡ true → Precedes run m j → IsClosedBy run p (interval_at run p i) j
    leaves m j e le h closing prec =
        let (c, least, most, closer) = closer_from i m p e le h closing in
        (c, closer, inr (Reaches-extends run (own_reaches c m p closer.deed e most closer.does h) (base prec)))

    step : (m j : ℕ) → Precedes run m j → Crosses m → Crosses j
    unfolding Crosses
    step m j prec (inr (c, closer, reaches)) = inr (c, closer, inr (Reaches-extends run reaches (base prec)))
    step m j (program {b = b} lt x y) (inl (e, h, le)) = inl (b, Does-node (Does-one_node x h) y, omega arith)
    step m j (lock {l = l} lt x y) (inl (e, h, le)) = inr (leaves m j (Release l) le (Does-node (Does-one_node x h) x) refl (lock lt x y))
    step m j (barrier lt x y number) (inl (e, h, le)) = inr (leaves m j Arrive le (Does-node (Does-one_node x h) x) refl (barrier lt x y number))

    crosses : {j : ℕ} → HappensBefore run i j → Crosses j
    unfolding Crosses
    crosses {j} (base prec) = step i j prec (inl (d, first, omega arith))
    crosses {j} (further {j = m} h prec) = step m j prec (crosses h)

    pub crossing : (j q : ℕ) (e : Deed) → Does run j q e → (p ≡ q → ⊥) → HappensBefore run i j → IsClosedBy run p (interval_at run p i) j
    unfolding Crosses
    crossing j q e second apart h = elim (crosses h) [
      | inl (x, own, le) ↦ absurd (apart (Does-one_node own second))
      | inr closed ↦ closed
    ]

    -- an act before or at the closing act of its interval happens before what that is before
    pub before_closer : (c : ℕ) → ClosesAt run p (interval_at run p i) c → i ≤ c
    before_closer c closer =
        elim (cases_lt c i) [
          | inr le ↦ le
          | inl less ↦
              let next = next_interval p (interval_at run p i) c closer in
              let rise = never_fall run p (c + 1) i (omega arith) in
              absurd (omega arith)
        ]

    pub through_closer : (c j : ℕ) → ClosesAt run p (interval_at run p i) c → HappensBefore run c j → HappensBefore run i j
    through_closer c j closer h = Reaches-extends run (own_reaches i c p d closer.deed (before_closer c closer) first closer.does) h

module _ {nodes : ℕ} {run : List Act} {times : List (List ℕ)} (keeps : KeepsTime nodes run times) (ws : IsWellSynchronized nodes run) where
  pub order_to_cover : (i j p q : ℕ) (d e : Deed) → (p ≡ q → ⊥) → Does run i p d → Does run j q e → HappensBefore run i j
      → interval_at run p i ≤ entry (time_at times j) p
  order_to_cover i j p q d e apart first second h = complete keeps ws j p (interval_at run p i) (crossing run i p d first j q e second apart h)

  pub cover_to_order : (i j p q : ℕ) (d e : Deed) → (p ≡ q → ⊥) → Does run i p d → Does run j q e → interval_at run p i ≤ entry (time_at times j) p
      → HappensBefore run i j
  cover_to_order i j p q d e apart first second known =
      let (c, closer, reaches) = sound keeps j q e p (interval_at run p i) second (omega arith) known in
      elim reaches [
        | inl same ↦ absurd (apart (Does-one_node (subst (λ m. Does run m p closer.deed) same closer.does) second))
        | inr h ↦ through_closer run i p d first c j closer h
      ]
