-- What an act comes right before, and the tables that keep the starts, from one act to the one before.
use Rattle.std.proofs.Common.{◌≡◌, ℕ, ◌+◌, ◌<◌, ◌≤◌, ◌⊎◌, List, length, get_or, set, inl, inr, sym, subst, ◌∙◌, ap, arith, length-set, take, replicate}
use Rattle.std.specs.Prelude.{Option, None, ◌==◌, ◌&&◌}
use Rattle.std.proofs.lemmas.Bool.{cases_eq}
use Rattle.std.proofs.lemmas.List.{get_or-set_same, get_or-set_other, get_or_default, length-replicate, get_or-replicate, length-take-le}
use Rattle.std.proofs.lemmas.List.Sums.{count_by-le-length}
use Rattle.lrc_trace.specs.declared.act.Act.{Act}
use Rattle.lrc_trace.specs.declared.act.Deed.{Deed}
use Rattle.lrc_trace.specs.declared.act.Deed.TheVariants.{Acquire, Release, Arrive, Depart}
use Rattle.lrc_trace.specs.Run.{Does, is_arrive, is_depart, arrives_before, departs_before}
use Rattle.lrc_trace.specs.Order.{Precedes, program, lock, barrier}
use Rattle.lrc_trace.proofs.Positions.{Does-node, Does-deed, Does-one_node, Does-one_deed}
use Rattle.lrc_why_chains.specs.declared.starts.Start.{Start}
use Rattle.lrc_why_chains.specs.Starts.{IsBest, better}
use Rattle.lrc_why_chains.specs.Known.{IsActOf}
use Rattle.lrc_why_chains.specs.Onward.{EachBest, IsAcquireOf, IsDepartOf}
use Rattle.lrc_why_chains.proofs.Paths.{path-bound, path-some}
use Rattle.lrc_why_chains.proofs.Best.{Best-none, Best-same, Best-joined}

-- a node arrives, and departs, at most once at each position
pub arrives-bound : (run : List Act) (node n : ℕ) → n ≤ length run → arrives_before run node n ≤ n
arrives-bound run node n within =
    let few = count_by-le-length (λ (a : Act). a.node == node && is_arrive a.deed) (take n run) in
    let short = length-take-le n run within in
    omega arith

pub departs-bound : (run : List Act) (node n : ℕ) → n ≤ length run → departs_before run node n ≤ n
departs-bound run node n within =
    let few = count_by-le-length (λ (a : Act). a.node == node && is_depart a.deed) (take n run) in
    let short = length-take-le n run within in
    omega arith

-- what an act comes right before: its node's later acts, and for a release the acquires of the lock, for an arrive the
-- departs with its number
Precedes-cases : {run : List Act} {n k : ℕ} → Precedes run n k → (node : ℕ) (deed : Deed) → Does run n node deed
    → ((n + 1 ≤ k) × IsActOf run node k) ⊎ (((l : ℕ) × (deed ≡ Release l) × ((n + 1 ≤ k) × IsAcquireOf run l k))
    ⊎ ((deed ≡ Arrive) × ((n + 1 ≤ k) × IsDepartOf run (arrives_before run node n) k)))
Precedes-cases (program {b = b} lt h g) node deed here = inl (omega arith, (b, Does-node (Does-one_node h here) g))
Precedes-cases (lock {q = q} {l = l} lt h g) node deed here = inr (inl (l, Does-one_deed here h, (omega arith, (q, g))))
Precedes-cases {run} {n} {k} (barrier {q = q} lt h g e) node deed here =
    inr (inr (Does-one_deed here h, (omega arith, (q, g, sym e ∙ ap (λ m. arrives_before run m n) (Does-one_node h here)))))

module _ (run : List Act) (to n node : ℕ) (deed : Deed) (here : Does run n node deed) (own : Option Start)
    (g : IsBest run to (λ k. (n + 1 ≤ k) × IsActOf run node k) own) where
  pub from_others : ((l : ℕ) → deed ≡ Release l → ⊥) → (deed ≡ Arrive → ⊥) → IsBest run to (λ k. Precedes run n k) own
  from_others not_release not_arrive =
      Best-same run to (λ k. (n + 1 ≤ k) × IsActOf run node k) (λ k. Precedes run n k) own
      (λ k (le, (d, h)). program (omega arith) here h) (λ k p.
      elim (Precedes-cases p node deed here) [
        | inl acted ↦ acted
        | inr (inl (l, e, acquired)) ↦ absurd (not_release l e)
        | inr (inr (e, departed)) ↦ absurd (not_arrive e)
      ]) g

  pub from_release : (l : ℕ) (acquires : Option Start) → deed ≡ Release l
      → IsBest run to (λ k. (n + 1 ≤ k) × IsAcquireOf run l k) acquires → IsBest run to (λ k. Precedes run n k) (better own acquires)
  from_release l acquires is h =
      Best-same run to (λ k. ((n + 1 ≤ k) × IsActOf run node k) ⊎ ((n + 1 ≤ k) × IsAcquireOf run l k)) (λ k. Precedes run n k)
      (better own acquires) (λ k t.
      elim t [
        | inl (le, (d, a)) ↦ program (omega arith) here a
        | inr (le, (q, a)) ↦ lock (omega arith) (Does-deed is here) a
      ]) (λ k p.
      elim (Precedes-cases p node deed here) [
        | inl acted ↦ inl acted
        | inr (inl (l', e', acquired)) ↦
            let same : l' ≡ l = cc in
            inr (subst (λ (m : ℕ). (n + 1 ≤ k) × IsAcquireOf run m k) same acquired)
        | inr (inr (e', departed)) ↦ let never : ⊥ = cc in absurd never
      ]) (Best-joined run to (λ k. (n + 1 ≤ k) × IsActOf run node k) (λ k. (n + 1 ≤ k) × IsAcquireOf run l k) own acquires g h)

  pub from_arrive : (departs : Option Start) → deed ≡ Arrive
      → IsBest run to (λ k. (n + 1 ≤ k) × IsDepartOf run (arrives_before run node n) k) departs
      → IsBest run to (λ k. Precedes run n k) (better own departs)
  from_arrive departs is h =
      Best-same run to (λ k. ((n + 1 ≤ k) × IsActOf run node k) ⊎ ((n + 1 ≤ k) × IsDepartOf run (arrives_before run node n) k))
      (λ k. Precedes run n k) (better own departs) (λ k t.
      elim t [
        | inl (le, (d, a)) ↦ program (omega arith) here a
        | inr (le, (q, a, number)) ↦ barrier (omega arith) (Does-deed is here) a (sym number)
      ]) (λ k p.
      elim (Precedes-cases p node deed here) [
        | inl acted ↦ inl acted
        | inr (inl (l', e', acquired)) ↦ let never : ⊥ = cc in absurd never
        | inr (inr (e', departed)) ↦ inr departed
      ]) (Best-joined run to (λ k. (n + 1 ≤ k) × IsActOf run node k) (λ k. (n + 1 ≤ k) × IsDepartOf run (arrives_before run node n) k)
      own departs g h)

-- A table with a place for each x, for the positions where P x holds: from n + 1 on, and from n on.
module _ (run : List Act) (to n : ℕ) (P : ℕ → ℕ → Type 0) where
  same-place : (x : ℕ) (best : Option Start) → (P x n → ⊥) → IsBest run to (λ k. (n + 1 ≤ k) × P x k) best
      → IsBest run to (λ k. (n ≤ k) × P x k) best
  same-place x best fails g =
      Best-same run to (λ k. (n + 1 ≤ k) × P x k) (λ k. (n ≤ k) × P x k) best (λ k (le, h). (omega arith, h)) (λ k (le, h).
      elim (cases_eq k n) [
        | inl there ↦ absurd (fails (subst (P x) there h))
        | inr other ↦ (omega arith, h)
      ]) g

  next-place : (x : ℕ) (start best : Option Start) → P x n → IsBest run to (λ k. k ≡ n) start
      → IsBest run to (λ k. (n + 1 ≤ k) × P x k) best → IsBest run to (λ k. (n ≤ k) × P x k) (better start best)
  next-place x start best holds h g =
      Best-same run to (λ k. (k ≡ n) ⊎ ((n + 1 ≤ k) × P x k)) (λ k. (n ≤ k) × P x k) (better start best) (λ k t.
      elim t [
        | inl there ↦ (omega arith, subst (P x) (sym there) holds)
        | inr (le, p) ↦ (omega arith, p)
      ]) (λ k (le, p).
      elim (cases_eq k n) [
        | inl there ↦ inl there
        | inr other ↦ inr (omega arith, p)
      ]) (Best-joined run to (λ k. k ≡ n) (λ k. (n + 1 ≤ k) × P x k) start best h g)

  module _ (table : List (Option Start)) (old : EachBest run to (λ x k. (n + 1 ≤ k) × P x k) table) where
    -- no place changes
    pub each-same : ((x : ℕ) → P x n → ⊥) → EachBest run to (λ x k. (n ≤ k) × P x k) table
    each-same fails x h = same-place x (get_or table x None) (fails x) (old x h)

    -- one place changes
    pub each-next : (y : ℕ) (start : Option Start) → ((x : ℕ) → P x n → x ≡ y) → P y n → IsBest run to (λ k. k ≡ n) start
        → EachBest run to (λ x k. (n ≤ k) × P x k) (set table y (better start (get_or table y None)))
    each-next y start one holds g x h =
        let z = better start (get_or table y None) in
        let within : x < length table = rw (← length-set table y z) h in
        elim (cases_eq x y) [
          | inl same ↦
              let at : y < length table = subst (λ (m : ℕ). m < length table) same within in
              rw (same, get_or-set_same table y z None at) (next-place y start (get_or table y None) holds g (old y at))
          | inr other ↦ rw (get_or-set_other table y x z None other) (same-place x (get_or table x None) (λ p. other (one x p)) (old x within))
        ]

-- what is read of a table
pub read-best : (run : List Act) (to : ℕ) (these : ℕ → ℕ → Type 0) (table : List (Option Start)) (x : ℕ) (read : Option Start)
    → read ≡ get_or table x read → x < length table → EachBest run to these table → IsBest run to (these x) read
read-best run to these table x read is within each =
    let e : get_or table x None ≡ read = get_or_default table x None read within ∙ sym is in
    subst (λ (b : Option Start). IsBest run to (these x) b) e (each x within)

-- a table of nothing, behind the last position
pub each-none : (run : List Act) (to most : ℕ) (P : ℕ → ℕ → Type 0) (table : List (Option Start)) → table ≡ replicate most None
    → EachBest run to (λ x k. (to + 1 ≤ k) × P x k) table
each-none run to most P table e x within =
    let long = ap length e ∙ length-replicate most None in
    rw (e, get_or-replicate {A = Option Start} most x None None (omega arith)) (Best-none run to (λ k. (to + 1 ≤ k) × P x k) (λ k path (le, h) p.
    let bound = path-bound p in let some = path-some p in omega arith))

-- What the starts say of one position more.
module _ (run : List Act) (to n node : ℕ) (deed : Deed) (here : Does run n node deed) (start : Option Start) (h : IsBest run to (λ k. k ≡ n) start)
    (table : List (Option Start)) where
  module _ (y : ℕ) (read z : Option Start) (is : read ≡ get_or table y read) (within : y < length table) (new : z ≡ better start read) where
    written : (P : ℕ → ℕ → Type 0) → EachBest run to (λ x k. (n + 1 ≤ k) × P x k) table → ((x : ℕ) → P x n → x ≡ y) → P y n
        → EachBest run to (λ x k. (n ≤ k) × P x k) (set table y z)
    written P old one holds =
        let e : get_or table y None ≡ read = get_or_default table y None read within ∙ sym is in
        let f : better start (get_or table y None) ≡ z = ap (better start) e ∙ sym new in
        subst (λ (b : Option Start). EachBest run to (λ x k. (n ≤ k) × P x k) (set table y b)) f (each-next run to n P table old y start one holds h)

    pub nodes-next : y ≡ node → EachBest run to (λ x k. (n + 1 ≤ k) × IsActOf run x k) table
        → EachBest run to (λ x k. (n ≤ k) × IsActOf run x k) (set table y z)
    nodes-next same old = written (IsActOf run) old (λ x (d, a). Does-one_node a here ∙ sym same) (deed, Does-node (sym same) here)

    pub acquires-next : deed ≡ Acquire y → EachBest run to (λ l k. (n + 1 ≤ k) × IsAcquireOf run l k) table
        → EachBest run to (λ l k. (n ≤ k) × IsAcquireOf run l k) (set table y z)
    acquires-next e old = written (IsAcquireOf run) old (λ x (q, a). one_lock x q a) (node, Does-deed e here)
      where
        one_lock : (x q : ℕ) → Does run n q (Acquire x) → x ≡ y
        one_lock x q a = let both : Acquire x ≡ Acquire y = Does-one_deed a here ∙ e in cc

    pub departs-next : deed ≡ Depart → y ≡ departs_before run node n → EachBest run to (λ number k. (n + 1 ≤ k) × IsDepartOf run number k) table
        → EachBest run to (λ number k. (n ≤ k) × IsDepartOf run number k) (set table y z)
    departs-next e number old = written (IsDepartOf run) old (λ x (q, a, is). sym is
        ∙ ap (λ m. departs_before run m n) (Does-one_node a here) ∙ sym number) (node, Does-deed e here, sym number)

  pub acquires-same : ((l : ℕ) → deed ≡ Acquire l → ⊥) → EachBest run to (λ l k. (n + 1 ≤ k) × IsAcquireOf run l k) table
      → EachBest run to (λ l k. (n ≤ k) × IsAcquireOf run l k) table
  acquires-same not old = each-same run to n (IsAcquireOf run) table old (λ l (q, a). not l (Does-one_deed here a))

  pub departs-same : (deed ≡ Depart → ⊥) → EachBest run to (λ number k. (n + 1 ≤ k) × IsDepartOf run number k) table
      → EachBest run to (λ number k. (n ≤ k) × IsDepartOf run number k) table
  departs-same not old = each-same run to n (IsDepartOf run) table old (λ number (q, a, e). not (Does-one_deed here a))
