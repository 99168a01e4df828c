-- Acts that race: they hold no lock in common, and the earlier one's interval is past what the later one knows.
use Rattle.std.proofs.Common.{◌≡◌, ℕ, zero, suc, ◌+◌, ◌<◌, ◌≤◌, ◌⊎◌, List, length, inl, inr, refl, sym, subst, ◌∙◌, ap, arith, ◌-◌}
use Rattle.std.specs.Prelude.{IsTrue}
use Rattle.std.proofs.lemmas.Bool.{cases_eq, cases_lt}
use Rattle.lrc_trace.specs.declared.act.Act.{Act}
use Rattle.lrc_trace.specs.declared.act.Deed.{Deed}
use Rattle.lrc_trace.specs.declared.act.Deed.TheVariants.{Acquire, Release, Arrive, Read, Write}
use Rattle.lrc_trace.specs.Run.{Does}
use Rattle.lrc_trace.specs.Order.{Precedes, program, lock, barrier, HappensBefore, base, further}
use Rattle.lrc_trace.specs.Conflict.{Accesses}
use Rattle.lrc_trace.specs.Interval.{closes, interval_at}
use Rattle.lrc_trace.specs.Synchronization.{Holds, IsWellSynchronized}
use Rattle.lrc_trace.proofs.Positions.{Does-within, Does-node, Does-deed, Does-one_node}
use Rattle.lrc_trace.proofs.HappensBefore.{transitive}
use Rattle.lrc_trace.proofs.Holding.{Holds-kept, Holds-decided, Holds-until, one_holder}
use Rattle.lrc_trace.proofs.Intervals.{act_at, never_fall, next_behind_close}
use Rattle.lrc_why_chains.specs.Chains.{IsChain, step, longer}
use Rattle.lrc_why_chains.proofs.Paths.{chain-before, before-chain}

is_release : (d : Deed) (l : ℕ) → (d ≡ Release l) ⊎ (d ≡ Release l → ⊥)
is_release (Release m) l = elim (cases_eq m l) [ inl same ↦ inl (ap (λ x. Release x) same) | inr other ↦ inr (λ e. other (let same : m ≡ l = cc in same)) ]
is_release _ l = inr (λ e. let never : ⊥ = cc in never)

-- a release of the lock by the node, from i on and before n
pub record IsReleaseBetween (run : List Act) (p l i n : ℕ) : Type 0 where
  pub at : ℕ
  pub from : i ≤ at
  pub before : at < n
  pub released : Does run at p (Release l)

-- a lock that was held and is not held any more was released between
released_between : {run : List Act} (p l i d : ℕ) → i + d ≤ length run → Holds run i p l → (Holds run (i + d) p l → ⊥) → IsReleaseBetween run p l i (i + d)
released_between {run} p l i zero within holds not = absurd (not (let P : ℕ → Type 0 = λ n. Holds run n p l in let e : i ≡ i + 0 = omega arith in subst P e holds))
released_between {run} p l i (suc d) within holds not =
    elim (Holds-decided run (i + d) p l) [
      | inr earlier ↦
          let found = released_between {run = run} p l i d (omega arith) holds earlier in
          let from = found.from in
          let before = found.before in
          record { at = found.at; from = from; before = omega arith; released = found.released }
      | inl still ↦
          let (a, here) = act_at run (i + d) (omega arith) in
          let next : i + d + 1 ≡ i + suc d = omega arith in
          let gone : Holds run (i + d + 1) p l → ⊥ = λ h. not (let P : ℕ → Type 0 = λ n. Holds run n p l in subst P next h) in
          elim (cases_eq p a.node) [
            | inr other ↦ absurd (gone (Holds-kept run (i + d) a.node a.deed here p l (λ e r. other e) still))
            | inl same ↦
                elim (is_release a.deed l) [
                  | inr kept ↦ absurd (gone (Holds-kept run (i + d) a.node a.deed here p l (λ e r. kept r) still))
                  | inl r ↦ record { at = i + d; from = omega arith; before = omega arith; released = Does-node (sym same) (Does-deed r here) }
                ]
          ]
    ]

-- acts at which one lock is held are ordered
pub held_in_order : {nodes : ℕ} {run : List Act} → IsWellSynchronized nodes run → (i j p q l : ℕ) (a b : Deed) → i < j
    → Does run i p a → Does run j q b → Holds run i p l → Holds run j q l → HappensBefore run i j
held_in_order {run = run} sync i j p q l a b lt first second h g =
    elim (cases_eq p q) [
      | inl same ↦ base (program lt first (Does-node (sym same) second))
      | inr apart ↦
          elim (cases_lt g.since i) [
            | inl before ↦ absurd (apart (one_holder sync i p q l h (Holds-until g i before (omega arith))))
            | inr after ↦
                elim (cases_eq g.since i) [
                  | inl here ↦ absurd (apart (Does-one_node first (let P : ℕ → Type 0 = λ n. Does run n q (Acquire l) in subst P here g.acquired)))
                  | inr other ↦ between (g.since - i) (omega arith)
                ]
          ]
    ]
  where
    between : (d : ℕ) → i + d ≡ g.since → HappensBefore run i j
    between d e =
        let inside = Does-within g.acquired in
        let free : Holds run (i + d) p l → ⊥ = λ held. sync.acquires g.since q l g.acquired p (let P : ℕ → Type 0 = λ n. Holds run n p l in subst P e held) in
        let found = released_between {run = run} p l i d (omega arith) h free in
        let from = found.from in
        let before = found.before in
        let earlier = g.earlier in
        let handed : Precedes run found.at g.since = lock (omega arith) found.released g.acquired in
        let on : Precedes run g.since j = program earlier g.acquired second in
        elim (cases_eq i found.at) [
          | inl same ↦ further (base (let P : ℕ → Type 0 = λ n. Precedes run n g.since in subst P (sym same) handed)) on
          | inr other ↦ further (further (base (program (omega arith) first found.released)) handed) on
        ]

-- the release or arrive by which a node's act comes to another node's
pub record IsExit (run : List Act) (p k j : ℕ) : Type 0 where
  pub at : ℕ
  pub deed : Deed
  pub from : k ≤ at
  pub does : Does run at p deed
  pub closing : IsTrue (closes deed)
  pub before : HappensBefore run at j

exit : {run : List Act} {k j : ℕ} {chain : List ℕ} → IsChain run k j chain → (p q : ℕ) (a b : Deed) → Does run k p a → Does run j q b
    → (p ≡ q → ⊥) → IsExit run p k j
exit (step (program lt h g)) p q a b first second apart = absurd (apart (Does-one_node first h ∙ Does-one_node g second))
exit {k = k} (step (lock {l = l} lt h g)) p q a b first second apart = record {
  at = k;
  deed = Release l;
  from = omega arith;
  does = Does-node (Does-one_node h first) h;
  closing = refl;
  before = base (lock lt h g);
}
exit {k = k} (step (barrier lt h g e)) p q a b first second apart = record {
  at = k;
  deed = Arrive;
  from = omega arith;
  does = Does-node (Does-one_node h first) h;
  closing = refl;
  before = base (barrier lt h g e);
}
exit (longer (program lt h g) c) p q a b first second apart =
    let found = exit c p q _ b (Does-node (Does-one_node h first) g) second apart in
    let from = found.from in
    record { at = found.at; deed = found.deed; from = omega arith; does = found.does; closing = found.closing; before = found.before }
exit {k = k} (longer (lock {l = l} lt h g) c) p q a b first second apart = record {
  at = k;
  deed = Release l;
  from = omega arith;
  does = Does-node (Does-one_node h first) h;
  closing = refl;
  before = transitive (base (lock lt h g)) (chain-before c);
}
exit {k = k} (longer (barrier lt h g e) c) p q a b first second apart = record {
  at = k;
  deed = Arrive;
  from = omega arith;
  does = Does-node (Does-one_node h first) h;
  closing = refl;
  before = transitive (base (barrier lt h g e)) (chain-before c);
}

-- what is known of a node is of an earlier interval than an act of it that does not happen before
pub known_is_earlier : {run : List Act} (i j k p q : ℕ) (a b d : Deed) → i < j → Does run i p a → Does run j q b → (p ≡ q → ⊥)
    → (HappensBefore run i j → ⊥) → Does run k p d → HappensBefore run k j → interval_at run p k < interval_at run p i
known_is_earlier {run} i j k p q a b d lt first second apart unordered does known =
    let (chain, is_chain) = before-chain known in
    let out = exit is_chain p q d b does second apart in
    let from = out.from in
    elim (cases_lt out.at i) [
      | inl before ↦
          let one = never_fall run p k out.at from in
          let two = next_behind_close run p out.at out.deed out.does out.closing in
          let three = never_fall run p (out.at + 1) i (omega arith) in
          omega arith
      | inr after ↦
          elim (cases_eq i out.at) [
            | inl same ↦ absurd (unordered (let P : ℕ → Type 0 = λ n. HappensBefore run n j in subst P (sym same) out.before))
            | inr other ↦ absurd (unordered (transitive (base (program (omega arith) first out.does)) out.before))
          ]
    ]

-- an access is a deed
pub accessed : {run : List Act} {i p word : ℕ} → Accesses run i p word → (d : Deed) × Does run i p d
accessed {word = word} (inl (v, r)) = (Read word v, r)
accessed {word = word} (inr (v, w)) = (Write word v, w)
