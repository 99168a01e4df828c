-- Intervals, holders, races and what may be read, on a prefix of a run and by one act more.
use Rattle.std.proofs.Common.{◌≡◌, ℕ, false, ◌+◌, ◌<◌, ◌≤◌, ◌⊎◌, List, [], ◌∷◌, ◌++◌, ◌∙◌, length, inl, inr, sym, subst, ap, arith}
use Rattle.std.proofs.lemmas.List.{take-append-le}
use Rattle.lrc_trace.specs.declared.act.Act.{Act}
use Rattle.lrc_trace.specs.declared.act.Deed.TheVariants.{Read}
use Rattle.lrc_trace.specs.Run.{is_depart, count_of, arrives_before, departs_before}
use Rattle.lrc_trace.specs.Conflict.{Writes, Accesses, Races}
use Rattle.lrc_trace.specs.Reading.{WrittenBefore, AreOrdered, MayRead, ReadsLazily}
use Rattle.lrc_trace.specs.Interval.{closes, interval_at}
use Rattle.lrc_trace.specs.Synchronization.{Holds, IsWellSynchronized, WaitsAtBarriers, MayGoOn}
use Rattle.lrc_trace.proofs.Positions.{Does-within, Does-longer, Does-shorter, Does-deed, Does-last, Does-cases, arrives_before-prefix, departs_before-prefix}
use Rattle.lrc_trace.proofs.HappensBefore.{forward, longer, shorter}

module _ (run more : List Act) where
  pub interval_at-prefix : (node i : ℕ) → i ≤ length run → interval_at (run ++ more) node i ≡ interval_at run node i
  interval_at-prefix node i le = ap (λ xs. 1 + count_of closes node xs) (take-append-le i run more le)

  pub Holds-longer : {n q l : ℕ} → n ≤ length run → Holds run n q l → Holds (run ++ more) n q l
  Holds-longer le h = record {
    since = h.since;
    earlier = h.earlier;
    acquired = Does-longer more h.acquired;
    kept = λ k after before r. h.kept k after before (Does-shorter more (omega arith) r);
  }

  pub Holds-shorter : {n q l : ℕ} → n ≤ length run → Holds (run ++ more) n q l → Holds run n q l
  Holds-shorter le h =
      let lt = h.earlier in
      record {
        since = h.since;
        earlier = lt;
        acquired = Does-shorter more (omega arith) h.acquired;
        kept = λ k after before r. h.kept k after before (Does-longer more r);
      }

  Accesses-longer : {i p w : ℕ} → Accesses run i p w → Accesses (run ++ more) i p w
  Accesses-longer (inl (v, h)) = inl (v, Does-longer more h)
  Accesses-longer (inr (v, h)) = inr (v, Does-longer more h)

  Accesses-shorter : {i p w : ℕ} → i < length run → Accesses (run ++ more) i p w → Accesses run i p w
  Accesses-shorter lt (inl (v, h)) = inl (v, Does-shorter more lt h)
  Accesses-shorter lt (inr (v, h)) = inr (v, Does-shorter more lt h)

  pub Races-longer : {i j : ℕ} → j < length run → Races run i j → Races (run ++ more) i j
  Races-longer {i} {j} lt r =
      let (p, q, w, c) = r.conflict in
      let writes : Writes (run ++ more) i p w ⊎ Writes (run ++ more) j q w =
      elim c.writes [ inl (v, h) ↦ inl (v, Does-longer more h) | inr (v, h) ↦ inr (v, Does-longer more h) ] in
      record {
        earlier = r.earlier;
        conflict = (p, q, w, record { apart = c.apart; first = Accesses-longer c.first; second = Accesses-longer c.second; writes = writes });
        unordered = λ h. r.unordered (shorter run more lt h);
      }

  pub Races-shorter : {i j : ℕ} → j < length run → Races (run ++ more) i j → Races run i j
  Races-shorter {i} {j} lt r =
      let (p, q, w, c) = r.conflict in
      let before = r.earlier in
      let lt' : i < length run = omega arith in
      let writes : Writes run i p w ⊎ Writes run j q w =
      elim c.writes [ inl (v, h) ↦ inl (v, Does-shorter more lt' h) | inr (v, h) ↦ inr (v, Does-shorter more lt h) ] in
      record {
        earlier = before;
        conflict = (p, q, w, record { apart = c.apart; first = Accesses-shorter lt' c.first; second = Accesses-shorter lt c.second; writes = writes });
        unordered = λ h. r.unordered (longer run more h);
      }

  -- the writes that happen before a position of the prefix
  WrittenBefore-longer : {j word i v : ℕ} → WrittenBefore run j word i v → WrittenBefore (run ++ more) j word i v
  WrittenBefore-longer h = let (p, w) = h.write in record { write = (p, Does-longer more w); before = longer run more h.before }

  module _ {j word : ℕ} (lt : j < length run) where
    WrittenBefore-shorter : {i v : ℕ} → WrittenBefore (run ++ more) j word i v → WrittenBefore run j word i v
    WrittenBefore-shorter {i} h =
        let before = shorter run more lt h.before in
        let less = forward before in
        let (p, w) = h.write in
        record { write = (p, Does-shorter more (omega arith) w); before = before }

    AreOrdered-longer : AreOrdered run j word → AreOrdered (run ++ more) j word
    AreOrdered-longer ordered i k u v a b less = longer run more (ordered i k u v (WrittenBefore-shorter a) (WrittenBefore-shorter b) less)

    AreOrdered-shorter : AreOrdered (run ++ more) j word → AreOrdered run j word
    AreOrdered-shorter ordered i k u v a b less =
        let before = forward b.before in
        shorter run more (omega arith) (ordered i k u v (WrittenBefore-longer a) (WrittenBefore-longer b) less)

    pub MayRead-longer : {value : ℕ} → MayRead run j word value → MayRead (run ++ more) j word value
    MayRead-longer m = record {
      weak = elim m.weak [ inl zero ↦ inl zero | inr (i, h) ↦ inr (i, WrittenBefore-longer h) ];
      strong = λ ordered.
          let latest = m.strong (AreOrdered-shorter ordered) in
          record {
            none = λ none. latest.none (λ i v h. none i v (WrittenBefore-longer h));
            last = λ i v h. latest.last i v (record { written = WrittenBefore-shorter h.written; last = λ k u g. h.last k u (WrittenBefore-longer g) });
          };
    }

    pub MayRead-shorter : {value : ℕ} → MayRead (run ++ more) j word value → MayRead run j word value
    MayRead-shorter m = record {
      weak = elim m.weak [ inl zero ↦ inl zero | inr (i, h) ↦ inr (i, WrittenBefore-shorter h) ];
      strong = λ ordered.
          let latest = m.strong (AreOrdered-longer ordered) in
          record {
            none = λ none. latest.none (λ i v h. none i v (WrittenBefore-shorter h));
            last = λ i v h. latest.last i v (record { written = WrittenBefore-longer h.written; last = λ k u g. h.last k u (WrittenBefore-shorter g) });
          };
    }

  pub IsWellSynchronized-shorter : (nodes : ℕ) → IsWellSynchronized nodes (run ++ more) → IsWellSynchronized nodes run
  IsWellSynchronized-shorter nodes ws = record {
    acquires = λ j node l d other h. let lt = Does-within d in ws.acquires j node l (Does-longer more d) other (Holds-longer (omega arith) h);
    releases = λ j node l d. let lt = Does-within d in Holds-shorter (omega arith) (ws.releases j node l (Does-longer more d));
    departs = λ j node d other less.
        let lt = Does-within d in
        let arrives = arrives_before-prefix run more other j (omega arith) in
        let departs = departs_before-prefix run more node j (omega arith) in
        let above = ws.departs j node (Does-longer more d) other less in omega arith;
  }

  pub ReadsLazily-shorter : ReadsLazily (run ++ more) → ReadsLazily run
  ReadsLazily-shorter lazily j word value (p, h) = MayRead-shorter (Does-within h) (lazily j word value (p, Does-longer more h))

-- one act more
module _ (run : List Act) (act : Act) where
  abbrev longer_run : List Act
  longer_run = run ++ act ∷ []

  pub IsWellSynchronized-more : (nodes : ℕ) → IsWellSynchronized nodes run → MayGoOn nodes run act → IsWellSynchronized nodes longer_run
  IsWellSynchronized-more nodes ws go = record {
    acquires = λ j node l d other h.
        elim (Does-cases d) [
          | inl (lt, d') ↦ ws.acquires j node l d' other (Holds-shorter run (act ∷ []) (omega arith) h)
          | inr (here, own, is) ↦
              go.acquires l is other (Holds-shorter run (act ∷ []) (omega arith) (subst (λ k. Holds longer_run k other l) here h))
        ];
    releases = λ j node l d.
        elim (Does-cases d) [
          | inl (lt, d') ↦ Holds-longer run (act ∷ []) (omega arith) (ws.releases j node l d')
          | inr (here, own, is) ↦
              subst (λ k. Holds longer_run k node l) (sym here)
              (subst (λ p. Holds longer_run (length run) p l) own (Holds-longer run (act ∷ []) (omega arith) (go.releases l is)))
        ];
    departs = λ j node d other less.
        elim (Does-cases d) [
          | inl (lt, d') ↦
              let arrives = arrives_before-prefix run (act ∷ []) other j (omega arith) in
              let departs = departs_before-prefix run (act ∷ []) node j (omega arith) in
              let above = ws.departs j node d' other less in omega arith
          | inr (here, own, is) ↦
              let arrives = arrives_before-prefix run (act ∷ []) other (length run) (omega arith) in
              let departs = departs_before-prefix run (act ∷ []) act.node (length run) (omega arith) in
              let above = go.departs is other less in
              subst (λ k. departs_before longer_run node k < arrives_before longer_run other k) (sym here)
              (subst (λ p. departs_before longer_run p (length run) < arrives_before longer_run other (length run)) own (omega arith))
        ];
  }

  pub MayGoOn-last : (nodes : ℕ) → IsWellSynchronized nodes longer_run → MayGoOn nodes run act
  MayGoOn-last nodes ws =
      let last = Does-last run act in
      record {
        acquires = λ l is other h. ws.acquires (length run) act.node l (Does-deed is last) other (Holds-longer run (act ∷ []) (omega arith) h);
        releases = λ l is. Holds-shorter run (act ∷ []) (omega arith) (ws.releases (length run) act.node l (Does-deed is last));
        departs = λ is other less.
            let arrives = arrives_before-prefix run (act ∷ []) other (length run) (omega arith) in
            let departs = departs_before-prefix run (act ∷ []) act.node (length run) (omega arith) in
            let above = ws.departs (length run) act.node (Does-deed is last) other less in omega arith;
      }

  pub ReadsLazily-more : ReadsLazily run → ((word value : ℕ) → act.deed ≡ Read word value → MayRead longer_run (length run) word value)
      → ReadsLazily longer_run
  ReadsLazily-more lazily may j word value (p, h) =
      elim (Does-cases h) [
        | inl (lt, h') ↦ MayRead-longer run (act ∷ []) lt (lazily j word value (p, h'))
        | inr (here, own, is) ↦ subst (λ k. MayRead longer_run k word value) (sym here) (may word value is)
      ]

  pub MayRead-last : ReadsLazily longer_run → (word value : ℕ) → act.deed ≡ Read word value → MayRead longer_run (length run) word value
  MayRead-last lazily word value is = lazily (length run) word value (act.node, Does-deed is (Does-last run act))

  pub WaitsAtBarriers-more : WaitsAtBarriers run → (is_depart act.deed ≡ false
      → arrives_before run act.node (length run) ≤ departs_before run act.node (length run))
      → WaitsAtBarriers longer_run
  WaitsAtBarriers-more waits last = record {
    departed = λ j node d h other.
        elim (Does-cases h) [
          | inl (lt, h') ↦
              let arrives = arrives_before-prefix run (act ∷ []) node j (omega arith) in
              let departs = departs_before-prefix run (act ∷ []) node j (omega arith) in
              let few = waits.departed j node d h' other in omega arith
          | inr (here, own, is) ↦
              let arrives = arrives_before-prefix run (act ∷ []) act.node (length run) (omega arith) in
              let departs = departs_before-prefix run (act ∷ []) act.node (length run) (omega arith) in
              let few = last (ap is_depart is ∙ other) in
              subst (λ k. arrives_before longer_run node k ≤ departs_before longer_run node k) (sym here)
              (subst (λ p. arrives_before longer_run p (length run) ≤ departs_before longer_run p (length run)) own (omega arith))
        ];
  }

  pub WaitsAtBarriers-shorter : WaitsAtBarriers longer_run → WaitsAtBarriers run
  WaitsAtBarriers-shorter waits = record {
    departed = λ j node d h other.
        let lt = Does-within h in
        let arrives = arrives_before-prefix run (act ∷ []) node j (omega arith) in
        let departs = departs_before-prefix run (act ∷ []) node j (omega arith) in
        let few = waits.departed j node d (Does-longer (act ∷ []) h) other in omega arith;
  }

  pub WaitsAtBarriers-last : WaitsAtBarriers longer_run → is_depart act.deed ≡ false
      → arrives_before run act.node (length run) ≤ departs_before run act.node (length run)
  WaitsAtBarriers-last waits other =
      let arrives = arrives_before-prefix run (act ∷ []) act.node (length run) (omega arith) in
      let departs = departs_before-prefix run (act ∷ []) act.node (length run) (omega arith) in
      let few = waits.departed (length run) act.node act.deed (Does-last run act) other in omega arith
