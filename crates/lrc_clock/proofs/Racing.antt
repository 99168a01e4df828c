-- The races of a run are those of accesses that neither time knows of.
use Rattle.std.proofs.Common.{◌≡◌, ℕ, ◌+◌, ◌<◌, ◌≤◌, ◌⊎◌, true, List, inl, inr, refl, sym, subst, ap, ◌∙◌, arith}
use Rattle.std.specs.Prelude.{◌↔◌}
use Rattle.std.proofs.lemmas.Bool.{cases_eq, cases_lt}
use Rattle.lrc_trace.specs.declared.act.Act.{Act}
use Rattle.lrc_trace.specs.declared.act.Deed.{Deed}
use Rattle.lrc_trace.specs.declared.act.Deed.TheVariants.{Read, Write}
use Rattle.lrc_trace.specs.declared.race.Race.{Race}
use Rattle.lrc_trace.specs.Run.{Does}
use Rattle.lrc_trace.specs.Order.{HappensBefore}
use Rattle.lrc_trace.specs.Conflict.{Writes, Accesses, ConflictAt, Races}
use Rattle.lrc_trace.specs.Interval.{interval_at, IsNamedRace}
use Rattle.lrc_trace.specs.Synchronization.{IsWellSynchronized, WaitsAtBarriers}
use Rattle.lrc_trace.proofs.Positions.{Does-one_node}
use Rattle.lrc_trace.proofs.HappensBefore.{forward}
use Rattle.lrc_trace.proofs.Conflicts.{symmetric}
use Rattle.lrc_time.specs.Time.{entry}
use Rattle.lrc_time.proofs.Times.{entry-set_other}
use Rattle.lrc_clock.specs.Times.{time_at, raised, stamp_at}
use Rattle.lrc_clock.specs.Keeping.{KeepsTime, leaves_time}
use Rattle.lrc_clock.specs.Races.{AreUnknown, NamesUnknown, IsSegmentOf, IsRaceOfSegments}
use Rattle.lrc_clock.proofs.Ordering.{order_to_cover, cover_to_order}
use Rattle.lrc_clock.proofs.Epochs.{same_interval_same_time, stamp_of_interval}

-- an access is an act that leaves the time as it is
pub access-does : {run : List Act} {i node word : ℕ} → Accesses run i node word → (d : Deed) × Does run i node d × (leaves_time d ≡ true)
access-does {word = word} (inl (value, h)) = (Read word value, h, refl)
access-does {word = word} (inr (value, h)) = (Write word value, h, refl)

raised-other : (time : List ℕ) (node q : ℕ) → (q ≡ node → ⊥) → entry (raised time node) q ≡ entry time q
raised-other time node q other = entry-set_other time node (entry time node + 1) q other

module _ {nodes : ℕ} {run : List Act} {times : List (List ℕ)} (keeps : KeepsTime nodes run times) (ws : IsWellSynchronized nodes run) where
  module _ (i p j q v w : ℕ) (apart : p ≡ q → ⊥) (first : Accesses run i p v) (second : Accesses run j q w) where
    pub unknown_unordered : AreUnknown run times i p j q → (HappensBefore run i j → ⊥) × (HappensBefore run j i → ⊥)
    unknown_unordered unknown =
        let (d, a, still) = access-does first in
        let (e, b, still') = access-does second in (
          λ h. let known = order_to_cover keeps ws i j p q d e apart a b h in let lt = unknown.first in omega arith,
          λ h. let known = order_to_cover keeps ws j i q p e d (λ same. apart (sym same)) b a h in let lt = unknown.second in omega arith,
        )

    pub unordered_unknown : (HappensBefore run i j → ⊥) × (HappensBefore run j i → ⊥) → AreUnknown run times i p j q
    unordered_unknown (not_before, not_after) =
        let (d, a, still) = access-does first in
        let (e, b, still') = access-does second in
        record {
          first = elim (cases_lt (entry (time_at times j) p) (interval_at run p i)) [
            | inl lt ↦ lt
            | inr known ↦ absurd (not_before (cover_to_order keeps ws i j p q d e apart a b known))
          ];
          second = elim (cases_lt (entry (time_at times i) q) (interval_at run q j)) [
            | inl lt ↦ lt
            | inr known ↦ absurd (not_after (cover_to_order keeps ws j i q p e d (λ same. apart (sym same)) b a known))
          ];
        }

  -- accesses that race are unordered both ways, as the later never happens before the earlier
  races-unordered : (i j : ℕ) → Races run i j ⊎ Races run j i → (HappensBefore run i j → ⊥) × (HappensBefore run j i → ⊥)
  races-unordered i j (inl r) = (r.unordered, λ h. let lt = forward h in let lt' = r.earlier in omega arith)
  races-unordered i j (inr r) = (λ h. let lt = forward h in let lt' = r.earlier in omega arith, r.unordered)

  unordered-races : (i p j q word : ℕ) → ConflictAt run i p j q word → (HappensBefore run i j → ⊥) × (HappensBefore run j i → ⊥)
      → Races run i j ⊎ Races run j i
  unordered-races i p j q word c (not_before, not_after) =
      elim (cases_eq i j) [
        | inl same ↦
            let (d, a, still) = access-does c.first in
            let (e, b, still') = access-does c.second in
            absurd (c.apart (Does-one_node (subst (λ k. Does run k p d) same a) b))
        | inr other ↦
            elim (cases_lt i j) [
              | inl less ↦ inl (record { earlier = less; conflict = (p, q, word, c); unordered = not_before })
              | inr le ↦ inr (record { earlier = omega arith; conflict = symmetric (p, q, word, c); unordered = not_after })
            ]
      ]

  pub named_unknown : (race : Race) → IsNamedRace run race → (i : ℕ) × (j : ℕ) × NamesUnknown run times race i j
  named_unknown race (i, j, n) =
      let c = n.conflict in (
        i,
        j,
        record {
          ascending = n.ascending;
          conflict = c;
          unknown = unordered_unknown i race.node_a j race.node_b race.word race.word c.apart c.first c.second (races-unordered i j n.races);
          interval_a = n.interval_a;
          interval_b = n.interval_b;
        },
      )

  pub unknown_named : (race : Race) → (i : ℕ) × (j : ℕ) × NamesUnknown run times race i j → IsNamedRace run race
  unknown_named race (i, j, n) =
      let c = n.conflict in (
        i,
        j,
        record {
          ascending = n.ascending;
          conflict = c;
          races = unordered-races i race.node_a j race.node_b race.word c
              (unknown_unordered i race.node_a j race.node_b race.word race.word c.apart c.first c.second n.unknown);
          interval_a = n.interval_a;
          interval_b = n.interval_b;
        },
      )

  segment_of : (i p word index : ℕ) → Accesses run i p word → index ≡ interval_at run p i → IsSegmentOf run times p index (raised (time_at times i) p)
  segment_of i p word index a same = record { position = i; word = word; access = a; interval = sym same; stamp = refl }

  pub named_of_segments : (race : Race) → IsNamedRace run race → IsRaceOfSegments run times race
  named_of_segments race h =
      let (i, j, n) = named_unknown race h in
      let c = n.conflict in
      let p = race.node_a in
      let q = race.node_b in
      let lt = n.ascending in
      let at_b = raised-other (time_at times j) q p (λ same. omega arith) in
      let at_a = raised-other (time_at times i) p q (λ same. omega arith) in
      let unknown_a = n.unknown.first in
      let unknown_b = n.unknown.second in
      let is_a = n.interval_a in
      let is_b = n.interval_b in
      record {
        ascending = lt;
        time_a = raised (time_at times i) p;
        time_b = raised (time_at times j) q;
        segment_a = segment_of i p race.word race.interval_a c.first is_a;
        segment_b = segment_of j q race.word race.interval_b c.second is_b;
        accesses = elim c.writes [
          | inl w ↦ inl ((i, w, sym is_a), (j, c.second, sym is_b))
          | inr w ↦ inr ((i, c.first, sym is_a), (j, w, sym is_b))
        ];
        unknown_a = omega arith;
        unknown_b = omega arith;
      }

  module _ (waits : WaitsAtBarriers run) where
    -- the time of a segment is that at each access of its interval, with the own entry one greater
    pub segment_time : (node index i word : ℕ) (time : List ℕ) → IsSegmentOf run times node index time → Accesses run i node word
        → interval_at run node i ≡ index → time ≡ raised (time_at times i) node
    segment_time node index i word time s a same =
        let (d, first, still) = access-does s.access in
        let (e, second, still') = access-does a in
        s.stamp ∙ ap (λ t. raised t node) (same_interval_same_time ws waits keeps s.position i node d e first still second still' (s.interval ∙ sym same))

    -- so the stamp of its interval decides what happens before an access
    pub interval_order : (i j p q c : ℕ) (d e : Deed) → (p ≡ q → ⊥) → Does run i p d → Does run j q e → leaves_time e ≡ true → j < c
        → interval_at run q j ≡ interval_at run q c → HappensBefore run i j ↔ (interval_at run p i ≤ entry (stamp_at nodes run times q c) p)
    interval_order i j p q c d e apart first second still lt same =
        let is : entry (stamp_at nodes run times q c) p ≡ entry (time_at times j) p = ap
        (λ t. entry t p) (stamp_of_interval ws waits keeps j c q e second still lt same) ∙ raised-other (time_at times j) q p apart in (
          λ h. let known = order_to_cover keeps ws i j p q d e apart first second h in omega arith,
          λ known. cover_to_order keeps ws i j p q d e apart first second (omega arith),
        )

    pub segments_named : (race : Race) → IsRaceOfSegments run times race → IsNamedRace run race
    segments_named race r =
        elim r.accesses [
          | inl ((i, w, is_a), (j, a, is_b)) ↦ named i j (inr w) a (inl w) is_a is_b
          | inr ((i, a, is_a), (j, w, is_b)) ↦ named i j a (inr w) (inr w) is_a is_b
        ]
      where
        named : (i j : ℕ) → Accesses run i race.node_a race.word → Accesses run j race.node_b race.word
            → Writes run i race.node_a race.word ⊎ Writes run j race.node_b race.word → interval_at run race.node_a i ≡ race.interval_a
            → interval_at run race.node_b j ≡ race.interval_b → IsNamedRace run race
        named i j a b writes is_a is_b =
            let p = race.node_a in
            let q = race.node_b in
            let lt = r.ascending in
            let time_a = segment_time p race.interval_a i race.word r.time_a r.segment_a a is_a in
            let time_b = segment_time q race.interval_b j race.word r.time_b r.segment_b b is_b in
            let at_b = ap (λ t. entry t p) time_b ∙ raised-other (time_at times j) q p (λ same. omega arith) in
            let at_a = ap (λ t. entry t q) time_a ∙ raised-other (time_at times i) p q (λ same. omega arith) in
            let unknown_a = r.unknown_a in
            let unknown_b = r.unknown_b in
            unknown_named race (
              i,
              j,
              record {
                ascending = lt;
                conflict = record { apart = λ same. omega arith; first = a; second = b; writes = writes };
                unknown = record { first = omega arith; second = omega arith };
                interval_a = sym is_a;
                interval_b = sym is_b;
              },
            )
