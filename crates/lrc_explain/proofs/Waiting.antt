-- For whom a node is said to wait, and who is said to keep it back.
use Rattle.std.proofs.Common.{◌≡◌, ◌∙◌, ◌↔◌, ◌⊎◌, ◌<◌, ◌+◌, ℕ, inl, inr, Bool, true, false}
use Rattle.std.proofs.Common.{Contains, List, [], ◌∷◌, Option, Some, None, length, refl, sym, ap, subst, arith}
use Rattle.std.specs.Prelude.{◌==◌, ◌&&◌, not, nat_lt, slice_index_or}
use Rattle.std.specs.List.{range_with_len}
use Rattle.std.proofs.lemmas.Bool.{and_from, and_parts, cases_eq, cases_lt, eqb-false}
use Rattle.std.proofs.lemmas.Bool.{false_from_ne_true, lt-ltb, ltb-true, ne_eqb, not-true, not_from_false}
use Rattle.std.proofs.lemmas.List.Concat.{flat_map_single}
use Rattle.std.proofs.lemmas.List.FromFn.{get_or-map-range_with_len}
use Rattle.std.proofs.lemmas.Option.{same_Some}
use Rattle.lrc_program.specs.declared.Program.{Program}
use Rattle.lrc_trace.specs.declared.act.Act.{Act}
use Rattle.lrc_trace.specs.declared.act.Deed.TheVariants as deeds
use Rattle.lrc_trace.specs.Run.{act_of, count_of, is_arrive, is_depart}
use Rattle.lrc_trace.specs.Synchronization.{Holds, IsWellSynchronized, MayGoOn}
use Rattle.lrc_exec.specs.declared.machine.Ask.{Ask}
use Rattle.lrc_exec.specs.declared.machine.Ask.TheVariants as asks
use Rattle.lrc_lines.specs.Walks.{act_lines}
use Rattle.lrc_explain_waits.specs.declared.holder.Holder.{Holder}
use Rattle.lrc_explain_waits.specs.declared.missing.Missing.{Missing}
use Rattle.lrc_explain_waits.specs.declared.stand.Coming.{Coming}
use Rattle.lrc_explain_waits.specs.declared.stand.Fate.{Fate}
use Rattle.lrc_explain_waits.specs.declared.stand.Fate.TheVariants.{Ended, Trapped, Unfinished}
use Rattle.lrc_explain_waits.specs.declared.stand.Stand.{Stand}
use Rattle.lrc_explain_waits.specs.Circle.{WaitsFor}
use Rattle.lrc_explain_waits.specs.Circles.{waits_as, waits_by, waits_for, waits_next, waits_of}
use Rattle.lrc_explain_waits.specs.Holder.{holder_of}
use Rattle.lrc_explain_waits.specs.Missing.{first_of, has_not_come, missing_if, missing_nodes}
use Rattle.lrc_explain_waits.specs.Stand.{ask_behind, fate_of, stand_of, stands_of}
use Rattle.lrc_explain.specs.Waiting.{AwaitsHolder, AwaitsLowest, IsMissing, IsNext, KeepsBack, arrives_in, departs_in}
use Rattle.lrc_explain.proofs.Among.{among, each_range, first_is, is_first, those, within}
use Rattle.lrc_explain.proofs.Fates.{unfinished_is}
use Rattle.lrc_explain.proofs.Held.{holds_whole, told_whole}
use Rattle.lrc_explain.proofs.Spent.{all_acts, coming_if, left_is, spent_for}

-- ---- a node after acts

-- whether a node has not come to the next barrier of another one
abbrev late : List Act → (node other : ℕ) → Bool
late run node other = not (other == node) && nat_lt (count_of is_arrive other run) (departs_in run node + 1)

late_is : (run : List Act) (node other : ℕ) → (late run node other ≡ true) ↔ KeepsBack run node other
late_is run node other =
    let arrived = ap (count_of is_arrive other) (all_acts run) in (
      (λ e.
          let (apart, few) = and_parts (not (other == node)) (nat_lt (count_of is_arrive other run) (departs_in run node + 1)) e in
          let lt = ltb-true (count_of is_arrive other run) (departs_in run node + 1) few in
          record { another = eqb-false other node (not-true (other == node) apart); late = omega (arith, arrived, lt) }),
      λ back.
          let le = back.late in
          and_from (not (other == node)) (nat_lt (count_of is_arrive other run) (departs_in run node + 1))
          (not_from_false (other == node) (ne_eqb other node back.another))
          (lt-ltb (count_of is_arrive other run) (departs_in run node + 1) (omega (arith, arrived, le))),
    )

module _ (program : Program) (nodes : ℕ) (lines : List ℕ) (steps : Option ℕ) (run : List Act) where
  abbrev stands : List Stand
  stands = stands_of program nodes lines steps run

  abbrev at : ℕ → Stand
  at = stand_of program nodes lines steps run

  missing_are : (node : ℕ) → missing_nodes (departs_in run node + 1) node stands ≡ those (late run node) at 0 nodes
  missing_are node =
      each_range (λ k stand. missing_if (has_not_come (departs_in run node + 1) node k stand) k stand) at 0 nodes

  pub missing_is : (node : ℕ) (missing : Missing)
      → Contains (missing_nodes (departs_in run node + 1) node stands) missing ↔ IsMissing nodes run node missing
  missing_is node missing = (
    (λ inside.
        let m = among (late run node) at 0 nodes missing (subst (λ l. Contains l missing) (missing_are node) inside) in
        let high = m.high in
        record { inside = omega arith; back = (late_is run node missing.node).0 m.passes; fate = m.fate }),
    λ m.
        let inside = m.inside in
        subst (λ l. Contains l missing) (sym (missing_are node))
        (within (late run node) at 0 nodes missing
        (record { low = omega arith; high = omega arith; passes = (late_is run node missing.node).1 m.back; fate = m.fate })),
  )

  -- it may depart where it has arrived and nobody keeps it back
  free : (node : ℕ) → missing_nodes (departs_in run node + 1) node stands ≡ [] → (other : ℕ) → other < nodes → KeepsBack run node other → ⊥
  free node none other inside back =
      let one : Missing = record { node = other; fate = fate_of other run } in
      let m : Contains (missing_nodes (departs_in run node + 1) node stands) one =
      (missing_is node one).1 (record { inside = inside; back = back; fate = refl }) in
      let (i, lt, is) = subst (λ l. Contains l one) none m in
      absurd (omega (arith, lt))

  nobody : (node : ℕ) (missing : List Missing) → ((m : Missing) → Contains missing m → KeepsBack run node m.node)
      → ((other : ℕ) → other < nodes → KeepsBack run node other → ⊥) → ((m : Missing) → Contains missing m → m.node < nodes) → missing ≡ []
  nobody node [] back none inside = refl
  nobody node (m ∷ more) back none inside =
      let first : Contains (m ∷ more) m = (0, omega arith, refl) in absurd (none m.node (inside m first) (back m first))

  pub may_depart : (node : ℕ) → node < nodes
      → ((missing_nodes (departs_in run node + 1) node stands ≡ []) × (departs_in run node < arrives_in run node))
      ↔ MayGoOn nodes run (act_of node deeds.Depart)
  may_depart node inside = (
    (λ can.
        record {
          acquires = λ l e. let never : ⊥ = cc in absurd never;
          releases = λ l e. let never : ⊥ = cc in absurd never;
          departs = λ _ other within'.
              elim (cases_eq other node) [
                | inl same ↦ subst (λ k. departs_in run node < arrives_in run k) (sym same) can.1
                | inr another ↦
                    elim (cases_lt (departs_in run node) (arrives_in run other)) [
                      | inl lt ↦ lt
                      | inr le ↦ absurd (free node can.0 other within' (record { another = another; late = le }))
                    ]
              ];
        }),
    λ goes. (
      nobody node (missing_nodes (departs_in run node + 1) node stands)
          (λ m has. ((missing_is node m).0 has).back)
          (λ other within' back. let lt = goes.departs refl other within' in let le = back.late in absurd (omega (arith, lt, le)))
          (λ m has. ((missing_is node m).0 has).inside),
      goes.departs refl node inside,
    ),
  )

  -- ---- for whom it waits

  waits_are : (node : ℕ) → node < nodes → slice_index_or (waits_of stands) node None ≡ waits_by stands node (at node)
  waits_are node inside =
      ap (λ (l : List (Option ℕ)). slice_index_or l node None)
      (each_range (λ me stand. waits_by stands me stand ∷ []) at 0 nodes
      ∙ flat_map_single (λ k. waits_by stands k (at k)) (range_with_len 0 nodes))
      ∙ get_or-map-range_with_len (λ k. waits_by stands k (at k)) 0 nodes node node None inside (omega arith)

  -- the lowest node that keeps another back
  number_is : (node : ℕ) → count_of is_depart node run + 1 ≡ departs_in run node + 1
  number_is node = ap (λ (acts : List Act). count_of is_depart node acts + 1) (sym (all_acts run))

  record Lowest (node other : ℕ) : Type 0 where
    back : KeepsBack run node other
    lowest : (lower : ℕ) → lower < other → KeepsBack run node lower → ⊥

  first_back : (node other : ℕ) → first_of (missing_nodes (count_of is_depart node run + 1) node stands) ≡ Some other → Lowest node other
  first_back node other is =
      let found = ap (λ number. first_of (missing_nodes number node stands)) (sym (number_is node)) ∙ is in
      let f = first_is (late run node) at 0 nodes other (ap first_of (sym (missing_are node)) ∙ found) in
      record {
        back = (late_is run node other).0 f.passes;
        lowest = λ lower lt back.
            let no' = f.before lower (omega arith) lt in
            let yes' = (late_is run node lower).1 back in
            let never : ⊥ = cc in never;
      }

  back_first : (node other : ℕ) → other < nodes → Lowest node other
      → first_of (missing_nodes (count_of is_depart node run + 1) node stands) ≡ Some other
  back_first node other inside l =
      ap (λ number. first_of (missing_nodes number node stands)) (number_is node) ∙ ap first_of (missing_are node)
      ∙ is_first (late run node) at 0 nodes other (record {
        low = omega arith;
        high = omega arith;
        passes = (late_is run node other).1 l.back;
        before = λ k _ lt. false_from_ne_true (late run node k) (λ e. l.lowest k lt ((late_is run node k).0 e));
      })

  -- who holds a lock
  held_of : (lock other : ℕ) → IsWellSynchronized nodes run → (holder : Option Holder)
      → holder_of lock run (act_lines program nodes lines run) ≡ holder
      → waits_for holder ≡ Some other → Holds run (length run) other lock
  held_of lock other synchronized None is w = let never : ⊥ = cc in absurd never
  held_of lock other synchronized (Some holder) is w =
      subst (λ k. Holds run (length run) k lock) (same_Some holder.node other w)
      (holds_whole nodes run (act_lines program nodes lines run) lock holder synchronized is)

  module _ (node other : ℕ) (synchronized : IsWellSynchronized nodes run) where
    abbrev Awaits : Type 0
    Awaits = AwaitsHolder program nodes lines steps run node other ⊎ AwaitsLowest program nodes lines steps run node other

    abbrev coming_at : Bool → Ask → Coming
    coming_at spent ask = coming_if spent (count_of is_depart node run) run (act_lines program nodes lines run) ask

    unfinished_waits : (fate : Fate) (next : Option ℕ) → waits_as fate next ≡ Some other → (fate ≡ Unfinished) × (next ≡ Some other)
    unfinished_waits Unfinished next is = (refl, is)
    unfinished_waits Ended next is = let never : ⊥ = cc in absurd never
    unfinished_waits (Trapped cause) next is = let never : ⊥ = cc in absurd never

    awaits_by : (ask : Ask) → IsNext program nodes lines steps run node ask
        → waits_next stands node (coming_at false ask) ≡ Some other → Awaits
    awaits_by (asks.Acquire lock) next is =
        inl (record {
          lock = lock;
          next = next;
          held = held_of lock other synchronized (holder_of lock run (act_lines program nodes lines run)) refl is;
        })
    awaits_by asks.Barrier next is =
        let low = first_back node other is in inr (record { next = next; back = low.back; lowest = low.lowest })
    awaits_by ask next is = let never : ⊥ = cc in absurd never

    awaits_if : (spent : Bool) (ask : Ask) → (spent ≡ false → IsNext program nodes lines steps run node ask)
        → waits_next stands node (coming_at spent ask) ≡ Some other → Awaits
    awaits_if true ask next is = let never : ⊥ = cc in absurd never
    awaits_if false ask next is = awaits_by ask (next refl) is

    awaits_of : node < nodes → WaitsFor (waits_of stands) node other → Awaits
    awaits_of inside w =
        let ask = ask_behind program nodes lines run node in
        let (fate, next) =
        unfinished_waits (fate_of node run) (waits_next stands node (at node).coming) (sym (waits_are node inside) ∙ w) in
        awaits_if (spent_for steps run node ask) ask
        (λ e. record { unfinished = (unfinished_is run node).0 fate; asked = refl; left = (left_is steps run node ask).0 e }) next

    -- what comes next, as it is told
    next_told : (ask : Ask) → IsNext program nodes lines steps run node ask
        → waits_by stands node (at node) ≡ waits_next stands node (coming_at false ask)
    next_told ask next =
        ap (λ fate. waits_as fate (waits_next stands node (at node).coming)) ((unfinished_is run node).1 next.unfinished)
        ∙ ap (λ a. waits_next stands node (coming_at (spent_for steps run node a) a)) next.asked
        ∙ ap (λ b. waits_next stands node (coming_at b ask)) ((left_is steps run node ask).1 next.left)

    told_of : node < nodes → other < nodes → Awaits → WaitsFor (waits_of stands) node other
    told_of inside within' (inl w) =
        waits_are node inside ∙ next_told (asks.Acquire w.lock) w.next
        ∙ ap waits_for (told_whole nodes run (act_lines program nodes lines run) w.lock other synchronized w.held)
    told_of inside within' (inr w) =
        waits_are node inside ∙ next_told asks.Barrier w.next
        ∙ back_first node other within' (record { back = w.back; lowest = w.lowest })

    pub waits_is : node < nodes → other < nodes → WaitsFor (waits_of stands) node other ↔ Awaits
    waits_is inside within' = (awaits_of inside, told_of inside within')
