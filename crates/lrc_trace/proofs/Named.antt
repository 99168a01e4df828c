-- A run is race free exactly where it names no race.
use Rattle.std.proofs.Common.{ℕ, List, inl, inr, refl}
use Rattle.std.proofs.lemmas.Bool.{cases_order}
use Rattle.lrc_trace.specs.declared.act.Act.{Act}
use Rattle.lrc_trace.specs.declared.race.Race.{Race}
use Rattle.lrc_trace.specs.Conflict.{Races, IsRaceFree}
use Rattle.lrc_trace.specs.Interval.{interval_at, IsNamedRace}
use Rattle.lrc_trace.proofs.Conflicts.{ConflictAt-symmetric}

module _ (run : List Act) where
  -- the name of a race between these two nodes' positions
  name_of : (word p q i j : ℕ) → Race
  name_of word p q i j = record { word = word; node_a = p; node_b = q; interval_a = interval_at run p i; interval_b = interval_at run q j }

  -- a race has a name, its lower node first
  pub named : {i j : ℕ} → Races run i j → (race : Race) × IsNamedRace run race
  unfolding name_of
  named {i} {j} r =
      let (p, q, word, c) = r.conflict in
      elim (cases_order p q) [
        | inl same ↦ absurd (c.apart same)
        | inr (inl lower) ↦
            (name_of word p q i j, (i, j, record { ascending = lower; conflict = c; races = inl r; interval_a = refl; interval_b = refl }))
        | inr (inr higher) ↦ (
          name_of word q p j i,
          (j, i, record { ascending = higher; conflict = ConflictAt-symmetric c; races = inr r; interval_a = refl; interval_b = refl }),
        )
      ]

  pub free-where_unnamed : ((race : Race) → ¬ IsNamedRace run race) → IsRaceFree run
  free-where_unnamed none i j r = let (race, is) = named r in none race is

  pub unnamed-where_free : IsRaceFree run → (race : Race) → ¬ IsNamedRace run race
  unnamed-where_free free race (i, j, n) = elim n.races [ inl r ↦ free i j r | inr r ↦ free j i r ]
