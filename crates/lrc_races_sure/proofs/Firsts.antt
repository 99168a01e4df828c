-- Where something led to an event that does not happen before it, two earlier accesses race.
use Rattle.std.proofs.Common.{◌≡◌, ℕ, zero, suc, ◌<◌, ◌≤◌, ◌⊎◌, List, inl, inr, sym, subst, arith}
use Rattle.std.proofs.lemmas.Bool.{cases_eq, cases_lt}
use Rattle.lrc_races_trace.specs.declared.event.Event.{Event}
use Rattle.lrc_races_trace.specs.declared.event.Pair.{Pair}
use Rattle.lrc_races_trace.specs.Trace.{At}
use Rattle.lrc_races_trace.specs.Order.{HappensBefore, base, program}
use Rattle.lrc_races_trace.specs.Races.{Conflict, Races, IsTold}
use Rattle.lrc_races_trace.proofs.Positions.{At-one}
use Rattle.lrc_races_trace.proofs.HappensBefore.{forward, transitive}
use Rattle.lrc_races_sure.specs.Leading.{LeadsOn, ordered, read, LeadsTo, one, more, IsByWay}
use Rattle.lrc_races_sure.specs.Sure.{IsSureRace, IsSureTold}
use Rattle.lrc_races_sure.proofs.Leading.{on-forward, to-ordered, way-ordered, way-led}
use Rattle.lrc_races_sure.proofs.Deciding.{decide_before, decide_way}

module _ (events : List Event) where
  -- two accesses race, of which the later is below n
  record HasRace (n : ℕ) : Type 0 where
    earlier : ℕ
    later : ℕ
    below : later < n
    race : Races events earlier later

  raised : (m n : ℕ) → m ≤ n → HasRace m → HasRace n
  raised m n le h = let lt = h.below in record { earlier = h.earlier; later = h.later; below = omega arith; race = h.race }

  -- a step of what was read is one of happens before, or its ends race
  step_races : {i j : ℕ} → LeadsOn events i j → HappensBefore events i j ⊎ HasRace (suc j)
  step_races (ordered p) = inl (base p)
  step_races {i} {j} (read {variable = v} {b = b} at reads last) =
      elim (cases_eq last.write.thread b.thread) [
        | inl same ↦ inl (base (program last.before last.at at same))
        | inr apart ↦
            elim (decide_before events i j) [
              | inl before ↦ inl before
              | inr unordered ↦ inr (record {
                earlier = i;
                later = j;
                below = omega arith;
                race = record {
                  a = last.write;
                  b = b;
                  earlier = last.before;
                  first = last.at;
                  second = at;
                  conflict = record { variable = v; apart = apart; first = inr last.writes; second = inl reads; writes = inl last.writes };
                  unordered = unordered;
                };
              })
            ]
      ]

  led_races : {i j : ℕ} → LeadsTo events i j → HappensBefore events i j ⊎ HasRace (suc j)
  led_races (one s) = step_races s
  led_races {j = k} (more {j = m} h s) =
      let lt = on-forward s in
      elim (led_races h) [
        | inr race ↦ inr (raised (suc m) (suc k) (omega arith) race)
        | inl before ↦ elim (step_races s) [ inl next ↦ inl (transitive before next) | inr race ↦ inr race ]
      ]

  way_races : {i j : ℕ} → IsByWay events i j → HappensBefore events i j ⊎ HasRace j
  way_races {i} {j} w =
      let lt = forward w.before in
      elim w.leads [
        | inl same ↦ inl (subst (λ m. HappensBefore events m j) (sym same) w.before)
        | inr led ↦
            elim (led_races led) [
              | inl before ↦ inl (transitive before w.before)
              | inr race ↦ inr (raised (suc w.through) j (omega arith) race)
            ]
      ]

  made_sure : {i j : ℕ} → Races events i j → (IsByWay events i j → ⊥) → IsSureRace events i j
  made_sure r free = record {
    a = r.a;
    b = r.b;
    earlier = r.earlier;
    first = r.first;
    second = r.second;
    conflict = r.conflict;
    free = free;
  }

  pub sure-race : (i j : ℕ) → IsSureRace events i j → Races events i j
  sure-race i j r = record {
    a = r.a;
    b = r.b;
    earlier = r.earlier;
    first = r.first;
    second = r.second;
    conflict = r.conflict;
    unordered = λ h. r.free (way-ordered h);
  }

  pub first_sure : (i j : ℕ) → Races events i j → ((k l : ℕ) → l < j → Races events k l → ⊥) → IsSureRace events i j
  first_sure i j r none =
      made_sure r (λ w. elim (way_races w) [
        | inl before ↦ r.unordered before
        | inr race ↦ none race.earlier race.later race.below race.race
      ])

  pub some_sure : (fuel i j : ℕ) → j ≤ fuel → Races events i j → (k : ℕ) × (l : ℕ) × IsSureRace events k l × (l ≤ j)
  some_sure zero i j le r = let lt = r.earlier in absurd (omega arith)
  some_sure (suc fuel) i j le r =
      elim (decide_way events i j) [
        | inr free ↦ (i, j, made_sure r free, omega arith)
        | inl w ↦
            elim (way_races w) [
              | inl before ↦ absurd (r.unordered before)
              | inr race ↦
                  let lt = race.below in
                  let (k, l, sure, less) = some_sure fuel race.earlier race.later (omega arith) race.race in
                  (k, l, sure, omega arith)
            ]
      ]

  pub later_sure : (i k j : ℕ) (a c b : Event) → IsSureRace events i j → At events i a → At events k c → At events j b → i < k → k < j
      → c.thread ≡ a.thread → Conflict c b → IsSureRace events k j
  later_sure i k j a c b r at there here lt below same conflict = record {
    a = c;
    b = b;
    earlier = below;
    first = there;
    second = here;
    conflict = conflict;
    free = λ w. r.free (way-led (to-ordered (base (program lt at there (sym same)))) w);
  }

  pub sure_told : (pair : Pair) → IsSureTold events pair → IsTold events pair
  sure_told pair told = record {
    first = told.first;
    second = told.second;
    races = sure-race pair.earlier.position pair.later.position told.sure;
    last = λ k c at of r.
        elim (cases_lt pair.earlier.position k) [
          | inr le ↦ le
          | inl later ↦
              told.last k c at of (later_sure pair.earlier.position k pair.later.position pair.earlier.event c r.b told.sure told.first at r.second
              later r.earlier of (subst (λ x. Conflict x r.b) (At-one r.first at) r.conflict))
        ];
  }
