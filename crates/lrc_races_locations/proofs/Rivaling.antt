-- Which last accesses race with an access, by what comes before it.
use Rattle.std.proofs.Common.{◌≡◌, ℕ, ◌+◌, ◌<◌, ◌≤◌, List, inl, inr, sym, subst, ◌∙◌, ap, arith}
use Rattle.std.specs.Prelude.{◌≢◌, true, false, Contains, Vec, slice_index}
use Rattle.std.specs.declared.alloc.Global.{Global}
use Rattle.std.proofs.lemmas.Bool.{cases_eq, cases_lt, true≢false}
use Rattle.lrc_races_trace.specs.declared.event.Event.{Event}
use Rattle.lrc_races_trace.specs.declared.event.Operation.TheVariants.{Read, Write}
use Rattle.lrc_races_trace.specs.declared.event.Placed.{Placed}
use Rattle.lrc_races_trace.specs.Trace.{At, Accesses, Writes}
use Rattle.lrc_races_trace.specs.Groups.{is_write}
use Rattle.lrc_races_trace.specs.Races.{Conflict}
use Rattle.lrc_races_trace.proofs.Positions.{At-one}
use Rattle.lrc_races_detector.specs.declared.groups.Side.{Side}
use Rattle.lrc_races_text.specs.declared.asked.Sought.{Sought}
use Rattle.lrc_races_text.specs.declared.asked.Sought.TheVariants.{AllRaces, SureRaces}
use Rattle.lrc_races_locations.specs.Rivals.{Rivals, Separates, IsBehind}
use Rattle.lrc_races_locations.specs.Spots.{AreAtOneSpot, IsSpot, IsRow, row_of, AreRows}
use Rattle.lrc_races_locations.specs.Finding.{IsRival}
use Rattle.lrc_races_locations.proofs.Spotting.{Row-kept}

writes_true : (a : Event) (v : ℕ) → Accesses a v → is_write a.operation ≡ true → Writes a v
writes_true a v (inl reads) e = let never : false ≡ true = sym (ap is_write reads) ∙ e in absurd (true≢false (sym never))
writes_true a v (inr writes) e = writes

true_writes : (a : Event) (v : ℕ) → Writes a v → is_write a.operation ≡ true
true_writes a v writes = ap is_write writes

pub one_variable : (b : Event) (v w : ℕ) → Accesses b v → Accesses b w → w ≡ v
one_variable b v w (inl f) (inl g) = let same : Read w ≡ Read v = sym g ∙ f in cc
one_variable b v w (inl f) (inr g) = let same : Write w ≡ Read v = sym g ∙ f in let never : ⊥ = cc in absurd never
one_variable b v w (inr f) (inl g) = let same : Read w ≡ Write v = sym g ∙ f in let never : ⊥ = cc in absurd never
one_variable b v w (inr f) (inr g) = let same : Write w ≡ Write v = sym g ∙ f in cc

-- two accesses that conflict, with nothing between
pub race_of : (sought : Sought) (events : List Event) (i j : ℕ) (a b : Event) → i < j → At events i a → At events j b → Conflict a b
    → (Separates sought events i j → ⊥) → Rivals sought events i j
race_of AllRaces events i j a b lt at there conflict free =
    record { a = a; b = b; earlier = lt; first = at; second = there; conflict = conflict; unordered = free }
race_of SureRaces events i j a b lt at there conflict free =
    record { a = a; b = b; earlier = lt; first = at; second = there; conflict = conflict; free = free }

-- what a race is
pub record Raced (sought : Sought) (events : List Event) (i j : ℕ) (a b : Event) : Type 0 where
  pub earlier : i < j
  pub conflict : Conflict a b
  pub free : Separates sought events i j → ⊥

pub raced : (sought : Sought) (events : List Event) (i j : ℕ) (a b : Event) → At events i a → At events j b → Rivals sought events i j
    → Raced sought events i j a b
raced AllRaces events i j a b at there r = record {
  earlier = r.earlier;
  conflict = subst (λ (y : Event). Conflict a y) (At-one r.second there) (subst (λ (x : Event). Conflict x r.b) (At-one r.first at) r.conflict);
  free = r.unordered;
}
raced SureRaces events i j a b at there r = record {
  earlier = r.earlier;
  conflict = subst (λ (y : Event). Conflict a y) (At-one r.second there) (subst (λ (x : Event). Conflict x r.b) (At-one r.first at) r.conflict);
  free = r.free;
}

module _ (sought : Sought) (events : List Event) (later : Placed) (v : ℕ) (there : At events later.position later.event)
    (accesses : Accesses later.event v) (known : List ℕ) (is : IsBehind sought events later.position known) where
  -- a last access that is a rival races
  pub rival_races : (spot : Placed) → IsSpot events later.position v spot → IsRival known later spot → Rivals sought events spot.position later.position
  rival_races spot s r =
      race_of sought events spot.position later.position spot.event later.event s.before s.at there (record {
        variable = v;
        apart = r.apart;
        first = s.accesses;
        second = accesses;
        writes = elim r.writes [
          | inl e ↦ inl (writes_true spot.event v s.accesses e)
          | inr e ↦ inr (writes_true later.event v accesses e)
        ];
      }) (λ h. let lt = (is.exact spot.position spot.event s.at s.before).1 h in let le = r.unknown in omega arith)

  -- where an access races, it is one of the variable
  race_accesses : (i : ℕ) (a : Event) → At events i a → Rivals sought events i later.position → Accesses a v
  race_accesses i a at r =
      let c = (raced sought events i later.position a later.event at there r).conflict in
      subst (λ (w : ℕ). Accesses a w) (one_variable later.event v c.variable accesses c.second) c.first

  -- and the last one of its thread, location and kind is a rival
  pub race_rival : (i : ℕ) (a : Event) → At events i a → Rivals sought events i later.position → (spot : Placed) → IsSpot events later.position v spot
      → AreAtOneSpot spot.event a → (i ≤ spot.position) × IsRival known later spot
  race_rival i a at r spot s one =
      let h = raced sought events i later.position a later.event at there r in
      let c = h.conflict in
      let le = s.last i a h.earlier at (race_accesses i a at r) one in
      let kind : is_write spot.event.operation ≡ is_write a.operation = ap (λ (x : Side). x.is_write) one.side in (
        le,
        record {
          apart = λ same. c.apart (sym one.thread ∙ same);
          writes = elim c.writes [
            | inl w ↦ inl (kind ∙ true_writes a c.variable w)
            | inr w ↦ inr (true_writes later.event c.variable w)
          ];
          unknown = elim (cases_lt i (slice_index known a.thread)) [
            | inl lt ↦ absurd (h.free ((is.exact i a at h.earlier).0 lt))
            | inr above ↦ let e = ap (λ (t : ℕ). slice_index known t) one.thread in omega arith
          ];
        },
      )

  pub race_spot : (i : ℕ) (a : Event) → At events i a → Rivals sought events i later.position → (row : List Placed) → IsRow events later.position v row
      → (spot : Placed) × Contains row spot × AreAtOneSpot spot.event a
  race_spot i a at r row is_row =
      let h = raced sought events i later.position a later.event at there r in
      is_row.complete i a h.earlier at (race_accesses i a at r)

-- the rows, with the access noted in its own
pub rows_noted : (events : List Event) (placed : Placed) (v : ℕ) → At events placed.position placed.event → Accesses placed.event v
    → (before after : List (Vec Placed Global)) (row : List Placed) → row_of after v ≡ row → IsRow events (placed.position + 1) v row
    → ((w : ℕ) → w ≢ v → row_of after w ≡ row_of before w) → AreRows events placed.position before → AreRows events (placed.position + 1) after
rows_noted events placed v at accesses before after row here noted others old w =
    elim (cases_eq w v) [
      | inl same ↦
          subst (λ (x : ℕ). IsRow events (placed.position + 1) x (row_of after x)) (sym same)
          (subst (λ (r : List Placed). IsRow events (placed.position + 1) v r) (sym here) noted)
      | inr apart ↦
          subst (λ (r : List Placed). IsRow events (placed.position + 1) w r) (sym (others w apart))
          (Row-kept events w placed.position placed.event (row_of before w) at (λ h. apart (one_variable placed.event v w accesses h)) (old w))
    ]
