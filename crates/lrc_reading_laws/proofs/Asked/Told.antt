-- Each departure that the manager sends has the time of all arrivals, and those of their intervals that its node's arrival lacks.
use Rattle.std.proofs.Common.{◌≡◌, ℕ, zero, suc, ◌+◌, List, [], ◌∷◌, true, length, map, refl, sym, ap, ◌∙◌, inl, inr, arith}
use Rattle.std.specs.Prelude.{Option, Some, None, Contains, filter, filter_map, is_some, slice_get, slice_index_or}
use Rattle.std.specs.List.{enumerate_from, list_all}
use Rattle.lrc_store.specs.Interval.{IntervalRecord}
use Rattle.lrc_store.proofs.Orders.{cases_Contains, none_Contains}
use Rattle.lrc_envelope.specs.Records.{DepartRecord}
use Rattle.lrc_envelope.specs.declared.message.Message.{Message}
use Rattle.lrc_envelope.specs.declared.message.Message.TheVariants.{Depart}
use Rattle.lrc_barrier.specs.declared.arrival.Arrival.{Arrival}
use Rattle.lrc_barrier.specs.Barrier.{is_news, joined_time, intervals_of, departure_to}
use Rattle.lrc_protocol.specs.Node.{Letter}
use Rattle.lrc_protocol.specs.Turn.{departure_of}

time_in : Message → List ℕ
time_in (Depart d) = d.time
time_in _ = []

told_in : Message → List IntervalRecord
told_in (Depart d) = d.intervals
told_in _ = []

-- to the node at a place, of these arrivals
pub record ToldSo (arrivals rest : List Arrival) (start : ℕ) (l : Letter) (d : DepartRecord) : Type 0 where
  pub place : ℕ
  pub arrival : Arrival
  pub at : slice_get rest place ≡ Some arrival
  pub to_is : l.to ≡ start + place
  pub time_is : d.time ≡ joined_time (length arrival.time) arrivals
  pub intervals_is : d.intervals ≡ filter (is_news arrival.time) (intervals_of arrivals)

pub told_so : (arrivals rest : List Arrival) (start : ℕ) (l : Letter) (d : DepartRecord)
    → Contains (map departure_of (map (departure_to arrivals) (enumerate_from start rest))) l → l.message ≡ Depart d → ToldSo arrivals rest start l d
unfolding time_in told_in
told_so arrivals [] start l d there e = absurd (none_Contains l there)
told_so arrivals (a ∷ rest) start l d there e =
    elim (cases_Contains (departure_of (departure_to arrivals (start, a))) (map departure_of (map (departure_to arrivals) (enumerate_from
    (start + 1) rest))) l there) [
      | inl is ↦
          record {
            place = zero;
            arrival = a;
            at = refl;
            to_is =
                (let to : start ≡ l.to = ap (λ (l : Letter). l.to) is in
                omega (arith, to));
            time_is = ap time_in (sym e) ∙ ap (λ (l : Letter). time_in l.message) (sym is);
            intervals_is = ap told_in (sym e) ∙ ap (λ (l : Letter). told_in l.message) (sym is);
          }
      | inr later ↦
          let t : ToldSo arrivals rest (start + 1) l d = told_so arrivals rest (start + 1) l d later e in
          record {
            place = suc t.place;
            arrival = t.arrival;
            at = t.at;
            to_is = (let to : l.to ≡ start + 1 + t.place = t.to_is in omega (arith, to));
            time_is = t.time_is;
            intervals_is = t.intervals_is;
          }
    ]

-- where all have arrived, each stands at its node's place
pub all_there : (places : List (Option Arrival)) (j : ℕ) (a : Arrival) → list_all is_some places ≡ true → slice_get (filter_map (λ a. a) places) j ≡ Some a
    → slice_index_or places j None ≡ Some a
all_there [] j a all at = cc
all_there (None ∷ places) j a all at = cc
all_there (Some x ∷ places) zero a all at = at
all_there (Some x ∷ places) (suc j) a all at = all_there places j a all at

pub all_counted : (places : List (Option Arrival)) → list_all is_some places ≡ true → length (filter_map (λ a. a) places) ≡ length places
all_counted [] all = refl
all_counted (None ∷ places) all = cc
all_counted (Some x ∷ places) all = ap suc (all_counted places all)
