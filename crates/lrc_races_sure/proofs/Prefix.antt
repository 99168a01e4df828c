-- What is sure in a prefix is sure in the whole, and the other way round.
use Rattle.std.proofs.Common.{ℕ, ◌<◌, ◌≤◌, List, ◌++◌, length, inl, inr, arith}
use Rattle.lrc_races_trace.specs.declared.event.Event.{Event}
use Rattle.lrc_races_trace.specs.declared.event.Pair.{Pair}
use Rattle.lrc_races_trace.specs.Order.{base}
use Rattle.lrc_races_trace.proofs.HappensBefore.{forward}
use Rattle.lrc_races_trace.proofs.Positions.{At-within}
use Rattle.lrc_races_trace.proofs.Prefix.{At-longer, At-shorter, longer, shorter}
use Rattle.lrc_races_sure.specs.Leading.{IsLastWrite, LeadsOn, ordered, read, LeadsTo, one, more, Leads, IsByWay}
use Rattle.lrc_races_sure.specs.Sure.{IsSureRace, IsSureTold}
use Rattle.lrc_races_sure.proofs.Leading.{on-forward, to-ordered, to-transitive}

module _ (events rest : List Event) where
  write-longer : {i j v : ℕ} → j ≤ length events → IsLastWrite events i j v → IsLastWrite (events ++ rest) i j v
  write-longer {j = j} le w = record {
    write = w.write;
    before = w.before;
    at = At-longer rest w.at;
    writes = w.writes;
    last = λ k other lt at of. let within : k < length events = omega arith in w.last k other lt (At-shorter rest within at) of;
  }

  write-shorter : {i j v : ℕ} → j ≤ length events → IsLastWrite (events ++ rest) i j v → IsLastWrite events i j v
  write-shorter {i = i} le w =
      let before = w.before in
      let within : i < length events = omega arith in
      record {
        write = w.write;
        before = w.before;
        at = At-shorter rest within w.at;
        writes = w.writes;
        last = λ k other lt at of. w.last k other lt (At-longer rest at) of;
      }

  to-longer : {i j : ℕ} → LeadsTo events i j → LeadsTo (events ++ rest) i j
  to-longer (one (ordered p)) = to-ordered (longer events rest (base p))
  to-longer (one (read at is w)) = let within = At-within at in one (read (At-longer rest at) is (write-longer (omega arith) w))
  to-longer (more h (ordered p)) = to-transitive (to-longer h) (to-ordered (longer events rest (base p)))
  to-longer (more h (read at is w)) =
      let within = At-within at in more (to-longer h) (read (At-longer rest at) is (write-longer (omega arith) w))

  on-shorter : {i j : ℕ} → j < length events → LeadsOn (events ++ rest) i j → LeadsTo events i j
  on-shorter within (ordered p) = to-ordered (shorter events rest within (base p))
  on-shorter within (read at is w) = one (read (At-shorter rest within at) is (write-shorter (omega arith) w))

  to-shorter : {i j : ℕ} → j < length events → LeadsTo (events ++ rest) i j → LeadsTo events i j
  to-shorter within (one s) = on-shorter within s
  to-shorter within (more {j = k} h s) =
      let lt = on-forward s in
      let first : k < length events = omega arith in
      to-transitive (to-shorter first h) (on-shorter within s)

  way-longer : {i j : ℕ} → IsByWay events i j → IsByWay (events ++ rest) i j
  way-longer {i} w = record {
    through = w.through;
    leads = leads w.leads;
    before = longer events rest w.before;
  }
    where
      leads : {k : ℕ} → Leads events i k → Leads (events ++ rest) i k
      leads (inl same) = inl same
      leads (inr h) = inr (to-longer h)

  way-shorter : {i j : ℕ} → j < length events → IsByWay (events ++ rest) i j → IsByWay events i j
  way-shorter {i} within w =
      let lt = forward w.before in
      record {
        through = w.through;
        leads = leads (omega arith) w.leads;
        before = shorter events rest within w.before;
      }
    where
      leads : {k : ℕ} → k < length events → Leads (events ++ rest) i k → Leads events i k
      leads first (inl same) = inl same
      leads first (inr h) = inr (to-shorter first h)

  sure-longer : {i j : ℕ} → IsSureRace events i j → IsSureRace (events ++ rest) i j
  sure-longer r =
      let within = At-within r.second in
      record {
        a = r.a;
        b = r.b;
        earlier = r.earlier;
        first = At-longer rest r.first;
        second = At-longer rest r.second;
        conflict = r.conflict;
        free = λ w. r.free (way-shorter within w);
      }

  sure-shorter : {i j : ℕ} → j < length events → IsSureRace (events ++ rest) i j → IsSureRace events i j
  sure-shorter {i = i} within r =
      let earlier = r.earlier in
      let first : i < length events = omega arith in
      record {
        a = r.a;
        b = r.b;
        earlier = r.earlier;
        first = At-shorter rest first r.first;
        second = At-shorter rest within r.second;
        conflict = r.conflict;
        free = λ w. r.free (way-longer w);
      }

  pub sure_told-longer : (pair : Pair) → IsSureTold events pair → IsSureTold (events ++ rest) pair
  sure_told-longer pair t =
      let within = At-within t.second in
      record {
        first = At-longer rest t.first;
        second = At-longer rest t.second;
        sure = sure-longer t.sure;
        last = λ k c at of r.
            let earlier = r.earlier in
            let first : k < length events = omega arith in
            t.last k c (At-shorter rest first at) of (sure-shorter within r);
      }

  pub sure_told-shorter : (pair : Pair) → pair.later.position < length events → IsSureTold (events ++ rest) pair → IsSureTold events pair
  sure_told-shorter pair within t =
      let earlier = t.sure.earlier in
      let first : pair.earlier.position < length events = omega arith in
      record {
        first = At-shorter rest first t.first;
        second = At-shorter rest within t.second;
        sure = sure-shorter within t.sure;
        last = λ k c at of r. t.last k c (At-longer rest at) of (sure-longer r);
      }
