-- What is told of the races that are asked for: it stays told, and one event more adds to it.
use Rattle.std.proofs.Common.{ℕ, ◌+◌, ◌<◌, List, [], ◌∷◌, ◌++◌, length, arith, length-append}
use Rattle.std.specs.Prelude.{Contains}
use Rattle.lrc_races_trace.specs.declared.event.Event.{Event}
use Rattle.lrc_races_trace.specs.declared.event.Pair.{Pair}
use Rattle.lrc_races_trace.specs.Races.{Races, IsTold, AreTold}
use Rattle.lrc_races_trace.proofs.Positions.{At-within}
use Rattle.lrc_races_trace.proofs.Prefix.{At-longer, At-shorter, longer, shorter}
use Rattle.lrc_races_sure.specs.Sure.{AreSureTold}
use Rattle.lrc_races_sure.proofs.Firsts.{sure_told}
use Rattle.lrc_races_sure.proofs.Prefix.{sure_told-longer, sure_told-shorter}
use Rattle.lrc_races_detector.specs.Detecting.{AreToldBefore}
use Rattle.lrc_races_detector.proofs.Collecting.{told-more, told-all}
use Rattle.lrc_races_sure_pass.specs.Detecting.{AreSureToldBefore}
use Rattle.lrc_races_sure_pass.proofs.Collecting.{told-more as sure-more, told-all as sure-all}
use Rattle.lrc_races_text.specs.declared.asked.Sought.{Sought}
use Rattle.lrc_races_text.specs.declared.asked.Sought.TheVariants.{AllRaces, SureRaces}
use Rattle.lrc_races_text.specs.Sought.{AreSought, AreSoughtAt}

-- ---- what is told stays told

module _ (events more : List Event) where
  races-longer : {i j : ℕ} → Races events i j → Races (events ++ more) i j
  races-longer {j = j} r =
      let within = At-within r.second in
      record {
        a = r.a;
        b = r.b;
        earlier = r.earlier;
        first = At-longer more r.first;
        second = At-longer more r.second;
        conflict = r.conflict;
        unordered = λ h. r.unordered (shorter events more within h);
      }

  races-shorter : {i j : ℕ} → j < length events → Races (events ++ more) i j → Races events i j
  races-shorter {i = i} {j = j} within r =
      let earlier = r.earlier in
      let first : i < length events = omega arith in
      record {
        a = r.a;
        b = r.b;
        earlier = r.earlier;
        first = At-shorter more first r.first;
        second = At-shorter more within r.second;
        conflict = r.conflict;
        unordered = λ h. r.unordered (longer events more h);
      }

  told-longer : (pair : Pair) → IsTold events pair → IsTold (events ++ more) pair
  told-longer pair t =
      let within = At-within t.second in
      record {
        first = At-longer more t.first;
        second = At-longer more t.second;
        races = races-longer t.races;
        last = λ k c at of r.
            let earlier = r.earlier in
            let first : k < length events = omega arith in
            t.last k c (At-shorter more first at) of (races-shorter within r);
      }

  told-shorter : (pair : Pair) → pair.later.position < length events → IsTold (events ++ more) pair → IsTold events pair
  told-shorter pair within t =
      let earlier = t.races.earlier in
      let first : pair.earlier.position < length events = omega arith in
      record {
        first = At-shorter more first t.first;
        second = At-shorter more within t.second;
        races = races-shorter within t.races;
        last = λ k c at of r. t.last k c (At-longer more at) of (races-longer r);
      }

  told-before : (pairs : List Pair) → AreTold events pairs → AreToldBefore (events ++ more) (length events) pairs
  told-before pairs t = record {
    in_order = t.in_order;
    exact = λ pair. (
      λ there. let told = (t.exact pair).0 there in let within = At-within told.second in (told-longer pair told, within),
      λ (told, within). (t.exact pair).1 (told-shorter pair within told),
    );
  }

  sure-before : (pairs : List Pair) → AreSureTold events pairs → AreSureToldBefore (events ++ more) (length events) pairs
  sure-before pairs t = record {
    in_order = t.in_order;
    exact = λ pair. (
      λ there.
          let told = (t.exact pair).0 there in
          let within = At-within told.second in
          (sure_told-longer events more pair told, within),
      λ (told, within). (t.exact pair).1 (sure_told-shorter events more pair within told),
    );
  }

-- what is told of one event more
pub sought-push : (sought : Sought) (events : List Event) (event : Event) (pairs others : List Pair) → AreSought sought events pairs
    → AreSoughtAt sought (events ++ event ∷ []) (length events) others → AreSought sought (events ++ event ∷ []) (pairs ++ others)
sought-push AllRaces events event pairs others t at =
    let long = length-append events (event ∷ []) in
    told-all (events ++ event ∷ []) (length events + 1) (pairs ++ others) (omega arith)
    (told-more (events ++ event ∷ []) (length events) pairs others (told-before events (event ∷ []) pairs t) at)
sought-push SureRaces events event pairs others t at =
    let long = length-append events (event ∷ []) in
    sure-all (events ++ event ∷ []) (length events + 1) (pairs ++ others) (omega arith)
    (sure-more (events ++ event ∷ []) (length events) pairs others (sure-before events (event ∷ []) pairs t) at)

pub sought-nothing : (sought : Sought) → AreSought sought [] []
sought-nothing AllRaces = record {
  in_order = λ i j d lt within. absurd (omega arith);
  exact = λ pair. (λ (k, lt, is). absurd (omega arith), λ told. let within = At-within told.second in absurd (omega arith));
}
sought-nothing SureRaces = record {
  in_order = λ i j d lt within. absurd (omega arith);
  exact = λ pair. (λ (k, lt, is). absurd (omega arith), λ told. let within = At-within told.second in absurd (omega arith));
}

-- each of the pairs is told of the races
pub sought-told : (sought : Sought) (events : List Event) (pairs : List Pair) → AreSought sought events pairs → (pair : Pair) → Contains pairs pair
    → IsTold events pair
sought-told AllRaces events pairs t pair there = (t.exact pair).0 there
sought-told SureRaces events pairs t pair there = sure_told events pair ((t.exact pair).0 there)
