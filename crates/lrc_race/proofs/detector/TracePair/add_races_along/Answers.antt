use Rattle.std.proofs.Common.{◌≡◌, ℕ, ◌<◌, Some, get_or, ⊎_elim, arith}
use Rattle.std.specs.Prelude.{slice_get}
use Rattle.std.proofs.lemmas.Bool.{cases_lt}
use Rattle.std.proofs.lemmas.List.{get_or_default}
use Rattle.std.proofs.lemmas.Option.{slice_get-get_or}
use Rattle.lrc_race.specs.declared.places.TouchedPlace.{TouchedPlace}
use Rattle.lrc_judge.specs.Adding.{IsOfSome}
use Rattle.lrc_race.specs.Pairs.{IsBehind, IsRaceOfPlaces}
use Rattle.lrc_judge.proofs.Additions.{some-all, some-more}
use Rattle.lrc_race.proofs.Stretches.{nowhere, behind-later, from-all, order_at, within_at}
use Rattle.lrc_race.proofs.detector.TracePair.add_races_along.Goals as goal

pub loop-x-preserved : goal.loop-x-preserved
loop-x-preserved c =
    let a = c.args.self.now.a.now in
    let b = c.args.self.now.b.now in
    let xs = c.args.xs.now in
    let ys = c.args.ys.now in
    let i = c.loop-x.x-index in
    let x = get_or xs i nowhere in
    let is : slice_get xs i ≡ Some x = slice_get-get_or xs i nowhere (omega arith) in
    let here : (k : ℕ) (y : TouchedPlace) → k < c.skip-start.result → slice_get ys k ≡ Some y → IsBehind c.args.self.now.rise a x b y =
    λ k y low y_is. ⊎_elim
    (λ (earlier : k < c.loop-x.start). c.loop-x.invariant.behind i k x y (omega arith) is earlier y_is)
    (λ late. c.skip-start.ensures.behind k y late low y_is)
    (cases_lt k c.loop-x.start) in
    record {
      within = c.skip-start.ensures.within;
      behind = λ j k later y after later_is low y_is.
          behind-later c.args.self.now.rise a x later b y (λ up. (c.requires.pair.rising up).0)
          (order_at xs c.requires.first.in_order i j x later (omega arith) is later_is)
          (within_at a xs c.requires.first.within j later later_is) (here k y low y_is);
      added =
          some-more xs (λ p. IsOfSome ys (IsRaceOfPlaces a p b)) c.args.races.now.items c.loop-x.races.items c.add_stretch.new.races.items
          i x c.loop-x-test.true (get_or_default xs i nowhere x (omega arith)) c.loop-x.invariant.added
          (from-all c.args.self.now.rise a x b ys c.skip-start.result c.loop-x.races.items c.add_stretch.new.races.items here
          c.in_ok-add_stretch.ensures);
    }

pub returns : goal.returns
returns c =
    some-all c.args.xs.now (λ x. IsOfSome c.args.ys.now (IsRaceOfPlaces c.args.self.now.a.now x c.args.self.now.b.now)) c.args.races.now.items
    c.loop-x.races.items c.loop-x.x-index (omega arith) c.loop-x.invariant.added
