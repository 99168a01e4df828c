use Rattle.std.proofs.Common.{◌≡◌, Some, get_or, refl, arith}
use Rattle.std.specs.Prelude.{slice_get}
use Rattle.std.proofs.lemmas.Option.{slice_get-get_or, slice_get_within}
use Rattle.lrc_race.proofs.Stretches.{nowhere, stretch-none, stretch-same, stretch-push, stretch-all, ahead-rest}
use Rattle.lrc_race.proofs.detector.TracePair.add_stretch.Goals as goal
use Rattle.lrc_race.proofs.detector.TracePair.add_stretch.Goals.{in-Some+in_ok-push, in_default}

pub loop-k-init : goal.loop-k-init
loop-k-init c = stretch-none c.args.self.now.a.now c.args.x c.args.self.now.b.now c.args.ys.now c.args.from c.args.races.now.items

pub loop-k-preserved : goal.loop-k-preserved
loop-k-preserved c =
    let ys = c.args.ys.now in
    let k = c.loop-k.k in
    let y = get_or ys k nowhere in
    let is : slice_get ys k ≡ Some y = slice_get-get_or ys k nowhere (omega arith) in
    elim c.match-race_of.branch [
      | in-Some+in_ok-push w ↦
          rw w.races-is
          (stretch-push c.args.self.now.a.now c.args.x c.args.self.now.b.now ys c.args.from c.args.races.now.items c.loop-k.races.items w.push.new.self.items
          k y w.in-Some.race (omega arith) is w.in-Some.ensures w.in_ok-push.ensures.items c.loop-k.invariant)
      | in_default w ↦
          rw w.races-is
          (stretch-same c.args.self.now.a.now c.args.x c.args.self.now.b.now ys c.args.from c.args.races.now.items c.loop-k.races.items k y is
          w.in_default.ensures c.loop-k.invariant)
    ]

pub returns-then-is_ahead : goal.returns-then-is_ahead
returns-then-is_ahead c =
    let ys = c.args.ys.now in
    let k = c.loop-k.k in
    let y = get_or ys k nowhere in
    let is : slice_get ys k ≡ Some y = slice_get-get_or ys k nowhere (omega arith) in
    stretch-all c.args.self.now.a.now c.args.x c.args.self.now.b.now ys c.args.from c.args.races.now.items c.loop-k.races.items k
    (ahead-rest c.args.self.now.rise c.args.self.now.a.now c.args.x c.args.self.now.b.now ys (λ up. (c.requires.pair.rising up).1) c.requires.second k y is
    (c.if-is_ahead.ensures refl))
    c.loop-k.invariant

pub returns : goal.returns
returns c =
    let ys = c.args.ys.now in
    stretch-all c.args.self.now.a.now c.args.x c.args.self.now.b.now ys c.args.from c.args.races.now.items c.loop-k.races.items c.loop-k.k
    (λ k y race late is. absurd (omega (arith, slice_get_within ys k y is)))
    c.loop-k.invariant
