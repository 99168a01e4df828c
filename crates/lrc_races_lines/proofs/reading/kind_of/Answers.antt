-- Every word is among those.
use Rattle.std.proofs.Common.{◌≡◌, arith, refl}
use Rattle.lrc_races_lines.specs.declared.line.Kind.{Kind}
use Rattle.lrc_races_lines.specs.declared.line.Kind.TheVariants.{Read, Write, Acquire, Release, Post, Wait, Fork, Join, Arrive, Depart, Idle}
use Rattle.lrc_races_lines.specs.Line.{word}
use Rattle.lrc_races_lines.proofs.reading.kind_of.Goals as goal

pub returns : goal.returns
returns c = go
  where
    go : (kind : Kind) → (kind ≡ Idle → ⊥) → c.args.text.now ≡ word kind → ⊥
    go Read acts e = c.loop-kind.invariant 0 Read (let past = c.loop-kind-test.false in omega arith) e
    go Write acts e = c.loop-kind.invariant 1 Read (let past = c.loop-kind-test.false in omega arith) e
    go Acquire acts e = c.loop-kind.invariant 2 Read (let past = c.loop-kind-test.false in omega arith) e
    go Release acts e = c.loop-kind.invariant 3 Read (let past = c.loop-kind-test.false in omega arith) e
    go Post acts e = c.loop-kind.invariant 4 Read (let past = c.loop-kind-test.false in omega arith) e
    go Wait acts e = c.loop-kind.invariant 5 Read (let past = c.loop-kind-test.false in omega arith) e
    go Fork acts e = c.loop-kind.invariant 6 Read (let past = c.loop-kind-test.false in omega arith) e
    go Join acts e = c.loop-kind.invariant 7 Read (let past = c.loop-kind-test.false in omega arith) e
    go Arrive acts e = c.loop-kind.invariant 8 Read (let past = c.loop-kind-test.false in omega arith) e
    go Depart acts e = c.loop-kind.invariant 9 Read (let past = c.loop-kind-test.false in omega arith) e
    go Idle acts e = acts refl
