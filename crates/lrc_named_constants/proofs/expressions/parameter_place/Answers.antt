-- The first parameter of this name, or none.
use Rattle.std.proofs.Common.{◌≡◌, ◌<◌, false, map, get_or, below_more, sym, ◌∙◌, arith, []}
use Rattle.std.specs.Str.{bytes_eq}
use Rattle.lrc_named_constants.proofs.FirstPlaces.{no_place}
use Rattle.lrc_named_constants.specs.declared.constancy.Constancy.TheVariants.{Varies}
use Rattle.lrc_named_constants.specs.Constant.{Known}
use Rattle.lrc_named_constants.specs.View.{known_of}
use Rattle.lrc_named_constants.proofs.Each.{named_at, not_named_at}
use Rattle.lrc_named_constants.proofs.expressions.parameter_place.Goals as goal

pub loop-i-preserved : goal.loop-i-preserved
loop-i-preserved c =
    below_more
    (λ k. (d : Known) → bytes_eq (get_or (map known_of c.args.known.now) k d).name c.args.name.now ≡ false)
    c.loop-i.i c.loop-i.invariant
    (not_named_at c.args.known.now c.loop-i.i _ c.args.name.now c.loop-i-test.true (sym c.is_named.ensures ∙ c.if-is_named.false))

pub returns-then-is_named : goal.returns-then-is_named
returns-then-is_named c =
    named_at c.args.known.now c.loop-i.i _ c.args.name.now c.loop-i-test.true c.loop-i.invariant (sym c.is_named.ensures ∙ c.if-is_named.true)

pub returns : goal.returns
returns c =
    no_place known_of (λ (k : Known). bytes_eq k.name c.args.name.now) c.args.known.now (record { name = []; constancy = Varies })
    (λ k lt. let within : k < c.loop-i.i = omega (arith, c.loop-i-test.false, lt) in c.loop-i.invariant k within)
