use Rattle.std.proofs.Common.{arith, ◌<◌, ◌^◌, get_or, refl}
use Rattle.std.specs.Prelude.{bit_and}
use Rattle.std.proofs.lemmas.Nat.{and_le_l}
use Rattle.lrc_page.proofs.Masks.{meets-and, meets-none}
use Rattle.lrc_page.proofs.mask.Mask.meets.Goals as goal

pub returns-then-self-place-ne0 : goal.returns-then-self-place-ne0
returns-then-self-place-ne0 c =
    let a = c.self.inside.words in
    let b = c.other.inside.words in
    let i = c.loop-place.place in
    let small : bit_and (get_or a i 0) (get_or b i 0) < 2 ^ 64 = omega (arith, and_le_l (get_or a i 0) (get_or b i 0)) in
    rw (← c.self.view_is, ← c.other.view_is) (λ t. meets-and a b i small c.if-self-place-ne0.true, λ m. refl)

pub returns : goal.returns
returns c =
    let a = c.self.inside.words in
    let b = c.other.inside.words in
    rw (← c.self.view_is, ← c.other.view_is)
    (λ no. cc, λ m. absurd (meets-none a b (omega (arith, c.self.told)) (λ k within. c.loop-place.invariant k (omega arith)) m))
