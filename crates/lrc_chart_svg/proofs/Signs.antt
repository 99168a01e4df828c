-- The signs at the ends of arrows are strokes from where they start.
use Rattle.std.proofs.Common.{◌≡◌, ℕ, Bool, false, true, codes, nat_lt, refl}
use Rattle.std.specs.Prelude.{if◌then◌else◌}
use Rattle.lrc_chart_svg.specs.Marks.{begins_with_digit}
use Rattle.lrc_chart_svg.specs.Shown.{coming, leaving}

pub leaving_starts : (sender receiver : ℕ) → begins_with_digit (leaving sender receiver) ≡ false
leaving_starts sender receiver = by (nat_lt receiver sender)
  where
    by : (b : Bool) → begins_with_digit (if b then codes "h8" else codes "h-8") ≡ false
    by true = refl
    by false = refl

pub coming_starts : (sender receiver : ℕ) → begins_with_digit (coming sender receiver) ≡ false
coming_starts sender receiver = by (nat_lt sender receiver) (nat_lt receiver sender)
  where
    by : (b c : Bool)
        → begins_with_digit (if b then codes "h12 l-9 -4 v8 l9 -4" else if c then codes "h-12 l9 -4 v8 l-9 -4" else codes "h-8 l8 -4 v8 l-8 -4")
        ≡ false
    by true c = refl
    by false true = refl
    by false false = refl
