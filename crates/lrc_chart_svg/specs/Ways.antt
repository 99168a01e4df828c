-- Where what leads from one column to another begins and ends, from the left: at the sides that face each other, and at the right side of a
-- column from which it leads to itself.
use Rattle.std.specs.Prelude.{ℕ, ◌+◌, ◌-◌, if◌then◌else◌, nat_lt}
use Rattle.lrc_chart_svg.specs.declared.style.Anchor.{Anchor}
use Rattle.lrc_chart_svg.specs.declared.style.Anchor.TheVariants.{Start, End}
use Rattle.lrc_chart_svg.specs.Plan.{Plan}
use Rattle.lrc_chart_svg.specs.Widths.{lane_at}

-- where a column begins, and where it ends
abbrev pub left : Plan → (column : ℕ) → ℕ
left plan column = (lane_at plan.lanes column).left

abbrev pub right : Plan → (column : ℕ) → ℕ
right plan column = (lane_at plan.lanes column).right

-- the side of the column that it leaves, and of the one that it comes to
abbrev pub start_side : Plan → (from to : ℕ) → ℕ
start_side plan from to = if nat_lt to from then left plan from else right plan from

abbrev pub end_side : Plan → (from to : ℕ) → ℕ
end_side plan from to = if nat_lt from to then left plan to else right plan to

-- where the line of a message begins, and where it ends
abbrev pub tail : Plan → (sender receiver : ℕ) → ℕ
tail plan sender receiver = if nat_lt receiver sender then left plan sender - 8 else right plan sender + 8

abbrev pub head : Plan → (sender receiver : ℕ) → ℕ
head plan sender receiver =
    if nat_lt sender receiver then left plan receiver - 12
    else if nat_lt receiver sender then right plan receiver + 12
    else right plan receiver + 8

-- where words stand beside the end of a line, and where beyond it, and whether they begin or end there
abbrev pub beside : Plan → (from to : ℕ) → ℕ
beside plan from to = if nat_lt from to then left plan to - 9 else right plan to + 9

abbrev pub beside_anchor : (from to : ℕ) → Anchor
beside_anchor from to = if nat_lt from to then End else Start

abbrev pub beyond : Plan → (sender receiver : ℕ) → ℕ
beyond plan sender receiver = if nat_lt sender receiver then left plan receiver + 4 else right plan receiver - 4

abbrev pub beyond_anchor : (sender receiver : ℕ) → Anchor
beyond_anchor sender receiver = if nat_lt sender receiver then Start else End
