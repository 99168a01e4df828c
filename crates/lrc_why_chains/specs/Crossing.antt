-- The first write beside another one, by the table of the order.
use Rattle.std.specs.Prelude.{◌≡◌, ℕ, ◌<◌, List, IsTrue, slice_index}
use Rattle.lrc_judge.specs.declared.order.Order.{Order}
use Rattle.lrc_judge.specs.Order.{is_before}
use Rattle.lrc_why_chains.specs.declared.writes.Crossing.{Crossing}

-- the later is the write at this place, and the earlier is the first before it that does not happen before it
pub record IsFirstBeside (order : Order) (writes : List ℕ) (place : ℕ) (two : Crossing) : Type 0 where
  pub at : ℕ
  pub before : at < place
  pub earlier : two.earlier ≡ slice_index writes at
  pub later : two.later ≡ slice_index writes place
  pub beside : ¬ IsTrue (is_before order two.earlier two.later)
  pub first : (k : ℕ) → k < at → IsTrue (is_before order (slice_index writes k) two.later)
