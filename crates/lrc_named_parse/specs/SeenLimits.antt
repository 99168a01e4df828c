-- The counts of the limits as the definitions see them.
use Rattle.std.specs.Prelude.{◌≡◌, ℕ, Result, Ok, Err}
use Rattle.lrc_lang.specs.declared.fault.FaultKind.{FaultKind}
use Rattle.lrc_lang.specs.declared.fault.FaultKind.TheVariants as kinds
use Rattle.lrc_named_tokens.specs.Token.{Token}
use Rattle.lrc_named_parse.specs.declared.limits.Counted as code_counted
use Rattle.lrc_named_parse.specs.declared.limits.Counted.TheVariants as code_counts
use Rattle.lrc_named_parse.specs.Counts.{Counted, apart, within, open_with, counted_with, IsTooDeep, IsOperatorTooMany}

abbrev pub counted_seen : code_counted.Counted → Counted
counted_seen code_counts.Apart = apart
counted_seen (code_counts.Within brackets operators) = within brackets operators

-- how many brackets are open within the expression
abbrev pub brackets_in : Counted → ℕ
brackets_in apart = 0
brackets_in (within brackets operators) = brackets

-- What came out where the next token was counted, with so many brackets open and so much counted before it and with it:
-- the new counts, with no limit passed, or which limit it passes.
abbrev pub TakesToken : Result (Unit {0}) FaultKind → ℕ → Counted → Token → ℕ → Counted → Type 0
TakesToken (Ok x) nested counted t nested' counted' =
    (nested' ≡ open_with nested t) × (counted' ≡ counted_with counted t) × (¬ IsTooDeep nested t) × (¬ IsOperatorTooMany counted t)
TakesToken (Err kinds.TooDeep) nested counted t nested' counted' = IsTooDeep nested t
TakesToken (Err kinds.OverLimit) nested counted t nested' counted' = IsOperatorTooMany counted t
TakesToken (Err _) nested counted t nested' counted' = ⊥
