-- Warnings with their lines and columns, and their order.
use Rattle.std.specs.Prelude.{ℕ, List, ◌++◌, map, slice_index_or}
use Rattle.std.specs.declared.cmp.Ordering.{Ordering}
use Rattle.std.specs.Ordering.{nat_cmp, ordering_then}
use Rattle.lrc_labels.specs.declared.label.IdleLabel.{IdleLabel}
use Rattle.lrc_lint_warned.specs.declared.found.Found.{Found}
use Rattle.lrc_lint_warned.specs.declared.found.Kind.{Kind}
use Rattle.lrc_lint_warned.specs.declared.found.Kind.TheVariants.{BelowZero, DivisionByZero, HeldAlready, HeldAtBarrier, LearnsNothing, NeverRead, NeverReleased}
use Rattle.lrc_lint_warned.specs.declared.found.Kind.TheVariants.{NeverSet, NeverWritten, NoSuchLock, NoSuchWord, NotHeld, UncertainRounds, UnchangedCondition, UnevenBarriers}
use Rattle.lrc_lint_warnings.specs.declared.warning.Says.{Says}
use Rattle.lrc_lint_warnings.specs.declared.warning.Says.TheVariants.{OfText, OfLabel}
use Rattle.lrc_lint_warnings.specs.declared.warning.Spot.{Spot}
use Rattle.lrc_lint_warnings.specs.declared.warning.Warning.{Warning}

-- the order of the kinds of warnings of one token
abbrev pub rank_of : Kind → ℕ
rank_of (NeverSet name) = 0
rank_of (NeverRead name) = 1
rank_of (NoSuchWord word) = 2
rank_of (NoSuchLock lock) = 3
rank_of DivisionByZero = 4
rank_of (BelowZero always) = 5
rank_of (NeverWritten word) = 6
rank_of (HeldAlready lock) = 7
rank_of (NotHeld lock) = 8
rank_of (HeldAtBarrier lock) = 9
rank_of (NeverReleased lock) = 10
rank_of UnevenBarriers = 11
rank_of UncertainRounds = 12
rank_of UnchangedCondition = 13
rank_of LearnsNothing = 14

abbrev pub rank : Says → ℕ
rank (OfText kind) = rank_of kind
rank (OfLabel reason) = 15

-- by line, column, and then the order of the kinds
abbrev pub key_of : Warning → ℕ × ℕ × ℕ
key_of w = (w.line, w.column, rank w.says)

abbrev pub key_order : ℕ × ℕ × ℕ → ℕ × ℕ × ℕ → Ordering
key_order x y = ordering_then (ordering_then (nat_cmp x.0 y.0) (nat_cmp x.1 y.1)) (nat_cmp x.2 y.2)

-- a warning of the token of this place, where these are the lines and columns of the tokens
abbrev pub of_found : List Spot → Found → Warning
of_found spots found =
    let spot = slice_index_or spots found.at (record { line = 0; column = 0 }) in
    record { line = spot.line; column = spot.column; says = OfText found.kind }

-- a warning of a label line that says nothing
abbrev pub of_idle : IdleLabel → Warning
of_idle idle = record { line = idle.line; column = idle.column; says = OfLabel idle.reason }

abbrev pub all_warnings : List Spot → List Found → List IdleLabel → List Warning
all_warnings spots found idle = map (of_found spots) found ++ map of_idle idle
