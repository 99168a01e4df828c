-- What the parser counts as the definitions see it.
use Rattle.std.specs.Prelude.{◌≡◌, [], map, Result, Ok, Err}
use Rattle.lrc_lang.specs.declared.fault.FaultKind.{FaultKind}
use Rattle.lrc_lang.specs.declared.fault.FaultKind.TheVariants as kinds
use Rattle.lrc_lang.specs.declared.limits.Limits as code_limits
use Rattle.lrc_lang.specs.Token.{Token}
use Rattle.lrc_lang.specs.Symbol.{Names, names_with, symbol_of}
use Rattle.lrc_lang.specs.Counts.{open_with, operators_with, IsTooDeep, IsNameTooMany, IsOperatorTooMany}

abbrev pub names_seen : code_limits.Limits → Names
names_seen l = map (λ name. name.now) l.names.items

-- what came out where the next token was counted: the new counts, with no limit passed, or which limit it passes
abbrev pub TakesToken : Result (Unit {0}) FaultKind → code_limits.Limits → Token → code_limits.Limits → Type 0
TakesToken (Ok x) old t new =
    (names_seen new ≡ names_with (names_seen old) t)
    × (new.nested ≡ open_with old.nested t)
    × (new.operators ≡ operators_with old.operators (symbol_of [] t))
    × (¬ IsTooDeep old.nested t)
    × (¬ IsNameTooMany (names_seen old) t)
    × (¬ IsOperatorTooMany old.operators t)
TakesToken (Err kinds.TooDeep) old t new = IsTooDeep old.nested t
TakesToken (Err kinds.TooManyNames) old t new = IsNameTooMany (names_seen old) t
TakesToken (Err kinds.OverLimit) old t new = IsOperatorTooMany old.operators t
TakesToken (Err kinds.NoMemory) old t new = Unit {0}
TakesToken (Err _) old t new = ⊥
