-- At which token the number of indices or arguments goes wrong.
use Rattle.std.specs.Prelude.{ℕ, zero, suc, ◌+◌, Option, Some, None, List, [], ◌∷◌}
use Rattle.lrc_named_tree.specs.Tree.{Expressions, none, more}
use Rattle.lrc_named_tree.specs.Ends.{last_of}

-- of indices behind a token: the `[` of the first one too many, or the token behind the last one, where some are missing
abbrev pub miscounted : (before : ℕ) → Expressions → (sizes : List ℕ) → Option ℕ
miscounted before none [] = None
miscounted before none (size ∷ sizes) = Some (before + 1)
miscounted before (more e others) [] = Some (before + 1)
miscounted before (more e others) (size ∷ sizes) = miscounted (last_of e + 1) others sizes

-- of arguments in front of a `)`, where so many are wanted: the `,` behind the last one that belongs to the call (behind the first,
-- where none does), or the `)`
abbrev pub miscalled : (close : ℕ) → Expressions → (wanted : ℕ) → Option ℕ
miscalled close none zero = None
miscalled close none (suc wanted) = Some close
miscalled close (more e none) zero = Some close
miscalled close (more e none) (suc zero) = None
miscalled close (more e none) (suc (suc wanted)) = Some close
miscalled close (more e (more d others)) zero = Some (last_of e + 1)
miscalled close (more e (more d others)) (suc zero) = Some (last_of e + 1)
miscalled close (more e (more d others)) (suc (suc wanted)) = miscalled close (more d others) (suc wanted)
