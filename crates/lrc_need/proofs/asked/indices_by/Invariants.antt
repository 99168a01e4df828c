use Rattle.std.proofs.Common.{◌≡◌, take}
use Rattle.lrc_need.proofs.Asking.{listed}
use Rattle.lrc_need.proofs.asked.indices_by.Given as goal

-- the maker's indices so far
abbrev pub invariant-loop-key : goal.invariant-loop-key
invariant-loop-key l = l.list.items ≡ listed (take l.key-index l.keys) l.maker
