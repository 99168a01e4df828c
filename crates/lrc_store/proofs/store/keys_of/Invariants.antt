use Rattle.std.proofs.Common.{◌≡◌, ℕ, map, take}
use Rattle.lrc_store.specs.declared.key.Key.{Key}
use Rattle.lrc_store.proofs.store.keys_of.Given as goal

abbrev pub invariant-loop-key : goal.invariant-loop-key
invariant-loop-key l = l.keys.items ≡ map (λ (pair : ℕ × Key). pair.1) (take l.key-index l.found)
