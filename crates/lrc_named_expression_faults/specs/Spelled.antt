-- The places of names, by the bytes that spell them.
use Rattle.std.specs.Prelude.{◌≡◌, ℕ, Bool, List}
use Rattle.std.specs.HashMap as hash
use Rattle.std.specs.HashMap.{HashMap}
use Rattle.std.specs.List.{position_from}
use Rattle.std.specs.Str.{bytes_eq}
use Rattle.std.specs.Borrow.{Bor}
use Rattle.lrc_named_tree.specs.declared.tree.Name as code_name

-- a name is spelled so
abbrev pub is_spelled : List ℕ → code_name.Name → Bool
is_spelled bytes name = bytes_eq name.bytes.now bytes

-- of each name that stands among these the first place, and of each other name none
abbrev pub ArePlaces : {S : Type 0} → List code_name.Name → HashMap (Bor (List ℕ)) ℕ S → Type 0
ArePlaces names places =
    (bytes : List ℕ) → hash.get_by (λ key. bytes_eq bytes key.now) places ≡ position_from (is_spelled bytes) 0 names
