-- What a node waits for fixes what its text does next.
use Rattle.std.specs.Prelude.{◌≡◌, ℕ, Bool, true, false, Option, Some, None}
use Rattle.lrc_exec.specs.Meaning.{Next, reads, writes, acquires, departs}
use Rattle.lrc_protocol.specs.Node.{Wait, nothing, grant, departure, access, upkeep, discard}

-- whether that is a departure, and whether it is a read or a write
abbrev pub is_departing : Option Next → Bool
is_departing (Some (departs after)) = true
is_departing _ = false

abbrev pub is_access : Option Next → Bool
is_access (Some (reads word after)) = true
is_access (Some (writes word value after)) = true
is_access _ = false

-- the lock that the text acquires next
abbrev pub acquiring : Option Next → Option ℕ
acquiring (Some (acquires lock after)) = Some lock
acquiring _ = None

-- Who waits for a lock's grant acquires that lock next; who waits for pages at a miss makes an access; who is inside a
-- barrier departs next, and nobody else does.
abbrev pub FixesNext : Wait → Option Next → Type 0
FixesNext nothing next = is_departing next ≡ false
FixesNext (grant lock) next = acquiring next ≡ Some lock
FixesNext departure next = is_departing next ≡ true
FixesNext (access need) next = is_access next ≡ true
FixesNext (upkeep collection needs) next = is_departing next ≡ true
FixesNext (discard collection) next = is_departing next ≡ true
