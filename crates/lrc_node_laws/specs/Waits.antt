-- What a node's memory is like while it waits.
use Rattle.std.specs.Prelude.{◌≡◌, None, All}
use Rattle.lrc_protocol.specs.Pages.{changes_of, Memory}
use Rattle.lrc_protocol.specs.Node.{Wait, nothing, grant, departure, access, upkeep, discard}

-- no page is written in the open interval
abbrev pub NoneWritten : Memory → Type 0
NoneWritten memory = All (λ copy. changes_of copy ≡ None) memory.copies

-- who waits for a grant or is inside a barrier has no page that is written in the open interval
abbrev pub IsQuiet : Wait → Memory → Type 0
IsQuiet nothing memory = Unit {0}
IsQuiet (grant lock) memory = NoneWritten memory
IsQuiet departure memory = NoneWritten memory
IsQuiet (access need) memory = Unit {0}
IsQuiet (upkeep collection needs) memory = NoneWritten memory
IsQuiet (discard collection) memory = NoneWritten memory
