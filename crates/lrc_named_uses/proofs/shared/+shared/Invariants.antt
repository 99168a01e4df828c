-- What is looked for is found from here on, if anywhere; and each name that is followed leaves one less.
use Rattle.std.proofs.Common.{◌≡◌, ◌+◌, ◌*◌, map, drop}
use Rattle.lrc_named_tokens.specs.View.{located_of}
use Rattle.lrc_named_tree.specs.View.{named_of}
use Rattle.lrc_named_names.specs.View.{declared_of}
use Rattle.lrc_named_constants.specs.Well.{bytes_of}
use Rattle.lrc_named_uses.specs.Shared.{some_shared}
use Rattle.lrc_named_uses.proofs.shared.+shared.Given as goal

abbrev pub invariant-some_shared-loop-found : goal.invariant-some_shared-loop-found
invariant-some_shared-loop-found l =
    some_shared (declared_of l.names) (map located_of l.tokens) l.depth (bytes_of (map named_of l.parameters)) (map located_of l.some)
    ≡ some_shared (declared_of l.names) (map located_of l.tokens) l.depth (bytes_of (map named_of l.parameters)) (map located_of (drop l.found-index l.some))

abbrev pub decreases-is_shared : goal.decreases-is_shared
decreases-is_shared l = 4 * l.depth

abbrev pub decreases-is_shared_in : goal.decreases-is_shared_in
decreases-is_shared_in l = 4 * l.depth + 1

abbrev pub decreases-some_shared : goal.decreases-some_shared
decreases-some_shared l = 4 * l.depth + 2

abbrev pub decreases-is_read : goal.decreases-is_read
decreases-is_read l = 4 * l.depth + 3
