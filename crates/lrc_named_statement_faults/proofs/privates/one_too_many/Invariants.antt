-- What is seen are the different names so far, of which there are at most 32.
use Rattle.std.proofs.Common.{◌≡◌, ◌≤◌, ℕ, List, length, map, take}
use Rattle.lrc_named_tree.specs.View.{named_of}
use Rattle.lrc_named_constants.specs.Well.{bytes_of, is_among}
use Rattle.lrc_named_statement_faults.specs.Statements.{different}
use Rattle.lrc_named_statement_faults.proofs.privates.one_too_many.Given as goal

abbrev pub invariant-loop-name : goal.invariant-loop-name
invariant-loop-name l = record {
  same : (n : List ℕ) → is_among (bytes_of (map named_of l.seen.items)) n ≡ is_among (bytes_of (map named_of (take l.name-index l.names))) n;
  many : length l.seen.items ≡ different (bytes_of (map named_of (take l.name-index l.names)));
  few : length l.seen.items ≤ 32;
}
