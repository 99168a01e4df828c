-- Where the reading of an interval ends, and how.
use Rattle.std.proofs.Common.{◌≡◌, ℕ, ◌<◌, ◌≤◌, true, false, List, Option, Ok, Err, refl}
use Rattle.std.proofs.lemmas.Bool.{le-ltb, lt-ltb}
use Rattle.lrc_time.specs.Time.{entry}
use Rattle.lrc_wire.specs.declared.fault.WireFault.{WireFault}
use Rattle.lrc_wire.specs.declared.fault.WireFault.TheVariants.{BadNode, NotAscending}
use Rattle.lrc_wire.specs.declared.version.Version.{Version}
use Rattle.lrc_wire.specs.Reading.{◌>>=◌, byte_at, is_after, is_below, next_interval_at, pages_at, stamp_at, tested}

-- the first byte is missing, or names no node
pub no_node : (v : Version) (nodes : ℕ) (before : Option (ℕ × ℕ)) (bytes : List ℕ) (fault : WireFault) → byte_at bytes ≡ Err fault
    → next_interval_at v nodes before bytes ≡ Err fault
unfolding next_interval_at tested
no_node v nodes before bytes fault wrong = rw wrong refl

pub bad_node : (v : Version) (nodes : ℕ) (before : Option (ℕ × ℕ)) (bytes : List ℕ) (node : ℕ) (rest : List ℕ) → byte_at bytes ≡ Ok (node, rest)
    → nodes ≤ node → next_interval_at v nodes before bytes ≡ Err BadNode
unfolding next_interval_at tested
bad_node v nodes before bytes node rest read high = rw (read, le-ltb node nodes high) refl

module _ (v : Version) (nodes : ℕ) (before : Option (ℕ × ℕ)) (bytes : List ℕ) (node : ℕ) (rest : List ℕ)
    (read : byte_at bytes ≡ Ok (node, rest)) (in_range : node < nodes) where
  -- a stamp has a fault
  pub stamp_wrong : (fault : WireFault) → stamp_at nodes node rest ≡ Err fault → next_interval_at v nodes before bytes ≡ Err fault
  unfolding next_interval_at tested
  stamp_wrong fault wrong = rw (read, lt-ltb node nodes in_range, wrong) refl

  -- the interval does not come after the one before it
  pub not_after : (stamp after : List ℕ) → stamp_at nodes node rest ≡ Ok (stamp, after) → is_after is_below before (node, entry stamp node) ≡ false
      → next_interval_at v nodes before bytes ≡ Err NotAscending
  unfolding next_interval_at tested
  not_after stamp after is late = rw (read, lt-ltb node nodes in_range, is, late) refl

  -- what is left is the pages
  pub but_pages : (stamp after : List ℕ) → stamp_at nodes node rest ≡ Ok (stamp, after) → is_after is_below before (node, entry stamp node) ≡ true
      → next_interval_at v nodes before bytes ≡ (pages_at v after >>= λ pages. Ok (record { node = node; stamp = stamp; pages = pages.0 }, pages.1))
  unfolding next_interval_at tested
  but_pages stamp after is late = rw (read, lt-ltb node nodes in_range, is, late) refl
