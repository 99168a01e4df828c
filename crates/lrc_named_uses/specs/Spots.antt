-- Where names are used.
use Rattle.std.specs.Prelude.{◌≡◌, ◌==◌, ◌&&◌, ◌||◌, ℕ, Bool, true, false, not, List, [], ◌∷◌, Option, Some, None, if◌then◌else◌}
use Rattle.std.specs.Borrow.{Bor}
use Rattle.std.specs.HashMap as hash
use Rattle.std.specs.HashMap.{HashMap}
use Rattle.std.specs.Str.{bytes_eq}
use Rattle.lrc_named_tokens.specs.Token.{Located}
use Rattle.lrc_named_tree.specs.Tree.{Declaration, Named}
use Rattle.lrc_named_entries.specs.Entry.{Entry}
use Rattle.lrc_named_uses.specs.declared.spots.Spots.{Spots}
use Rattle.lrc_named_uses.specs.declared.spots.Spots.TheVariants.{One, More}
use Rattle.lrc_named_uses.specs.Unused.{is_used}

-- one that is used there is used at another token than this
abbrev pub is_elsewhere : Option Spots → ℕ → Bool
is_elsewhere None at = false
is_elsewhere (Some (One other)) at = not (other == at)
is_elsewhere (Some More) at = true

-- one token more
abbrev pub with_spot : Option Spots → ℕ → Spots
with_spot None at = One at
with_spot (Some (One other)) at = if other == at then One at else More
with_spot (Some More) at = More

-- the same of the names, that are keys
abbrev pub is_found : {S : Type 0} → HashMap (Bor (List ℕ)) Spots S → Named → Bool
is_found spots named = is_elsewhere (hash.get_by (λ key. bytes_eq named.bytes key.now) spots) named.at

-- the names that pass the test are used at one token more
abbrev pub AddsSpot : {S : Type 0} → (List ℕ → Bool) → ℕ → (old new : HashMap (Bor (List ℕ)) Spots S) → Type 0
AddsSpot test at old new = (named : Named) → is_found new named ≡ ((test named.bytes && not (at == named.at)) || is_found old named)

-- each name that is found elsewhere is used
abbrev pub AreSpots : {S : Type 0} → List Located → List Declaration → HashMap (Bor (List ℕ)) Spots S → Type 0
AreSpots tokens declarations spots = (named : Named) → is_found spots named ≡ is_used tokens declarations named

abbrev pub unless_found : {S : Type 0} → HashMap (Bor (List ℕ)) Spots S → Entry → List Entry
unless_found spots entry = if is_found spots entry.name then [] else entry ∷ []
