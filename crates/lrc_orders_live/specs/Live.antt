-- Tables of the names that matter at each place of flat code, and spots without the values of others.
use Rattle.std.specs.Prelude.{◌≡◌, ◌+◌, ◌<◌, ◌≤◌, ℕ, Bool, true, false, All, List, [], ◌∷◌, length, slice_index_or}
use Rattle.lrc_program.specs.declared.Statement.{Statement}
use Rattle.lrc_exec.specs.declared.code.Instruction.{Instruction}
use Rattle.lrc_exec.specs.declared.spot.Spot.{Spot}
use Rattle.lrc_exec.specs.Flat.{rest_at}
use Rattle.lrc_orders_laws.specs.Names.{matters, matters_still}

-- whether a name is in a table of 32
abbrev pub has : List Bool → ℕ → Bool
has names name = slice_index_or names name false

-- the names of the table are those for which this holds
abbrev pub AreNames : List Bool → (ℕ → Bool) → Type 0
AreNames names holds = (name : ℕ) → name < 32 → has names name ≡ holds name

-- whether a name matters in front of several statements, where these matter behind
abbrev pub matters_among : List Statement → (behind : ℕ → Bool) → ℕ → Bool
matters_among [] behind = behind
matters_among (first ∷ more) behind = matters first (matters_among more behind)

-- there is a table for each place of the code, and in it are exactly the names that matter there
pub record AreLive (code : List Instruction) (table : List (List Bool)) : Type 0 where
  pub size : length table ≡ length code + 1
  pub sizes : All (λ names. length names ≡ 32) table
  pub each : (place : ℕ) → place ≤ length code → AreNames (slice_index_or table place []) (matters_still (rest_at code place))

-- values, but 0 for those whose names are not live
abbrev pub without_dead : List Bool → List ℕ → List ℕ
without_dead [] values = values
without_dead (true ∷ live) (value ∷ values) = value ∷ without_dead live values
without_dead (false ∷ live) (value ∷ values) = 0 ∷ without_dead live values
without_dead live [] = []

-- a spot whose dead values are 0
abbrev pub forgot : List (List Bool) → Spot → Spot
forgot table spot = record spot { privates = without_dead (slice_index_or table spot.place []) spot.privates }
