-- The address of an element: the number of its word or lock, as an expression of the core. An index that is out of range makes it
-- 2^64 - 1, which is no word and no lock.
use Rattle.std.specs.Prelude.{ℕ, ◌+◌, ◌*◌, ◌==◌, Bool, Option, Some, None, is_none, if◌then◌else◌, List, [], ◌∷◌, filter, nat_lt}
use Rattle.lrc_program.specs.declared.Operator.TheVariants.{Add, Subtract, Multiply, Less}
use Rattle.lrc_named_core.specs.Tree.{Expression, number, private, me, nodes, binary}
use Rattle.lrc_named_names.specs.Names.{Item}
use Rattle.lrc_named_names.specs.Elements.{elements}

-- an index of an item: its expression, the size that it has to be below, and how many words or locks one more of it is
pub record Index : Type 0 where
  pub core : Expression
  pub size : ℕ
  pub stride : ℕ

-- the indices with their sizes: an array's elements stand by rows, so that the last index runs fastest
abbrev pub indices_of : List Expression → List ℕ → List Index
indices_of [] sizes = []
indices_of (core ∷ cores) [] = []
indices_of (core ∷ cores) (size ∷ sizes) = record { core = core; size = size; stride = elements sizes } ∷ indices_of cores sizes

-- the number that an index is, where it is one below its size
abbrev pub number_within : Expression → ℕ → Option ℕ
number_within (number n) size = if nat_lt n size then Some n else None
number_within (private name) size = None
number_within me size = None
number_within nodes size = None
number_within (binary left o right) size = None

-- whether an index may be out of range: it is no number below its size
abbrev pub is_open : Index → Bool
is_open i = is_none (number_within i.core i.size)

-- how far from the first element one is, as far as it is known: the indices that are numbers below their sizes
abbrev pub offset : Option ℕ → ℕ → ℕ
offset None stride = 0
offset (Some n) stride = n * stride

abbrev pub offset_of : Index → ℕ
offset_of i = offset (number_within i.core i.size) i.stride

abbrev pub base_of : ℕ → List Index → ℕ
base_of base [] = base
base_of base (i ∷ others) = base_of (base + offset_of i) others

-- that the index is below its size
abbrev pub test_of : Index → Expression
test_of i = binary i.core Less (number i.size)

-- how far it leads from the first element
abbrev pub summand_of : Index → Expression
summand_of i = if i.stride == 1 then i.core else binary i.core Multiply (number i.stride)

-- a product goes on with the tests of these, and a sum with their summands
abbrev pub times_tests : Expression → List Index → Expression
times_tests left [] = left
times_tests left (i ∷ others) = times_tests (binary left Multiply (test_of i)) others

abbrev pub plus_summands : Expression → List Index → Expression
plus_summands left [] = left
plus_summands left (i ∷ others) = plus_summands (binary left Add (summand_of i)) others

-- `base` is the number that the indices make that are numbers below their sizes, and these are the others
abbrev pub address_of : (base : ℕ) → List Index → Expression
address_of base [] = number base
address_of base (i ∷ others) =
    binary (binary (times_tests (test_of i) others) Multiply (plus_summands (number (base + 1)) (i ∷ others))) Subtract (number 1)

-- the address of an element, with these indices
abbrev pub address : Item → List Expression → Expression
address item cores = address_of (base_of item.first (indices_of cores item.sizes)) (filter is_open (indices_of cores item.sizes))
