-- Where a node stands, what an expression is worth to it, and how far its deeds lead it.
use Rattle.std.specs.Prelude.{◌≡◌, ◌<◌, ◌⊎◌, ℕ, true, false, Option, Some, List, [], ◌∷◌, ◌++◌, length, slice_index}
use Rattle.lrc_program.specs.declared.Statement.{Statement}
use Rattle.lrc_program.specs.Statements.{block_of}
use Rattle.lrc_trace.specs.declared.act.Deed.{Deed}
use Rattle.lrc_exec.specs.Meaning.{Thread, next_of}
use Rattle.lrc_exec.specs.Follows.{Goes}
use Rattle.lrc_program.specs.declared.Operator.TheVariants.{Equal}
use Rattle.lrc_named_core.specs.Tree.{Expression, number, private, binary, Private, own, has_name, Origin, read, write, acquire, release, Block, next}
use Rattle.lrc_named_address_laws.specs.Values.{value_of}
use Rattle.lrc_named_acts_laws.specs.Coded.{Numbers, number_of, block_coded, KeepAll}

-- what a private name is worth to a thread
abbrev pub worth : Numbers → Thread → Private → ℕ
worth numbers t name = slice_index t.privates (number_of numbers name)

-- the value of an expression of the core to a thread
abbrev pub value_at : Numbers → Thread → Expression → Option ℕ
value_at numbers t p = value_of (worth numbers t) t.setting.me t.setting.nodes p

-- a node stands before these statements of the core, behind which come others, and waits at no barrier
pub record StandsBefore (numbers : Numbers) (t : Thread) (core : Block) (more : List Statement) : Type 0 where
  pub statements : List Statement
  pub rest : t.rest ≡ statements ++ more
  pub are : block_of statements ≡ block_coded numbers core
  pub here : t.arrived ≡ false

-- it has more than so many statements still to do, or waits at a barrier
abbrev pub HasMore : ℕ → Thread → Type 0
HasMore n t = (n < length t.rest) ⊎ (t.arrived ≡ true)

-- deeds lead a thread on, and before each of them it has more than so many statements still to do
pub data Stays (n : ℕ) : Thread → List Deed → Thread → Type 0 where
  no_deed : {t : Thread} → Stays n t [] t
  one_deed : {t u v : Thread} {d : Deed} {ds : List Deed} → HasMore n t → Goes (next_of t) d (Some u) → Stays n u ds v → Stays n t (d ∷ ds) v

-- an expression that the block does not change: it names nothing, or a name of the translation's own that the block does not set
abbrev pub IsSteady : Numbers → Expression → Block → Type 0
IsSteady numbers p inside =
    (has_name p ≡ false)
    ⊎ ((k : ℕ) × (first : ℕ) × (last : ℕ) × (p ≡ private (own k first last)) × KeepAll (numbers.of_own k) (block_coded numbers inside))

-- that a private name is 0
abbrev pub is_zero : Private → Expression
is_zero name = binary (private name) Equal (number 0)

-- the first of these statements uses the word or the lock that the expression says
pub data UsesElement (p : Expression) : Block → Type 0 where
  reads : {at : Origin} {name : Private} {others : Block} → UsesElement p (next (read at name p) others)
  writes : {at : Origin} {value : Expression} {others : Block} → UsesElement p (next (write at p value) others)
  acquires : {at : Origin} {others : Block} → UsesElement p (next (acquire at p) others)
  releases : {at : Origin} {others : Block} → UsesElement p (next (release at p) others)
