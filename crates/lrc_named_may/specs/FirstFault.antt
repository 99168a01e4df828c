-- The first fault of what stands in a text as such, by its place among the lexemes.
use Rattle.std.specs.Prelude.{◌≡◌, ℕ, List, [], ◌∷◌, ◌++◌, length}
use Rattle.lrc_lang.specs.declared.fault.FaultKind.{FaultKind}
use Rattle.lrc_lang.specs.declared.fault.FaultKind.TheVariants.{BadByte, Unexpected}
use Rattle.lrc_named_tokens.specs.Token.{Token, Located}
use Rattle.lrc_named_parse.specs.Faults.{IsFaultOf, AreFaultless}
use Rattle.lrc_named_may.specs.declared.kind.Kind.{Kind}
use Rattle.lrc_named_may.specs.Kind.{AreThoseThatMayStand}

-- Before this place are these tokens, without a fault. What stands there has this fault, and none that is tried before it.
pub record HasFaultAt (all : List Located) (index : ℕ) (kind : FaultKind) (before : List Token) : Type 0 where
  pub front : List Located
  pub found : Located
  pub others : List Located
  pub split : all ≡ front ++ found ∷ others
  pub place : length front ≡ index
  pub faultless : AreFaultless [] front before
  pub fault : IsFaultOf before found.lexeme kind

-- what may stand is told of a token that is unexpected and of a byte that begins none
abbrev pub TellsKinds : FaultKind → List Token → List Kind → Type 0
TellsKinds Unexpected before may_stand = AreThoseThatMayStand before may_stand
TellsKinds BadByte before may_stand = AreThoseThatMayStand before may_stand
TellsKinds _ before may_stand = Unit {0}

-- the first fault of what stands in a text, and what may stand there in place of it
pub record IsFirstFaultOf (all : List Located) (index : ℕ) (kind : FaultKind) (may_stand : List Kind) : Type 0 where
  pub before : List Token
  pub has : HasFaultAt all index kind before
  pub tells : TellsKinds kind before may_stand
