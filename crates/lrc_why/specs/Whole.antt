-- The reasons of an act, and how two acts are ordered.
use Rattle.std.specs.Prelude.{ℕ, List, Vec}
use Rattle.std.specs.declared.alloc.Global.{Global}
use Rattle.lrc_trace.specs.declared.act.Act.{Act}
use Rattle.lrc_trace.specs.declared.act.Deed.{Deed}
use Rattle.lrc_trace.specs.Run.{Does}
use Rattle.lrc_trace.specs.Conflict.{Races}
use Rattle.lrc_trace.specs.Interval.{closes}
use Rattle.lrc_trace.specs.Order.{HappensBefore}
use Rattle.lrc_why_chains.specs.Chains.{IsTold}
use Rattle.lrc_why_chains.specs.Known.{IsActOf}
use Rattle.lrc_why_chains.specs.Writes.{AreExactly}
use Rattle.lrc_why.specs.declared.reasons.Parting.{Parting as PartingRecord}
use Rattle.lrc_why.specs.declared.reasons.Reasons.{Reasons}
use Rattle.lrc_why.specs.declared.reasons.Relation.{Relation}
use Rattle.lrc_why.specs.declared.reasons.Relation.TheVariants.{SameNode, Before, Apart, Race}
use Rattle.lrc_why.specs.declared.reasons.Standing.{Standing}
use Rattle.lrc_why.specs.About.{IsAbout}
use Rattle.lrc_why.specs.Known.{AreClosedWords, CountsClosed, IsNewsIfKnown, IsUnknownNode}
use Rattle.lrc_why.specs.Parting.{IsOpponentIfAny, IsParting, IsStanding}
use Rattle.lrc_why.specs.Spread.{IsForward, OfEach}

-- The reasons of the act at the position, of so many nodes: what it is about, the acts that race with it, its time, what its interval
-- writes where it closes it, what is known of other nodes and what is new, and who learns of it.
pub record AreReasons (run : List Act) (nodes position : ℕ) (reasons : Reasons) : Type 0 where
  pub node : ℕ
  pub deed : Deed
  pub does : Does run position node deed
  pub about : IsAbout run node position deed reasons.about
  pub opponents : OfEach nodes (λ other found. IsOpponentIfAny run other position found) reasons.opponents.items
  pub time : OfEach nodes (λ other count. CountsClosed run other position count) reasons.time.items
  pub words : AreClosedWords (closes deed) run position reasons.words.items
  pub news : OfEach nodes (λ other found. IsNewsIfKnown run node other position found) reasons.news.items
  pub unknown : AreExactly (IsUnknownNode run nodes node position) reasons.unknown.items
  pub forward : IsForward run nodes node position deed reasons.forward

-- two acts of one node
pub record AreOfOneNode (run : List Act) (earlier later : ℕ) : Type 0 where
  pub node : ℕ
  pub first : IsActOf run node earlier
  pub second : IsActOf run node later

-- How the acts at two positions are ordered, the earlier first: by their node; by a chain; or not, and then they race or do not.
pub data IsRelation (run : List Act) (earlier later : ℕ) : Relation → Type 0 where
  same_node : AreOfOneNode run earlier later → IsRelation run earlier later SameNode
  before : {chain : Vec ℕ Global} → ¬ AreOfOneNode run earlier later → IsTold run earlier later chain.items → IsRelation run earlier later (Before chain)
  apart : {parting : PartingRecord} → ¬ HappensBefore run earlier later → ¬ Races run earlier later → IsParting run earlier later parting
      → IsRelation run earlier later (Apart parting)
  race : {parting : PartingRecord} {first second : Standing} → Races run earlier later → IsParting run earlier later parting
      → IsStanding run earlier first → IsStanding run later second → IsRelation run earlier later (Race parting first second)
