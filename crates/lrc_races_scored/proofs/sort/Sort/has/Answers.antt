-- The test of each sort.
use Rattle.std.proofs.Common.{◌≡◌, ◌∙◌, subst, sym}
use Rattle.lrc_races_score.specs.Claims.{statement_of}
use Rattle.lrc_races_score.specs.declared.claim.Claim.{Claim}
use Rattle.lrc_races_scored.specs.Sorts.{is_of}
use Rattle.lrc_races_scored.proofs.SortLemmas.{has_event, has_first, has_locations, has_pair, has_variable}
use Rattle.lrc_races_scored.proofs.sort.Sort.has.Goals as goal

pub returns-in-Event : goal.returns-in-Event
returns-in-Event c =
    subst (λ (claim : Claim). c.eq.result ≡ is_of c.args.self (statement_of claim)) (sym c.in-Event.is) (c.eq.ensures ∙ has_event c.args.self _)

pub returns-in-Pair : goal.returns-in-Pair
returns-in-Pair c =
    subst (λ (claim : Claim). c.eq-in-Pair.result ≡ is_of c.args.self (statement_of claim)) (sym c.in-Pair.is) (c.eq-in-Pair.ensures ∙ has_pair c.args.self _ _)

pub returns-in-Locations : goal.returns-in-Locations
returns-in-Locations c =
    subst (λ (claim : Claim). c.eq-in-Locations.result ≡ is_of c.args.self (statement_of claim)) (sym c.in-Locations.is) (c.eq-in-Locations.ensures ∙ has_locations c.args.self _ _)

pub returns-in-Variable : goal.returns-in-Variable
returns-in-Variable c =
    subst (λ (claim : Claim). c.eq-in-Variable.result ≡ is_of c.args.self (statement_of claim)) (sym c.in-Variable.is) (c.eq-in-Variable.ensures ∙ has_variable c.args.self _)

pub returns-in-First : goal.returns-in-First
returns-in-First c =
    subst (λ (claim : Claim). c.eq-in-First.result ≡ is_of c.args.self (statement_of claim)) (sym c.in-First.is) (c.eq-in-First.ensures ∙ has_first c.args.self _ _)
