use Rattle.std.proofs.Common.{get_or, subst}
use Rattle.std.specs.Prelude.{MatchOption}
use Rattle.lrc_trace.specs.declared.act.Act.{Act}
use Rattle.lrc_trace.specs.declared.act.Deed.TheVariants.{Quiet}
use Rattle.lrc_trace.specs.Order.{HappensBefore}
use Rattle.lrc_trace.proofs.Positions.{Does-one_node, Does-read}
use Rattle.lrc_why_chains.specs.Chains.{IsTold}
use Rattle.lrc_why_chains.specs.Known.{IsActOf}
use Rattle.lrc_why.specs.Whole.{before, same_node}
use Rattle.lrc_why.proofs.whole.relation.Goals as goal

abbrev quiet : Act
quiet = record { node = 0; deed = Quiet }

pub returns-then-is_act_of : goal.returns-then-is_act_of
returns-then-is_act_of c =
    let run = c.args.acts.now in
    let later = c.args.later in
    same_node (record {
      node = (get_or run later quiet).node;
      first = c.if-is_act_of.ensures;
      second = ((get_or run later quiet).deed, Does-read run later quiet c.requires.within);
    })

pub returns-in-Some : goal.returns-in-Some
returns-in-Some c =
    let run = c.args.acts.now in
    let earlier = c.args.earlier in
    let later = c.args.later in
    before
    (λ h.
    let (d, there) = h.second in
    c.if-is_act_of.ensures
    (subst (λ n. IsActOf run n earlier) (Does-one_node there (Does-read run later quiet c.requires.within)) h.first))
    (subst (λ told. MatchOption told (HappensBefore run earlier later → ⊥) (λ chain. IsTold run earlier later chain.items)) c.in-Some.is c.in_ok-chain.ensures)
