-- Sort by sort.
use Rattle.lrc_races_scored.proofs.missed.fill.Goals as goal

pub returns-clause-missed : goal.returns-clause-missed
returns-clause-missed c = λ naming last numbered is are.
    let sought = c.args.sought in
    let one = c.in_ok-missed.ensures.stays sought naming last is in
    let two = c.in_ok-missed-3.ensures.stays sought naming last one in
    let three = c.in_ok-missed-4.ensures.stays sought naming last two in
    record {
      events = c.in_ok-missed.ensures.missed sought naming last _ _ c.requires.by_line is are;
      pairs = c.in_ok-missed-2.ensures _ _ are;
      locations = c.in_ok-missed-3.ensures.missed sought naming last one;
      variables = c.in_ok-missed-4.ensures.missed sought naming last _ c.requires.by_line numbered two are;
      firsts = c.in_ok-missed-5.ensures.missed sought naming last _ c.requires.by_line numbered three are;
    }

pub returns-clause-stays : goal.returns-clause-stays
returns-clause-stays c = λ sought naming last is.
    let one = c.in_ok-missed.ensures.stays sought naming last is in
    let two = c.in_ok-missed-3.ensures.stays sought naming last one in
    let three = c.in_ok-missed-4.ensures.stays sought naming last two in
    c.in_ok-missed-5.ensures.stays sought naming last three
