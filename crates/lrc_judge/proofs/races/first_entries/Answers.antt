-- The first of the entries of the run.
use Rattle.std.proofs.Common.{ℕ, ◌<◌, List, length, get_or, sym, subst, arith}
use Rattle.lrc_trace.proofs.Positions.{Does-within}
use Rattle.lrc_judge.specs.declared.lanes.Entry.{Entry}
use Rattle.lrc_judge.specs.Firsts.{AreFirsts}
use Rattle.lrc_judge.proofs.Searching.{contained_at}
use Rattle.lrc_judge.proofs.Representing.{first_entries-of}
use Rattle.lrc_judge.proofs.races.first_entries.Goals as goal

pub firsts_of-requires-clause-within : goal.firsts_of-requires-clause-within
firsts_of-requires-clause-within c =
    let entries = c.in_ok-entries.entries.items in
    subst (λ (es : List Entry). (k : ℕ) (d : Entry) → k < length es → (get_or es k d).position < length c.args.intervals.now) (sym c.as_slice.ensures.value)
    (λ k d lt.
    let e = get_or entries k d in
    let is = (c.in_ok-entries.ensures.exact e.lane e.position).0 (contained_at entries k d lt) in
    let within = Does-within is.does in
    omega (arith, within, c.requires))

pub returns : goal.returns
returns c = first_entries-of c.args.acts.now c.args.told c.in_ok-entries.entries.items c.args.intervals.now c.in_ok-firsts.firsts.items c.in_ok-entries.ensures
    (subst (λ es. AreFirsts es c.args.intervals.now c.in_ok-firsts.firsts.items) c.as_slice.ensures.value c.in_ok-firsts.ensures)
