-- The pairs between first accesses and first writes race, and every race that the run names is of one.
use Rattle.std.proofs.Common.{[], List, inl, inr, sym, subst, arith}
use Rattle.std.specs.Prelude.{Contains}
use Rattle.lrc_judge.specs.declared.entries.Told.TheVariants.{EachAccess, EachWrite}
use Rattle.lrc_judge.specs.declared.lanes.Entry.{Entry}
use Rattle.lrc_judge.specs.Adding.{Adds}
use Rattle.lrc_judge.specs.Lanes.{AreSearchable}
use Rattle.lrc_judge.specs.Pairs.{IsCrossing}
use Rattle.lrc_judge.proofs.Naming.{firsts_searchable, pairs_sound, pairs_below}
use Rattle.lrc_judge.proofs.races.race_pairs.Goals as goal

pub add_crossing-requires : goal.add_crossing-requires
add_crossing-requires c = subst (λ l. AreSearchable c.args.order.now l) (sym c.as_slice-2.ensures.value)
    (firsts_searchable c.args.acts.now EachWrite c.args.intervals.now c.in_ok-writes.writes.items c.args.order.now c.in_ok-writes.ensures
    c.requires.order)

pub add_crossing-requires-2 : goal.add_crossing-requires-2
add_crossing-requires-2 c = subst (λ l. AreSearchable c.args.order.now l) (sym c.as_slice-4.ensures.value)
    (firsts_searchable c.args.acts.now EachAccess c.args.intervals.now c.in_ok-accesses.accesses.items c.args.order.now c.in_ok-accesses.ensures
    c.requires.order)

pub returns : goal.returns
returns c =
    let run = c.args.acts.now in
    let intervals = c.args.intervals.now in
    let order = c.args.order.now in
    let accesses = c.in_ok-accesses.accesses.items in
    let writes = c.in_ok-writes.writes.items in
    let some = c.add_crossing.new.pairs.items in
    let found = c.add_crossing-2.new.pairs.items in
    let first : Adds [] some (IsCrossing accesses writes order) =
    subst (λ (xs : List Entry). Adds [] some (IsCrossing xs writes order)) c.as_slice.ensures.value
    (subst (λ (ys : List Entry). Adds [] some (IsCrossing c.as_slice.result.now ys order)) c.as_slice-2.ensures.value
    (subst (λ zs. Adds zs some (IsCrossing c.as_slice.result.now c.as_slice-2.result.now order)) c.new-pairs.ensures.items c.in_ok-add_crossing.ensures)) in
    let second : Adds some found (IsCrossing writes accesses order) =
    subst (λ (xs : List Entry). Adds some found (IsCrossing xs accesses order)) c.as_slice-3.ensures.value
    (subst (λ (ys : List Entry). Adds some found (IsCrossing c.as_slice-3.result.now ys order)) c.as_slice-4.ensures.value
    c.in_ok-add_crossing-2.ensures) in
    record {
      sound = λ pair h. pairs_sound run intervals c.requires.intervals order c.requires.order accesses writes c.in_ok-accesses.ensures
          c.in_ok-writes.ensures c.requires.nodes pair (elim ((second.exact pair).0 h) [
            | inr two ↦ inr two
            | inl before ↦ elim ((first.exact pair).0 before) [ inl (k, lt, _) ↦ absurd (omega arith) | inr one ↦ inl one ]
          ]);
      complete = λ race other of.
          let (pair, crossing, named, later, earlier) = pairs_below run intervals c.requires.intervals order c.requires.order accesses writes c.in_ok-accesses.ensures
          c.in_ok-writes.ensures c.requires.nodes race other of in
          let has : Contains found pair = (second.exact pair).1 (elim crossing [
            | inl one ↦ inl ((first.exact pair).1 (inr one))
            | inr two ↦ inr two
          ]) in
          (pair, has, named, later, earlier);
    }
