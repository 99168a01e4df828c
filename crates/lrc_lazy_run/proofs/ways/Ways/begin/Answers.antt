use Rattle.std.proofs.Common.{List, ap, arith, length, rules}
use Rattle.lrc_lazy_search.specs.declared.state.LazyState.{LazyState}
use Rattle.lrc_lazy_run.proofs.Keeping.{begun_alone, put_first}
use Rattle.lrc_lazy_run.proofs.ways.Ways.begin.Goals as goal

pub returns-clause-ways : goal.returns-clause-ways
returns-clause-ways c =
    let e = c.in_ok-first.ensures in
    let i = c.in_ok-insert_full.ensures in
    let keys = c.insert_full.new.self.keys in
    let s = i.stored in
    let one = put_first _ c.new-states.result.keys keys c.in_ok-first.first s.0 c.in_ok-insert_full.field-0.0 (search rules) i.keys s.1 in
    let long = ap (λ (l : List LazyState). length l) one in
    record {
      task = c.requires;
      kept = begun_alone c.args.sought.now keys c.push.new.self.items c.new.result.items c.in_ok-first.first
          (record { parent = 0; acts = c.new-acts.result }) c.requires one (search rules) (search rules) e.first e.state e.nothing e.notes
          e.neat (e.left c.requires.some) i.unique;
      few = omega (arith, long);
      small = omega (arith, long);
    }

pub returns-clause-none : goal.returns-clause-none
returns-clause-none c =
    let i = c.in_ok-insert_full.ensures in
    let keys = c.insert_full.new.self.keys in
    let s = i.stored in
    let one = put_first _ c.new-states.result.keys keys c.in_ok-first.first s.0 c.in_ok-insert_full.field-0.0 (search rules) i.keys s.1 in
    let long = ap (λ (l : List LazyState). length l) one in
    grind (arith, long)
