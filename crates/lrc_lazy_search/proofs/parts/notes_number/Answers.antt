use Rattle.std.proofs.Common.{◌≡◌, sym, subst}
use Rattle.std.specs.Prelude.{Some, slice_get}
use Rattle.lrc_orders.proofs.Keeping.{put_grows}
use Rattle.lrc_orders.proofs.Alike.{acts_same}
use Rattle.lrc_lazy_search.proofs.parts.notes_number.Goals as goal

pub returns-clause-grows : goal.returns-clause-grows
returns-clause-grows c = put_grows _ c.args.all.now.keys c.insert_full.new.self.keys _ c.in_ok-place.ensures.keys

pub returns-clause-there : goal.returns-clause-there
returns-clause-there c =
    let notes = c.args.notes in
    let s = c.in_ok-place.ensures.stored in
    record {
      notes = s.0;
      there = subst (λ n. slice_get c.insert_full.new.self.keys n ≡ Some s.0) (sym c.in_ok-number.ensures) s.1;
      acts_are = sym (acts_same notes.acts.items s.0.acts.items s.2);
    }
