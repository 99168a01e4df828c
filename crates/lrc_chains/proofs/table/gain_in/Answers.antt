-- The row's index is gained, and all other rows are as before.
use Rattle.std.proofs.Common.{◌≡◌, ℕ, sym, ◌∙◌, ap}
use Rattle.std.specs.Prelude.{Option, Vec}
use Rattle.std.specs.declared.alloc.Global.{Global}
use Rattle.std.proofs.lemmas.Option.{slice_get-get_or}
use Rattle.lrc_chains.specs.declared.starts.Start.{Start}
use Rattle.lrc_chains.specs.Starts.{better}
use Rattle.lrc_chains.specs.Table.{start_at, start_in, start_in_row}
use Rattle.lrc_chains.proofs.Setting.{slice_get-set_same, slice_get-set_other}
use Rattle.lrc_chains.proofs.table.gain_in.Goals as goal

pub returns : goal.returns
returns c =
    let (lt, kept) = c.in_ok-reach.ensures in
    let rows = c.reach.new.rows.items in
    let r = c.args.row in
    let row = c.gain.new.row in
    let gained = c.in_ok-gain.ensures in
    let was : (k : ℕ) → start_at c.index_mut.result.now.items k ≡ start_in c.args.rows.now.items r k =
    λ k. ap (λ (v : Vec (Option Start) Global). start_at v.items k) c.index_mut.ensures.value
    ∙ sym (ap (λ v. start_in_row v k) (slice_get-get_or rows r _ lt)) ∙ kept r k in
    record {
      here = ap (λ v. start_in_row v c.args.index) (slice_get-set_same rows r row lt) ∙ gained.here
          ∙ ap (better c.args.start) (was c.args.index);
      others = λ other apart. ap (λ v. start_in_row v other) (slice_get-set_same rows r row lt) ∙ gained.others other apart ∙ was other;
      rows = λ other place apart. ap (λ v. start_in_row v place) (slice_get-set_other rows r row other apart) ∙ kept other place;
    }
