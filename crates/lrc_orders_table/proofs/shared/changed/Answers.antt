use Rattle.std.proofs.Common.{◌∙◌, sym, subst, ap}
use Rattle.std.specs.Prelude.{slice_set}
use Rattle.lrc_orders_settling.specs.Gone.{freed}
use Rattle.lrc_orders_memory.specs.Sharing.{IsSharedAt}
use Rattle.lrc_orders_table.specs.Shared.{Fits, holders_then, words_then}
use Rattle.lrc_orders_table.proofs.Sharing.{words_unwritten}
use Rattle.lrc_orders_table.proofs.shared.changed.Goals as goal

pub holders-requires : goal.holders-requires
holders-requires c =
    let f = c.requires.fits in
    record { words = f.words; holders = f.holders; at = f.at }

pub acquire-requires : goal.acquire-requires
acquire-requires c =
    let f = c.requires.fits in
    (f.words, subst (Fits c.args.next f.words) (sym (c.in_ok-holders.ensures f.words f.holders f.at)) f.fits)

pub returns-in-Writes-clause-there : goal.returns-in-Writes-clause-there
returns-in-Writes-clause-there c words holders at =
    let deeds = c.args.deeds.now in
    let node = c.args.node in
    let next = c.args.next in
    let held = c.give_back.ensures ∙ ap (freed deeds) (c.acquire.ensures ∙ ap (holders_then node next) (c.in_ok-holders.ensures words holders at)) in
    subst (λ w. IsSharedAt c.written.new.self c.in_ok-number.number w (freed deeds (holders_then node next holders)))
    (ap (λ n. words_then n words) (sym c.in-Writes.is))
    (subst (λ h. IsSharedAt c.written.new.self c.in_ok-number.number (slice_set words c.in-Writes.word c.in-Writes.value) h) held
    (c.in_ok-number.ensures.there words holders at))

pub returns : goal.returns
returns c =
    let deeds = c.args.deeds.now in
    let node = c.args.node in
    let next = c.args.next in
    let e = c.in_ok-number-2.ensures in
    record {
      distinct = e.distinct;
      keeps = e.keeps;
      there = λ words holders at.
          let held = c.give_back.ensures ∙ ap (freed deeds) (c.acquire.ensures ∙ ap (holders_then node next) (c.in_ok-holders.ensures words holders at)) in
          subst (λ w. IsSharedAt c.held.new.self c.in_ok-number-2.number w (freed deeds (holders_then node next holders)))
          (sym (words_unwritten next words c.in_default.not-Writes))
          (subst (λ h. IsSharedAt c.held.new.self c.in_ok-number-2.number words h) held (e.there words holders at));
    }
