use Rattle.std.proofs.Common.{◌≡◌, ◌∙◌, List, ap, sym, subst}
use Rattle.std.specs.Prelude.{is_none}
use Rattle.std.specs.List.{list_all}
use Rattle.lrc_store.specs.declared.key.Key.{Key}
use Rattle.lrc_store.specs.Store.{changes_at}
use Rattle.lrc_protocol.specs.Pages.{asked_of, unknown_of}
use Rattle.lrc_need.specs.Need.{AreAskable}
use Rattle.lrc_need.specs.Seen.{seen_base}
use Rattle.lrc_need.proofs.Askable.{filter-AreAskable}
use Rattle.lrc_memory.proofs.Attaches.{ok_then}
use Rattle.lrc_memory.proofs.Needs.{all-unknown}
use Rattle.lrc_memory.proofs.fetching.need_of.Goals as goal

pub returns-then-are_unknown : goal.returns-then-are_unknown
returns-then-are_unknown c =
    let unknown : unknown_of c.args.store.now c.args.missing.items ≡ c.args.missing.items =
    all-unknown c.args.store.now c.args.missing.items
    (sym (c.are_unknown.ensures ∙ ap (λ (keys : List Key). list_all (λ key. is_none (changes_at c.args.store.now key)) keys) c.deref.ensures.value)
    ∙ c.if-are_unknown.true) in
    ok_then c.asking_all.result c.asking_all.ensures
    (λ need is. is ∙ ap (λ keys. record { page = c.args.page; base = seen_base c.args.base; asked = asked_of c.args.nodes keys; missing = c.args.missing.items }) (sym unknown))

pub new-requires-clause-askable : goal.new-requires-clause-askable
new-requires-clause-askable c =
    subst AreAskable
    (sym (c.deref-3.ensures.value ∙ c.in_ok-unknown.ensures ∙ ap (unknown_of c.args.store.now) c.deref-2.ensures.value))
    (filter-AreAskable (λ (key : Key). is_none (changes_at c.args.store.now key)) c.args.missing.items c.requires.askable)
