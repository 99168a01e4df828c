-- The numbers that are known lead to an element of the item.
use Rattle.std.proofs.Common.{◌≡◌, ◌≤◌, map, filter, sym, ap, subst, arith, ◌∙◌}
use Rattle.std.specs.Prelude.{IfOk}
use Rattle.lrc_named_core.specs.View.{expression_of}
use Rattle.lrc_named_names.specs.Elements.{elements}
use Rattle.lrc_named_names.specs.View.{item_of}
use Rattle.lrc_named_address.specs.Address.{address, address_of, base_of, indices_of, is_open}
use Rattle.lrc_named_address.specs.View.{index_of}
use Rattle.lrc_named_address.proofs.Indices.{base_within}
use Rattle.lrc_named_address.proofs.element.address.Goals as goal

pub indices-requires-clause-counted : goal.indices-requires-clause-counted
indices-requires-clause-counted c = c.args.item.now.counted ∙ ap elements (sym c.deref.ensures.value)

pub indices-requires-clause-some : goal.indices-requires-clause-some
indices-requires-clause-some c = c.args.item.now.some

pub known_base-base-requires : goal.known_base-base-requires
known_base-base-requires c =
    let item = c.args.item.now in
    let counted : item.count ≡ elements item.sizes.items = item.counted in
    let some : 1 ≤ elements item.sizes.items = omega (arith, counted, item.some) in
    let h = base_within item.first (map expression_of c.args.cores.now) item.sizes.items some in
    let e : map index_of c.deref-2.result.now ≡ indices_of (map expression_of c.args.cores.now) item.sizes.items =
    ap (map index_of) c.deref-2.ensures.value ∙ c.in_ok-all.ensures ∙ ap (indices_of (map expression_of c.args.cores.now)) c.deref.ensures.value in
    let b = ap (base_of item.first) e in
    omega (arith, h, b, counted, item.few)

pub returns : goal.returns
returns c =
    let item = c.args.item.now in
    let all = indices_of (map expression_of c.args.cores.now) item.sizes.items in
    let g : map index_of c.in_ok-all.all.items ≡ all =
    c.in_ok-all.ensures ∙ ap (indices_of (map expression_of c.args.cores.now)) c.deref.ensures.value in
    let e : map index_of c.deref-2.result.now ≡ all = ap (map index_of) c.deref-2.ensures.value ∙ g in
    let f : map index_of c.deref-3.result.now ≡ all = ap (map index_of) c.deref-3.ensures.value ∙ g in
    let o : map index_of c.deref-4.result.now ≡ filter is_open all =
    ap (map index_of) c.deref-4.ensures.value ∙ c.in_ok-outside.ensures ∙ ap (filter is_open) f in
    let b : c.known_base-base.result ≡ base_of item.first all = c.known_base-base.ensures ∙ ap (base_of item.first) e in
    let whole : address_of c.known_base-base.result (map index_of c.deref-4.result.now) ≡ address (item_of item) (map expression_of c.args.cores.now) =
    ap (λ n. address_of n (map index_of c.deref-4.result.now)) b ∙ ap (λ l. address_of (base_of item.first all) l) o in
    subst (λ w. IfOk c.address_of.result (λ e. expression_of e ≡ w)) whole c.address_of.ensures
