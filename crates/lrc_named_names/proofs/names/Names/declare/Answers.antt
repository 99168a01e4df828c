-- The places are those of the names with the new one.
use Rattle.std.proofs.Common.{◌≡◌, Some, cond, length, vec_len, ap, sym, subst, ◌∙◌, arith}
use Rattle.std.specs.HashMap as hash
use Rattle.std.specs.Str.{bytes_eq}
use Rattle.lrc_named_names.specs.Places.{ArePlaces}
use Rattle.lrc_named_names.proofs.Places.{known_again, new_behind}
use Rattle.lrc_named_names.proofs.names.Names.declare.Goals as goal

pub invariant_of-self-then-contains_key : goal.invariant_of-self-then-contains_key
invariant_of-self-then-contains_key c =
    let names = c.args.self.now in
    record {
      placed = subst (λ l. ArePlaces l names.places) (sym c.in_ok-push.ensures.items)
          (known_again names.declared.items c.args.declared names.places names.placed (sym c.contains_key.ensures ∙ c.if-contains_key.true));
    }

pub invariant_of-self-in-Ok : goal.invariant_of-self-in-Ok
invariant_of-self-in-Ok c =
    let names = c.args.self.now in
    let name = c.args.declared.name.now in
    let same : vec_len names.declared ≡ length names.declared.items = omega arith in
    record {
      placed = subst (λ l. ArePlaces l c.insert.new.self) (sym c.in_ok-push.ensures.items)
          (new_behind names.declared.items c.args.declared names.places c.insert.new.self names.placed
          (sym c.contains_key.ensures ∙ c.if-contains_key.false)
          (λ q. c.in-Ok.ensures.updates.0 q
          ∙ ap (λ n. cond (bytes_eq name q.now) (Some n) (hash.get_by (λ key. bytes_eq q.now key.now) names.places)) (c.len-place.ensures ∙ same)));
    }
