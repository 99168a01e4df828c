-- What the map has at the name.
use Rattle.std.proofs.Common.{◌≡◌, length, vec_len, ◌∙◌, arith}
use Rattle.lrc_named_names.proofs.Places.{place_found}
use Rattle.lrc_named_names.proofs.names.Names.place.Goals as goal

pub returns-in-Some : goal.returns-in-Some
returns-in-Some c =
    let names = c.args.self.now in
    place_found names.declared.items c.args.name.now _ (c.in-Some.ensures.value ∙ names.placed c.args.name.now)

pub returns-in-None : goal.returns-in-None
returns-in-None c =
    let names = c.args.self.now in
    let same : vec_len names.declared ≡ length names.declared.items = omega arith in
    c.len.ensures ∙ same ∙ place_found names.declared.items c.args.name.now _ (c.in-None.ensures.value ∙ names.placed c.args.name.now)
