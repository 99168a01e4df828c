use Rattle.std.proofs.Common.{◌-◌, length, map, refl, ap, arith}
use Rattle.lrc_lang.specs.Parser.Located.{located_of}
use Rattle.lrc_lang.proofs.Located.{begun, behind_next, located_there, within_bound, one_located, all_located, pushed}
use Rattle.lrc_lang.proofs.positions.positions_of.Goals as goal

pub loop-all-init : goal.loop-all-init
loop-all-init c = record {
  so_far = begun (ap (map located_of) c.new-all.ensures.items) c.new-lexer.ensures.line c.new-lexer.ensures.rest;
  left = omega (arith, ap length c.new-lexer.ensures.rest);
  behind = refl;
  bound = omega arith;
}

pub loop-all-preserved : goal.loop-all-preserved
loop-all-preserved c =
    let text = c.args.text.now in
    let past = c.loop-all.invariant in
    let next = c.next_met-met.ensures.next in
    let left = c.next_met-met.result.left in
    let lexer = c.next_met-met.new.self in
    let behind = behind_next text c.loop-all.offset (length text - left) c.loop-all.behind c.behind_line_feed-behind.result
    (omega (arith, next.within, past.left)) (omega (arith, past.left)) past.behind c.behind_line_feed-behind.ensures.value in
    let there = located_there text next.place _ left c.behind_line_feed-behind.result next.is_left behind in
    let whole = one_located past.so_far next (c.if-not-goes_on.ensures.0 refl) there in
    record {
      so_far = rw (c.next_met-met.ensures.line, pushed located_of c.loop-all.all.items c.push.new.self.items _ c.in_ok-push.ensures.items) whole;
      left = omega (arith, next.behind, next.within, past.left);
      behind = behind;
      bound = within_bound _ _ _ _ _ past.bound (omega (arith, next.within, past.left)) c.behind_line_feed-behind.ensures.bound;
    }

pub returns-then-not-goes_on : goal.returns-then-not-goes_on
returns-then-not-goes_on c =
    let text = c.args.text.now in
    let past = c.loop-all.invariant in
    let next = c.next_met-met.ensures.next in
    let left = c.next_met-met.result.left in
    let behind = behind_next text c.loop-all.offset (length text - left) c.loop-all.behind c.behind_line_feed-behind.result
    (omega (arith, next.within, past.left)) (omega (arith, past.left)) past.behind c.behind_line_feed-behind.ensures.value in
    let there = located_there text next.place _ left c.behind_line_feed-behind.result next.is_left behind in
    let whole = all_located past.so_far next (λ h. let t = c.if-not-goes_on.ensures.1 h in absurd (cc)) there in
    rw (pushed located_of c.loop-all.all.items c.push.new.self.items _ c.in_ok-push.ensures.items) whole
