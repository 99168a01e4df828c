-- What is counted of an expression, by its form.
use Rattle.std.proofs.Common.{◌≡◌, ◌+◌, ℕ, Bool, true, false, min, max, Some, None, refl, sym, ap, ◌∙◌, arith}
use Rattle.lrc_program.specs.declared.Operator.{Operator}
use Rattle.lrc_lang.specs.Grammar.{joins}
use Rattle.lrc_named_core.specs.Tree.{Private, Expression, number, private, me, nodes, binary}
use Rattle.lrc_named_text.specs.declared.expression.Room.{Room}
use Rattle.lrc_named_text.specs.declared.expression.Room.TheVariants.{Whole}
use Rattle.lrc_named_text.specs.Expressions.{left_room, right_room}
use Rattle.lrc_named_limits.specs.declared.measure.Measure.{Measure}
use Rattle.lrc_named_limits.specs.Limits.{greatest_own, open_in, operators, own_number, surrounded}
use Rattle.lrc_named_limits.specs.Measure.{IsMeasure, needs_parentheses, top_of}

-- the open `(` by those inside
open_around : (room : Room) (e : Expression) → open_in room e ≡ surrounded (needs_parentheses room (top_of e)) (open_in Whole e)
open_around room (number n) = refl
open_around room (private name) = refl
open_around room me = refl
open_around room nodes = refl
open_around room (binary left o right) = refl

surrounded_cut : (b : Bool) (n : ℕ) → min (surrounded b (min n 33)) 33 ≡ min (surrounded b n) 33
surrounded_cut true n = omega arith
surrounded_cut false n = omega arith

side : (room : Room) (e : Expression) (m : Measure) (b : Bool) (found : ℕ) → IsMeasure e m → b ≡ needs_parentheses room m.top → found ≡ surrounded b m.depth
    → min found 33 ≡ min (open_in room e) 33
side room e m b found is grouped so =
    let t = is.top in
    let o = is.depth in
    let c : b ≡ needs_parentheses room (top_of e) = grouped ∙ ap (λ x. needs_parentheses room x) t in
    ap (λ n. min n 33) (so ∙ ap (λ x. surrounded b x) o) ∙ surrounded_cut b (open_in Whole e) ∙ ap (λ x. min (surrounded x (open_in Whole e)) 33) c
    ∙ ap (λ n. min n 33) (sym (open_around room e))

cut_max : (a b c d : ℕ) → min a 33 ≡ min c 33 → min b 33 ≡ min d 33 → min (max a b) 33 ≡ min (max c d) 33
cut_max a b c d e f = omega (arith, e, f)

cut_sum : (a b x y : ℕ) → a ≡ min x 257 → b ≡ min y 257 → min (1 + (a + b)) 257 ≡ min (1 + (x + y)) 257
cut_sum a b x y e f = omega (arith, e, f)

pub binary_counted : (l r : Expression) (o : Operator) (left right m : Measure) (one other : ℕ) (b c : Bool)
    → b ≡ needs_parentheses (left_room (joins o)) left.top → c ≡ needs_parentheses (right_room (joins o)) right.top
    → one ≡ surrounded b left.depth → other ≡ surrounded c right.depth
    → m.operators ≡ min (1 + (left.operators + right.operators)) 257 → m.depth ≡ min (max one other) 33 → m.top ≡ Some o → m.own ≡ max left.own right.own
    → IsMeasure l left → IsMeasure r right → IsMeasure (binary l o r) m
binary_counted l r o left right m one other b c gl gr sl sr ops opens top own a d =
    let p = a.operators in
    let q = d.operators in
    let x = a.own in
    let y = d.own in
    record {
      operators = ops ∙ cut_sum left.operators right.operators (operators l) (operators r) p q;
      depth = opens ∙ cut_max one other (open_in (left_room (joins o)) l) (open_in (right_room (joins o)) r)
          (side (left_room (joins o)) l left b one a gl sl) (side (right_room (joins o)) r right c other d gr sr);
      top = top;
      own = own ∙ ap (λ n. max n right.own) x ∙ ap (λ n. max (greatest_own l) n) y;
    }

pub name_counted : (x : Private) (m : Measure) → m.operators ≡ 0 → m.depth ≡ 0 → m.top ≡ None → m.own ≡ own_number x → IsMeasure (private x) m
name_counted x m ops depth top own = record { operators = ops; depth = depth; top = top; own = own }
