-- What a read may give where two neighbouring acts that are not ordered change places.
use Rattle.std.proofs.Common.{◌≡◌, ℕ, ◌+◌, ◌<◌, ◌≤◌, List, length, inl, inr, refl, sym, subst, arith}
use Rattle.std.proofs.lemmas.Bool.{cases_lt}
use Rattle.lrc_trace.specs.declared.act.Act.{Act}
use Rattle.lrc_trace.specs.Order.{Precedes, HappensBefore}
use Rattle.lrc_trace.specs.Reading.{WrittenBefore, AreOrdered, IsLastWrite, MayRead, ReadsLazily}
use Rattle.lrc_lazy.specs.Swapped.{pair, Moved, forward, back}
use Rattle.lrc_lazy.proofs.Moving.{moved, moved_back, moved_one, crossed, does_moved}
use Rattle.lrc_lazy.proofs.Order.{order_moved, never_ordered}

module _ (front : List Act) (first second : Act) (rest : List Act) (apart : first.node ≡ second.node → ⊥)
    (unordered : Precedes (pair front first second rest) (length front) (length front + 1) → ⊥)
    (unordered_then : Precedes (pair front second first rest) (length front) (length front + 1) → ⊥) where
  abbrev run : List Act
  run = pair front first second rest

  abbrev other : List Act
  other = pair front second first rest

  abbrev k : ℕ
  k = length front

  apart_too : second.node ≡ first.node → ⊥
  apart_too e = apart (sym e)

  there : {i j m n : ℕ} → Moved k i m → Moved k j n → HappensBefore run i j → HappensBefore other m n
  there = order_moved front first second rest apart unordered

  here : {i j m n : ℕ} → Moved k i m → Moved k j n → HappensBefore other i j → HappensBefore run m n
  here = order_moved front second first rest apart_too unordered_then

  written_there : {j n word i m v : ℕ} → Moved k j n → Moved k i m → WrittenBefore run j word i v → WrittenBefore other n word m v
  written_there at a w = record {
    write = (w.write.0, does_moved front first second rest a w.write.1);
    before = there a at w.before;
  }

  written_here : {j n word i m v : ℕ} → Moved k j n → Moved k i m → WrittenBefore other j word i v → WrittenBefore run n word m v
  written_here at a w = record {
    write = (w.write.0, does_moved front second first rest a w.write.1);
    before = here a at w.before;
  }

  -- two writes that are known, and ordered where they are known, are not these two neighbours
  never_crossed : {j word i l x y u v : ℕ} → Moved k i x → Moved k l y → i < l → y ≤ x → AreOrdered other j word → WrittenBefore other j word x u
      → WrittenBefore other j word y v → ⊥
  never_crossed {j} {word} {i} {l} {x} {y} {u} {v} p q less le ordered a b =
      let pair_is = crossed p q less le in
      let x_is : x ≡ k + 1 = moved_one p (forward pair_is.0 refl) in
      let y_is : y ≡ k = moved_one q (back pair_is.1 refl) in
      never_ordered front second first rest apart_too unordered_then
      (subst (λ z. HappensBefore other z (k + 1)) y_is (subst (λ z. HappensBefore other y z) x_is (ordered y x v u b a (omega (arith, x_is, y_is)))))

  module _ (j n word : ℕ) (at : Moved k j n) where
    ordered_here : AreOrdered other n word → AreOrdered run j word
    ordered_here ordered i l u v a b less =
        let x = moved k i in
        let y = moved k l in
        let a' = written_there at x.1 a in
        let b' = written_there at y.1 b in
        elim (cases_lt x.0 y.0) [
          | inl lt ↦ here (moved_back x.1) (moved_back y.1) (ordered x.0 y.0 u v a' b' lt)
          | inr le ↦ absurd (never_crossed x.1 y.1 less le ordered a' b')
        ]

    last_here : {i m v : ℕ} → Moved k i m → AreOrdered other n word → IsLastWrite other n word m v → IsLastWrite run j word i v
    last_here {i} {m} {v} a ordered l = record {
      written = written_here (moved_back at) (moved_back a) l.written;
      last = λ x u w.
          let y = moved k x in
          let w' = written_there at y.1 w in
          let le = l.last y.0 u w' in
          elim (cases_lt i x) [
            | inl lt ↦ absurd (never_crossed a y.1 lt le ordered l.written w')
            | inr ge ↦ ge
          ];
    }

    pub read_moved : {value : ℕ} → MayRead run j word value → MayRead other n word value
    read_moved m = record {
      weak = elim m.weak [
        | inl zero ↦ inl zero
        | inr (i, w) ↦ let x = moved k i in inr (x.0, written_there at x.1 w)
      ];
      strong = λ ordered.
          let latest = m.strong (ordered_here ordered) in
          record {
            none = λ none. latest.none (λ i v w. let x = moved k i in none x.0 v (written_there at x.1 w));
            last = λ i v l. let x = moved k i in latest.last x.0 v (last_here (moved_back x.1) ordered l);
          };
    }

  -- so the reads are as lazy as they were
  pub lazily_moved : ReadsLazily run → ReadsLazily other
  lazily_moved lazily j word value (p, does) =
      let x = moved k j in
      read_moved x.0 j word (moved_back x.1) (lazily x.0 word value (p, does_moved front second first rest x.1 does))
