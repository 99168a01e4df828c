-- What is news to one who learns: of what two know together, and behind the close of an interval.
use Rattle.std.proofs.Common.{◌≡◌, ℕ, ◌+◌, ◌<◌, ◌≤◌, ◌&&◌, ◌||◌, ◌⊎◌, Bool, true, false, List, length, inl, inr, refl, sym, ap, ◌∙◌, arith}
use Rattle.std.specs.Prelude.{◌==◌, Option, Some, None, nat_lt, nat_le, if◌then◌else◌}
use Rattle.std.proofs.lemmas.Bool.{cases_Bool, cases_eq, cases_lt, ltb-true, lt-ltb, eqb-true, eq-eqb, leb-true, le-leb, and_parts, and_from, both_ways}
use Rattle.std.proofs.lemmas.Bool.{or_left, or_right, false_from_ne_true, cond-true, cond-false}
use Rattle.lrc_time.specs.Time.{entry, Covers}
use Rattle.lrc_time.proofs.Times.{entry-set_same, entry-set_other, entry-joined, covers-raised}
use Rattle.lrc_clock.specs.Times.{raised}
use Rattle.lrc_exact.specs.Memory.{Rank, Word, Interval, is_lower, replaces}
use Rattle.lrc_exact.specs.Rule.{Knowledge, known_together, with_interval}
use Rattle.lrc_exact_known.specs.Learned.{IsNews, TakesHighest, unchanged}
use Rattle.lrc_exact_marks.proofs.Ranks.{Either, by_other_words, one_after_other}

-- ---- what two know together

-- of an interval what the first knows, or else the second
pub first_knows : (mine yours : Knowledge) (q index : ℕ) → index ≤ entry mine.time q
    → (known_together mine yours).interval q index ≡ mine.interval q index
first_knows mine yours q index old =
    cond-true (nat_le index (entry mine.time q)) (mine.interval q index) (yours.interval q index) (le-leb index (entry mine.time q) old)

pub second_knows : (mine yours : Knowledge) (q index : ℕ) → entry mine.time q < index
    → (known_together mine yours).interval q index ≡ yours.interval q index
second_knows mine yours q index new =
    cond-false (nat_le index (entry mine.time q)) (mine.interval q index) (yours.interval q index)
    (false_from_ne_true (nat_le index (entry mine.time q)) (λ old. let le = leb-true index (entry mine.time q) old in omega arith))

module _ (nodes : ℕ) (since : List ℕ) (mine yours : Knowledge) (word : ℕ) (covered : Covers mine.time since) where
  pub news-parts : (r : Rank) (v : ℕ) → IsNews nodes since (known_together mine yours) word r v
      → Either (IsNews nodes since mine word) (IsNews nodes mine.time yours word) r v
  news-parts r v x = go (nat_le index (entry mine.time q)) refl x.change.ranked x.change.changed
    where
      q : ℕ
      q = x.node

      index : ℕ
      index = x.change.index

      go : (t : Bool) → nat_le index (entry mine.time q) ≡ t
          → r ≡ record { weight = (if t then mine.interval q index else yours.interval q index).weight; node = q }
          → (if t then mine.interval q index else yours.interval q index).changed word ≡ Some v
          → Either (IsNews nodes since mine word) (IsNews nodes mine.time yours word) r v
      go true e ranked changed =
          inl record {
            node = q;
            among = x.among;
            change = record { index = index; new = x.change.new; known = leb-true index (entry mine.time q) e; ranked = ranked; changed = changed };
          }
      go false e ranked changed =
          let both = entry-joined mine.time yours.time q in
          let known = x.change.known in
          elim (cases_lt (entry mine.time q) index) [
            | inr old ↦ absurd (both_ways (nat_le index (entry mine.time q)) e (le-leb index (entry mine.time q) old))
            | inl new ↦
                inr record {
                  node = q;
                  among = x.among;
                  change = record { index = index; new = new; known = omega arith; ranked = ranked; changed = changed };
                }
          ]

  pub news-joined : (r : Rank) (v : ℕ) → Either (IsNews nodes since mine word) (IsNews nodes mine.time yours word) r v
      → IsNews nodes since (known_together mine yours) word r v
  news-joined r v (inl x) =
      let q = x.node in
      let index = x.change.index in
      let known = x.change.known in
      let both = entry-joined mine.time yours.time q in
      let is = first_knows mine yours q index known in
      record {
        node = q;
        among = x.among;
        change = record {
          index = index;
          new = x.change.new;
          known = omega arith;
          ranked = x.change.ranked ∙ ap (λ (i : Interval). record { weight = i.weight; node = q }) (sym is);
          changed = ap (λ (i : Interval). i.changed word) is ∙ x.change.changed;
        };
      }
  news-joined r v (inr x) =
      let q = x.node in
      let index = x.change.index in
      let known = x.change.known in
      let new = x.change.new in
      let above = covered q in
      let both = entry-joined mine.time yours.time q in
      let is = second_knows mine yours q index new in
      record {
        node = q;
        among = x.among;
        change = record {
          index = index;
          new = omega arith;
          known = omega arith;
          ranked = x.change.ranked ∙ ap (λ (i : Interval). record { weight = i.weight; node = q }) (sym is);
          changed = ap (λ (i : Interval). i.changed word) is ∙ x.change.changed;
        };
      }

  -- one who learns what another knows
  pub learning : (had now after : Word) → TakesHighest (IsNews nodes since mine word) had now → TakesHighest (IsNews nodes mine.time yours word) now after
      → TakesHighest (IsNews nodes since (known_together mine yours) word) had after
  learning had now after before later =
      by_other_words (Either (IsNews nodes since mine word) (IsNews nodes mine.time yours word)) (IsNews nodes since (known_together mine yours) word) had after
      news-joined news-parts
      (one_after_other (IsNews nodes since mine word) (IsNews nodes mine.time yours word) had now after before later)

-- ---- behind the close of an interval

-- what is known of an interval from before
pub interval-kept : (node : ℕ) (interval : Interval) (knows : Knowledge) (q index : ℕ) → index ≤ entry knows.time q
    → (with_interval node interval knows).interval q index ≡ knows.interval q index
interval-kept node interval knows q index known =
    cond-false (q == node && index == entry knows.time node + 1) interval (knows.interval q index)
    (false_from_ne_true (q == node && index == entry knows.time node + 1) (λ both.
    let parts = and_parts (q == node) (index == entry knows.time node + 1) both in
    let own = ap (entry knows.time) (eqb-true q node parts.0) in
    let last = eqb-true index (entry knows.time node + 1) parts.1 in
    omega arith))

module _ (nodes : ℕ) (since : List ℕ) (knows : Knowledge) (word node : ℕ) (interval : Interval) (long : node < length knows.time)
    (silent : interval.changed word ≡ None) where
  news-behind : (r : Rank) (v : ℕ) → IsNews nodes since (with_interval node interval knows) word r v → IsNews nodes since knows word r v
  news-behind r v x = go (q == node && index == entry knows.time node + 1) refl x.change.ranked x.change.changed
    where
      q : ℕ
      q = x.node

      index : ℕ
      index = x.change.index

      older : (q == node && index == entry knows.time node + 1) ≡ false → index ≤ entry knows.time q
      older e =
          let known = x.change.known in
          elim (cases_eq q node) [
            | inr other ↦ let same = entry-set_other knows.time node (entry knows.time node + 1) q other in omega arith
            | inl own ↦
                let more = entry-set_same knows.time node (entry knows.time node + 1) long in
                let there : entry (raised knows.time node) q ≡ entry (raised knows.time node) node = ap (entry (raised knows.time node)) own in
                let here : entry knows.time q ≡ entry knows.time node = ap (entry knows.time) own in
                elim (cases_eq index (entry knows.time node + 1)) [
                  | inl last ↦
                      absurd (both_ways (q == node && index == entry knows.time node + 1) e
                      (and_from (q == node) (index == entry knows.time node + 1) (eq-eqb q node own) (eq-eqb index (entry knows.time node + 1) last)))
                  | inr apart ↦ omega arith
                ]
          ]

      go : (t : Bool) → (q == node && index == entry knows.time node + 1) ≡ t
          → r ≡ record { weight = (if t then interval else knows.interval q index).weight; node = q }
          → (if t then interval else knows.interval q index).changed word ≡ Some v → IsNews nodes since knows word r v
      go true e ranked changed = let impossible : ⊥ = cc in absurd impossible
      go false e ranked changed =
          record {
            node = q;
            among = x.among;
            change = record { index = index; new = x.change.new; known = older e; ranked = ranked; changed = changed };
          }

  news-kept : (r : Rank) (v : ℕ) → IsNews nodes since knows word r v → IsNews nodes since (with_interval node interval knows) word r v
  news-kept r v x =
      let q = x.node in
      let index = x.change.index in
      let known = x.change.known in
      let rise = covers-raised knows.time node (entry knows.time node + 1) (omega arith) q in
      let is = interval-kept node interval knows q index known in
      record {
        node = q;
        among = x.among;
        change = record {
          index = index;
          new = x.change.new;
          known = omega arith;
          ranked = x.change.ranked ∙ ap (λ (i : Interval). record { weight = i.weight; node = q }) (sym is);
          changed = ap (λ (i : Interval). i.changed word) is ∙ x.change.changed;
        };
      }

  -- an interval that did not change the word
  pub closing : (had now : Word) → TakesHighest (IsNews nodes since knows word) had now
      → TakesHighest (IsNews nodes since (with_interval node interval knows) word) had now
  closing had now before =
      by_other_words (IsNews nodes since knows word) (IsNews nodes since (with_interval node interval knows) word) had now news-kept news-behind before

-- one who knows all that is known has no news
pub no_news : (nodes : ℕ) (knows : Knowledge) (word : ℕ) (now : Word) → TakesHighest (IsNews nodes knows.time knows word) now now
no_news nodes knows word now = unchanged refl (λ r v x. let new = x.change.new in let known = x.change.known in absurd (omega arith))
