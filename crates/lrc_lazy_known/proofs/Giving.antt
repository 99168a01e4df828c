-- What a read may give, by what is kept of what its node knows.
use Rattle.std.proofs.Common.{◌≡◌, ℕ, ◌<◌, List, [], ◌∷◌, ◌++◌, length, inl, inr, sym, subst, ◌∙◌, arith}
use Rattle.std.specs.Prelude.{◌↔◌}
use Rattle.lrc_trace.specs.declared.act.Act.{Act}
use Rattle.lrc_trace.specs.declared.act.Deed.TheVariants.{Read}
use Rattle.lrc_trace.specs.Run.{act_of}
use Rattle.lrc_trace.specs.Order.{HappensBefore}
use Rattle.lrc_trace.specs.Reading.{WrittenBefore, MayRead}
use Rattle.lrc_trace.proofs.Positions.{Does-longer, Does-shorter, Does-one_deed}
use Rattle.lrc_trace.proofs.HappensBefore.{longer, shorter}
use Rattle.lrc_lazy_known.specs.declared.known.Last.{Last}
use Rattle.lrc_lazy_known.specs.declared.known.Last.TheVariants.{Nothing, Value, Unordered}
use Rattle.lrc_lazy_known.specs.declared.known.Known.{Known}
use Rattle.lrc_lazy_known.specs.Knowing.{Knows, KnowsWrite}
use Rattle.lrc_lazy_known.specs.Word.{Describes, IsLast, AreChained, MayGive, Gives, last_of, values_of}
use Rattle.lrc_lazy_known.specs.Effect.{AreOf}
use Rattle.lrc_lazy_known.proofs.Telling.{Before, by_node, by_lock, by_barrier, before_cases, node_before, knows_within}

module _ (nodes locks gone : ℕ) (run : List Act) (node word value : ℕ) (are : AreOf nodes locks run) (own : node < nodes) where
  abbrev read : Act
  read = act_of node (Read word value)

  abbrev on : List Act
  on = run ++ read ∷ []

  abbrev j : ℕ
  j = length run

  abbrev known : ℕ → ℕ → Type 0
  known i v = KnowsWrite nodes locks gone run word node i v

  own_known : {i : ℕ} → Before nodes locks gone run read 0 i → Knows nodes locks gone run node i
  own_known (by_node h) = h
  own_known (by_lock e h) = cc
  own_known (by_barrier e h) = cc

  to_known : {i v : ℕ} → WrittenBefore on j word i v → known i v
  to_known {i} {v} h =
      let knows = own_known (before_cases nodes locks gone run read (λ e. cc) h.before) in
      let lt = knows_within nodes locks gone knows in
      let (p, d) = h.write in
      record { write = (p, Does-shorter (read ∷ []) lt d); knows = knows }

  from_known : {i v : ℕ} → known i v → WrittenBefore on j word i v
  from_known {i} {v} h =
      let (p, d) = h.write in record { write = (p, Does-longer (read ∷ []) d); before = node_before nodes locks gone run read are own h.knows }

  one_value : {i u v : ℕ} → WrittenBefore on j word i u → WrittenBefore on j word i v → u ≡ v
  one_value g h = let e = Does-one_deed g.write.1 h.write.1 in cc

  ordered_of : AreChained (HappensBefore run) known → (i k u v : ℕ) → WrittenBefore on j word i u → WrittenBefore on j word k v → i < k
      → HappensBefore on i k
  ordered_of chained i k u v g h lt = longer run (read ∷ []) (chained i k u v (to_known g) (to_known h) lt)

  chained_of : ((i k u v : ℕ) → WrittenBefore on j word i u → WrittenBefore on j word k v → i < k → HappensBefore on i k)
      → AreChained (HappensBefore run) known
  chained_of ordered i k u v a b lt =
      let within = knows_within nodes locks gone b.knows in
      shorter run (read ∷ []) within (ordered i k u v (from_known a) (from_known b) lt)

  module _ (kept : List Known) (d : Describes (HappensBefore run) (KnowsWrite nodes locks gone run word) kept) where
    may_to : (x : Last) → IsLast (HappensBefore run) known x → MayRead on j word value → MayGive x (values_of kept node) value
    may_to Nothing none m =
        (m.strong (λ i k u v g h lt. absurd (none i u (to_known g)))).none (λ i v g. none i v (to_known g))
    may_to (Value v) l m =
        (m.strong (ordered_of l.1.chained)).last l.0 v
        (record { written = from_known l.1.written; last = λ k u h. l.1.last k u (to_known h) })
    may_to Unordered un m = elim (m.weak) [
      | inl none ↦ inl none
      | inr (i, h) ↦ inr ((d.values node value).1 (i, to_known h))
    ]

    may_from : (x : Last) → IsLast (HappensBefore run) known x → MayGive x (values_of kept node) value → MayRead on j word value
    may_from Nothing none is = record {
      weak = inl is;
      strong = λ ordered. record { none = λ none. is; last = λ i v l. absurd (none i v (to_known l.written)) };
    }
    may_from (Value v) l is =
        let written = from_known l.1.written in
        record {
          weak = inr (l.0, subst (λ x. WrittenBefore on j word l.0 x) (sym is) written);
          strong = λ ordered. record {
            none = λ none. absurd (none l.0 v written);
            last = λ i u other.
                let low = l.1.last i u (to_known other.written) in
                let high = other.last l.0 v written in
                let same : i ≡ l.0 = omega arith in
                is ∙ one_value written (subst (λ x. WrittenBefore on j word x u) same other.written);
          };
        }
    may_from Unordered un is = record {
      weak = elim is [ inl none ↦ inl none | inr c ↦ let found = (d.values node value).0 c in inr (found.0, from_known found.1) ];
      strong = λ ordered. absurd (un (chained_of ordered));
    }

    pub gives_read : MayRead on j word value ↔ Gives kept node value
    gives_read = (may_to (last_of kept node) (d.lasts node), may_from (last_of kept node) (d.lasts node))
