-- The order of a run, its conflicts and its races are those of its outline.
use Rattle.std.proofs.Common.{◌≡◌, ℕ, ◌+◌, List, [], ◌∷◌, Bool, true, false, ◌&&◌, cond, inl, inr, map, take, refl, sym, subst, ◌∙◌, ap, arith}
use Rattle.std.specs.Prelude.{◌==◌, option_map}
use Rattle.std.proofs.lemmas.Bool.{false≢true}
use Rattle.std.proofs.lemmas.List.{take-map, length-map}
use Rattle.std.proofs.lemmas.List.Sums.{sum_by-cons}
use Rattle.std.proofs.lemmas.Option.{slice_get-map}
use Rattle.lrc_trace.specs.declared.act.Act.{Act}
use Rattle.lrc_trace.specs.declared.act.Deed.{Deed}
use Rattle.lrc_trace.specs.declared.act.Deed.TheVariants.{Print, Read, Write, Acquire, Release, Arrive, Depart}
use Rattle.lrc_trace.specs.declared.race.Race.{Race}
use Rattle.lrc_trace.specs.Run.{Does, act_of, is_arrive, is_depart, count_of}
use Rattle.lrc_trace.specs.Order.{Precedes, program, lock, barrier, HappensBefore, base, further}
use Rattle.lrc_trace.specs.Conflict.{Writes, Accesses, ConflictAt, Races}
use Rattle.lrc_trace.specs.Interval.{closes, interval_at, IsNamedRace}
use Rattle.lrc_trace.specs.Outline.{without_value, outline, SameButValues}
use Rattle.lrc_trace.proofs.Positions.{Does-within, Does-deed, Does-one_node, Does-one_deed}
use Rattle.lrc_trace.proofs.Intervals.{act_at}

-- an act without its value
abbrev bare : Act → Act
bare a = act_of a.node (without_value a.deed)

-- whether a deed is of a lock or of a barrier
abbrev is_sync : Deed → Bool
is_sync (Acquire l) = true
is_sync (Release l) = true
is_sync Arrive = true
is_sync Depart = true
is_sync _ = false

-- such a deed has no value to lose
as_it_was : (d e : Deed) → is_sync e ≡ true → without_value d ≡ e → d ≡ e
as_it_was (Print v) e sync same = absurd (false≢true (ap is_sync same ∙ sync))
as_it_was (Read w v) e sync same = absurd (false≢true (ap is_sync same ∙ sync))
as_it_was (Write w v) e sync same = absurd (false≢true (ap is_sync same ∙ sync))
as_it_was d e sync same = same

read_from : (d : Deed) (w v : ℕ) → without_value d ≡ Read w v → (u : ℕ) × (d ≡ Read w u)
read_from (Read x u) w v e = let same : x ≡ w = cc in (u, ap (λ y. Read y u) same)
read_from d w v e = let never : ⊥ = cc in absurd never

write_from : (d : Deed) (w v : ℕ) → without_value d ≡ Write w v → (u : ℕ) × (d ≡ Write w u)
write_from (Write x u) w v e = let same : x ≡ w = cc in (u, ap (λ y. Write y u) same)
write_from d w v e = let never : ⊥ = cc in absurd never

-- kinds that see no values
arrive_same : (d : Deed) → is_arrive (without_value d) ≡ is_arrive d
arrive_same (Print v) = refl
arrive_same (Read w v) = refl
arrive_same (Write w v) = refl
arrive_same d = refl

depart_same : (d : Deed) → is_depart (without_value d) ≡ is_depart d
depart_same (Print v) = refl
depart_same (Read w v) = refl
depart_same (Write w v) = refl
depart_same d = refl

close_same : (d : Deed) → closes (without_value d) ≡ closes d
close_same (Print v) = refl
close_same (Read w v) = refl
close_same (Write w v) = refl
close_same d = refl

-- a count with one act more in front
pub count_of-cons : (kind : Deed → Bool) (node : ℕ) (a : Act) (acts : List Act)
    → count_of kind node (a ∷ acts) ≡ cond (a.node == node && kind a.deed) 1 0 + count_of kind node acts
count_of-cons kind node a acts = sum_by-cons (λ (x : Act). cond (x.node == node && kind x.deed) 1 0) a acts

count_of-bare : (kind : Deed → Bool) → ((d : Deed) → kind (without_value d) ≡ kind d) → (node : ℕ) (acts : List Act)
    → count_of kind node (map bare acts) ≡ count_of kind node acts
count_of-bare kind blind node [] = refl
count_of-bare kind blind node (a ∷ acts) =
    count_of-cons kind node (bare a) (map bare acts)
    ∙ ap (λ b. cond (a.node == node && b) 1 0 + count_of kind node (map bare acts)) (blind a.deed)
    ∙ ap (λ m. cond (a.node == node && kind a.deed) 1 0 + m) (count_of-bare kind blind node acts)
    ∙ sym (count_of-cons kind node a acts)

module _ (run : List Act) where
  count_before : (kind : Deed → Bool) → ((d : Deed) → kind (without_value d) ≡ kind d) → (node i : ℕ)
      → count_of kind node (take i (outline run)) ≡ count_of kind node (take i run)
  count_before kind blind node i = ap (count_of kind node) (take-map bare i run) ∙ count_of-bare kind blind node (take i run)

  -- what is done in the run, without the value, is done in the outline
  into_does : {i p : ℕ} {d : Deed} → Does run i p d → Does (outline run) i p (without_value d)
  into_does {i} h = record { stands = slice_get-map bare run i ∙ ap (option_map bare) h.stands }

  -- and the other way round
  from_does : {i p : ℕ} {e : Deed} → Does (outline run) i p e → (d : Deed) × Does run i p d × (without_value d ≡ e)
  from_does {i} {p} {e} h =
      let within = Does-within h in
      let long = length-map run bare in
      let (a, there) = act_at run i (omega arith) in
      let same = Does-one_node (into_does there) h in
      (a.deed, subst (λ q. Does run i q a.deed) same there, Does-one_deed (into_does there) h)

  from_sync : {i p : ℕ} {e : Deed} → is_sync e ≡ true → Does (outline run) i p e → Does run i p e
  from_sync {e = e} sync h = let (d, there, same) = from_does h in Does-deed (as_it_was d e sync same) there

  -- the order
  into_base : {i j : ℕ} → Precedes run i j → Precedes (outline run) i j
  into_base (program lt a b) = program lt (into_does a) (into_does b)
  into_base (lock lt a b) = lock lt (into_does a) (into_does b)
  into_base {i} {j} (barrier {p = p} {q = q} lt a b number) =
      barrier lt (into_does a) (into_does b) (count_before is_arrive arrive_same p i ∙ number ∙ sym (count_before is_depart depart_same q j))

  from_base : {i j : ℕ} → Precedes (outline run) i j → Precedes run i j
  from_base (program lt a b) = program lt (from_does a).1 (from_does b).1
  from_base (lock lt a b) = lock lt (from_sync refl a) (from_sync refl b)
  from_base {i} {j} (barrier {p = p} {q = q} lt a b number) =
      barrier lt (from_sync refl a) (from_sync refl b) (sym (count_before is_arrive arrive_same p i) ∙ number ∙ count_before is_depart depart_same q j)

  into_order : {i j : ℕ} → HappensBefore run i j → HappensBefore (outline run) i j
  into_order (base p) = base (into_base p)
  into_order (further h p) = further (into_order h) (into_base p)

  from_order : {i j : ℕ} → HappensBefore (outline run) i j → HappensBefore run i j
  from_order (base p) = base (from_base p)
  from_order (further h p) = further (from_order h) (from_base p)

  -- the conflicts
  into_writes : {i p w : ℕ} → Writes run i p w → Writes (outline run) i p w
  into_writes (v, h) = (0, into_does h)

  into_access : {i p w : ℕ} → Accesses run i p w → Accesses (outline run) i p w
  into_access (inl (v, h)) = inl (0, into_does h)
  into_access (inr h) = inr (into_writes h)

  from_writes : {i p w : ℕ} → Writes (outline run) i p w → Writes run i p w
  from_writes {i} {p} {w} (v, h) = let (d, there, same) = from_does h in let (u, is) = write_from d w v same in (u, Does-deed is there)

  from_access : {i p w : ℕ} → Accesses (outline run) i p w → Accesses run i p w
  from_access {i} {p} {w} (inl (v, h)) = let (d, there, same) = from_does h in let (u, is) = read_from d w v same in inl (u, Does-deed is there)
  from_access (inr h) = inr (from_writes h)

  into_conflict : {i p j q w : ℕ} → ConflictAt run i p j q w → ConflictAt (outline run) i p j q w
  into_conflict c = record {
    apart = c.apart;
    first = into_access c.first;
    second = into_access c.second;
    writes = elim c.writes [ inl h ↦ inl (into_writes h) | inr h ↦ inr (into_writes h) ];
  }

  from_conflict : {i p j q w : ℕ} → ConflictAt (outline run) i p j q w → ConflictAt run i p j q w
  from_conflict c = record {
    apart = c.apart;
    first = from_access c.first;
    second = from_access c.second;
    writes = elim c.writes [ inl h ↦ inl (from_writes h) | inr h ↦ inr (from_writes h) ];
  }

  -- the races
  into_races : {i j : ℕ} → Races run i j → Races (outline run) i j
  into_races r = let (p, q, w, c) = r.conflict in record {
    earlier = r.earlier;
    conflict = (p, q, w, into_conflict c);
    unordered = λ h. r.unordered (from_order h);
  }

  from_races : {i j : ℕ} → Races (outline run) i j → Races run i j
  from_races r = let (p, q, w, c) = r.conflict in record {
    earlier = r.earlier;
    conflict = (p, q, w, from_conflict c);
    unordered = λ h. r.unordered (into_order h);
  }

  -- their names
  interval_same : (node i : ℕ) → interval_at (outline run) node i ≡ interval_at run node i
  interval_same node i = ap (λ m. 1 + m) (count_before closes close_same node i)

  into_names : {race : Race} → IsNamedRace run race → IsNamedRace (outline run) race
  into_names {race} (i, j, n) = (
    i,
    j,
    record {
      ascending = n.ascending;
      conflict = into_conflict n.conflict;
      races = elim n.races [ inl r ↦ inl (into_races r) | inr r ↦ inr (into_races r) ];
      interval_a = n.interval_a ∙ sym (interval_same race.node_a i);
      interval_b = n.interval_b ∙ sym (interval_same race.node_b j);
    },
  )

  from_names : {race : Race} → IsNamedRace (outline run) race → IsNamedRace run race
  from_names {race} (i, j, n) = (
    i,
    j,
    record {
      ascending = n.ascending;
      conflict = from_conflict n.conflict;
      races = elim n.races [ inl r ↦ inl (from_races r) | inr r ↦ inr (from_races r) ];
      interval_a = n.interval_a ∙ interval_same race.node_a i;
      interval_b = n.interval_b ∙ interval_same race.node_b j;
    },
  )

module _ (run other : List Act) (same : SameButValues run other) where
  pub same_order : {i j : ℕ} → HappensBefore run i j → HappensBefore other i j
  same_order {i} {j} h = from_order other (subst (λ x. HappensBefore x i j) same (into_order run h))

  pub same_races : {i j : ℕ} → Races run i j → Races other i j
  same_races {i} {j} r = from_races other (subst (λ x. Races x i j) same (into_races run r))

  pub same_names : {race : Race} → IsNamedRace run race → IsNamedRace other race
  same_names {race} n = from_names other (subst (λ x. IsNamedRace x race) same (into_names run n))
