-- A Clean is refused, or others are still to come, or it was the last.
use Rattle.std.proofs.Common.{◌≡◌, ◌∙◌, ℕ, ◌<◌, Bool, true, false, Some, None, Ok, List, Option, length, get_or, length-set, ap, refl, sym, subst}
use Rattle.std.specs.Prelude.{slice_set}
use Rattle.std.specs.List.{list_all}
use Rattle.std.proofs.lemmas.Bool.{eq-eqb, ne_eqb}
use Rattle.lrc_barrier.specs.declared.fault.BarrierFault.TheVariants.{WrongEpisode, Twice}
use Rattle.lrc_barrier.specs.Barrier.{ManagerRecord, refuses_clean, awaits, discards, cleaned, cleaned_by, clean_answer, after_clean}
use Rattle.lrc_barrier.proofs.manager.Manager.clean.Goals as goal

none_under_way : (m : ManagerRecord) (from episode : ℕ) → m.cleans ≡ None → cleaned m from episode ≡ refuses_clean WrongEpisode
none_under_way m from episode none = ap (cleaned_by m from episode) none

module _ (m : ManagerRecord) (from episode : ℕ) (cleans : List Bool) (under_way : m.cleans ≡ Some cleans) where
  other_episode : (episode ≡ m.done → ⊥) → cleaned m from episode ≡ refuses_clean WrongEpisode
  other_episode other = rw (under_way, ne_eqb episode m.done other) refl

  module _ (same : episode ≡ m.done) where
    sent_twice : get_or cleans from false ≡ true → cleaned m from episode ≡ refuses_clean Twice
    sent_twice sent = rw (under_way, eq-eqb episode m.done same, sent) refl

    last_clean : get_or cleans from false ≡ false → list_all (λ clean. clean) (slice_set cleans from true) ≡ true
        → cleaned m from episode ≡ discards m.done (record m { cleans = None })
    last_clean new all = rw (under_way, eq-eqb episode m.done same, new, all) refl

    one_clean : get_or cleans from false ≡ false → list_all (λ clean. clean) (slice_set cleans from true) ≡ false
        → cleaned m from episode ≡ awaits (record m { cleans = Some (slice_set cleans from true) })
    one_clean new some = rw (under_way, eq-eqb episode m.done same, new, some) refl

place_of : (from : ℕ) (m seen : ManagerRecord) (cleans : List Bool) → seen ≡ m → from < length m.last → length cleans ≡ length seen.last
    → from < length cleans
place_of from m seen cleans is within long = rw (long, is) within

pub bounds-deref-from : goal.bounds-deref-from
bounds-deref-from c =
    let long = rw c.in-Some.is at c.self.invariant.cleans in
    rw (c.from.ensures, c.deref.ensures.0) (place_of c.args.from c.args.self.now _ c.in-Some.cleans.items c.self.view_is c.requires long)

pub note_clean-requires : goal.note_clean-requires
note_clean-requires c =
    let long = rw c.in-Some.is at c.self.invariant.cleans in
    place_of c.args.from c.args.self.now _ c.in-Some.cleans.items c.self.view_is c.requires long

pub returns-in_default : goal.returns-in_default
returns-in_default c =
    let m : ManagerRecord = c.args.self.now in
    let none : m.cleans ≡ None = sym (ap (λ (m : ManagerRecord). m.cleans) c.self.view_is) ∙ rw c.in_default.is refl in
    let step = none_under_way m c.args.from c.args.episode none in
    record {
      answer = sym (ap clean_answer step);
      manager = c.self.view_is ∙ sym (ap (after_clean m) step);
      nodes = ap (λ (m : ManagerRecord). length m.last) c.self.view_is;
    }

pub returns-then-episode-self : goal.returns-then-episode-self
returns-then-episode-self c =
    let m : ManagerRecord = c.args.self.now in
    let under_way : m.cleans ≡ Some c.in-Some.cleans.items = sym (ap (λ (m : ManagerRecord). m.cleans) c.self.view_is) ∙ rw c.in-Some.is refl in
    let step = other_episode m c.args.from c.args.episode c.in-Some.cleans.items under_way
    (λ same. c.if-episode-self.true (same ∙ sym (ap (λ (m : ManagerRecord). m.done) c.self.view_is))) in
    record {
      answer = sym (ap clean_answer step);
      manager =
          ap (λ (m : ManagerRecord). record m { cleans = Some c.in-Some.cleans.items }) c.self.view_is
          ∙ ap (λ (cleans : Option (List Bool)). record m { cleans = cleans }) (sym under_way)
          ∙ sym (ap (after_clean m) step);
      nodes = ap (λ (m : ManagerRecord). length m.last) c.self.view_is;
    }

pub returns-then-deref-from : goal.returns-then-deref-from
returns-then-deref-from c =
    let m : ManagerRecord = c.args.self.now in
    let under_way : m.cleans ≡ Some c.in-Some.cleans.items = sym (ap (λ (m : ManagerRecord). m.cleans) c.self.view_is) ∙ rw c.in-Some.is refl in
    let same : c.args.episode ≡ m.done = c.if-episode-self.false ∙ ap (λ (m : ManagerRecord). m.done) c.self.view_is in
    let step = sent_twice m c.args.from c.args.episode c.in-Some.cleans.items under_way same (rw (c.deref.ensures.0, c.from.ensures) at c.if-deref-from.true) in
    record {
      answer = sym (ap clean_answer step);
      manager =
          ap (λ (m : ManagerRecord). record m { cleans = Some c.in-Some.cleans.items }) c.self.view_is
          ∙ ap (λ (cleans : Option (List Bool)). record m { cleans = cleans }) (sym under_way)
          ∙ sym (ap (after_clean m) step);
      nodes = ap (λ (m : ManagerRecord). length m.last) c.self.view_is;
    }

pub returns-then-note_clean : goal.returns-then-note_clean
returns-then-note_clean c =
    let m : ManagerRecord = c.args.self.now in
    let under_way : m.cleans ≡ Some c.in-Some.cleans.items = sym (ap (λ (m : ManagerRecord). m.cleans) c.self.view_is) ∙ rw c.in-Some.is refl in
    let same : c.args.episode ≡ m.done = c.if-episode-self.false ∙ ap (λ (m : ManagerRecord). m.done) c.self.view_is in
    let step = last_clean m c.args.from c.args.episode c.in-Some.cleans.items under_way same (rw (c.deref.ensures.0, c.from.ensures) at c.if-deref-from.false)
    (sym c.note_clean.ensures.all ∙ c.if-note_clean.true) in
    record {
      answer = ap (λ (n : ℕ). Ok (Some n)) same ∙ sym (ap clean_answer step);
      manager = ap (λ (m : ManagerRecord). record m { cleans = None }) c.self.view_is ∙ sym (ap (after_clean m) step);
      nodes = ap (λ (m : ManagerRecord). length m.last) c.self.view_is;
    }

pub returns-else-note_clean : goal.returns-else-note_clean
returns-else-note_clean c =
    let m : ManagerRecord = c.args.self.now in
    let under_way : m.cleans ≡ Some c.in-Some.cleans.items = sym (ap (λ (m : ManagerRecord). m.cleans) c.self.view_is) ∙ rw c.in-Some.is refl in
    let same : c.args.episode ≡ m.done = c.if-episode-self.false ∙ ap (λ (m : ManagerRecord). m.done) c.self.view_is in
    let step = one_clean m c.args.from c.args.episode c.in-Some.cleans.items under_way same (rw (c.deref.ensures.0, c.from.ensures) at c.if-deref-from.false)
    (sym c.note_clean.ensures.all ∙ c.if-note_clean.false) in
    record {
      answer = sym (ap clean_answer step);
      manager =
          ap (λ (m : ManagerRecord). record m { cleans = Some c.note_clean.new.cleans.items }) c.self.view_is
          ∙ ap (λ (cleans : List Bool). record m { cleans = Some cleans }) c.note_clean.ensures.noted
          ∙ sym (ap (after_clean m) step);
      nodes = ap (λ (m : ManagerRecord). length m.last) c.self.view_is;
    }

pub invariant_of-self : goal.invariant_of-self
invariant_of-self c = c.self.invariant

pub invariant_of-self-then-episode-self : goal.invariant_of-self-then-episode-self
invariant_of-self-then-episode-self c = record {
  some = c.self.invariant.some;
  few = c.self.invariant.few;
  places = c.self.invariant.places;
  cleans = rw c.in-Some.is at c.self.invariant.cleans;
  kept = c.self.invariant.kept;
}

pub invariant_of-self-then-deref-from : goal.invariant_of-self-then-deref-from
invariant_of-self-then-deref-from c = record {
  some = c.self.invariant.some;
  few = c.self.invariant.few;
  places = c.self.invariant.places;
  cleans = rw c.in-Some.is at c.self.invariant.cleans;
  kept = c.self.invariant.kept;
}

pub invariant_of-self-then-note_clean : goal.invariant_of-self-then-note_clean
invariant_of-self-then-note_clean c = record {
  some = c.self.invariant.some;
  few = c.self.invariant.few;
  places = c.self.invariant.places;
  cleans = tt;
  kept = c.self.invariant.kept;
}

pub invariant_of-self-else-note_clean : goal.invariant_of-self-else-note_clean
invariant_of-self-else-note_clean c =
    let long = rw c.in-Some.is at c.self.invariant.cleans in
    record {
      some = c.self.invariant.some;
      few = c.self.invariant.few;
      places = c.self.invariant.places;
      cleans = ap length c.note_clean.ensures.noted ∙ length-set c.in-Some.cleans.items c.args.from true ∙ long;
      kept = c.self.invariant.kept;
    }
