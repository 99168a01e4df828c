-- One step of the plain machine on what a node sees: the machine goes on to stand for the acts so far, whatever its memory.
use Rattle.std.proofs.Common.{◌≡◌, ℕ, ◌+◌, ◌<◌, List, Bool, true, false, length, sym, subst, ◌∙◌, ap, refl, arith}
use Rattle.std.specs.Prelude.{Option, Some, None, slice_index, slice_set, if◌then◌else◌}
use Rattle.std.proofs.lemmas.List.{length-set}
use Rattle.std.proofs.lemmas.Option.{some_pair_parts}
use Rattle.lrc_trace.specs.declared.act.Act.{Act}
use Rattle.lrc_trace.specs.declared.act.Deed.{Deed}
use Rattle.lrc_trace.specs.declared.act.Deed.TheVariants.{Quiet, Print, Read, Write, Acquire, Release, Arrive, Depart, Trap, End}
use Rattle.lrc_trace.specs.Run.{Does}
use Rattle.lrc_exec.specs.Meaning.{Thread, Next, quiet, prints, reads, writes, acquires, releases, arrives, departs, traps, ends}
use Rattle.lrc_exec.specs.Plain.{Plain, nobody_holds, all_arrived, deed_done, with_thread, thread_in}
use Rattle.lrc_exec.proofs.NextLaws.{IsFine}
use Rattle.lrc_exec.specs.Follows.{Goes, quietly, printing, reading, writing, acquiring, releasing, arriving, departing}
use Rattle.lrc_exec.specs.Follows.{trapping, ending}
use Rattle.lrc_consistency_laws.specs.Matching.{Matches}
use Rattle.lrc_consistency_laws.proofs.Step.{IsNoLock, passes_on, step}
use Rattle.lrc_consistency_laws.proofs.Runs.{CanDo, SoundAt, can_do, is_sound}

abbrev pub with_memory : Plain → List ℕ → Plain
with_memory machine memory = record machine { memory = memory }

-- with some memory of the same size, the machine is what the acts so far make of it
pub record Stands (run : List Act) (j : ℕ) (machine : Plain) : Type 0 where
  pub lasts : List ℕ
  pub long : length lasts ≡ length machine.memory
  pub matches : Matches run j (with_memory machine lasts)

module _ (run : List Act) (nodes j node : ℕ) (machine : Plain) (t : Thread) (at : thread_in machine node ≡ Some t) (s : Stands run j machine)
    (memory : List ℕ) (sized : length memory ≡ length machine.memory) where
  abbrev seen : Plain
  seen = with_memory machine memory

  abbrev old : Plain
  old = with_memory machine s.lasts

  -- what a step says: what the thread did, what the machine allowed, and that it goes on to stand for the acts
  pub record Taken (n : Next) (d : Deed) (after : Plain) : Type 0 where
    pub thread : Option Thread
    pub goes : Goes n d thread
    pub can : CanDo (with_memory machine memory) node d
    pub threads : after.threads ≡ slice_set machine.threads node thread
    pub size : length after.arrivals ≡ length machine.arrivals
    pub next : Does run j node d → Stands run (j + 1) after

  take_pair : (n : Next) (d₀ : Deed) (after₀ : Plain) (d : Deed) (after : Plain)
      → ◌≡◌ {A = Option (Deed × Plain)} (Some (d₀, after₀)) (Some (d, after)) → Taken n d₀ after₀ → Taken n d after
  take_pair n d₀ after₀ d after e u =
      let parts = some_pair_parts d₀ d after₀ after e in
      subst (λ x. Taken n x after) parts.0 (subst (λ x. Taken n d₀ x) parts.1 u)

  take_if : (b : Bool) (n : Next) (d₀ : Deed) (after₀ : Plain) (d : Deed) (after : Plain)
      → ◌≡◌ {A = Option (Deed × Plain)} (if b then Some (d₀, after₀) else None) (Some (d, after)) → (b ≡ true → Taken n d₀ after₀) → Taken n d after
  take_if true n d₀ after₀ d after e u = take_pair n d₀ after₀ d after e (u refl)
  take_if false n d₀ after₀ d after e u = cc

  size_kept : length s.lasts ≡ length memory
  size_kept = s.long ∙ sym sized

  pub taken : (n : Next) → IsFine t n → (d : Deed) (after : Plain) → deed_done (with_memory machine memory) node n ≡ Some (d, after) → Taken n d after
  taken (quiet t') f d after e =
      take_pair (quiet t') Quiet (with_thread seen node (Some t')) d after e record {
        thread = Some t';
        goes = quietly;
        can = tt;
        threads = refl;
        size = refl;
        next = λ h.
            record {
              lasts = s.lasts;
              long = size_kept;
              matches = step run j node old t at s.matches (quiet t') f Quiet (with_thread old node (Some t')) refl h;
            };
      }
  taken (prints v t') f d after e =
      take_pair (prints v t') (Print v) (with_thread seen node (Some t')) d after e record {
        thread = Some t';
        goes = printing;
        can = tt;
        threads = refl;
        size = refl;
        next = λ h.
            record {
              lasts = s.lasts;
              long = size_kept;
              matches = step run j node old t at s.matches (prints v t') f (Print v) (with_thread old node (Some t')) refl h;
            };
      }
  taken (reads w t') f d after e =
      let v = slice_index memory w in
      let lockless : IsNoLock (Read w v) = record { acquires_not = λ l x. cc; releases_not = λ l x. cc } in
      take_pair (reads w t') (Read w v) (with_thread seen node (Some (t' v))) d after e record {
        thread = Some (t' v);
        goes = reading;
        can = refl;
        threads = refl;
        size = refl;
        next = λ h.
            record {
              lasts = s.lasts;
              long = size_kept;
              matches = passes_on run j node old t at s.matches (Read w v) h lockless (λ k x. refl) (λ x. cc) (λ x. cc) (t' v) (f.1 v);
            };
      }
  taken (writes w v t') f d after e =
      take_pair (writes w v t') (Write w v) (record (with_thread seen node (Some t')) { memory = slice_set memory w v }) d after e record {
        thread = Some t';
        goes = writing;
        can = tt;
        threads = refl;
        size = refl;
        next = λ h.
            record {
              lasts = slice_set s.lasts w v;
              long = length-set s.lasts w v ∙ size_kept ∙ sym (length-set memory w v);
              matches =
                  step run j node old t at s.matches (writes w v t') f (Write w v)
                  (record (with_thread old node (Some t')) { memory = slice_set s.lasts w v }) refl h;
            };
      }
  taken (acquires l t') f d after e =
      take_if (nobody_holds seen l) (acquires l t') (Acquire l)
      (record (with_thread seen node (Some t')) { holders = slice_set machine.holders l (Some node) }) d after e (λ b. record {
        thread = Some t';
        goes = acquiring;
        can = b;
        threads = refl;
        size = refl;
        next = λ h.
            let then_old : Plain = record (with_thread old node (Some t')) { holders = slice_set machine.holders l (Some node) } in
            record {
              lasts = s.lasts;
              long = size_kept;
              matches =
                  step run j node old t at s.matches (acquires l t') f (Acquire l) then_old (ap (λ c. if c then Some (Acquire l, then_old) else None) b) h;
            };
      })
  taken (releases l t') f d after e =
      take_pair (releases l t') (Release l) (record (with_thread seen node (Some t')) { holders = slice_set machine.holders l None }) d after e record {
        thread = Some t';
        goes = releasing;
        can = tt;
        threads = refl;
        size = refl;
        next = λ h.
            record {
              lasts = s.lasts;
              long = size_kept;
              matches =
                  step run j node old t at s.matches (releases l t') f (Release l)
                  (record (with_thread old node (Some t')) { holders = slice_set machine.holders l None }) refl h;
            };
      }
  taken (arrives t') f d after e =
      take_pair (arrives t') Arrive
      (record (with_thread seen node (Some t')) { arrivals = slice_set machine.arrivals node (slice_index machine.arrivals node + 1) }) d after e record {
        thread = Some t';
        goes = arriving;
        can = tt;
        threads = refl;
        size = length-set machine.arrivals node (slice_index machine.arrivals node + 1);
        next = λ h.
            record {
              lasts = s.lasts;
              long = size_kept;
              matches =
                  step run j node old t at s.matches (arrives t') f Arrive
                  (record (with_thread old node (Some t')) { arrivals = slice_set machine.arrivals node (slice_index machine.arrivals node + 1) }) refl h;
            };
      }
  taken (departs t') f d after e =
      take_if (all_arrived seen node) (departs t') Depart (with_thread seen node (Some t')) d after e (λ b. record {
        thread = Some t';
        goes = departing;
        can = b;
        threads = refl;
        size = refl;
        next = λ h.
            record {
              lasts = s.lasts;
              long = size_kept;
              matches =
                  step run j node old t at s.matches (departs t') f Depart (with_thread old node (Some t'))
                  (ap (λ c. if c then Some (Depart, with_thread old node (Some t')) else None) b) h;
            };
      })
  taken (traps c) f d after e =
      take_pair (traps c) (Trap c) (with_thread seen node None) d after e record {
        thread = None;
        goes = trapping;
        can = tt;
        threads = refl;
        size = refl;
        next = λ h.
            record {
              lasts = s.lasts;
              long = size_kept;
              matches = step run j node old t at s.matches (traps c) f (Trap c) (with_thread old node None) refl h;
            };
      }
  taken ends f d after e =
      take_pair ends End (with_thread seen node None) d after e record {
        thread = None;
        goes = ending;
        can = tt;
        threads = refl;
        size = refl;
        next = λ h.
            record {
              lasts = s.lasts;
              long = size_kept;
              matches = step run j node old t at s.matches ends f End (with_thread old node None) refl h;
            };
      }

  -- what a deed says of the run, but that a read gives what is seen
  abbrev pub SoundSeen : Deed → Type 0
  SoundSeen (Read w v) = v ≡ slice_index memory w
  SoundSeen (Acquire l) = SoundAt run nodes j node (Acquire l)
  SoundSeen (Release l) = SoundAt run nodes j node (Release l)
  SoundSeen Depart = SoundAt run nodes j node Depart
  SoundSeen _ = Unit {0}

  module _ (size : length machine.arrivals ≡ nodes) where
    pub can_see : {n : Next} {d : Deed} {t' : Option Thread} → Goes n d t' → IsFine t n → SoundSeen d → CanDo (with_memory machine memory) node d
    can_see quietly f x = tt
    can_see printing f x = tt
    can_see reading f x = x
    can_see writing f x = tt
    can_see (acquiring {t = t'} {l = l}) f x = can_do run nodes j node old t at s.matches size (acquiring {t = t'} {l = l}) f x
    can_see releasing f x = tt
    can_see arriving f x = tt
    can_see (departing {t = t'}) f x = can_do run nodes j node old t at s.matches size (departing {t = t'}) f x
    can_see trapping f x = tt
    can_see ending f x = tt

    pub seen_sound : {n : Next} {d : Deed} {t' : Option Thread} → Goes n d t' → IsFine t n → CanDo (with_memory machine memory) node d → SoundSeen d
    seen_sound quietly f x = tt
    seen_sound printing f x = tt
    seen_sound reading f x = x
    seen_sound writing f x = tt
    seen_sound (acquiring {t = t'} {l = l}) f x = is_sound run nodes j node old t at s.matches size (acquiring {t = t'} {l = l}) f x
    seen_sound (releasing {t = t'} {l = l}) f x = is_sound run nodes j node old t at s.matches size (releasing {t = t'} {l = l}) f tt
    seen_sound arriving f x = tt
    seen_sound (departing {t = t'}) f x = is_sound run nodes j node old t at s.matches size (departing {t = t'}) f x
    seen_sound trapping f x = tt
    seen_sound ending f x = tt
