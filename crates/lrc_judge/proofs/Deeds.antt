-- An act has one deed.
use Rattle.std.proofs.Common.{◌≡◌, ℕ}
use Rattle.lrc_trace.specs.declared.act.Deed.{Deed}
use Rattle.lrc_trace.specs.declared.act.Deed.TheVariants.{Read, Write, Acquire, Release, Arrive, Depart}

pub arrive_not_acquire : {d : Deed} → d ≡ Arrive → (l : ℕ) → d ≡ Acquire l → ⊥
arrive_not_acquire is l other = cc

pub arrive_not_release : {d : Deed} → d ≡ Arrive → (l : ℕ) → d ≡ Release l → ⊥
arrive_not_release is l other = cc

pub depart_not_acquire : {d : Deed} → d ≡ Depart → (l : ℕ) → d ≡ Acquire l → ⊥
depart_not_acquire is l other = cc

pub depart_not_release : {d : Deed} → d ≡ Depart → (l : ℕ) → d ≡ Release l → ⊥
depart_not_release is l other = cc

pub depart_not_arrive : {d : Deed} → d ≡ Depart → d ≡ Arrive → ⊥
depart_not_arrive is other = cc

pub release_not_arrive : {d : Deed} {l : ℕ} → d ≡ Release l → d ≡ Arrive → ⊥
release_not_arrive is other = cc

pub read_not_write : {word value word' value' : ℕ} → Read word value ≡ Write word' value' → ⊥
read_not_write same = cc

-- Equal reads are of one word and one value, and equal writes of one word.
pub read_word : {word value word' value' : ℕ} → Read word value ≡ Read word' value' → word ≡ word'
read_word same = cc

pub read_value : {word value word' value' : ℕ} → Read word value ≡ Read word' value' → value ≡ value'
read_value same = cc

pub write_word : {word value word' value' : ℕ} → Write word value ≡ Write word' value' → word ≡ word'
write_word same = cc
