-- for crates above: after settling the sleepers are exactly the CPUs that are wanted
use Rattle.std.proofs.Common.{◌≡◌, ◌≢◌, ℕ, zero, suc, ◌<◌, ◌≤◌, true, false, Option, Some, None}
use Rattle.std.proofs.Common.{length, refl, sym, ap, ◌∙◌, inl, inr, arith}
use Rattle.std.proofs.lemmas.Bool.{both_ways, cases_Bool, cases_eq, eqb-true}
use Rattle.std.proofs.lemmas.List.{get_or-set_same, get_or-set_other, length-set}
use Rattle.deep_idle.specs.Device.{AreSettled, DeviceState, asleep, is_same, risen, device_settled}
use Rattle.deep_idle.specs.Device.{settled_one, sleeper_of, wanted}

same_is : (one other : Option ℕ) → is_same one other ≡ true → one ≡ other
same_is None None same = refl
same_is None (Some w) same = absurd (both_ways false refl same)
same_is (Some w) None same = absurd (both_ways false refl same)
same_is (Some w) (Some v) same = ap Some (eqb-true w v same)

-- a CPU rises and falls asleep: what it is then, and the others
risen_here : (s : Option ℕ) (cpu : ℕ) (d : DeviceState) → cpu < length d.sleepers
    → sleeper_of cpu d ≡ s → sleeper_of cpu (risen s cpu d) ≡ None
risen_here None cpu d within is = is
risen_here (Some w) cpu d within is = get_or-set_same d.sleepers cpu None None within

risen_len : (s : Option ℕ) (cpu : ℕ) (d : DeviceState)
    → length (risen s cpu d).sleepers ≡ length d.sleepers
risen_len None cpu d = refl
risen_len (Some w) cpu d = length-set d.sleepers cpu None

risen_there : (s : Option ℕ) (cpu c : ℕ) (d : DeviceState) → c ≢ cpu
    → sleeper_of c (risen s cpu d) ≡ sleeper_of c d
risen_there None cpu c d apart = refl
risen_there (Some w) cpu c d apart = get_or-set_other d.sleepers cpu c None None apart

asleep_here : (want : Option ℕ) (cpu : ℕ) (d : DeviceState) → cpu < length d.sleepers
    → sleeper_of cpu d ≡ None → sleeper_of cpu (asleep want cpu d) ≡ want
asleep_here None cpu d within is = is
asleep_here (Some w) cpu d within is = get_or-set_same d.sleepers cpu (Some w) None within

asleep_len : (want : Option ℕ) (cpu : ℕ) (d : DeviceState)
    → length (asleep want cpu d).sleepers ≡ length d.sleepers
asleep_len None cpu d = refl
asleep_len (Some w) cpu d = length-set d.sleepers cpu (Some w)

asleep_there : (want : Option ℕ) (cpu c : ℕ) (d : DeviceState) → c ≢ cpu
    → sleeper_of c (asleep want cpu d) ≡ sleeper_of c d
asleep_there None cpu c d apart = refl
asleep_there (Some w) cpu c d apart = get_or-set_other d.sleepers cpu c (Some w) None apart

module _ (want : Option ℕ) (cpu : ℕ) (d : DeviceState) where
  abbrev up : DeviceState
  up = risen (sleeper_of cpu d) cpu d

  one_len : length (settled_one want cpu d).sleepers ≡ length d.sleepers
  one_len = elim (cases_Bool (is_same (sleeper_of cpu d) want)) [
    | inl same ↦ rw same refl
    | inr other ↦ rw other (asleep_len want cpu up ∙ risen_len (sleeper_of cpu d) cpu d)
  ]

  one_there : (c : ℕ) → c ≢ cpu → sleeper_of c (settled_one want cpu d) ≡ sleeper_of c d
  one_there c apart = elim (cases_Bool (is_same (sleeper_of cpu d) want)) [
    | inl same ↦ rw same refl
    | inr other ↦
        rw other (asleep_there want cpu c up apart ∙ risen_there (sleeper_of cpu d) cpu c d apart)
  ]

  one_here : cpu < length d.sleepers → sleeper_of cpu (settled_one want cpu d) ≡ want
  one_here within = elim (cases_Bool (is_same (sleeper_of cpu d) want)) [
    | inl same ↦ rw same (same_is (sleeper_of cpu d) want same)
    | inr other ↦
        rw other
        (asleep_here want cpu up
        (let len = risen_len (sleeper_of cpu d) cpu d in omega (arith, within, len))
        (risen_here (sleeper_of cpu d) cpu d within refl))
  ]

module _ (wakeups : ℕ → ℕ) where
  -- no CPU is more or less
  pub settled_len : (n : ℕ) (d : DeviceState)
      → length (device_settled wakeups n d).sleepers ≡ length d.sleepers
  settled_len zero d = refl
  settled_len (suc n) d =
      one_len (wanted (wakeups n)) n (device_settled wakeups n d) ∙ settled_len n d

  settled_each : (n : ℕ) (d : DeviceState) → n ≤ length d.sleepers → (c : ℕ) → c < n
      → sleeper_of c (device_settled wakeups n d) ≡ wanted (wakeups c)
  settled_each zero d few c low = absurd (omega (arith, low))
  settled_each (suc n) d few c low = elim (cases_eq c n) [
    | inl here ↦
        ap (λ k. sleeper_of k (device_settled wakeups (suc n) d)) here
        ∙ one_here (wanted (wakeups n)) n (device_settled wakeups n d)
        (let len = settled_len n d in omega (arith, few, len))
        ∙ ap (λ k. wanted (wakeups k)) (sym here)
    | inr apart ↦
        one_there (wanted (wakeups n)) n (device_settled wakeups n d) c apart
        ∙ settled_each n d (omega (arith, few)) c (omega (arith, low, apart))
  ]

  -- EXACTLY those that are wanted sleep
  pub settled_all : (d : DeviceState) → AreSettled wakeups (device_settled wakeups (length d.sleepers) d)
  settled_all d c low =
      settled_each (length d.sleepers) d (omega arith) c
      (let len = settled_len (length d.sleepers) d in omega (arith, low, len))
