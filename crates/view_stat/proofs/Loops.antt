-- the loops of a watched machine
use Rattle.std.proofs.Common.{◌≡◌, ℕ, zero, suc, ◌+◌, ◌-◌, ◌<◌, ◌≤◌, List, true, false, refl, arith}
use Rattle.play_rules.specs.Rules.{Rules}
use Rattle.view_counts.specs.declared.counts.CpuCounts.{CpuCounts}
use Rattle.view_counts.specs.Counts.{at_cpu, lived}
use Rattle.view_counts.specs.declared.wakeups.Reason.{Reason}
use Rattle.view_counts.specs.Wakeups.{with_reason}
use Rattle.view_stat.specs.Watched.{Dues, all_lived, all_reasons, groups_led, led, reason_of}

below : (n i : ℕ) → i < n → n - i ≡ suc (n - (i + 1))
below n i low = omega arith

past : (n i : ℕ) → n ≤ i → n - i ≡ zero
past n i high = omega arith

module _ {S : Type 0} (r : Rules S) (w : S) where
  pub led_more : (n i c : ℕ) → i < n → r.looks_after w c i ≡ true
      → led r (n - i) c i w ≡ led r (n - (i + 1)) c (i + 1) w + 1
  unfolding led
  led_more n i c low is = rw (below n i low, is) refl

  pub led_stop : (n i c : ℕ) → i < n → r.looks_after w c i ≡ false → led r (n - i) c i w ≡ 0
  unfolding led
  led_stop n i c low is = rw (below n i low, is) refl

  pub led_end : (n i c : ℕ) → n ≤ i → led r (n - i) c i w ≡ 0
  unfolding led
  led_end n i c high = rw (past n i high) refl

  pub lived_more : (n i jiffies : ℕ) (ks : List CpuCounts) → i < n
      → all_lived r (n - i) i w jiffies ks
      ≡ all_lived r (n - (i + 1)) (i + 1) w jiffies
      (at_cpu i (lived (r.is_online w i) (r.is_idle w i) jiffies (groups_led r w i)) ks)
  unfolding all_lived
  lived_more n i jiffies ks low = rw (below n i low) refl

  pub lived_end : (n i jiffies : ℕ) (ks : List CpuCounts) → n ≤ i
      → all_lived r (n - i) i w jiffies ks ≡ ks
  unfolding all_lived
  lived_end n i jiffies ks high = rw (past n i high) refl

  pub reasons_more : (due : Dues S) (n i : ℕ) (xs : List Reason) → i < n
      → all_reasons r due (n - i) i w xs
      ≡ all_reasons r due (n - (i + 1)) (i + 1) w (with_reason i (reason_of r due w i) xs)
  unfolding all_reasons
  reasons_more due n i xs low = rw (below n i low) refl

  pub reasons_end : (due : Dues S) (n i : ℕ) (xs : List Reason) → n ≤ i
      → all_reasons r due (n - i) i w xs ≡ xs
  unfolding all_reasons
  reasons_end due n i xs high = rw (past n i high) refl
