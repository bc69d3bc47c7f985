-- tests at numbers of a range
use Rattle.std.proofs.Common.{◌≡◌, ℕ, zero, suc, ◌+◌, ◌<◌, ◌≤◌, Bool, true, false, not, refl, ap, ◌∙◌, arith, inl, inr}
use Rattle.std.specs.List.{list_any, range_with_len}
use Rattle.std.specs.FinSet.{contains}
use Rattle.std.proofs.lemmas.Bool.{cases_eq, or_cases, false≢true, or_left, or_right, or_from, not_from_false, not_from_true}
use Rattle.tm_base.specs.CpuSet.{Cpus}
use Rattle.tm_script.specs.Reading.{spares}

pub any_range : (p : ℕ → Bool) (a n c : ℕ) → a ≤ c → c < a + n → p c ≡ true → list_any p (range_with_len a n) ≡ true
any_range p a zero c low high h = absurd (omega arith)
any_range p a (suc n) c low high h =
    elim (cases_eq a c) [
      | inl e ↦ or_left _ _ (ap p e ∙ h)
      | inr other ↦ or_right _ _ (any_range p (a + 1) n c (omega arith) (omega arith) h)
    ]

pub none_range : (p : ℕ → Bool) (a n : ℕ) → ((c : ℕ) → a ≤ c → c < a + n → p c ≡ false) → list_any p (range_with_len a n) ≡ false
none_range p a zero h = refl
none_range p a (suc n) h =
    or_from _ _ (h a (omega arith) (omega arith)) (none_range p (a + 1) n (λ c low high. h c (omega arith) (omega arith)))

pub spares_one : (count : ℕ) (cpus : Cpus) (c : ℕ) → c < count → contains cpus c ≡ false → spares count cpus ≡ true
unfolding spares
spares_one count cpus c within out = any_range (λ c. not (contains cpus c)) 0 count c (omega arith) (omega arith) (not_from_false _ out)

pub spares_none : (count : ℕ) (cpus : Cpus) → ((c : ℕ) → c < count → contains cpus c ≡ true) → spares count cpus ≡ false
unfolding spares
spares_none count cpus all = none_range (λ c. not (contains cpus c)) 0 count (λ c low high. not_from_true _ (all c (omega arith)))

-- a test that passes somewhere in a range
pub range_some : (p : ℕ → Bool) (a n : ℕ) → list_any p (range_with_len a n) ≡ true → (c : ℕ) × (c < a + n) × (p c ≡ true)
range_some p a zero e = absurd (false≢true e)
range_some p a (suc n) e =
    elim (or_cases _ _ e) [
      | inl here ↦ (a, omega arith, here)
      | inr later ↦ let more = range_some p (a + 1) n later in (more.0, omega (arith, more.1), more.2)
    ]
