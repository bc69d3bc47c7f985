-- timers in their slots, by their keys
use Rattle.std.proofs.Common.{◌≡◌, ◌≢◌, ℕ, Option, Some, None, refl, ap, ◌∙◌, sym}
use Rattle.std.proofs.Common.{inl, inr}
use Rattle.std.specs.Prelude.{◌==◌, option_map}
use Rattle.std.proofs.lemmas.Bool.{cases_Bool, cases_eq, cond-true, cond-false, eq-eqb, ne_eqb}
use Rattle.std.proofs.lemmas.Bool.{eqb-true}
use Rattle.std.proofs.lemmas.Option.{none-some, same_Some}
use Rattle.slab.specs.Slab.{Slab, Updates, get}
use Rattle.timer_queue.specs.declared.key.Key.{Key}
use Rattle.timer_queue.specs.declared.timer.Timer.{Timer}
use Rattle.timer_queue.specs.Queues.{Asked, asked, numbered}

-- two keys of one slot and number are one
pub one_key : (a b : Key) → a.slot ≡ b.slot → a.number ≡ b.number → a ≡ b
one_key a b slot number = λ i. record { slot = slot i; number = number i }

module _ {T : Type 0} where
  -- what a key stands for among these slots
  abbrev pub at_key : Slab (Timer T) → Key → Option (Asked T)
  at_key timers key = option_map asked (numbered key.number (get timers key.slot))

  -- a slot has the timer of no other number
  abbrev pub HasOnly : (number : ℕ) → Option (Timer T) → Type 0
  HasOnly number None = Unit {0}
  HasOnly number (Some timer) = timer.number ≡ number

  pub numbered_same : (number : ℕ) (timer : Timer T) → timer.number ≡ number
      → numbered number (Some timer) ≡ Some timer
  numbered_same number timer is =
      cond-true (timer.number == number) (Some timer) None (eq-eqb timer.number number is)

  pub numbered_other : (number n : ℕ) (slot : Option (Timer T)) → HasOnly number slot
      → n ≢ number → numbered n slot ≡ None
  numbered_other number n None only apart = refl
  numbered_other number n (Some timer) only apart =
      cond-false (timer.number == n) (Some timer) None
      (ne_eqb timer.number n (λ same. apart (sym same ∙ only)))

  pub record Numbered (n : ℕ) (slot : Option (Timer T)) (timer : Timer T) : Type 0 where
    pub there : slot ≡ Some timer
    pub number : timer.number ≡ n

  pub numbered_is : (n : ℕ) (slot : Option (Timer T)) (timer : Timer T)
      → numbered n slot ≡ Some timer → Numbered n slot timer
  numbered_is n None timer is = absurd (none-some timer is)
  numbered_is n (Some found) timer is =
      elim (cases_Bool (found.number == n)) [
        | inl here ↦
            let same = same_Some found timer
            (sym (cond-true (found.number == n) (Some found) None here) ∙ is) in
            record {
              there = ap Some same;
              number = ap (λ (t : Timer T). t.number) (sym same) ∙ eqb-true found.number n here;
            }
        | inr other ↦
            absurd (none-some timer
            (sym (cond-false (found.number == n) (Some found) None other) ∙ is))
      ]

  -- a key that stands for something has a timer
  pub record Stands (slot : Option (Timer T)) (a : Asked T) : Type 0 where
    pub timer : Timer T
    pub there : slot ≡ Some timer
    pub asked_is : asked timer ≡ a

  pub stands : (slot : Option (Timer T)) (a : Asked T) → option_map asked slot ≡ Some a
      → Stands slot a
  stands None a is = absurd (none-some a is)
  stands (Some timer) a is =
      record { timer = timer; there = refl; asked_is = same_Some (asked timer) a is }

  -- a slot changed: each other key stands for what it stood for
  pub others_kept : (old new : Slab (Timer T)) (key : Key) (was is : Option (Timer T))
      → get old key.slot ≡ was → Updates old new key.slot is
      → HasOnly key.number was → HasOnly key.number is
      → (other : Key) → other ≢ key → at_key new other ≡ at_key old other
  others_kept old new key was is was_is updates only_was only_is other apart =
      elim (cases_eq other.slot key.slot) [
        | inl same ↦
            let number : other.number ≢ key.number = λ n. apart (one_key other key same n) in
            let after : numbered other.number (get new other.slot) ≡ None =
            ap (λ k. numbered other.number (get new k)) same
            ∙ ap (numbered other.number) updates.changed
            ∙ numbered_other key.number other.number is only_is number in
            let before : numbered other.number (get old other.slot) ≡ None =
            ap (λ k. numbered other.number (get old k)) same
            ∙ ap (numbered other.number) was_is
            ∙ numbered_other key.number other.number was only_was number in
            ap (option_map asked) (after ∙ sym before)
        | inr away ↦
            ap (λ slot. option_map asked (numbered other.number slot)) (updates.others other.slot away)
      ]

  -- a slot that changes twice
  pub updates_twice : (a b c : Slab (Timer T)) (slot again : ℕ) (x y : Option (Timer T))
      → Updates a b slot x → Updates b c again y → again ≡ slot → Updates a c slot y
  updates_twice a b c slot again x y first second same = record {
    changed = ap (get c) (sym same) ∙ second.changed;
    others = λ other apart. second.others other (λ is. apart (is ∙ same)) ∙ first.others other apart;
  }
