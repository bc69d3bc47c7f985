-- for crates above: what the exchanges do to the set of active children and to the migrator
use Rattle.std.proofs.Common.{◌≡◌, ◌≢◌, ◌↔◌, ◌==◌, ℕ, ◌^◌, ◌*◌, ◌%◌, ◌-◌, ◌<◌, inl, inr, Option, Some, None, true, refl, sym, subst, ◌∙◌, arith, bit_or, bit_and}
use Rattle.std.specs.Int.{bit_at, trailing_zeros, w8}
use Rattle.std.specs.Option.{option_or}
use Rattle.std.proofs.lemmas.Bool.{cases_eq, cases_lt, eq-eqb, eqb-true}
use Rattle.std.proofs.lemmas.Nat.{and_le_l}
use Rattle.std.proofs.lemmas.Nat.Bits.{bit_at_set_same, bit_at_set_other, bit_at_clear_same, bit_at_clear_other, bit_at_above, bit_at-zero, bit_at-lt, bit_at-trailing_zeros, same_from_bits}
use Rattle.std.proofs.lemmas.Option.{same_Some, none-some}
use Rattle.group_word.specs.Group.{IsActive, NoneActive, GroupLaw, Joins, Leaves, IsLowest, TakesRole, PassesOn}

-- two bits that are equal say the same
same_said : (m n : ℕ) → m ≡ n → (m ≡ 1) ↔ (n ≡ 1)
same_said m n e = ((λ h. sym e ∙ h), (λ h. e ∙ h))

-- setting a bit joins the child
pub joins : (active k : ℕ) → k < 8 → Joins active (bit_or active (1 * 2 ^ k % 256)) k
joins active k child = record {
  joined = bit_at_set_same w8 active k child;
  others = λ j other. same_said _ _ (bit_at_set_other w8 active k child j other);
}

-- clearing a bit leaves each other one
other_kept : (active k j : ℕ) → active < 2 ^ 8 → k < 8 → j ≢ k → bit_at (bit_and active (255 - 1 * 2 ^ k % 256)) j ≡ bit_at active j
other_kept active k j eight child other = elim (cases_lt j 8) [
  | inl low ↦ bit_at_clear_other w8 active k child j low other
  | inr high ↦ bit_at_above _ 8 j (omega (arith, and_le_l active (255 - 1 * 2 ^ k % 256))) high ∙ sym (bit_at_above active 8 j eight high)
]

-- clearing a bit takes the child out
pub leaves : (active k : ℕ) → active < 2 ^ 8 → k < 8 → Leaves active (bit_and active (255 - 1 * 2 ^ k % 256)) k
leaves active k eight child = record {
  left = λ h. absurd (omega (arith, bit_at_clear_same w8 active k child));
  others = λ j other. same_said _ _ (other_kept active k j eight child other);
}

-- the law is kept where a child joins
pub law_joined : (active new : ℕ) (migrator : Option ℕ) (k : ℕ) → GroupLaw active migrator → Joins active new k → GroupLaw new (option_or migrator (Some k))
law_joined active new None k law set = set.joined
law_joined active new (Some m) k law set = elim (cases_eq m k) [
  | inl same ↦ subst (λ j. IsActive new j) (sym same) set.joined
  | inr other ↦ (set.others m other).1 law
]

-- and the role is taken or stays
pub takes_role : (before : Option ℕ) (k : ℕ) → TakesRole before k (option_or before (Some k))
takes_role None k = record { stayed = λ m e. absurd (none-some m e); taken = λ _. refl }
takes_role (Some m) k = record { stayed = λ n e. e; taken = λ e. absurd (none-some m (sym e)) }

-- no child of the empty set is active
none_of_zero : NoneActive 0
none_of_zero k h = omega (arith, bit_at-zero k)

-- a set of which no child is active is the empty one
zero_of_none : (active : ℕ) → NoneActive active → active ≡ 0
zero_of_none active none =
    same_from_bits active 0 (λ i. omega (arith, bit_at-lt active i, bit_at-zero i, none i))

-- the test of a group without migrator
pub law_none : (active : ℕ) → ((active == 0) ≡ true) ↔ GroupLaw active None
law_none active =
    ((λ e. subst NoneActive (sym (eqb-true active 0 e)) none_of_zero), (λ none. eq-eqb active 0 (zero_of_none active none)))

-- the lowest bit of a set that isn't empty is its lowest child
pub lowest_there : (active : ℕ) → active ≢ 0 → active < 2 ^ 8 → IsLowest active (Some (trailing_zeros w8 active))
lowest_there active some eight =
    let at = bit_at-trailing_zeros w8 active (omega arith) eight in
    (at.1, λ j low h. omega (arith, at.2 j low))

-- the lowest child of a set is a lawful migrator
law_lowest : (active : ℕ) (lowest : Option ℕ) → IsLowest active lowest → GroupLaw active lowest
law_lowest active None is = is
law_lowest active (Some k) is = is.0

-- the law is kept where a child leaves
pub law_left : (active new : ℕ) (migrator after : Option ℕ) (k : ℕ) → GroupLaw active migrator → Leaves active new k → PassesOn migrator k new after → GroupLaw new after
law_left active new None after k law set role =
    subst (λ m. GroupLaw new m) (sym (role.stayed (none-some k))) (λ j h. elim (cases_eq j k) [
      | inl same ↦ set.left (subst (λ i. IsActive new i) same h)
      | inr other ↦ law j ((set.others j other).0 h)
    ])
law_left active new (Some m) after k law set role = elim (cases_eq m k) [
  | inl same ↦ law_lowest new after (role.passed cc)
  | inr other ↦
      subst (λ m. GroupLaw new m) (sym (role.stayed (λ same. other (same_Some m k same)))) ((set.others m other).1 law)
]
