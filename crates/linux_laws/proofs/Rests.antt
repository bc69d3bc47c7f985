-- at rest all bits fit
use Rattle.std.proofs.Common.{◌≡◌, ◌↔◌, ℕ, ◌^◌, ◌<◌, Bool, true, false, true≢false, List, [], ◌∷◌, Option, Some, None, refl, sym, ap, ◌∙◌, subst, arith, inl, inr}
use Rattle.std.specs.Prelude.{◌==◌, ◌&&◌, ◌||◌, not, nat_lt, find, is_some}
use Rattle.std.specs.Int.{bit_at}
use Rattle.std.specs.List.{All, AllPass, list_all}
use Rattle.std.proofs.lemmas.Bool.{cases_Bool, cond-true, cond-false, eq-eqb, eqb-true, lt-ltb}
use Rattle.std.proofs.lemmas.List.Elements.{All-head, All-tail}
use Rattle.std.proofs.lemmas.List.Sums.{list_all-from_AllPass}
use Rattle.std.proofs.lemmas.Nat.{pow_pos}
use Rattle.std.proofs.lemmas.Option.{none-some, same_Some}
use Rattle.tm_base.specs.declared.names.Child.{Child}
use Rattle.tm_base.specs.Children.{of_cpu, of_group}
use Rattle.group_word.specs.Group.{IsActive}
use Rattle.group_word.specs.State.{migrator_bits}
use Rattle.tree_plan.specs.Paths.{bit_of, parent_of}
use Rattle.walk_rules.specs.Scene.{is_on}
use Rattle.core_world.specs.Lawful.{IsLawful}
use Rattle.core_world.specs.World.{World, group_of, scene_of}
use Rattle.core_facts.specs.Cover.Rest.{GroupsRest}
use Rattle.linux_seen.specs.declared.seen.Word.{Word}
use Rattle.linux_seen.specs.declared.seen.GroupSeen.{GroupSeen}
use Rattle.linux_seen.specs.declared.seen.CpuSeen.{CpuSeen}
use Rattle.linux_seen.specs.Seen.{Sight, group_at, or_else, unknown_group}
use Rattle.linux_seen.specs.Rests.{at_rest, bit_says, cpu_edge, cpu_says, group_edge, group_says, has_bit, is_led, known_word, rest_fits, same_truth}
use Rattle.linux_laws.specs.Alarms.{CpuShows, GroupShows, Shows, shown}
use Rattle.linux_laws.proofs.Words.{below_eight}

-- ---- tests

module _ {X : Type 0} (test : X → Bool) where
  found : (xs : List X) (x : X) → find test xs ≡ Some x → test x ≡ true
  found [] x is = absurd (none-some x is)
  found (y ∷ ys) x is = elim (cases_Bool (test y)) [
    | inl here ↦ ap test (sym (same_Some y x (sym (cond-true (test y) (Some y) (find test ys) here)
        ∙ is))) ∙ here
    | inr other ↦ found ys x (sym (cond-false (test y) (Some y) (find test ys) other) ∙ is)
  ]

  found_all : (P : X → Type 0) (xs : List X) (x : X) → All P xs → find test xs ≡ Some x → P x
  found_all P [] x all is = absurd (none-some x is)
  found_all P (y ∷ ys) x all is = elim (cases_Bool (test y)) [
    | inl here ↦ subst P (same_Some y x (sym (cond-true (test y) (Some y) (find test ys) here)
        ∙ is)) (All-head P y ys all)
    | inr other ↦ found_all P ys x (All-tail P y ys all)
        (sym (cond-false (test y) (Some y) (find test ys) other) ∙ is)
  ]

and_true : (a b : Bool) → a ≡ true → b ≡ true → (a && b) ≡ true
and_true a b p q = ap (λ x. x && b) p ∙ q

and_false : (a b : Bool) → b ≡ false → not (a && b) ≡ true
and_false true b p = ap not p
and_false false b p = refl

or_true : (a b : Bool) → b ≡ true → (a || b) ≡ true
or_true true b p = refl
or_true false b p = p

-- ---- one bit

truth : (a k : ℕ) (on : Bool) → a < 2 ^ 8 → IsActive a k ↔ (on ≡ true) →
    same_truth on (has_bit a k) ≡ true
truth a k true eight says =
    let set : IsActive a k = says.1 refl in
    and_true (nat_lt k 8) (bit_at a k == 1) (lt-ltb k 8 (below_eight a k eight set))
    (eq-eqb (bit_at a k) 1 set)
truth a k false eight says =
    and_false (nat_lt k 8) (bit_at a k == 1) (clear (bit_at a k == 1) refl)
  where
    clear : (b : Bool) → (bit_at a k == 1) ≡ b → b ≡ false
    clear true is = absurd (true≢false (sym (says.0 (eqb-true (bit_at a k) 1 is))))
    clear false is = refl

no_zero : (n : ℕ) → 0 < n → (n == 0) ≡ false
no_zero n some = elim (cases_Bool (n == 0)) [
  | inl is ↦ absurd (omega (arith, some, eqb-true n 0 is))
  | inr none ↦ none
]

led_is : (m : Option ℕ) → not (migrator_bits m == 0) ≡ is_some m
led_is None = refl
led_is (Some k) = ap not (no_zero (2 ^ k) (pow_pos k))

module _ (w : World) (lawful : IsLawful w) (rest : GroupsRest w) where
  -- a child's bit, where all of it is as in the world
  says : (m : Child) (g : ℕ) (on : Option Bool) (bit : Option ℕ) (word : Option Word) →
      ((b : Bool) → on ≡ Some b → is_on (scene_of w) m ≡ b) →
      ((k : ℕ) → bit ≡ Some k → (parent_of w.tree m ≡ Some g) × (bit_of w.tree m ≡ k)) →
      ((x : Word) → word ≡ Some x → x ≡ shown (group_of w g)) → bit_says on bit word ≡ true
  says m g None bit word active link word_is = refl
  says m g (Some b) None word active link word_is = refl
  says m g (Some b) (Some k) None active link word_is = refl
  says m g (Some b) (Some k) (Some x) active link word_is =
      let on = active b refl in
      let at = link k refl in
      let bits = rest.bits m g at.0 in
      let is : x.active ≡ (group_of w g).active = ap (λ (z : Word). z.active) (word_is x refl) in
      subst (λ a. same_truth b (has_bit a k) ≡ true) (sym is)
      (truth (group_of w g).active k b (lawful.groups.eight g) (
        λ set. sym on ∙ bits.0 (subst (λ n. IsActive (group_of w g).active n) (sym at.1) set),
        λ yes_on. subst (λ n. IsActive (group_of w g).active n) at.1 (bits.1 (on ∙ yes_on)),
      ))

  module _ (name : ℕ → ℕ) (s : Sight) (shows : Shows w name s) where
    group_shows : (p : ℕ) (o : Option GroupSeen) → find (λ g. g.pointer == p) s.groups ≡ o →
        (x : Word) → known_word (or_else o (unknown_group p)) ≡ Some x →
        x ≡ shown (group_of w (name p))
    group_shows p None is x known = absurd (none-some x known)
    group_shows p (Some g) is x known =
        (found_all (λ g. g.pointer == p) (GroupShows w name) s.groups g shows.groups is).word x known
        ∙ ap (λ n. shown (group_of w (name n))) (eqb-true g.pointer p
        (found (λ g. g.pointer == p) s.groups g is))

    word_at : (p : ℕ) (x : Word) → known_word (group_at s p) ≡ Some x →
        x ≡ shown (group_of w (name p))
    word_at p = group_shows p (find (λ g. g.pointer == p) s.groups) refl

    group_on : (n : ℕ) (o : Option Word) → ((x : Word) → o ≡ Some x → x ≡ shown (group_of w n)) →
        (b : Bool) → is_led o ≡ Some b → is_on (scene_of w) (of_group n) ≡ b
    group_on n None word b is = absurd (none-some b is)
    group_on n (Some x) word b is =
        sym (led_is (group_of w n).migrator)
        ∙ (ap (λ (z : Word). not (z.migrator == 0)) (sym (word x refl)) ∙ same_Some _ b is)

    group_fits : (g : GroupSeen) → GroupShows w name g → (told : Bool) → g.told ≡ told →
        (parent : Option ℕ) → g.parent ≡ parent →
        (not told || group_says parent s g) ≡ true
    group_fits g fit false is parent at = refl
    group_fits g fit true is None at = refl
    group_fits g fit true is (Some p) at =
        says (of_group (name g.pointer)) (name p) (is_led (known_word g)) g.bit
        (known_word (group_at s p)) (group_on (name g.pointer) (known_word g) fit.word)
        (λ k bit. fit.link p k is at bit) (word_at p)

    cpu_fits : (c : CpuSeen) → CpuShows w name c → (told : Bool) → c.told ≡ told →
        (leaf : Option ℕ) → c.leaf ≡ leaf → (not told || cpu_says leaf s c) ≡ true
    cpu_fits c fit false is leaf at = refl
    cpu_fits c fit true is None at = refl
    cpu_fits c fit true is (Some p) at =
        says (of_cpu c.cpu.0) (name p) c.active c.bit (known_word (group_at s p)) fit.active
        (λ k bit. fit.link p k is at bit) (word_at p)

    groups_fit : AllPass (group_edge s) s.groups
    groups_fit = λ k d low. group_fits _ (shows.groups k d low) _ refl _ refl

    cpus_fit : AllPass (cpu_edge s) s.cpus
    cpus_fit = λ k d low. cpu_fits _ (shows.cpus k d low) _ refl _ refl

    pub rests_fit : rest_fits s ≡ true
    rests_fit =
        or_true (not (at_rest s)) (list_all (group_edge s) s.groups && list_all (cpu_edge s) s.cpus)
        (and_true (list_all (group_edge s) s.groups) (list_all (cpu_edge s) s.cpus)
        (list_all-from_AllPass (group_edge s) s.groups groups_fit)
        (list_all-from_AllPass (cpu_edge s) s.cpus cpus_fit))
