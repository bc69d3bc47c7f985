-- for crates above: exchanges that walks have still to make
use Rattle.std.proofs.Common.{◌≡◌, ℕ, zero, suc, ◌+◌, ◌≤◌, eqb, eq-eqb, ne_eqb, cond, Bool, true}
use Rattle.std.proofs.Common.{false}
use Rattle.std.proofs.Common.{true≢false, Option, Some, None, refl, sym, ap, ◌∙◌, subst, inl, inr}
use Rattle.std.proofs.Common.{arith}
use Rattle.std.specs.Prelude.{◌&&◌, ◌||◌, not, nat_lt, nat_le}
use Rattle.std.specs.Option.{option_map_or}
use Rattle.std.proofs.lemmas.Bool.{and_left, cases_eq, cases_lt, le-ltb, lt-ltb, or_from, or_left}
use Rattle.tree_plan.specs.Shape.{Shape}
use Rattle.tree_plan.specs.Paths.{group_at_of, level_of}
use Rattle.walk_rules.specs.declared.walk.Walk.{Walk}
use Rattle.walk_rules.specs.declared.walk.WalkKind.TheVariants as kinds
use Rattle.walk_rules.specs.declared.walk.Stage.{Stage}
use Rattle.walk_rules.specs.declared.walk.Stage.TheVariants as stages
use Rattle.walk_rules.specs.Stages.{at_stage, first_stage, free_group_next, freed_next, higher}
use Rattle.walk_rules.specs.Stages.{up_next}
use Rattle.core_state.specs.core_facts.Exchanges.{stage_number}
use Rattle.shared_rule.specs.Shows.{is_past, exchanges, is_on_path, owes, raised}

one_at_most : (b : Bool) → cond b 1 0 ≤ 1
one_at_most true = omega arith
one_at_most false = omega arith

pub owes_one : (t : Shape) (g c : ℕ) (m : Option Walk) → owes t g c m ≤ 1
owes_one t g c None = omega arith
owes_one t g c (Some k) = one_at_most (exchanges k.kind &&
    (is_on_path t g c (level_of t g) && not (is_past (level_of t g) k)))

none_when : (e q : Bool) → ◌≡◌ {A = ℕ} (cond (e && (q && false)) 1 0) 0
none_when true true = refl
none_when true false = refl
none_when false q = refl

-- past its exchange a walk owes no more than before it
past_less : (e q a b : Bool) → cond (e && (q && not (a || (b && true)))) 1 0 ≤ cond
    (e && (q && not (a || (b && false)))) 1 0
past_less e q true b = omega arith
past_less e q false false = omega arith
past_less e q false true = let z : ◌≡◌ {A = ℕ} (cond
    (e && (q && false)) 1 0) 0 = none_when e q in omega (arith, z)

-- 1 where an exchange is owed: by a kind that makes one, on the path, at a level that isn't past
abbrev owed_with : (e q a b d : Bool) → ℕ
owed_with e q a b d = cond (e && (q && not (a || (b && d)))) 1 0

-- a walk that makes its exchange at the group g of its level
module _ (t : Shape) (g c : ℕ) (k : Walk) (seq : ℕ → ℕ)
    (still : nat_le 5 (stage_number k.stage) ≡ false) (kind : exchanges k.kind ≡ true)
    (here : group_at_of t c k.level ≡ Some g) (level : level_of t g ≡ k.level) where
  self : (n : ℕ) → nat_lt n n ≡ false
  self n = le-ltb n n (omega arith)

  before : (h : ℕ) → owes t h c (Some k) ≡ owed_with (exchanges k.kind)
      (is_on_path t h c (level_of t h)) (nat_lt (level_of t h) k.level)
      (eqb k.level (level_of t h)) false
  before h = ap (owed_with (exchanges k.kind) (is_on_path t h c (level_of t h))
      (nat_lt (level_of t h) k.level) (eqb k.level (level_of t h))) still

  one : owes t g c (Some k) ≡ 1
  one = before g ∙ (λ i. owed_with (kind i) (is_on_path t g c (level i))
      (nat_lt (level i) k.level) (eqb k.level (level i)) false)
      ∙ (λ i. owed_with true (option_map_or (λ h. eqb h g) (here i) false) (self k.level i)
      (eqb k.level k.level) false)
      ∙ (λ i. owed_with true (eq-eqb g g refl i) false (eq-eqb k.level k.level refl i) false)

  -- with a walk that owes nothing there afterwards, and elsewhere no more
  raise_owes : (m : Option Walk) → owes t g c m ≡ 0
      → ((h : ℕ) → owes t h c m ≤ owes t h c (Some k)) → (h : ℕ)
      → raised true g seq h + owes t h c m ≤ seq h + owes t h c (Some k)
  raise_owes m none less h = elim (cases_eq h g) [
    | inl e ↦
        let a : raised true g seq h ≡ suc (seq h) = ap (λ b. cond b (suc (seq h)) (seq h))
        (eq-eqb h g e) in
        let b : owes t h c (Some k) ≡ 1 = ap (λ n. owes t n c (Some k)) e ∙ one in
        let d : owes t h c m ≡ 0 = ap (λ n. owes t n c m) e ∙ none in
        omega (arith, a, b, d)
    | inr ne ↦
        let a : raised true g seq h ≡ seq h = ap (λ b. cond b (suc (seq h)) (seq h))
        (ne_eqb h g ne) in
        let b = less h in
        omega (arith, a, b)
  ]

  -- the walk ends
  pub end_owes : (h : ℕ) → raised true g seq h + owes t h c None ≤ seq h + owes t h c (Some k)
  end_owes = raise_owes None refl (λ h. omega arith)

  -- the walk is past its exchange
  module _ (j : Walk) (same_kind : j.kind ≡ k.kind) (same_level : j.level ≡ k.level)
      (past : nat_le 5 (stage_number j.stage) ≡ true) where
    now : (h : ℕ) → owes t h c (Some j) ≡ owed_with (exchanges k.kind)
        (is_on_path t h c (level_of t h)) (nat_lt (level_of t h) k.level)
        (eqb k.level (level_of t h)) true
    now h = λ i. owed_with (exchanges (same_kind i)) (is_on_path t h c (level_of t h))
        (nat_lt (level_of t h) (same_level i)) (eqb (same_level i) (level_of t h)) (past i)

    none_left : owes t g c (Some j) ≡ 0
    none_left =
        now g
        ∙ ((λ i. owed_with (exchanges k.kind) (is_on_path t g c (level i))
        (nat_lt (level i) k.level) (eqb k.level (level i)) true)
        ∙ ((λ i. owed_with (exchanges k.kind) (is_on_path t g c k.level) (self k.level i)
        (eq-eqb k.level k.level refl i) true)
        ∙ none_when (exchanges k.kind) (is_on_path t g c k.level)))

    less : (h : ℕ) → owes t h c (Some j) ≤ owes t h c (Some k)
    less h =
        let a = past_less (exchanges k.kind) (is_on_path t h c (level_of t h))
        (nat_lt (level_of t h) k.level) (eqb k.level (level_of t h)) in
        let b = before h in
        let d = now h in
        omega (arith, a, b, d)

    pub past_owes : (h : ℕ)
        → raised true g seq h + owes t h c (Some j) ≤ seq h + owes t h c (Some k)
    past_owes = raise_owes (Some j) none_left less

-- an activation at Up
pub up_owes : (t : Shape) (g c : ℕ) (k : Walk) (seq : ℕ → ℕ) → k.stage ≡ stages.Up
    → k.kind ≡ kinds.Activate → group_at_of t c k.level ≡ Some g → level_of t g ≡ k.level
    → (top more : Bool) (h : ℕ)
    → raised true g seq h + owes t h c (up_next top more k) ≤ seq h + owes t h c (Some k)
up_owes t g c k seq is kind here level true more h =
    end_owes t g c k seq (ap (λ z. nat_le 5 (stage_number z)) is) (ap exchanges kind) here level h
up_owes t g c k seq is kind here level false more h =
    past_owes t g c k seq (ap (λ z. nat_le 5 (stage_number z)) is) (ap exchanges kind) here level
    (at_stage k (stages.Mark more)) refl refl refl h

-- a walk that stays at its level, on the same side of its exchange, owes what it owed
pub owes_kept : (t : Shape) (h c : ℕ) (j k : Walk) → j.kind ≡ k.kind → j.level ≡ k.level
    → nat_le 5 (stage_number j.stage) ≡ nat_le 5 (stage_number k.stage)
    → owes t h c (Some j) ≤ owes t h c (Some k)
owes_kept t h c j k kind level place =
    let e : owes t h c (Some j) ≡ owes t h c (Some k)
    = λ i. owed_with (exchanges (kind i)) (is_on_path t h c (level_of t h))
    (nat_lt (level_of t h) (level i)) (eqb (level i) (level_of t h)) (place i) in
    omega (arith, e)

-- what is past stays past where no less is
less_past : (e q a b : Bool) → (a ≡ true → b ≡ true)
    → cond (e && (q && not b)) 1 0 ≤ cond (e && (q && not a)) 1 0
less_past e q true b stays =
    subst (λ z. cond (e && (q && not z)) 1 0 ≤ cond (e && (q && false)) 1 0) (sym (stays refl))
    (omega arith)
less_past e q false true stays =
    let z : ◌≡◌ {A = ℕ} (cond (e && (q && false)) 1 0) 0 = none_when e q in omega (arith, z)
less_past e q false false stays = omega arith

-- one level higher a walk is past each level that it was past
passes : (n : ℕ) (k : Walk) (stage : Stage) → is_past n k ≡ true
    → is_past n (higher k stage) ≡ true
passes n k stage is = elim (cases_lt n (suc k.level)) [
  | inl low ↦ or_left (nat_lt n (suc k.level)) _ (lt-ltb n (suc k.level) low)
  | inr high ↦
      absurd
      (true≢false
      (sym is
      ∙ or_from (nat_lt n k.level) (eqb k.level n && nat_le 5 (stage_number k.stage))
      (le-ltb n k.level (omega (arith, high)))
      (and_left (eqb k.level n) _ (ne_eqb k.level n (λ z. omega (arith, high, z))))))
]

-- one level higher a walk owes no more
pub owes_higher : (t : Shape) (h c : ℕ) (k : Walk) (stage : Stage)
    → owes t h c (Some (higher k stage)) ≤ owes t h c (Some k)
owes_higher t h c k stage =
    less_past (exchanges k.kind) (is_on_path t h c (level_of t h)) (is_past (level_of t h) k)
    (is_past (level_of t h) (higher k stage)) (passes (level_of t h) k stage)

-- nor does a walk that has given back its last lock of a level, and ends or rises
pub owes_freed : (t : Shape) (h c : ℕ) (k : Walk) (over : Bool)
    → nat_le 5 (stage_number k.stage) ≡ true
    → owes t h c (Some (freed_next over k)) ≤ owes t h c (Some k)
owes_freed t h c k true past =
    owes_kept t h c (at_stage k stages.Finish) k refl refl (sym past)
owes_freed t h c k false past = owes_higher t h c k (first_stage k.kind)

-- nor one that has given back the lock of its group, at whatever level
pub owes_group_freed : (t : Shape) (h c : ℕ) (k : Walk) (level : ℕ)
    → nat_le 5 (stage_number k.stage) ≡ true
    → owes t h c (Some (free_group_next level k)) ≤ owes t h c (Some k)
owes_group_freed t h c k zero past = owes_freed t h c k k.over past
owes_group_freed t h c k (suc l) past =
    owes_kept t h c (at_stage k stages.FreeChild) k refl refl (sym past)
