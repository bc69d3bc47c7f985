-- the laws of paths follow from those of children, parents and levels
use Rattle.std.proofs.Common.{◌≡◌, ℕ, zero, suc, ◌+◌, ◌<◌, ◌≤◌, ⊎_elim, true, false, List, [], ◌∷◌, length, refl, sym, ◌∙◌, ap, subst, arith, zero-add, add-zero}
use Rattle.std.specs.Prelude.{Option, Some, None, slice_get, option_map, option_and_then, filter_map}
use Rattle.std.specs.List.{range_with_len, cons_option}
use Rattle.std.proofs.lemmas.Bool.{cases_lt, cases_Bool, both_ways}
use Rattle.std.proofs.lemmas.Option.{none-some, same_Some, option_and_then_some, slice_get_past}
use Rattle.tm_base.specs.declared.names.Child.{Child}
use Rattle.tm_base.specs.declared.names.Child.TheVariants.{Cpu, Group}
use Rattle.tm_base.specs.Children.{of_cpu, of_group}
use Rattle.tree_plan.specs.Shape.{Shape}
use Rattle.tree_plan.specs.Paths.{is_placed_in, group_count_of, level_count_of, level_of, child_at, parent_of, bit_of, group_at_of, child_towards, path_of, IsBelow, IsUnder}
use Rattle.tree_plan.specs.Laws.{CutLaws, EdgeLaws, LevelLaws, PathLaws}

all_behind : {A : Type 0} (f : ℕ → Option A) (a n : ℕ) → ((k : ℕ) → k < suc n → (x : A) × (f (a + k) ≡ Some x)) →
    (k : ℕ) → k < n → (x : A) × (f (a + 1 + k) ≡ Some x)
all_behind f a n all k inside =
    let here = all (suc k) (omega arith) in
    let on : a + 1 + k ≡ a + suc k = omega arith in
    (here.0, ap f on ∙ here.1)

-- numbers at which f has something give a list of that
get-filter_map : {A : Type 0} (f : ℕ → Option A) (a n i : ℕ) → ((k : ℕ) → k < n → (x : A) × (f (a + k) ≡ Some x)) →
    i < n → slice_get (filter_map f (range_with_len a n)) i ≡ f (a + i)
get-filter_map f a zero i all inside = absurd (omega arith)
get-filter_map f a (suc n) zero all inside =
    let first = all 0 (omega arith) in
    ap (λ o. slice_get (cons_option o (filter_map f (range_with_len (a + 1) n))) 0) (ap f (sym (add-zero a)) ∙ first.1) ∙ sym first.1
get-filter_map f a (suc n) (suc i) all inside =
    let first = all 0 (omega arith) in
    let on : a + 1 + i ≡ a + suc i = omega arith in
    ap (λ o. slice_get (cons_option o (filter_map f (range_with_len (a + 1) n))) (suc i)) (ap f (sym (add-zero a)) ∙ first.1)
    ∙ (get-filter_map f (a + 1) n i (all_behind f a n all) (omega arith) ∙ ap f on)

length-filter_map : {A : Type 0} (f : ℕ → Option A) (a n : ℕ) → ((k : ℕ) → k < n → (x : A) × (f (a + k) ≡ Some x)) →
    length (filter_map f (range_with_len a n)) ≡ n
length-filter_map f a zero all = refl
length-filter_map f a (suc n) all =
    let first = all 0 (omega arith) in
    ap (λ o. length (cons_option o (filter_map f (range_with_len (a + 1) n)))) (ap f (sym (add-zero a)) ∙ first.1) ∙ ap suc (length-filter_map f (a + 1) n (all_behind f a n all))

-- and those at which it has nothing give none
none-filter_map : {A : Type 0} (f : ℕ → Option A) (ks : List ℕ) → ((k : ℕ) → f k ≡ None) → filter_map f ks ≡ []
none-filter_map f [] nothing = refl
none-filter_map f (k ∷ ks) nothing = ap (λ o. cons_option o (filter_map f ks)) (nothing k) ∙ none-filter_map f ks nothing

module _ (t : Shape) (cuts : CutLaws t) (edges : EdgeLaws t) (levels : LevelLaws t) where
  leaf : (c : ℕ) → group_at_of t c 0 ≡ parent_of t (of_cpu c)
  unfolding group_at_of
  leaf c = refl

  climb : (c l g : ℕ) → group_at_of t c l ≡ Some g → group_at_of t c (suc l) ≡ parent_of t (of_group g)
  unfolding group_at_of
  climb c l g e = ap (option_and_then (λ h. parent_of t (of_group h))) e

  -- the group one level below on a path
  pub below : (c l g : ℕ) → group_at_of t c (suc l) ≡ Some g →
      (h : ℕ) × (group_at_of t c l ≡ Some h) × (parent_of t (of_group h) ≡ Some g)
  unfolding group_at_of
  below c l g e = option_and_then_some (λ h. parent_of t (of_group h)) (group_at_of t c l) g e (λ h at up. (h, at, up))

  level : (c l g : ℕ) → group_at_of t c l ≡ Some g → level_of t g ≡ l
  level c zero g e = levels.leaf c g (sym (leaf c) ∙ e)
  level c (suc l) g e = let step = below c l g e in levels.parent step.0 g step.2 ∙ ap suc (level c l step.0 step.1)

  cpu_placed : (c l g : ℕ) → group_at_of t c l ≡ Some g → is_placed_in t c ≡ true
  cpu_placed c zero g e = edges.cpu_placed c g (sym (leaf c) ∙ e)
  cpu_placed c (suc l) g e = let step = below c l g e in cpu_placed c l step.0 step.1

  towards : (c l g : ℕ) → group_at_of t c l ≡ Some g →
      (m : Child) × (child_towards t c l ≡ Some m) × (parent_of t m ≡ Some g) × (child_at t g (bit_of t m) ≡ Some m)
  unfolding child_towards
  towards c zero g e = let up = sym (leaf c) ∙ e in (of_cpu c, refl, up, edges.child g (of_cpu c) up)
  towards c (suc l) g e =
      let step = below c l g e in
      (of_group step.0, ap (option_map of_group) step.1, step.2, edges.child g (of_group step.0) step.2)

  onwards : (c l : ℕ) (m : Child) → child_towards t c l ≡ Some m → group_at_of t c l ≡ parent_of t m
  unfolding child_towards
  onwards c zero m e = leaf c ∙ ap (parent_of t) (same_Some _ _ e)
  onwards c (suc l) m e = by_group (group_at_of t c l) refl
    where
      by_group : (o : Option ℕ) → group_at_of t c l ≡ o → group_at_of t c (suc l) ≡ parent_of t m
      by_group None below = absurd (none-some m (ap (option_map of_group) (sym below) ∙ e))
      by_group (Some h) below = climb c l h below ∙ ap (parent_of t) (same_Some _ _ (ap (option_map of_group) (sym below) ∙ e))

  reached : (c l : ℕ) (m : Child) → child_towards t c l ≡ Some m → IsUnder t c m
  unfolding child_towards
  reached c zero m e = subst (IsUnder t c) (same_Some _ _ e) refl
  reached c (suc l) m e = by_group (group_at_of t c l) refl
    where
      by_group : (o : Option ℕ) → group_at_of t c l ≡ o → IsUnder t c m
      by_group None below = absurd (none-some m (ap (option_map of_group) (sym below) ∙ e))
      by_group (Some h) below = subst (IsUnder t c) (same_Some _ _ (ap (option_map of_group) (sym below) ∙ e)) (l, below)

  below_at : (c g : ℕ) → IsBelow t c g → group_at_of t c (level_of t g) ≡ Some g
  below_at c g on = ap (group_at_of t c) (level c on.0 g on.1) ∙ on.1

  under : (c p : ℕ) (m : Child) → parent_of t m ≡ Some p → IsUnder t c m → child_towards t c (level_of t p) ≡ Some m
  unfolding child_towards
  under c p (Cpu d) up same = ap (child_towards t c) (levels.leaf d.0 p up) ∙ ap (λ n. Some (of_cpu n)) same
  under c p (Group g) up on = ap (child_towards t c) (levels.parent g.0 p up) ∙ ap (option_map of_group) (below_at c g.0 on)

  group_within : (c l g : ℕ) → group_at_of t c l ≡ Some g → g < group_count_of t
  group_within c l g e = let step = towards c l g e in edges.parent_within g step.0 step.2

  there : (c l : ℕ) → is_placed_in t c ≡ true → l < level_count_of t → (g : ℕ) × (group_at_of t c l ≡ Some g)
  there c zero inside low = let up = edges.cpu_parent c inside low in (up.0, leaf c ∙ up.1)
  there c (suc l) inside low =
      let here = there c l inside (omega arith) in
      let within = group_within c l here.0 here.1 in
      let not_last : (suc here.0 ≡ group_count_of t) → ⊥ = λ last. omega (arith, (levels.highest here.0 within).1 last, level c l here.0 here.1) in
      let up = edges.group_parent here.0 (omega (arith, not_last, within)) in
      (up.0, climb c l here.0 here.1 ∙ up.1)

  beyond : (c l : ℕ) → level_count_of t ≤ l → group_at_of t c l ≡ None
  beyond c l high = by_group (group_at_of t c l) refl
    where
      by_group : (o : Option ℕ) → group_at_of t c l ≡ o → o ≡ None
      by_group None e = refl
      by_group (Some g) e = absurd (omega (arith, level c l g e, levels.within g (group_within c l g e)))

  meet : (c d l n : ℕ) → group_at_of t c l ≡ group_at_of t d l → l ≤ n → group_at_of t c n ≡ group_at_of t d n
  unfolding group_at_of
  meet c d l zero same up = let none : 0 ≡ l = omega arith in ap (group_at_of t c) none ∙ (same ∙ ap (group_at_of t d) (sym none))
  meet c d l (suc n) same up =
      ⊎_elim (λ later. let here : suc n ≡ l = omega arith in ap (group_at_of t c) here ∙ (same ∙ ap (group_at_of t d) (sym here)))
      (λ before. ap (option_and_then (λ g. parent_of t (of_group g))) (meet c d l n same before))
      (cases_lt n l)

  top : (c l g : ℕ) → is_placed_in t c ≡ true → suc l ≡ level_count_of t → suc g ≡ group_count_of t →
      group_at_of t c l ≡ Some g
  top c l g inside highest last =
      let here = there c l inside (omega arith) in
      let within = group_within c l here.0 here.1 in
      let same : here.0 ≡ g = omega (arith, (levels.highest here.0 within).0 (ap suc (level c l here.0 here.1) ∙ highest), last) in
      here.1 ∙ ap Some same

  -- below the first child of a group
  below_child : (l g : ℕ) (m : Child) → parent_of t m ≡ Some g → level_of t g ≡ l →
      ((l' h : ℕ) → l ≡ suc l' → h < group_count_of t → level_of t h ≡ l' → (c : ℕ) × (is_placed_in t c ≡ true) × (group_at_of t c l' ≡ Some h)) →
      (c : ℕ) × (is_placed_in t c ≡ true) × (group_at_of t c l ≡ Some g)
  below_child l g (Cpu c) up at rest =
      let low : 0 ≡ l = sym (levels.leaf c.0 g up) ∙ at in
      (c.0, edges.cpu_placed c.0 g up, ap (group_at_of t c.0) (sym low) ∙ (leaf c.0 ∙ up))
  below_child l g (Group h) up at rest =
      let high : l ≡ suc (level_of t h.0) = sym at ∙ levels.parent h.0 g up in
      let cpu = rest (level_of t h.0) h.0 high (omega (arith, edges.group_within h.0 g up)) refl in
      (cpu.0, cpu.1, ap (group_at_of t cpu.0) high ∙ (climb cpu.0 (level_of t h.0) h.0 cpu.2 ∙ up))

  some_cpu : (l g : ℕ) → g < group_count_of t → level_of t g ≡ l →
      (c : ℕ) × (is_placed_in t c ≡ true) × (group_at_of t c l ≡ Some g)
  some_cpu zero g inside at =
      let first = edges.some_at g 0 (omega (arith, cuts.some_child g inside)) in
      below_child zero g first.0 (edges.parent g 0 first.0 first.1) at (λ l h low within there. absurd (omega arith))
  some_cpu (suc l) g inside at =
      let first = edges.some_at g 0 (omega (arith, cuts.some_child g inside)) in
      below_child (suc l) g first.0 (edges.parent g 0 first.0 first.1) at (λ k h next within there.
      let same : l ≡ k = omega arith in
      let cpu = some_cpu l h within (there ∙ sym same) in
      (cpu.0, cpu.1, ap (group_at_of t cpu.0) (sym same) ∙ cpu.2))

  all_levels : (c : ℕ) → is_placed_in t c ≡ true → (l : ℕ) → l < level_count_of t →
      (g : ℕ) × (group_at_of t c (0 + l) ≡ Some g)
  all_levels c inside l low = let here = there c l inside low in (here.0, ap (group_at_of t c) (zero-add l) ∙ here.1)

  isolated : (c : ℕ) → is_placed_in t c ≡ false → (l : ℕ) → group_at_of t c l ≡ None
  isolated c outside l = by_group (group_at_of t c l) refl
    where
      by_group : (o : Option ℕ) → group_at_of t c l ≡ o → o ≡ None
      by_group None e = refl
      by_group (Some g) e = absurd (both_ways (is_placed_in t c) outside (cpu_placed c l g e))

  listed : (c l : ℕ) → slice_get (path_of t c) l ≡ group_at_of t c l
  unfolding path_of
  listed c l =
      ⊎_elim (λ inside.
      ⊎_elim (λ low. get-filter_map (group_at_of t c) 0 (level_count_of t) l (all_levels c inside) low ∙ ap (group_at_of t c) (zero-add l))
      (λ high. slice_get_past (filter_map (group_at_of t c) (range_with_len 0 (level_count_of t))) l (omega (arith, length-filter_map (group_at_of t c) 0 (level_count_of t) (all_levels c inside))) ∙ sym (beyond c l high))
      (cases_lt l (level_count_of t)))
      (λ outside. ap (λ gs. slice_get gs l) (none-filter_map (group_at_of t c) (range_with_len 0 (level_count_of t)) (isolated c outside)) ∙ sym (isolated c outside l))
      (cases_Bool (is_placed_in t c))

  pub no_path : (c : ℕ) → is_placed_in t c ≡ false → path_of t c ≡ []
  unfolding path_of
  no_path c outside = none-filter_map (group_at_of t c) (range_with_len 0 (level_count_of t)) (isolated c outside)

  pub height : (c : ℕ) → is_placed_in t c ≡ true → length (path_of t c) ≡ level_count_of t
  unfolding path_of
  height c inside = length-filter_map (group_at_of t c) 0 (level_count_of t) (all_levels c inside)

  pub path_laws : PathLaws t
  path_laws = record {
    leaf = leaf;
    climb = climb;
    there = there;
    beyond = beyond;
    level = level;
    isolated = λ c l outside. isolated c outside l;
    cpu_placed = cpu_placed;
    group_within = group_within;
    towards = towards;
    onwards = onwards;
    reached = reached;
    below = below_at;
    under = under;
    meet = λ c d l n g one two up. meet c d l n (one ∙ sym two) up;
    top = top;
    some_cpu = λ g inside. some_cpu (level_of t g) g inside refl;
    listed = listed;
  }
