-- for crates above: what a moved world has at each place
use Rattle.std.proofs.Common.{◌≡◌, ◌≢◌, ℕ, zero, suc, ◌+◌, ◌<◌, eq-eqb, Bool, true, false}
use Rattle.std.proofs.Common.{true≢false, cond, List, [], ◌∷◌, length, get_or, Option, Some, None}
use Rattle.std.proofs.Common.{refl, sym, ap, ◌∙◌, arith}
use Rattle.std.specs.Prelude.{◌&&◌, ◌==◌, option_map}
use Rattle.std.specs.Option.{option_map_or}
use Rattle.std.proofs.lemmas.List.{get_or-set_same, get_or-set_other}
use Rattle.std.proofs.lemmas.Option.{none-some, same_Some}
use Rattle.std.proofs.Math.ListN.{length-set}
use Rattle.walk_rules.specs.tree_plan.Shape.{Shape}
use Rattle.walk_rules.specs.tree_plan.Paths.{group_at_of}
use Rattle.walk_rules.specs.declared.walk.Walk.{Walk}
use Rattle.walk_rules.specs.Scene.{Group, no_group}
use Rattle.walk_rules.specs.Stages.{forget}
use Rattle.core_world.specs.World.{CpuRecord, World, all_stale, cpu_of, is_reading, moved, no_cpu}
use Rattle.core_world.specs.World.{reads_at, stale, stale_if, stale_walk}
use Rattle.core_world.specs.Frames.{MovedLaws}

pub stale_read : (t : Shape) (g n : ℕ) (ys : List CpuRecord) (d : ℕ) → get_or (all_stale t g n ys) d no_cpu ≡ stale t g (n + d) (get_or ys d no_cpu)
stale_read t g n [] d = refl
stale_read t g n (y ∷ ys) zero = let e : n ≡ n + 0 = omega arith in ap (λ m. stale t g m y) e
stale_read t g n (y ∷ ys) (suc d) =
    let e : suc n + d ≡ n + suc d = omega arith in
    stale_read t g (suc n) ys d ∙ ap (λ m. stale t g m (get_or ys d no_cpu)) e

pub stale_length : (t : Shape) (g n : ℕ) (ys : List CpuRecord) → length (all_stale t g n ys) ≡ length ys
stale_length t g n [] = refl
stale_length t g n (y ∷ ys) = ap suc (stale_length t g (suc n) ys)

-- a CPU beside the one that steps
abbrev pub beside : Shape → Bool → (g d : ℕ) → CpuRecord → CpuRecord
beside t true g d y = stale t g d y
beside t false g d y = y

stale_if_read : (t : Shape) (r : Bool) (g : ℕ) (ys : List CpuRecord) (d : ℕ) → get_or (stale_if t r g ys) d no_cpu ≡ beside t r g d (get_or ys d no_cpu)
stale_if_read t true g ys d = let e : 0 + d ≡ d = omega arith in stale_read t g 0 ys d ∙ ap (λ m. stale t g m (get_or ys d no_cpu)) e
stale_if_read t false g ys d = refl

pub stale_if_length : (t : Shape) (r : Bool) (g : ℕ) (ys : List CpuRecord) → length (stale_if t r g ys) ≡ length ys
stale_if_length t true g ys = stale_length t g 0 ys
stale_if_length t false g ys = refl

forget_cond : (b : Bool) (k : Walk) → forget (cond b (record k { fresh = false }) k) ≡ forget k
forget_cond true k = refl
forget_cond false k = refl

fresh_cond : (b : Bool) (k : Walk) → (cond b (record k { fresh = false }) k).fresh ≡ true → k.fresh ≡ true
fresh_cond true k e = absurd (true≢false (sym e))
fresh_cond false k e = e

stale_cond : (b : Bool) (k : Walk) → b ≡ true → (cond b (record k { fresh = false }) k).fresh ≡ false
stale_cond true k e = refl
stale_cond false k e = absurd (true≢false (sym e))

-- its walk is stale where it reads there
forgets : (t : Shape) (g d : ℕ) (m : Option Walk) → option_map forget (option_map (stale_walk t g d) m) ≡ option_map forget m
forgets t g d None = refl
forgets t g d (Some k) = ap Some (forget_cond (reads_at t g d k) k)

abbrev pub is_fresh : Option Walk → Bool
is_fresh m = option_map_or (λ (k : Walk). k.fresh) m false

keeps_stale : (t : Shape) (g d : ℕ) (m : Option Walk) → is_fresh (option_map (stale_walk t g d) m) ≡ true → is_fresh m ≡ true
keeps_stale t g d None e = e
keeps_stale t g d (Some k) e = fresh_cond (reads_at t g d k) k e

reads : (t : Shape) (g d : ℕ) (k : Walk) → is_reading k.stage ≡ true → group_at_of t d k.level ≡ Some g → reads_at t g d k ≡ true
reads t g d k r e =
    let e1 : option_map_or (λ h. h == g) (group_at_of t d k.level) false ≡ true = ap (λ m. option_map_or (λ h. h == g) m false) e ∙ eq-eqb g g refl in
    ap (λ b. b && option_map_or (λ h. h == g) (group_at_of t d k.level) false) r ∙ e1

gets_stale : (t : Shape) (g d : ℕ) (m : Option Walk) (k : Walk) → option_map forget m ≡ Some k → is_reading k.stage ≡ true → group_at_of t d k.level ≡ Some g
    → is_fresh (option_map (stale_walk t g d) m) ≡ false
gets_stale t g d None k is r e = absurd (none-some k is)
gets_stale t g d (Some j) k is r e =
    let p = same_Some _ _ is in
    stale_cond (reads_at t g d j) j (reads t g d j (ap (λ (z : Walk). is_reading z.stage) p ∙ r) (ap (λ (z : Walk). group_at_of t d z.level) p ∙ e))

module _ (w : World) (g : ℕ) (x : Group) (c : ℕ) (y : CpuRecord) (r : Bool) where
  pub cpu_same : c < length w.cpus → cpu_of (moved w g x c y r) c ≡ y
  cpu_same h = get_or-set_same (stale_if w.tree r g w.cpus) c y no_cpu (omega (arith, stale_if_length w.tree r g w.cpus))

  pub cpu_else : (d : ℕ) → d ≢ c → cpu_of (moved w g x c y r) d ≡ beside w.tree r g d (cpu_of w d)
  cpu_else d ne = get_or-set_other (stale_if w.tree r g w.cpus) c d y no_cpu ne ∙ stale_if_read w.tree r g w.cpus d

  walk_else : (q : Bool) (d : ℕ) (z : CpuRecord) → option_map forget (beside w.tree q g d z).walk ≡ option_map forget z.walk
  walk_else true d z = forgets w.tree g d z.walk
  walk_else false d z = refl

  online_else : (q : Bool) (d : ℕ) (z : CpuRecord) → (beside w.tree q g d z).online ≡ z.online
  online_else true d z = refl
  online_else false d z = refl

  idle_else : (q : Bool) (d : ℕ) (z : CpuRecord) → (beside w.tree q g d z).idle ≡ z.idle
  idle_else true d z = refl
  idle_else false d z = refl

  fresh_else : (q : Bool) (d : ℕ) (z : CpuRecord) → is_fresh (beside w.tree q g d z).walk ≡ true → is_fresh z.walk ≡ true
  fresh_else true d z e = keeps_stale w.tree g d z.walk e
  fresh_else false d z e = e

  stale_else : (q : Bool) → q ≡ true → (d : ℕ) (z : CpuRecord) (k : Walk) → option_map forget z.walk ≡ Some k → is_reading k.stage ≡ true
      → group_at_of w.tree d k.level ≡ Some g → is_fresh (beside w.tree q g d z).walk ≡ false
  stale_else true q d z k is reading e = gets_stale w.tree g d z.walk k is reading e
  stale_else false q d z k is reading e = absurd (true≢false (sym q))

  pub moved_laws : MovedLaws w g x c y r
  moved_laws = record {
    changes = record {
      walk = λ d ne. ap (λ (z : CpuRecord). option_map forget z.walk) (cpu_else d ne) ∙ walk_else r d (cpu_of w d);
      online = λ d ne. ap (λ (z : CpuRecord). z.online) (cpu_else d ne) ∙ online_else r d (cpu_of w d);
      idle = λ d ne. ap (λ (z : CpuRecord). z.idle) (cpu_else d ne) ∙ idle_else r d (cpu_of w d);
      group = λ h ne. get_or-set_other w.groups g h x no_group ne;
      fresh = λ d ne e. fresh_else r d (cpu_of w d) (sym (ap (λ (z : CpuRecord). is_fresh z.walk) (cpu_else d ne)) ∙ e);
      stale = λ q d k ne is reading e. ap (λ (z : CpuRecord). is_fresh z.walk) (cpu_else d ne) ∙ stale_else r q d (cpu_of w d) k is reading e;
    };
    cpu = cpu_same;
    group = λ h. get_or-set_same w.groups g x no_group h;
    cpus = length-set (stale_if w.tree r g w.cpus) c y ∙ stale_if_length w.tree r g w.cpus;
    groups = length-set w.groups g x;
  }
