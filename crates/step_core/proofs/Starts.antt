-- the start
use Rattle.std.proofs.Common.{◌<◌, ◌≡◌, ℕ, suc, ◌+◌, ◌^◌, List, [], ◌∷◌, ◌++◌, Option, None, length}
use Rattle.std.proofs.Common.{sym, ap, ◌∙◌, subst, arith, get_or, inl, inr}
use Rattle.std.specs.Prelude.{All, map, replicate}
use Rattle.std.specs.List.{range_with_len}
use Rattle.std.proofs.lemmas.Bool.{cases_lt}
use Rattle.std.proofs.lemmas.List.{append_assoc, get_or-replicate, get_or_past, length-replicate}
use Rattle.std.proofs.lemmas.List.FromFn.{map-range_with_len_more}
use Rattle.tm_base.specs.declared.names.CpuId.{CpuId}
use Rattle.tree_plan.specs.Shape.{Shape, IsPlanned}
use Rattle.tree_plan.specs.Paths.{child_count_of, cpu_count_of, group_count_of}
use Rattle.cpu_bases.specs.CpuBases.{RoomyBases, empty_bases}
use Rattle.walk_rules.specs.Scene.{Group}
use Rattle.core_steps.specs.core_laws.Start.Layer.{StartsLawful}
use Rattle.core_steps.specs.core_facts.Levels.{LevelsFit, LevelsStartFit}
use Rattle.core_steps.specs.core_facts.Played.{AllPlayed, StartsPlayed}
use Rattle.core_world.specs.Lawful.{IsLawful}
use Rattle.core_world.specs.Start.{start_cpu, start_group, start_of}
use Rattle.core_world.specs.World.{CpuRecord, no_cpu}
use Rattle.core_steps.specs.core_state.Kept.{IsHeld, WorldFits, holds, is_queued, noted, world_of}

pub one_more_group : (t : Shape) (n : ℕ) (groups : List Group) (x : Group)
    → groups ≡ map (λ g. start_group (child_count_of t g)) (range_with_len 0 n)
    → x ≡ start_group (child_count_of t n)
    → groups ++ x ∷ [] ≡ map (λ g. start_group (child_count_of t g)) (range_with_len 0 (n + 1))
one_more_group t n groups x made is =
    (λ i. made i ++ is i ∷ [])
    ∙ sym (map-range_with_len_more (λ g. start_group (child_count_of t g)) 0 n n (omega arith))

pub made_more : (xs : List CpuRecord) (rest : List RoomyBases) (b : RoomyBases)
    (later : List RoomyBases) (x : CpuRecord) (all : List CpuRecord) → rest ≡ b ∷ later
    → x ≡ start_cpu
    → xs ++ replicate (length rest) start_cpu ≡ all
    → (xs ++ x ∷ []) ++ replicate (length later) start_cpu ≡ all
made_more xs rest b later x all is made so_far =
    ap (λ y. (xs ++ y ∷ []) ++ replicate (length later) start_cpu) made
    ∙ (append_assoc xs (start_cpu ∷ []) (replicate (length later) start_cpu)
    ∙ (ap (λ r. xs ++ replicate (length r) start_cpu) (sym is) ∙ so_far))

tail_empty : (b : RoomyBases) (later : List RoomyBases)
    → All (λ (x : RoomyBases). x.plain ≡ empty_bases) (b ∷ later)
    → All (λ (x : RoomyBases). x.plain ≡ empty_bases) later
tail_empty b later all = λ k d low. all (suc k) d (omega (arith, low))

pub rest_empty : (rest : List RoomyBases) (b : RoomyBases) (later : List RoomyBases)
    → rest ≡ b ∷ later
    → All (λ (x : RoomyBases). x.plain ≡ empty_bases) rest
    → All (λ (x : RoomyBases). x.plain ≡ empty_bases) later
rest_empty rest b later is all =
    tail_empty b later (subst (λ r. All (λ (x : RoomyBases). x.plain ≡ empty_bases) r) is all)

-- no CPU has a walk, or anything queued
start_cpus : (P : CpuRecord → Type 0) → P start_cpu → P no_cpu → (n c : ℕ)
    → P (get_or (replicate n start_cpu) c no_cpu)
start_cpus P here past n c = elim (cases_lt c n) [
  | inl low ↦ subst P (sym (get_or-replicate n c start_cpu no_cpu low)) here
  | inr high ↦
      subst P
      (sym (get_or_past (replicate n start_cpu) c no_cpu
      (let len = length-replicate n start_cpu in omega (arith, len, high))))
      past
]

abbrev no_holder : Option CpuId
no_holder = None

no_note : (n timer : ℕ) → get_or (replicate n no_holder) timer None ≡ None
no_note n timer = elim (cases_lt timer n) [
  | inl low ↦ get_or-replicate n timer no_holder None low
  | inr high ↦
      get_or_past (replicate n no_holder) timer None
      (let len = length-replicate n no_holder in omega (arith, len, high))
]

module _ (t : Shape) (timers count : ℕ) (holders : List (Option CpuId)) (groups : List Group)
    (cpus : List CpuRecord) (sized : count ≡ cpu_count_of t)
    (of_groups : groups ≡ map (λ g. start_group (child_count_of t g)) (range_with_len 0 (group_count_of t)))
    (of_cpus : cpus ≡ replicate count start_cpu) (of_timers : holders ≡ replicate timers None) where
  -- the world of these parts is that of the start
  start_is : world_of t (length holders) 0 groups cpus ≡ start_of t timers
  start_is = λ i.
      world_of t ((ap length of_timers ∙ length-replicate timers no_holder) i) 0 (of_groups i)
      ((of_cpus ∙ ap (λ n. replicate n start_cpu) sized) i)

  pub start_fits : IsPlanned t → StartsLawful → StartsPlayed → LevelsStartFit → timers < 2 ^ 16
      → WorldFits (world_of t (length holders) 0 groups cpus)
  start_fits planned law plays levels few = record {
    planned = planned;
    in_time = omega arith;
    few =
        let same = ap length of_timers ∙ length-replicate timers no_holder in
        omega (arith, same, few);
    lawful =
        subst IsLawful (sym start_is)
        (subst (λ u. IsLawful (start_of u timers)) (sym planned.tree)
        (law t.nodes t.cpus timers t.isolated planned.limits (omega (arith, few))));
    played = subst AllPlayed (sym start_is) (plays t timers);
    levels = subst LevelsFit (sym start_is) (levels t timers);
  }

  pub start_held : IsHeld (world_of t (length holders) 0 groups cpus) holders
  start_held = λ timer c.
      subst (λ ys. is_queued timer (get_or ys c no_cpu).bases ≡ holds (noted holders timer) c)
      (sym of_cpus) (start_cpus (λ y. is_queued timer y.bases ≡ holds (noted holders timer) c)
      (sym (ap (λ hs. holds (noted hs timer) c) of_timers
      ∙ ap (λ o. holds o c) (no_note timers timer)))
      (sym (ap (λ hs. holds (noted hs timer) c) of_timers
      ∙ ap (λ o. holds o c) (no_note timers timer))) count c)
