-- the CPUs at the start
use Rattle.std.proofs.Common.{◌≡◌, ℕ, ◌<◌, ◌≤◌, [], replicate, refl, sym, ap, ◌∙◌, inl, inr, subst, arith}
use Rattle.std.proofs.lemmas.Bool.{cases_lt}
use Rattle.std.proofs.lemmas.List.{get_or-replicate, get_or_past, length-replicate}
use Rattle.std.proofs.lemmas.List.Elements.{All-nil}
use Rattle.tm_base.specs.declared.names.Class.{Class}
use Rattle.tm_base.specs.declared.names.Class.TheVariants.{Pinned, Global, Deferrable}
use Rattle.wheel_core.specs.PlainBase.{empty_base}
use Rattle.cpu_bases.specs.CpuBases.{BaseFits, IsConsistent, base_of, empty_bases}
use Rattle.cpu_bases.specs.Journals.{Agrees, LegalUpTo}
use Rattle.tree_plan.specs.Shape.{Shape}
use Rattle.tree_plan.specs.Paths.{cpu_count_of}
use Rattle.core_world.specs.Start.{start_cpu, start_of}
use Rattle.core_world.specs.World.{CpuRecord, cpu_of, no_cpu}

module _ (t : Shape) (timers : ℕ) where
  pub cpu_there : (c : ℕ) → c < cpu_count_of t → cpu_of (start_of t timers) c ≡ start_cpu
  cpu_there c within = get_or-replicate (cpu_count_of t) c start_cpu no_cpu within

  pub cpu_past : (c : ℕ) → cpu_count_of t ≤ c → cpu_of (start_of t timers) c ≡ no_cpu
  cpu_past c past = get_or_past (replicate (cpu_count_of t) start_cpu) c no_cpu (omega (arith, length-replicate (cpu_count_of t) start_cpu))

  -- in what a CPU that is there and one that isn't are the same, all are
  pub each_cpu : {X : Type 0} (f : CpuRecord → X) → f start_cpu ≡ f no_cpu → (c : ℕ) → f (cpu_of (start_of t timers) c) ≡ f no_cpu
  each_cpu f same c = elim (cases_lt c (cpu_count_of t)) [ inl within ↦ ap f (cpu_there c within) ∙ same | inr past ↦ ap f (cpu_past c past) ]

pub base_empty : (class : Class) → base_of class empty_bases ≡ empty_base
base_empty Pinned = refl
base_empty Global = refl
base_empty Deferrable = refl

agrees_empty : (class : Class) → Agrees class (base_of class empty_bases).items []
agrees_empty Pinned = refl
agrees_empty Global = refl
agrees_empty Deferrable = refl

fits_empty : BaseFits empty_base
fits_empty = record {
  clock = omega arith;
  sound = record { distinct = tt; in_wheel = All-nil _ };
  timers = All-nil _;
}

pub consistent_empty : IsConsistent empty_bases
consistent_empty = record {
  each_may_follow = tt;
  agrees = agrees_empty;
  fits = λ class. subst BaseFits (sym (base_empty class)) fits_empty;
  in_time = All-nil _;
}

pub legal_empty : (c : ℕ) → LegalUpTo c 0 []
legal_empty c = record {
  legal = record { each_may_follow = tt; times_never_fall = tt; handed_by_right = All-nil _ };
  not_past = omega arith;
}
