-- what a call says of its result, said otherwise
use Rattle.std.proofs.Common.{◌≡◌, refl}
use Rattle.std.specs.Prelude.{IfErr, OnOk, Result, Ok, Err}
use Rattle.core_world.specs.declared.step.Step.{Step}
use Rattle.core_world.specs.World.{World}
use Rattle.plain_world.specs.declared.lack.Lack.{Lack}
use Rattle.plain_world.specs.declared.lack.Lack.TheVariants as lacks
use Rattle.plain_world.specs.Limits.{IsFollowed, MayLack, TakesMemory}

pub on_ok : {A E : Type 0} (r : Result A E) (P Q : Type 0) → (P → Q) → OnOk r P → OnOk r Q
on_ok (Ok x) P Q f p = f p
on_ok (Err e) P Q f p = tt

pub if_err : {A E : Type 0} (r : Result A E) (P Q : E → Type 0) → ((e : E) → P e → Q e)
    → IfErr r P → IfErr r Q
if_err (Ok x) P Q f p = tt
if_err (Err e) P Q f p = f e p

-- a call that gives up for want of memory alone
no_range : (e : Lack) (X : Type 0) → e ≡ lacks.Memory → e ≡ lacks.Range → X → ⊥
no_range lacks.Memory X is why = cc
no_range lacks.Range X is why = cc

pub memory_alone : {A : Type 0} (r : Result A Lack) (X : Type 0) → IfErr r (λ e. e ≡ lacks.Memory)
    → IfErr r (λ e. e ≡ lacks.Range → X → ⊥)
memory_alone r X = if_err r (λ e. e ≡ lacks.Memory) (λ e. e ≡ lacks.Range → X → ⊥)
    (λ e is why. no_range e X is why)

-- other conditions
pub past_where : {A : Type 0} (r : Result A Lack) (X Y : Type 0) → (Y → X)
    → IfErr r (λ e. e ≡ lacks.Range → X → ⊥) → IfErr r (λ e. e ≡ lacks.Range → Y → ⊥)
past_where r X Y f = if_err r (λ e. e ≡ lacks.Range → X → ⊥) (λ e. e ≡ lacks.Range → Y → ⊥)
    (λ e past why y. past why (f y))

lack_where : (w : World) (step : Step) (e : Lack) → TakesMemory step
    → (e ≡ lacks.Range → IsFollowed w step → ⊥) → MayLack w step e
lack_where w step lacks.Memory takes past = takes
lack_where w step lacks.Range takes past = past refl

-- where a step that takes memory may give up
pub may_lack : {A : Type 0} (r : Result A Lack) (w : World) (step : Step) → TakesMemory step
    → IfErr r (λ e. e ≡ lacks.Range → IsFollowed w step → ⊥) → IfErr r (MayLack w step)
may_lack r w step takes = if_err r (λ e. e ≡ lacks.Range → IsFollowed w step → ⊥) (MayLack w step)
    (λ e past. lack_where w step e takes past)

walk_lack : (w : World) (step : Step) (e : Lack) → e ≡ lacks.Range → (IsFollowed w step → ⊥)
    → MayLack w step e
walk_lack w step lacks.Memory is past = cc
walk_lack w step lacks.Range is past = past

-- where a step that takes none may
pub may_walk : {A : Type 0} (r : Result A Lack) (w : World) (step : Step)
    → IfErr r (λ e. e ≡ lacks.Range) → IfErr r (λ e. IsFollowed w step → ⊥)
    → IfErr r (MayLack w step)
may_walk (Ok x) w step is past = tt
may_walk (Err e) w step is past = walk_lack w step e is past
