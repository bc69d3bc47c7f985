-- what becomes of the answer of a CPU whose walk steps
use Rattle.std.proofs.Common.{◌≡◌, inl, inr, ℕ, ◌<◌, ◌≤◌, Bool, true, false, true≢false, length}
use Rattle.std.proofs.Common.{Option, Some, None, refl, sym, ap, ◌∙◌, subst}
use Rattle.std.specs.Prelude.{option_map}
use Rattle.std.proofs.lemmas.Option.{none-some, same_Some}
use Rattle.tree_plan.specs.Shape.{Shape}
use Rattle.tree_plan.specs.Paths.{group_at_of}
use Rattle.walk_rules.specs.declared.walk.Walk.{Walk}
use Rattle.walk_rules.specs.declared.walk.WalkKind.{WalkKind}
use Rattle.walk_rules.specs.declared.walk.WalkKind.TheVariants as kinds
use Rattle.walk_rules.specs.declared.walk.Stage.{Stage}
use Rattle.walk_rules.specs.declared.walk.Stage.TheVariants as stages
use Rattle.walk_rules.specs.Edges.{edge_level, edge_of}
use Rattle.walk_rules.specs.Hierarchy.{HasGroup, at_top}
use Rattle.walk_rules.specs.Scene.{Group}
use Rattle.walk_rules.specs.Stages.{forget, is_remote}
use Rattle.walk_rules.specs.Standing.{FlagsAt, FitsStage, Tells}
use Rattle.core_world.specs.IdleTop.{Answered, IsTopGroup, ReadsYet, TopAnswered, is_climbing}
use Rattle.core_world.specs.Steps.{with_walk}
use Rattle.core_world.specs.Wakeups.{Keeps, is_undisturbed}
use Rattle.core_world.specs.World.{CpuRecord, World, cpu_of, group_of, moved, scene_of}
use Rattle.core_world.proofs.Quiet.{moved_group_field}
use Rattle.core_laws.proofs.Walks.Stands.{leaf_or, stage_fits}
use Rattle.core_laws.proofs.Tops.Slots.{seen_in}
use Rattle.core_laws.proofs.Tops.Answering.{By, answered_else, answered_own}
use Rattle.core_laws.proofs.Tops.Answering.By.{activation, climbing, first, interrupt, reading, wakeup}
use Rattle.core_laws.proofs.Tops.Rising.{IsRising}
use Rattle.core_laws.proofs.Tops.Tops.{Before}

-- what each answer of a CPU with walk k gives
pub record Cases (t : Shape) (d : ℕ) (y : CpuRecord) (k : Walk) (child time : ℕ) (X : Type 0) :
    Type 0 where
  pub activation : k.kind ≡ kinds.Activate → X
  pub wakeup : is_remote k.kind ≡ true → Keeps y → y.wakeup ≤ time → X
  pub interrupt : y.online ≡ true → y.idle ≡ true → y.inside ≡ true → (k.kind ≡ kinds.Reeval → ⊥) →
      X
  pub climbing : is_climbing k.kind ≡ true → k.over ≡ false → X
  pub reading : is_climbing k.kind ≡ true → at_top t d k.level ≡ true → k.on ≡ false →
      ReadsYet child k.stage → X
  pub first : is_climbing k.kind ≡ true → k.first ≤ time → X

pub by_cases : (t : Shape) (d : ℕ) (y : CpuRecord) (k : Walk) (child time : ℕ) (X : Type 0) →
    y.walk ≡ Some k → Cases t d y k child time X → By t d y child time → X
by_cases t d y k child time X is cases (activation j at kind) =
    cases.activation (ap (λ (z : Walk). z.kind) (same_Some _ _ (sym is ∙ at)) ∙ kind)
by_cases t d y k child time X is cases (wakeup keeps low) =
    cases.wakeup (ap is_undisturbed (sym is) ∙ keeps.undisturbed) keeps low
by_cases t d y k child time X is cases (interrupt on idle in_it goes) =
    cases.interrupt on idle in_it (goes k is)
by_cases t d y k child time X is cases (climbing j at kind over) =
    let e = same_Some _ _ (sym is ∙ at) in
    cases.climbing (ap (λ (z : Walk). is_climbing z.kind) e ∙ kind)
    (ap (λ (z : Walk). z.over) e ∙ over)
by_cases t d y k child time X is cases (reading j at kind top on reads) =
    let e = same_Some _ _ (sym is ∙ at) in
    cases.reading (ap (λ (z : Walk). is_climbing z.kind) e ∙ kind)
    (ap (λ (z : Walk). at_top t d z.level) e ∙ top) (ap (λ (z : Walk). z.on) e ∙ on)
    (subst (λ (z : Walk). ReadsYet child z.stage) (sym e) reads)
by_cases t d y k child time X is cases (first j at kind low) =
    let e = same_Some _ _ (sym is ∙ at) in
    cases.first (ap (λ (z : Walk). is_climbing z.kind) e ∙ kind)
    (subst (λ (z : Walk). z.first ≤ time) (sym e) low)

-- and of a free CPU
pub by_free : (t : Shape) (d : ℕ) (y : CpuRecord) (child time : ℕ) (X : Type 0) → y.walk ≡ None →
    (Keeps y → y.wakeup ≤ time → X) → (y.online ≡ true → y.idle ≡ true → y.inside ≡ true → X) →
    By t d y child time → X
by_free t d y child time X free keeping interrupted (activation j at kind) =
    absurd (none-some j (sym free ∙ at))
by_free t d y child time X free keeping interrupted (wakeup keeps low) = keeping keeps low
by_free t d y child time X free keeping interrupted (interrupt on idle in_it goes) =
    interrupted on idle in_it
by_free t d y child time X free keeping interrupted (climbing j at kind over) =
    absurd (none-some j (sym free ∙ at))
by_free t d y child time X free keeping interrupted (reading j at kind top on reads) =
    absurd (none-some j (sym free ∙ at))
by_free t d y child time X free keeping interrupted (first j at kind low) =
    absurd (none-some j (sym free ∙ at))

-- the walk goes on as one of its kind, or ends
abbrev pub SameKind : Walk → Option Walk → Type 0
SameKind k m = (j : Walk) → m ≡ Some j → j.kind ≡ k.kind

undisturbed_on : (k : Walk) (m : Option Walk) → SameKind k m → is_remote k.kind ≡ true →
    is_undisturbed m ≡ true
undisturbed_on k None same remote = refl
undisturbed_on k (Some j) same remote = ap is_remote (same j refl) ∙ remote

pub one_kind : (k j : Walk) → j.kind ≡ k.kind → SameKind k (Some j)
one_kind k j same i is = ap (λ (z : Walk). z.kind) (sym (same_Some _ _ is)) ∙ same

pub no_kind : (k : Walk) → SameKind k None
no_kind k i is = absurd (none-some i is)

-- what the answers of a climbing walk, or of an activation, give
pub record Handled (w v : World) (c : ℕ) (k : Walk) (child time : ℕ) : Type 0 where
  pub activation : k.kind ≡ kinds.Activate → Answered v child time
  pub climbing : is_climbing k.kind ≡ true → k.over ≡ false → Answered v child time
  pub reading : is_climbing k.kind ≡ true → at_top w.tree c k.level ≡ true → k.on ≡ false →
      ReadsYet child k.stage → Answered v child time
  pub first : is_climbing k.kind ≡ true → k.first ≤ time → Answered v child time

pub not_climbing : (kind : WalkKind) → kind ≡ kinds.Activate → is_climbing kind ≡ true → ⊥
not_climbing kind same climbs = true≢false (sym climbs ∙ ap is_climbing same)

-- a telling walk that looks for nothing itself climbs
pub climbs : (kind : WalkKind) → Tells kind → is_remote kind ≡ false → is_climbing kind ≡ true
climbs kinds.Activate tells remote = absurd (tells refl)
climbs kinds.Deactivate tells remote = refl
climbs kinds.Offline tells remote = refl
climbs kinds.Reeval tells remote = refl
climbs (kinds.Remote by) tells remote = absurd (true≢false remote)

-- A STEP OF CPU c's WALK
module _ (w : World) (c : ℕ) (k : Walk) (hc : c < length w.cpus) (b : Before w)
    (is : (cpu_of w c).walk ≡ Some k) where
  pub walk_is : (scene_of w).walk c ≡ Some (forget k)
  walk_is = ap (option_map forget) is

  pub fits : (st : Stage) → k.stage ≡ st → (st ≡ stages.Finish → ⊥) →
      FitsStage w.tree c k.kind k.level st
  fits st e other = elim (stage_fits w.tree (scene_of w) b.walks c (forget k) walk_is) [
    | inl q ↦ subst (FitsStage w.tree c k.kind k.level) e q
    | inr finishing ↦ absurd (other (sym e ∙ finishing))
  ]

  pub has : (st : Stage) → k.stage ≡ st → (st ≡ stages.Finish → ⊥) → HasGroup w.tree c
  has st e other = elim (leaf_or (group_at_of w.tree c 0)) [
    | inl g ↦ g
    | inr none ↦
        absurd (other
        (sym e ∙ (b.walks.placed.alone c (forget k) walk_is
        (λ g. none-some g.0 (sym none ∙ g.1))).finishing))
  ]

  pub flags : (st : Stage) → k.stage ≡ st → HasGroup w.tree c →
      FlagsAt (at_top w.tree c k.level) k.on k.over st
  flags st e g =
      subst (FlagsAt (at_top w.tree c k.level) k.on k.over) e (b.walks.flags c (forget k) walk_is g)

  module _ (g : ℕ) (x : Group) (m : Option Walk) (r : Bool) where
    abbrev going : CpuRecord
    going = with_walk (cpu_of w c) m

    abbrev After : World
    After = moved w g x c (with_walk (cpu_of w c) m) r

    -- its answer goes on, where those by its walk do
    pub goes_on : (child time : ℕ) → SameKind k m → Handled w After c k child time →
        HasGroup w.tree c → By w.tree c (cpu_of w c) child time
        → Answered After child time
    goes_on child time same h leaf by =
        by_cases w.tree c (cpu_of w c) k child time (Answered After child time) is (record {
          activation = h.activation;
          wakeup = λ remote keeps low. answered_own w g x c going r hc child time leaf
              (wakeup (record {
                online = keeps.online;
                idle = keeps.idle;
                outside = keeps.outside;
                undisturbed = undisturbed_on k m same remote;
              }) low);
          interrupt =
              λ on idle in_it goes. answered_own w g x c going r hc child time leaf
              (interrupt on idle in_it (λ j at kind. goes (sym (same j at) ∙ kind)));
          climbing = h.climbing;
          reading = h.reading;
          first = h.first;
        }) by

    -- an activation that stands at an edge answers, where the CPU's own walk doesn't stand at one
    pub rising_answers : (child time : ℕ) → IsRising w.tree (scene_of w) →
        edge_level k.level k.stage ≡ None → Answered After child time
    rising_answers child time rising nowhere =
        let j = seen_in (cpu_of w rising.cpu).walk rising.made rising.walk in
        answered_else w g x c going r hc rising.cpu child time
        (λ same. none-some rising.edge
        (sym (ap edge_of (ap (scene_of w).walk same ∙ walk_is) ∙ nowhere) ∙ rising.stands))
        rising.has_group (activation j.0 j.1 (ap (λ (z : Walk). z.kind) j.2 ∙ rising.kind))

    -- everything at a top without migrator is answered
    pub all_answered : x.migrator ≡ (group_of w g).migrator →
        ((h child time : ℕ) → IsTopGroup w h → (group_of w h).migrator ≡ None →
        Answered After child time)
        → TopAnswered After
    all_answered migrator f h child e top off event counts =
        f h child e.expiry
        (record { cpu = top.cpu; level = top.level; there = top.there; last = top.last })
        (sym (moved_group_field w g x c going r (λ (z : Group). z.migrator) migrator h) ∙ off)

  -- a walk that goes on with what it had
  pub kept : (g : ℕ) (x : Group) (j : Walk) (r : Bool) (child time : ℕ) → j.kind ≡ k.kind →
      (k.over ≡ false → j.over ≡ false) → j.first ≡ k.first
      → (at_top w.tree c k.level ≡ true → k.on ≡ false → ReadsYet child k.stage →
      (at_top w.tree c j.level ≡ true) × (j.on ≡ false) × ReadsYet child j.stage)
      → HasGroup w.tree c → By w.tree c (cpu_of w c) child time →
      Answered (moved w g x c (with_walk (cpu_of w c) (Some j)) r) child time
  kept g x j r child time kind over soonest reads leaf by =
      goes_on g x (Some j) r child time (one_kind k j kind) (record {
        activation = λ act. own (activation j refl (kind ∙ act));
        climbing = λ climbs before.
            own (climbing j refl (ap is_climbing kind ∙ climbs) (over before));
        reading =
            λ climbs top on yet.
            (let q = reads top on yet in
            own (reading j refl (ap is_climbing kind ∙ climbs) q.0 q.1 q.2));
        first = λ climbs low.
            own (first j refl (ap is_climbing kind ∙ climbs)
            (subst (λ n. n ≤ time) (sym soonest) low));
      }) leaf by
    where
      own : By w.tree c (with_walk (cpu_of w c) (Some j)) child time →
          Answered (moved w g x c (with_walk (cpu_of w c) (Some j)) r) child time
      own a = answered_own w g x c (with_walk (cpu_of w c) (Some j)) r hc child time leaf a
