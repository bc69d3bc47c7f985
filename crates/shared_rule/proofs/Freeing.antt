-- for crates above: a walk gives back a lock
use Rattle.std.proofs.Common.{◌≡◌, ℕ, zero, suc, ◌-◌, ◌≤◌, Bool, true, false, List, [], ◌∷◌, Option}
use Rattle.std.proofs.Common.{Some, None, refl, sym, ap, ◌∙◌, subst}
use Rattle.std.specs.Prelude.{nat_le, unwrap_or}
use Rattle.walk_rules.specs.declared.walk.Walk.{Walk}
use Rattle.walk_rules.specs.declared.walk.WalkKind.{WalkKind}
use Rattle.walk_rules.specs.declared.walk.WalkKind.TheVariants as kinds
use Rattle.walk_rules.specs.declared.walk.Stage.{Stage}
use Rattle.walk_rules.specs.declared.walk.Stage.TheVariants as stages
use Rattle.walk_rules.specs.Stages.{first_stage, forget, free_group_next, freed_next, with_lock}
use Rattle.core_world.specs.Enabled.{MayGoOn}
use Rattle.core_world.specs.Steps.{child_here, here, walked, walks_at}
use Rattle.core_world.specs.World.{World, group_of, is_reading}
use Rattle.core_state.specs.core_facts.Exchanges.{stage_number}
use Rattle.shared_rule.specs.declared.parts.BoxView.{BoxView}
use Rattle.shared_rule.specs.declared.parts.PassView.{PassView}
use Rattle.shared_rule.specs.CoreLaws.{CoreLaws}
use Rattle.shared_rule.specs.Whole.{Whole, box_of, lock_at}
use Rattle.shared_rule.specs.Shows.{owes}
use Rattle.shared_rule.specs.Rule.{Goes, seat_of}
use Rattle.shared_rule.specs.Plays.{by_walk, child_freed_walk, group_freed_walk, on_box}
use Rattle.shared_rule.specs.Laws.{FreeChildStays, FreeGroupStays, walk_always}
use Rattle.shared_rule.proofs.Locking.{relocked}
use Rattle.shared_rule.proofs.Owing.{owes_freed, owes_group_freed}
use Rattle.shared_rule.proofs.Walking.{WalksAt, at_walk, walk_is}

first_reads : (kind : WalkKind) → is_reading (first_stage kind) ≡ false
first_reads kinds.Activate = refl
first_reads kinds.Deactivate = refl
first_reads kinds.Offline = refl
first_reads kinds.Reeval = refl
first_reads (kinds.Remote by) = refl

-- a walk whose last lock of a level is free
module _ (k : Walk) where
  freed_kind : (over : Bool) → (freed_next over k).kind ≡ k.kind
  freed_kind true = refl
  freed_kind false = refl

  freed_reads : (over : Bool) → is_reading (freed_next over k).stage ≡ false
  freed_reads true = refl
  freed_reads false = first_reads k.kind

  forget_freed : (over : Bool) → freed_next over (forget k) ≡ forget (freed_next over k)
  forget_freed true = refl
  forget_freed false = refl

  -- and one whose group's lock is
  group_kind : (level : ℕ) → (free_group_next level k).kind ≡ k.kind
  group_kind zero = freed_kind k.over
  group_kind (suc l) = refl

  group_reads : (level : ℕ) → is_reading (free_group_next level k).stage ≡ false
  group_reads zero = freed_reads k.over
  group_reads (suc l) = refl

  forget_group : (level : ℕ)
      → free_group_next level (forget k) ≡ forget (free_group_next level k)
  forget_group zero = forget_freed k.over
  forget_group (suc l) = refl

-- a walk's store by which it gives back a lock and goes on to j
module _ (law : CoreLaws) (o : World) (s : Whole) (c g : ℕ) (k j : Walk) (ps : List PassView)
    (at : Stage) (level : ℕ) (next : BoxView → Walk → Option Walk) where
  frees : WalksAt o s c ps k at level g → MayGoOn s.world c k k.stage
      → walked s.world c k k.stage ≡ walks_at s.world c g (with_lock (group_of s.world g) None) j
      → j.kind ≡ k.kind → is_reading j.stage ≡ false
      → ((m : ℕ) → owes o.tree m c (Some j) ≤ owes o.tree m c (Some k))
      → next (box_of o s c) (forget k) ≡ Some (forget j)
      → Goes o s (box_of o s c) ps (lock_at g) (λ n. 0) (walk_always c)
      (λ n v. v ≡ on_box (by_walk next) (seat_of (box_of o s c ∷ []) ps))
  frees q may is kind reads owed walk =
      relocked law o s q.shown c g j k None (s.looked c) ps _ _ q.cpu q.group q.known q.walk may is kind reads
      owed refl
      (λ i. seat_of (record (box_of o s c) {
        own = walk_is o s c k j next q.walk walk i;
      } ∷ []) ps)

pub frees_group : (law : CoreLaws) (o : World) → FreeGroupStays o
frees_group law o slots id g b k ps may =
    at_walk law o slots id b k ps (lock_at g) (λ n. 0) (walk_always b.cpu)
    (λ z n v. v ≡ on_box (by_walk group_freed_walk) (seat_of (z ∷ []) ps))
    stages.FreeGroup (λ l. l) g may.group may
    (λ s j is same q.
    let w = s.world in
    let at_g : here w b.cpu j ≡ g = ap (λ m. unwrap_or m 0) q.path in
    let past : nat_le 5 (stage_number j.stage) ≡ true = ap (λ z. nat_le 5 (stage_number z)) q.stage in
    frees law o s b.cpu g j (free_group_next j.level j) ps stages.FreeGroup j.level
    group_freed_walk q (subst (MayGoOn w b.cpu j) (sym q.stage) tt)
    (ap (walked w b.cpu j) q.stage
    ∙ (λ i. walks_at w b.cpu (at_g i) (with_lock (group_of w (at_g i)) None)
    (free_group_next j.level j)))
    (group_kind j j.level) (group_reads j j.level)
    (λ m. owes_group_freed o.tree m b.cpu j j.level past) (ap Some (forget_group j j.level)))

pub frees_child : (law : CoreLaws) (o : World) → FreeChildStays o
frees_child law o slots id g b k ps may =
    at_walk law o slots id b k ps (lock_at g) (λ n. 0) (walk_always b.cpu)
    (λ z n v. v ≡ on_box (by_walk child_freed_walk) (seat_of (z ∷ []) ps))
    stages.FreeChild (λ l. l - 1) g may.group may
    (λ s j is same q.
    let w = s.world in
    let at_g : child_here w b.cpu j ≡ g = ap (λ m. unwrap_or m 0) q.path in
    let past : nat_le 5 (stage_number j.stage) ≡ true = ap (λ z. nat_le 5 (stage_number z)) q.stage in
    frees law o s b.cpu g j (freed_next j.over j) ps stages.FreeChild (j.level - 1)
    child_freed_walk q (subst (MayGoOn w b.cpu j) (sym q.stage) tt)
    (ap (walked w b.cpu j) q.stage
    ∙ (λ i. walks_at w b.cpu (at_g i) (with_lock (group_of w (at_g i)) None)
    (freed_next j.over j)))
    (freed_kind j j.over) (freed_reads j j.over)
    (λ m. owes_freed o.tree m b.cpu j j.over past) (ap Some (forget_freed j j.over)))
