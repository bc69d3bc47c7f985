-- what an activation makes of the part and the pass
use Rattle.std.proofs.Common.{◌≡◌, ℕ, suc, ◌^◌, ◌<◌, Bool, true, false, Option, Some, None, [], ◌∷◌}
use Rattle.std.proofs.Common.{refl, sym, ap, ◌∙◌, subst, cond, eq-eqb}
use Rattle.std.specs.Prelude.{is_some, option_map}
use Rattle.atomic_table.specs.Seated.{TableId}
use Rattle.event_queue.specs.declared.event.Event.{Event}
use Rattle.cpu_bases.specs.CpuBases.{events_of}
use Rattle.tree_plan.specs.Paths.{group_at_of}
use Rattle.walk_rules.specs.declared.walk.WalkKind.TheVariants as kinds
use Rattle.walk_rules.specs.declared.walk.Stage.TheVariants as stages
use Rattle.walk_rules.specs.Stages.{begun_where}
use Rattle.shared_cpus.specs.shared_rule.declared.parts.BoxView.{BoxView}
use Rattle.shared_cpus.specs.shared_rule.declared.parts.PassView.{PassView}
use Rattle.shared_cpus.specs.shared_rule.Whole.{no_looks}
use Rattle.shared_cpus.specs.shared_rule.Rule.{renewed}
use Rattle.shared_cpus.specs.shared_rule.Plays.{head_pass, woken_box, woken_pass}
use Rattle.shared_cpus.specs.shared_rule.Parts.{HeldPart, HasGuest, pass_parted, with_guest}
use Rattle.shared_cpus.specs.shared_rule.Parts.{without_guest}
use Rattle.shared_cpus.specs.shared_rule.Passes.{HeldPass, IsPassIn, Seated, passes_of, seated_of}
use Rattle.shared_cpus.specs.shared_rule.Passes.{walks_of, with_pass}
use Rattle.shared_walks.specs.Steps.{on_part}
use Rattle.shared_cpus.specs.Conditions.{CanWake}
use Rattle.shared_cpus.specs.Pairs.{box_by, by_pair, of_box}
use Rattle.walk_active.specs.Activated.{activated_box, activated_part, activated_pass}
use Rattle.walk_active.specs.Activated.{ignored_where}
use Rattle.walk_active.specs.Climbing.{Climbs, arrived, arrived_box, leaf_left}
use Rattle.walk_active.proofs.Rising.{is_climbing, no_walk}

-- a part whose walk has arrived is left so
pub has_arrived : (part : HeldPart) → part.box.own.walk ≡ None → arrived part ≡ part
has_arrived part none =
    subst (λ m. on_part (λ b. record b {
      own = record b.own { walk = None };
      leaf = leaf_left m b.leaf;
    }) part ≡ on_part (λ b. record b { own = record b.own { walk = m } }) part) (sym none) refl

-- an activation that has begun climbs
begun_climbs : (has : Bool) (pin next : ℕ)
    → Climbs (begun_where has kinds.Activate stages.Own pin next)
begun_climbs true pin next = is_climbing _ refl
begun_climbs false pin next = no_walk

-- and leaves its CPU's slot ignored, where the CPU has a group
begun_leaf : (has : Bool) (pin next : ℕ) (e : Option Event)
    → leaf_left (begun_where has kinds.Activate stages.Own pin next) e ≡ ignored_where has e
begun_leaf true pin next e = refl
begun_leaf false pin next e = refl

-- the part of a CPU that has woken climbs
pub woken_climbs : (b : BoxView) → Climbs (woken_box b).own.walk
woken_climbs b =
    begun_climbs (is_some (group_at_of b.opening.tree b.cpu 0)) (events_of b.own.bases).pin
    (events_of b.own.bases).next

-- its box as its activation leaves it
woken_arrived : (b : BoxView) → arrived_box (woken_box b) ≡ activated_box b
woken_arrived b =
    ap (λ e. record (activated_box b) { leaf = e })
    (begun_leaf (is_some (group_at_of b.opening.tree b.cpu 0)) (events_of b.own.bases).pin
    (events_of b.own.bases).next b.leaf)

-- the part with the pass in it, as its CPU has woken
abbrev woken_with : HeldPart → HeldPass → HeldPart
woken_with part held = by_pair (of_box woken_box) woken_pass (with_guest part held)

-- A PASS of the run, in a part
module _ (part : HeldPart) (held : HeldPass) (table : TableId) (p : PassView)
    (is : IsPassIn table held p) where
  -- the CPU wakes with it
  pub can_wake : p.cpu ≡ part.box.cpu → part.box.own.walk ≡ None → part.box.own.online ≡ true
      → part.box.own.idle ≡ true → suc (walks_of held.seated) < 2 ^ 32
      → CanWake (with_guest part held)
  can_wake own free online idle left = record {
    pass = p;
    turn = record { brought = ap passes_of is; own = own; free = free; online = online };
    idle = idle;
    left = subst (λ s. suc (walks_of s) < 2 ^ 32) is left;
  }

  -- its box then
  box_woken : (woken_with part held).box ≡ woken_box part.box
  box_woken = ap (λ s. box_by (of_box woken_box) part.box (passes_of s)) is

  -- it climbs
  pub climbs : Climbs (woken_with part held).box.own.walk
  climbs = subst (λ (b : BoxView). Climbs b.own.walk) (sym box_woken) (woken_climbs part.box)

  -- and has nothing to remember
  pub nothing_looked : (woken_with part held).box.looked ≡ no_looks
  nothing_looked = ap (λ (b : BoxView). b.looked) box_woken

  -- THE PART in the end
  pub part_after : without_guest (arrived (woken_with part held)) ≡ activated_part part
  part_after =
      ap (λ b. without_guest (on_part (λ _. b) part))
      (ap arrived_box box_woken ∙ woken_arrived part.box)

  -- the pass in it
  pub has_guest : p.cpu ≡ held.cpu → HasGuest held.cpu (arrived (woken_with part held))
  has_guest own = (
    woken_pass part.box p,
    ap (λ (s : Option Seated). head_pass (woken_pass part.box) (passes_of s)) is,
    own,
  )

  -- THE PASS in the end
  pub pass_after : p.cpu ≡ part.box.cpu
      → pass_parted table held.cpu (arrived (woken_with part held))
      ≡ with_pass (activated_pass part.box) held
  pass_after own =
      let seated : BoxView → Option Seated → HeldPass = λ b s. record held {
        seated = seated_of table (renewed (arrived_box b ∷ []) (head_pass (woken_pass part.box)
            (passes_of s)));
      } in
      let wanted : Option Seated → HeldPass = λ s. record held {
        seated = option_map (λ (x : Seated). record x { pass = activated_pass part.box x.pass })
            s;
      } in
      ap (λ b. seated b held.seated) box_woken
      ∙ subst (λ s. seated (woken_box part.box) s ≡ wanted s) (sym is)
      (ap (λ t. record held {
        seated = Some (record {
          table = table;
          pass = record (woken_pass part.box p) {
            journal = cond t part.box.own.bases.journal p.journal;
          };
        });
      }) (eq-eqb p.cpu part.box.cpu own))
