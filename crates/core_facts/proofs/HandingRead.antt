-- a walk that hands on
use Rattle.std.proofs.Common.{◌≡◌, false, true≢false, sym, ap, ◌∙◌, subst}
use Rattle.std.proofs.Common.{arith}
use Rattle.walk_rules.specs.declared.walk.WalkKind.TheVariants as kinds
use Rattle.walk_rules.specs.declared.walk.Stage.TheVariants as stages
use Rattle.walk_rules.specs.Hierarchy.{HasGroup}
use Rattle.walk_rules.specs.Locks.{HoldsBy}
use Rattle.walk_rules.specs.Stages.{forget}
use Rattle.walk_rules.specs.Standing.{FitsStage, IsWalker}
use Rattle.core_world.specs.World.{cpu_of}
use Rattle.core_facts.specs.Handing.{EachHandsOn}
use Rattle.core_facts.proofs.HoldersRead.{each_lock_is_held, none_at_handing}
use Rattle.core_facts.proofs.RangesRead.{comes}
use Rattle.core_facts.proofs.Scenes.{in_scene, online_there, stands_where}

pub each_hands_on : EachHandsOn
each_hands_on w l c k is at =
    let handing : k.stage ≡ stages.Finish → ⊥ = λ e. cc in
    let has : HasGroup w.tree c = stands_where w l c k is handing in
    let fits = (l.placed.in_tree c (forget k) (in_scene w c k is) has).fits in
    let kind : k.kind ≡ kinds.Offline = subst (FitsStage w.tree c k.kind k.level) at fits in
    let off : (cpu_of w c).online ≡ false =
    subst (λ v. IsWalker v (cpu_of w c).online (cpu_of w c).idle) kind
    (l.walkers c (forget k) (in_scene w c k is)) in
    let first = comes w l k.first (l.time_origins.walks c k is).first (l.found c k is at) in
    record {
      kind = kind;
      offline = off;
      has_group = has;
      first = omega arith;
      holds_none =
          λ g lock. (let h = ((each_lock_is_held w l).held g c).0 lock in
          none_at_handing w.tree c g k at (subst (λ m. HoldsBy w.tree c m g) is h));
      another = (
        l.some_placed.cpu,
        λ same. true≢false (sym l.some_placed.online ∙ (ap (λ d. (cpu_of w d).online) same ∙ off)),
        record {
          in_range = online_there w l.some_placed.cpu l.some_placed.online;
          placed = l.some_placed.placed;
          online = l.some_placed.online;
        },
      );
    }
