-- what a walk says of its CPU, kind by kind
use Rattle.std.proofs.Common.{◌≡◌, ◌↔◌, ℕ, Bool, true, false, Some, refl, sym, ap, ◌∙◌, inl, inr}
use Rattle.std.proofs.Common.{true≢false}
use Rattle.std.proofs.lemmas.Bool.{and_left, and_right}
use Rattle.std.specs.Prelude.{not}
use Rattle.walk_rules.specs.declared.walk.Walk.{Walk}
use Rattle.walk_rules.specs.declared.walk.WalkKind.{WalkKind}
use Rattle.walk_rules.specs.declared.walk.WalkKind.TheVariants as kinds
use Rattle.walk_rules.specs.Stages.{forget}
use Rattle.walk_rules.specs.Standing.{IsWalker}
use Rattle.core_world.specs.Lawful.{IsLawful}
use Rattle.core_world.specs.World.{CpuRecord, World, cpu_of, is_active}
use Rattle.core_facts.specs.Walkers.{EachWalkerIs, IsAsleep, IsOff, WalkerIs}
use Rattle.core_facts.proofs.Scenes.{in_scene}

asleep_off : (y : CpuRecord) → IsAsleep y → is_active y ≡ false
asleep_off y asleep = and_right y.online (not y.idle) (ap not asleep.idle)

offline_off : (y : CpuRecord) → y.online ≡ false → is_active y ≡ false
offline_off y off = and_left y.online (not y.idle) off

walker_is : (kind : WalkKind) (y : CpuRecord) → IsWalker kind y.online y.idle
    → (kind ≡ kinds.Activate → is_active y ≡ true) → WalkerIs kind y
walker_is kinds.Activate y fits active = active refl
walker_is kinds.Deactivate y fits active = record { online = fits.0; idle = fits.1 }
walker_is kinds.Offline y fits active = fits
walker_is kinds.Reeval y fits active = record { online = fits.0; idle = fits.1 }
walker_is (kinds.Remote by) y fits active = record { online = fits.0; idle = fits.1 }

never_both : {A : Type 0} (b : Bool) → b ≡ false → b ≡ true → A
never_both b off on = absurd (true≢false (sym on ∙ off))

active_where : (kind : WalkKind) (y : CpuRecord) → WalkerIs kind y
    → (is_active y ≡ true) ↔ (kind ≡ kinds.Activate)
active_where kinds.Activate y is = ((λ _. refl), (λ _. is))
active_where kinds.Deactivate y is =
    ((λ e. never_both (is_active y) (asleep_off y is) e), (λ e. cc))
active_where kinds.Offline y is = ((λ e. never_both (is_active y) (offline_off y is) e), (λ e. cc))
active_where kinds.Reeval y is = ((λ e. never_both (is_active y) (asleep_off y is) e), (λ e. cc))
active_where (kinds.Remote by) y is =
    ((λ e. never_both (is_active y) (asleep_off y is) e), (λ e. cc))

leaving_where : (kind : WalkKind) (y : CpuRecord) → WalkerIs kind y → y.online ≡ false
    → kind ≡ kinds.Offline
leaving_where kinds.Activate y is off = never_both (is_active y) (offline_off y off) is
leaving_where kinds.Deactivate y is off = never_both y.online off is.online
leaving_where kinds.Offline y is off = refl
leaving_where kinds.Reeval y is off = never_both y.online off is.online
leaving_where (kinds.Remote by) y is off = never_both y.online off is.online

module _ (w : World) (l : IsLawful w) where
  walker : (c : ℕ) (k : Walk) → (cpu_of w c).walk ≡ Some k → WalkerIs k.kind (cpu_of w c)
  walker c k is =
      walker_is k.kind (cpu_of w c) (l.walkers c (forget k) (in_scene w c k is))
      (l.edges.active c (forget k) (in_scene w c k is))

  off_where : (c : ℕ) → (cpu_of w c).online ≡ false → IsOff (cpu_of w c)
  off_where c off = record {
    idle = (l.off_at_rest c off).idle;
    outside = (l.off_at_rest c off).outside;
    wakeup = l.no_wakeup c (inl off);
    leaving = λ k is. leaving_where k.kind (cpu_of w c) (walker c k is) off;
  }

pub each_walker_is : EachWalkerIs
each_walker_is w l = record {
  walker = walker w l;
  active = λ c k is. active_where k.kind (cpu_of w c) (walker w l c k is);
  awake = λ c active. l.no_wakeup c (inr active);
  offline = off_where w l;
}
