-- the bytes of a pass that is brought, after a step
use Rattle.std.proofs.Common.{◌≡◌, ◌+◌, ◌^◌, ◌<◌, ℕ, suc, List, [], ◌∷◌, Option, Some, None, refl}
use Rattle.std.proofs.Common.{arith, sym, ap, ◌∙◌, subst, true, false, length}
use Rattle.std.proofs.Common.{Bool, ◌≤◌}
use Rattle.std.specs.Prelude.{◌&&◌, is_some, option_map}
use Rattle.std.specs.Option.{ForSome}
use Rattle.std.proofs.lemmas.Bool.{ltb-true}
use Rattle.std.proofs.lemmas.Option.{none-some, same_Some}
use Rattle.atomic_table.specs.Seated.{TableId}
use Rattle.tm_base.specs.declared.names.CpuId.{CpuId}
use Rattle.tree_plan.specs.Shape.{Shape}
use Rattle.tree_plan.specs.Paths.{cpu_count_of, is_placed_in}
use Rattle.cpu_word.specs.declared.state.TheConstants.{MARKER_LIMIT}
use Rattle.core_world.specs.World.{World}
use Rattle.shared_words.specs.declared.layout.Layout.{Layout}
use Rattle.shared_rule.specs.declared.parts.PassView.{PassView}
use Rattle.shared_rule.specs.declared.box_part.Guest.{Guest}
use Rattle.shared_rule.specs.Runs.{RunFits}
use Rattle.shared_rule.specs.Parts.{Hosts, IsGuest, guest_room}
use Rattle.shared_cpus.specs.Guests.{guest_cpu, one_more}

-- two passes with the same bytes
pub record SameBytes (p q : PassView) (walks : ℕ) : Type 0 where
  pub cpu : q.cpu ≡ p.cpu
  pub walks_are : q.walks ≡ walks
  pub receipts : q.receipts ≡ p.receipts

-- a list of one has it
pub only : (p q : PassView) → p ∷ [] ≡ q ∷ [] → p ≡ q
only p q is = ap (first_or p) is
  where
    first_or : PassView → List PassView → PassView
    first_or x [] = x
    first_or x (y ∷ ys) = y

-- and isn't empty
pub not_empty : (p : PassView) → p ∷ [] ≡ [] → ⊥
not_empty p is = cc

-- the pass that is hosted is the one whose bytes they are
pub hosted : (guest : Guest) (p : PassView) → Hosts (Some guest) (p ∷ []) → IsGuest guest p
hosted guest p hosts = subst (IsGuest guest) (sym (only p hosts.0 hosts.1)) hosts.2

-- a pass that changes, but for its bytes, stays hosted
pub same_hosts : (guest : Option Guest) (p q : PassView) → Hosts guest (p ∷ [])
    → SameBytes p q p.walks → Hosts guest (q ∷ [])
same_hosts None p q hosts same = absurd (not_empty p hosts)
same_hosts (Some guest) p q hosts same =
    let is = hosted guest p hosts in (
      q,
      refl,
      record {
        cpu = same.cpu ∙ is.cpu;
        walks = same.walks_are ∙ is.walks;
        receipts = same.receipts ∙ is.receipts;
      },
    )

-- and one with which a walk was begun, where that is counted
pub more_hosts : (guest : Option Guest) (p q : PassView) → Hosts guest (p ∷ [])
    → SameBytes p q (suc p.walks) → Hosts (option_map one_more guest) (q ∷ [])
more_hosts None p q hosts same = absurd (not_empty p hosts)
more_hosts (Some guest) p q hosts same =
    let is = hosted guest p hosts in
    let one : suc guest.walks ≡ guest.walks + 1 = omega arith in (
      q,
      refl,
      record {
        cpu = same.cpu ∙ is.cpu;
        walks = same.walks_are ∙ (ap suc is.walks ∙ one);
        receipts = same.receipts ∙ is.receipts;
      },
    )

-- for how many receipts there is memory stays
pub same_room : (guest : Option Guest) → guest_room (option_map one_more guest) ≡ guest_room guest
same_room None = refl
same_room (Some guest) = refl

-- a pass that is brought has bytes
pub has_guest : (guest : Option Guest) (p : PassView) → Hosts guest (p ∷ [])
    → is_some guest ≡ true
has_guest None p hosts = absurd (not_empty p hosts)
has_guest (Some guest) p hosts = refl

-- of which the CPU is the pass's
pub guest_is : (guest : Option Guest) (p : PassView) (c : CpuId) → Hosts guest (p ∷ [])
    → option_map guest_cpu guest ≡ Some c → p.cpu ≡ c.0
guest_is None p c hosts is = absurd (none-some c is)
guest_is (Some guest) p c hosts is =
    (hosted guest p hosts).cpu ∙ ap (λ (z : CpuId). z.0) (same_Some guest.cpu c is)

-- and where one walk more may begin, the count has room for it
pub few_walks : (guest : Option Guest) (p : PassView) → Hosts guest (p ∷ [])
    → suc p.walks < 2 ^ 32 → ForSome guest (λ (g : Guest). g.walks + 1 < 2 ^ 32)
few_walks None p hosts low = λ g is. absurd (none-some g is)
few_walks (Some guest) p hosts low =
    let is = (hosted guest p hosts).walks in
    let here : guest.walks + 1 < 2 ^ 32 = omega (arith, low, is) in
    λ g same. subst (λ (z : Guest). z.walks + 1 < 2 ^ 32) (same_Some guest g same) here

-- a conjunction that holds has its first part
first : (a b : Bool) → (a && b) ≡ true → a ≡ true
first true b is = refl
first false b is = is

-- a placed CPU has a number that fits as a mark
pub marker_low : (o : World) (cpu by : ℕ) {name table : TableId} {key : World} {tree : Shape}
    {layout : Layout} → RunFits name o table key tree layout → length o.cpus ≤ 512
    → is_placed_in o.tree cpu ≡ true → cpu ≡ by → ForSome (Some by) (λ c. c < MARKER_LIMIT)
marker_low o cpu by fits many placed is =
    let within : cpu < cpu_count_of o.tree = ltb-true cpu (cpu_count_of o.tree)
    (first _ _ placed) in
    let all = fits.cpus in
    let here : by < 1023 = omega (arith, within, all, many, is) in
    λ c same. subst (λ n. n < 1023) (same_Some by c same) here
