-- what a call leaves: a core in a run, in play where it was, of the same machine
-- at the same time
use Rattle.std.proofs.Common.{◌≡◌, ◌≢◌, ℕ, ◌<◌, true, false, Option, Some, None, length, refl}
use Rattle.std.proofs.Common.{sym, ap, ◌∙◌, subst, inl, inr}
use Rattle.std.proofs.lemmas.Bool.{cases_eq, eq-eqb}
use Rattle.std.specs.Prelude.{if◌then◌else◌, is_none, not}
use Rattle.tree_plan.specs.Paths.{is_placed_in, level_count_of}
use Rattle.tree_plan.specs.Shape.{IsPlanned, Shape}
use Rattle.wheel_core.specs.PlainBase.{NoneBehind}
use Rattle.cpu_bases.specs.CpuBases.{base_of}
use Rattle.play_rules.specs.Machines.{Same, SameOnline}
use Rattle.play_rules.specs.Phases.{after_offline}
use Rattle.walk_rules.specs.declared.walk.Walk.{Walk}
use Rattle.walk_rules.specs.declared.walk.WalkKind.{WalkKind}
use Rattle.walk_rules.specs.declared.walk.WalkKind.TheVariants as kinds
use Rattle.walk_rules.specs.declared.walk.Stage.{Stage}
use Rattle.core_world.specs.World.{CpuRecord, World, cpu_of, own}
use Rattle.step_play.specs.Rules.Alone.{goes_on, is_handing}
use Rattle.step_play.specs.Rules.Seen.{InPlay, InRun, Phase, WalkFits, hands_in, is_inside}
use Rattle.step_play.specs.Rules.Seen.{marker_in}
use Rattle.step_play.specs.Rules.StepRules.{step_rules}
use Rattle.step_play.proofs.Worlds.{own_is, put_count, put_field, walk_by}
use Rattle.core_machine.proofs.Alone.Kinds.{IsLeft, IsWalked, inside_after, mark_after}

-- from one phase to another
pub record Leaves (ph now : Phase) (w v : World) : Type 0 where
  pub fit : InRun now v
  pub play : InPlay ph w → InPlay now v
  pub same : Same step_rules w v

-- and no CPU has gone offline or come online
pub record LeavesOnline (ph now : Phase) (w v : World) : Type 0 where
  pub left : Leaves ph now w v
  pub online : SameOnline step_rules w v

-- a call that made a walk left it made to its end
pub at_end : (P : World → Type 0) (c : ℕ) (made v : World) → v ≡ made →
    goes_on (cpu_of v c).walk ≡ false → (goes_on (cpu_of made c).walk ≡ false → P made) → P v
at_end P c made v is ends from =
    subst P (sym is) (from (subst (λ (x : World). goes_on (cpu_of x c).walk ≡ false) is ends))

-- A CPU IS WRITTEN
module _ (w : World) (c : ℕ) (y : CpuRecord) (low : c < length w.cpus) where
  pub own_same : Same step_rules w (own w c y)
  own_same =
      subst (Same step_rules w) (sym (own_is w c y)) (record {
        clock = refl;
        timers = refl;
        cpus = put_count w c y low;
        levels = refl;
        placed = λ d. refl;
      })

  pub own_online : y.online ≡ (cpu_of w c).online → SameOnline step_rules w (own w c y)
  own_online same =
      subst (SameOnline step_rules w) (sym (own_is w c y)) (record {
        online = put_field w c y low (λ z. z.online) same;
      })

-- A WALK WAS MADE, which changes the phase so
pub record Turns (ph now : Phase) (w : World) (c : ℕ) (kind : WalkKind) (y : CpuRecord) : Type 0
  where
    pub bases : y.bases ≡ (cpu_of w c).bases
    pub inside : inside_after kind y.inside ≡ is_inside now c
    pub mark : mark_after kind y.mark ≡ marker_in now c
    pub insides : (d : ℕ) → d ≢ c → is_inside now d ≡ is_inside ph d
    pub marks : (d : ℕ) → d ≢ c → marker_in now d ≡ marker_in ph d
    pub hands : (d : ℕ) → d ≢ c → hands_in now d ≡ hands_in ph d

-- only the walk of a CPU that went offline stays
none_left : (kind : WalkKind) → (kind ≡ kinds.Offline → ⊥) → (m : Option Walk) → IsLeft kind m →
    m ≡ None
none_left kind other None left = refl
none_left kind other (Some k) left = absurd (other left.0)

pub walk_gone : (now : Phase) (c : ℕ) (kind : WalkKind) → (kind ≡ kinds.Offline → ⊥) →
    hands_in now c ≡ false → (m : Option Walk) → IsLeft kind m → WalkFits now c m
walk_gone now c kind other off m left =
    subst (WalkFits now c) (sym (none_left kind other m left)) off

-- it waits to hand on where it does
pub walk_waits : (c : ℕ) (m : Option Walk) → IsLeft kinds.Offline m →
    WalkFits (after_offline (if is_none m then false else not (goes_on m)) c) c m
walk_waits c None left = refl
walk_waits c (Some k) left =
    subst (λ (st : Stage).
    WalkFits (after_offline (not (if is_handing st then false else true)) c) c (Some k))
    (sym left.1) (eq-eqb c c refl, left.1)

module _ {w : World} {c : ℕ} {kind : WalkKind} {y : CpuRecord} {v : World}
    (e : IsWalked w c kind y v) where
  pub walked_same : Same step_rules w v
  walked_same = record {
    clock = e.framed.clock;
    timers = e.framed.timers;
    cpus = e.framed.cpus;
    levels = ap level_count_of e.framed.tree;
    placed = λ d. ap (λ (t : Shape). is_placed_in t d) e.framed.tree;
  }

  -- what is so of CPU c, and of each other as it was, is so of all
  walked_all : (P : ℕ → CpuRecord → Type 0) → P c (cpu_of v c) →
      ((d : ℕ) → d ≢ c → P d (cpu_of w d)) → (d : ℕ) → P d (cpu_of v d)
  walked_all P itself other d = elim (cases_eq d c) [
    | inl is ↦ subst (λ n. P n (cpu_of v n)) (sym is) itself
    | inr ne ↦ subst (P d) (sym (e.framed.others d ne)) (other d ne)
  ]

  pub walked_online : y.online ≡ (cpu_of w c).online → SameOnline step_rules w v
  walked_online same = record {
    online = walked_all (λ d z. z.online ≡ (cpu_of w d).online)
        (e.framed.itself.online ∙ same) (λ d ne. refl);
  }

  pub walked_runs : (ph now : Phase) → InRun ph w → Turns ph now w c kind y →
      WalkFits now c (cpu_of v c).walk → InRun now v
  walked_runs ph now i t walk = record {
    lawful = e.lawful;
    planned = subst IsPlanned (sym e.framed.tree) i.planned;
    whole = λ d class. walked_all (λ n z. NoneBehind (base_of class z.bases))
        (subst (λ b. NoneBehind (base_of class b)) (sym (e.framed.itself.bases ∙ t.bases))
        (i.whole c class))
        (λ n ne. i.whole n class) d;
    inside = walked_all (λ d z. z.inside ≡ is_inside now d) (e.inside ∙ t.inside)
        (λ d ne. i.inside d ∙ sym (t.insides d ne));
    marks = walked_all (λ d z. z.mark ≡ marker_in now d) (e.mark ∙ t.mark)
        (λ d ne. i.marks d ∙ sym (t.marks d ne));
    walks = walked_all (λ d z. WalkFits now d z.walk) walk
        (λ d ne. walk_by ph now d (cpu_of w d).walk (t.hands d ne) (i.walks d));
  }
