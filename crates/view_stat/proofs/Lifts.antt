-- what a watched machine allows, the machine allows; and what is left of a drain that broke off
use Rattle.std.proofs.Common.{◌≡◌, ℕ, Bool, true, false, List, [], ◌∷◌, ◌++◌, length, take}
use Rattle.std.proofs.Common.{ap, refl, subst, sym}
use Rattle.std.specs.Prelude.{if◌then◌else◌, ◌&&◌, ◌==◌, not}
use Rattle.std.proofs.Math.Seq.{take-append_seam, take-length}
use Rattle.tm_base.specs.declared.names.Class.{Class}
use Rattle.wheel_core.specs.declared.item.Item.{Item}
use Rattle.play_rules.specs.Machines.{PartDrained}
use Rattle.play_rules.specs.Phases.{MayArmIn, Phase, handing, inside, resting, serving}
use Rattle.play_rules.specs.Rules.{Rules}
use Rattle.view_counts.specs.declared.counts.Cause.{Cause}
use Rattle.view_counts.specs.declared.counts.Cause.TheVariants as causes
use Rattle.view_counts.specs.Wakeups.{wakeup_at}
use Rattle.view_counts.specs.declared.wakeups.Reason.{Reason}
use Rattle.view_counts.specs.declared.wakeups.Wakeup.{Wakeup}
use Rattle.view_stat.specs.Watched.{Dues, Watched, also_for, cause_of, handed, hands_out, is_pinned}
use Rattle.view_stat.specs.Watched.{listed, watched_rules}
use Rattle.view_stat.specs.declared.interrupt.Interrupt.{Interrupt}

-- the first items of a list are handed out, and then the others: that is for the same as all are
twice : (more cause : Cause) → also_for more (also_for more cause) ≡ also_for more cause
twice causes.Pinned causes.Nothing = refl
twice causes.Global causes.Nothing = refl
twice causes.Others causes.Nothing = refl
twice causes.Deferrable causes.Nothing = refl
twice causes.Nothing causes.Nothing = refl
twice causes.Pinned causes.Deferrable = refl
twice causes.Global causes.Deferrable = refl
twice causes.Others causes.Deferrable = refl
twice causes.Deferrable causes.Deferrable = refl
twice causes.Nothing causes.Deferrable = refl
twice more causes.Pinned = refl
twice more causes.Global = refl
twice more causes.Others = refl

again : (some of_others : Bool) (class : Class) (i : Interrupt)
    → handed some of_others class (handed true of_others class i) ≡ handed true of_others class i
again false of_others class i = refl
again true of_others class i =
    ap (λ (cause : Cause). record i { cause = cause }) (twice (cause_of of_others class) i.cause)

left_none : (out left : List Item) → out ++ left ≡ [] → left ≡ []
left_none [] left is = is
left_none (item ∷ out) left is = cc

first_then_left : (of_others : Bool) (class : Class) (out left all : List Item) (i : Interrupt)
    → out ++ left ≡ all
    → handed (hands_out left) of_others class (handed (hands_out all) of_others class i)
    ≡ handed (hands_out all) of_others class i
first_then_left of_others class out left [] i is =
    ap (λ items. handed (hands_out items) of_others class i) (left_none out left is)
first_then_left of_others class out left (item ∷ all) i is =
    again (hands_out left) of_others class i

same_idle : (some of_others : Bool) (class : Class) (i : Interrupt)
    → (handed some of_others class i).idle ≡ i.idle
same_idle false of_others class i = refl
same_idle true of_others class i = refl

-- nothing was drained
none_drained : {S : Type 0} (r : Rules S) (s : S) (c : ℕ) (class : Class) (runner : ℕ)
    → PartDrained r s c class runner s
none_drained r s c class runner = record {
  out = [];
  left = refl;
  rest = refl;
  same = record {
    clock = refl;
    timers = refl;
    cpus = refl;
    levels = refl;
    placed = λ d. refl;
  };
  online = record { online = λ d. refl };
}

module _ {S : Type 0} (r : Rules S) (due : Dues S) (s : Watched S) (c : ℕ) where
  pub may_arm : (ph : Phase) → MayArmIn (watched_rules r due) s ph c → MayArmIn r s.world ph c
  may_arm resting may = record { online = may.online; idles = may.idles }
  may_arm (inside r) may = may
  may_arm (serving r d) may = may
  may_arm (handing h) may = may

  -- what the interrupt is for, with all that was due
  abbrev for_all : (class : Class) (runner : ℕ) → Interrupt
  for_all class runner =
      handed (hands_out (r.drained s.world c class runner).items) (not (c == runner)) class
      s.interrupt

  part_drained : (class : Class) (runner : ℕ) (new : S) → PartDrained r s.world c class runner new
      → PartDrained (watched_rules r due) s c class runner (record {
        world = new;
        cpus = s.cpus;
        interrupt = for_all class runner;
        reasons = s.reasons;
        wakeups = s.wakeups;
      })
  part_drained class runner new p = record {
    out = p.out;
    left = p.left;
    rest =
        let some = hands_out (r.drained s.world c class runner).items in
        let apart = not (c == runner) in
        let cause =
        first_then_left apart class p.out (r.drained new c class runner).items
        (r.drained s.world c class runner).items s.interrupt p.left in
        λ i. record {
          world = p.rest i;
          cpus = s.cpus;
          interrupt = cause i;
          reasons = s.reasons;
          wakeups =
              listed (same_idle some apart class s.interrupt i) class (p.same.clock i) c
              s.reasons s.wakeups;
        };
    same = record {
      clock = p.same.clock;
      timers = p.same.timers;
      cpus = p.same.cpus;
      levels = p.same.levels;
      placed = p.same.placed;
    };
    online = record { online = p.online.online };
  }

  -- .. with wakeups that are as they were
  pub drained_back : (class : Class) (runner : ℕ) (new : S) (j : Interrupt) (ws : List Wakeup)
      → j ≡ for_all class runner → ws ≡ s.wakeups → PartDrained r s.world c class runner new
      → PartDrained (watched_rules r due) s c class runner (record {
        world = new;
        cpus = s.cpus;
        interrupt = j;
        reasons = s.reasons;
        wakeups = ws;
      })
  drained_back class runner new j ws is same p =
      subst (λ (x : Interrupt × List Wakeup). PartDrained (watched_rules r due) s c class runner
      (record {
        world = new;
        cpus = s.cpus;
        interrupt = x.0;
        reasons = s.reasons;
        wakeups = x.1;
      })) (λ i. (sym is i, sym same i)) (part_drained class runner new p)

  -- .. where nothing was drained
  pub undrained : (class : Class) (runner : ℕ) (ws : List Wakeup) → ws ≡ s.wakeups
      → PartDrained (watched_rules r due) s c class runner (record {
        world = s.world;
        cpus = s.cpus;
        interrupt = s.interrupt;
        reasons = s.reasons;
        wakeups = ws;
      })
  undrained class runner ws same =
      subst (λ (v : List Wakeup). PartDrained (watched_rules r due) s c class runner (record {
        world = s.world;
        cpus = s.cpus;
        interrupt = s.interrupt;
        reasons = s.reasons;
        wakeups = v;
      })) (sym same) (none_drained (watched_rules r due) s c class runner)

more_or_not : (b : Bool) (w : Wakeup) (ws : List Wakeup) →
    take (length ws) (if b then ws ++ w ∷ [] else ws) ≡ ws
more_or_not true w ws = take-append_seam ws (w ∷ [])
more_or_not false w ws = take-length ws

-- a wakeup that was listed is taken back
pub taken_back : (idle : Bool) (class : Class) (at c : ℕ) (xs : List Reason) (ws : List Wakeup) →
    take (length ws) (listed idle class at c xs ws) ≡ ws
taken_back idle class at c xs ws = more_or_not (idle && is_pinned class) (wakeup_at at c xs) ws
