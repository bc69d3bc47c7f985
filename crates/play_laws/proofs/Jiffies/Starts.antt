-- the first moment of a play begins with nothing queued
use Rattle.std.proofs.Common.{◌≡◌, ℕ, zero, suc, ◌^◌, ◌<◌, ◌≤◌, [], refl, sym, ap, ◌∙◌, subst}
use Rattle.std.proofs.Common.{arith, replicate}
use Rattle.std.specs.Prelude.{not, nat_lt, slice_index_or}
use Rattle.std.specs.FinSet as set
use Rattle.std.proofs.lemmas.Bool.{and_from, false≢true, lt-ltb}
use Rattle.std.proofs.lemmas.List.Elements.{All-nil}
use Rattle.std.proofs.lemmas.Option.{none-some}
use Rattle.tm_base.specs.declared.names.TheConstants.{TIME_LIMIT}
use Rattle.tm_base.specs.declared.names.Class.{Class}
use Rattle.tm_base.specs.declared.names.Class.TheVariants.{Pinned, Global, Deferrable}
use Rattle.tm_script.specs.declared.syntax.Script.{Script}
use Rattle.tm_script.specs.Grammar.{IsScript}
use Rattle.tree_plan.specs.Shape.{Shape}
use Rattle.tree_plan.specs.Paths.{cpu_count_of, level_count_of}
use Rattle.wheel_core.specs.declared.item.Item.{Item}
use Rattle.wheel_core.specs.PlainBase.{FitsWheel, NoneBehind}
use Rattle.cpu_bases.specs.declared.entry.Entry.{Entry}
use Rattle.cpu_bases.specs.CpuBases.{BaseFits, base_of, empty_bases}
use Rattle.cpu_bases.specs.Journals.{Agrees, HandedByRight}
use Rattle.play_rules.specs.State.{Cpu, State, cpu_at, new_cpu, start}
use Rattle.play_rules.specs.Interrupts.{having_interrupt}
use Rattle.play_rules.specs.Play.{at_clock, plain_rules}
use Rattle.play_laws.proofs.Answered.Bases.{IsBase}
use Rattle.play_laws.proofs.Answered.Scripts.{planned_for, tree_for}
use Rattle.play_laws.proofs.Answered.Starts.{start_kept}
use Rattle.play_laws.specs.Jiffies.Jiffies.{HandedOnTime}
use Rattle.play_laws.proofs.Jiffies.Comes.{begins}
use Rattle.play_laws.proofs.Jiffies.CpuKept.{IsCpu, IsItemOf}
use Rattle.play_laws.proofs.Jiffies.Inside.{SomeOnline}
use Rattle.play_laws.proofs.Jiffies.InterruptSteps.{Begun}
use Rattle.play_laws.proofs.Jiffies.Waking.{From, Waking}

-- EMPTY BASES
empty_fits : (k : Class) → BaseFits (base_of k empty_bases)
empty_fits Pinned =
    record {
      clock = omega arith;
      sound = record { distinct = tt; in_wheel = All-nil FitsWheel };
      timers = All-nil (λ (i : Item). i.id < 2 ^ 16);
    }
empty_fits Global =
    record {
      clock = omega arith;
      sound = record { distinct = tt; in_wheel = All-nil FitsWheel };
      timers = All-nil (λ (i : Item). i.id < 2 ^ 16);
    }
empty_fits Deferrable =
    record {
      clock = omega arith;
      sound = record { distinct = tt; in_wheel = All-nil FitsWheel };
      timers = All-nil (λ (i : Item). i.id < 2 ^ 16);
    }

empty_agrees : (k : Class) → Agrees k (base_of k empty_bases).items []
empty_agrees Pinned = refl
empty_agrees Global = refl
empty_agrees Deferrable = refl

empty_ahead : (k : Class) → NoneBehind (base_of k empty_bases)
empty_ahead Pinned = λ wheel none. absurd (none-some wheel none)
empty_ahead Global = λ wheel none. absurd (none-some wheel none)
empty_ahead Deferrable = λ wheel none. absurd (none-some wheel none)

empty_items : (Q : Item → Type 0) (k : Class) → IsBase Q 0 (base_of k empty_bases)
empty_items Q Pinned = record { all = All-nil Q; near = omega arith }
empty_items Q Global = record { all = All-nil Q; near = omega arith }
empty_items Q Deferrable = record { all = All-nil Q; near = omega arith }

empty_cpu : (d : ℕ) (owner : ℕ → ℕ) → IsCpu 0 d owner empty_bases
empty_cpu d owner = record {
  told = record {
    consistent = record {
      each_may_follow = tt;
      agrees = empty_agrees;
      fits = empty_fits;
      in_time = All-nil (λ (e : Entry). e.wheel ≤ TIME_LIMIT);
    };
    legal = record {
      legal =
          record {
            each_may_follow = tt;
            times_never_fall = tt;
            handed_by_right = All-nil (λ e. HandedByRight d e.act e);
          };
      not_past = omega arith;
    };
    on_time = All-nil (λ e. HandedOnTime e.act e);
  };
  ahead = empty_ahead;
  items = empty_items (IsItemOf owner d);
}

new_at : (n d : ℕ) → slice_index_or (replicate n new_cpu) d new_cpu ≡ new_cpu
new_at zero d = refl
new_at (suc n) zero = refl
new_at (suc n) (suc d) = new_at n d

module _ (script : Script) (is : IsScript script) where
  abbrev tree : Shape
  tree = tree_for script

  abbrev first : State
  first = at_clock 0 (start tree script.timers)

  is_new : (d : ℕ) → cpu_at first d ≡ new_cpu
  is_new d = new_at (cpu_count_of tree) d

  some_placed : SomeOnline (cpu_count_of tree) first
  some_placed =
      let some = is.some_placed in
      record {
        number = some.0;
        low = some.1;
        placed =
            and_from (nat_lt some.0 (cpu_count_of tree)) (not (set.contains script.isolated some.0))
            (lt-ltb some.0 (cpu_count_of tree) some.1) (ap not some.2);
        online = ap (λ (x : Cpu). x.online) (is_new some.0);
      }

  pub first_begun : Begun (cpu_count_of tree) (level_count_of tree) 0
      (having_interrupt plain_rules first) 0 first
  first_begun =
      let kept = start_kept tree script.timers (planned_for script is) in
      begins (cpu_count_of tree) (level_count_of tree) 0 first kept refl refl kept.cpus some_placed
      (λ i. 0)
      (λ d low. subst (λ (x : Cpu). IsCpu 0 d (λ i. 0) x.bases) (sym (is_new d))
      (empty_cpu d (λ i. 0)))
      (λ d low online. subst (λ (x : Cpu). Waking 0 x.bases) (sym (is_new d))
      (record { pinned = All-nil (From 0); global = All-nil (From 0) }))
      (λ d low off. absurd (false≢true (sym off ∙ ap (λ (x : Cpu). x.online) (is_new d))))
