-- who wakes, itself or for the top
use Rattle.std.proofs.Common.{◌≡◌, ℕ, ◌≤◌, length, None, refl, sym, ◌∙◌, subst, inl, inr}
use Rattle.std.proofs.lemmas.Option.{none-some}
use Rattle.tree_plan.specs.Laws.{PathLaws}
use Rattle.coverage.specs.Coverage.{Held, TopWakes, WakesItself, Woken}
use Rattle.core_world.specs.Covered.{kept_wakeup, machine_of}
use Rattle.core_world.specs.World.{World}
use Rattle.orders_world.specs.Answering.{IsWokenFirst}
use Rattle.orders_world.specs.Seeking.{IsLowestBy, KeepsBy, TopTold}
use Rattle.orders_world.proofs.Scans.{past_last}
use Rattle.orders_world.proofs.TopLaws.{one_time}

-- a CPU that isn't there keeps no wakeup
pub none_past : (w : World) (time d : ℕ) → length w.cpus ≤ d → (at : ℕ) → KeepsBy w time d at → ⊥
none_past w time d past at keeps =
    none-some at (sym (past_last w (λ y. kept_wakeup y ≡ None) refl d past) ∙ keeps.keeps)

module _ (w : World) (c wheel : ℕ) where
  pub top_of : (wakes : TopWakes (machine_of w) c wheel) → TopTold w c wheel wakes.expiry
  top_of wakes = record {
    level = wakes.level;
    top = wakes.top;
    on_path = wakes.on_path;
    is_top = wakes.is_top;
    told = wakes.told;
    inactive = wakes.inactive;
    event = wakes.event;
  }

  pub keeps_of : (wakes : TopWakes (machine_of w) c wheel) →
      KeepsBy w wakes.expiry wakes.wakes.waker wakes.wakes.at
  keeps_of wakes = record {
    placed = wakes.wakes.placed;
    keeps = wakes.wakes.keeps;
    in_time = wakes.wakes.in_time;
  }

  pub not_told_up : (WakesItself (machine_of w) c wheel → ⊥) →
      ((time : ℕ) → TopTold w c wheel time → ⊥) → Woken (machine_of w) c wheel → ⊥
  not_told_up not_itself none (inl own) = not_itself own
  not_told_up not_itself none (inr wakes) = none wakes.expiry (top_of wakes)

  module _ (laws : PathLaws w.tree) (time : ℕ) (told : TopTold w c wheel time) where
    keeps_in : (wakes : TopWakes (machine_of w) c wheel) →
        KeepsBy w time wakes.wakes.waker wakes.wakes.at
    keeps_in wakes =
        subst (λ t. KeepsBy w t wakes.wakes.waker wakes.wakes.at)
        (one_time w c wheel laws wakes.expiry time (top_of wakes) told) (keeps_of wakes)

    pub none_wakes : (WakesItself (machine_of w) c wheel → ⊥) →
        ((d at : ℕ) → KeepsBy w time d at → ⊥) → Woken (machine_of w) c wheel → ⊥
    none_wakes not_itself none (inl own) = not_itself own
    none_wakes not_itself none (inr wakes) =
        none wakes.wakes.waker wakes.wakes.at (keeps_in wakes)

    wakes_top : (d at : ℕ) → KeepsBy w time d at → TopWakes (machine_of w) c wheel
    wakes_top d at keeps = record {
      level = told.level;
      top = told.top;
      expiry = time;
      on_path = told.on_path;
      is_top = told.is_top;
      told = told.told;
      inactive = told.inactive;
      event = told.event;
      wakes = record {
        waker = d;
        at = at;
        placed = keeps.placed;
        keeps = keeps.keeps;
        in_time = keeps.in_time;
      };
    }

    pub woken_first : (Held (machine_of w) c wheel → ⊥) → (WakesItself (machine_of w) c wheel → ⊥) →
        (d at : ℕ) → IsLowestBy w time d at → IsWokenFirst w c wheel d at
    unfolding wakes_top
    woken_first not_held not_itself d at first = record {
      not_held = not_held;
      woken =
          inr (record {
            not_itself = not_itself;
            top = wakes_top d at first.keeps;
            waker_is = refl;
            time_is = refl;
            lowest = λ other.
                first.lowest other.wakes.waker other.wakes.at (keeps_in other);
          });
    }
