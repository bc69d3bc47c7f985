-- what each call on the bases of a CPU makes fits
use Rattle.std.proofs.Common.{◌≡◌, ◌≢◌, ◌⊎◌, ℕ, ◌+◌, ◌<◌, Option, Some, None, refl, sym, ap, ◌∙◌}
use Rattle.std.proofs.Common.{subst, inl, inr, arith}
use Rattle.std.proofs.lemmas.Bool.{cases_eq}
use Rattle.tm_base.specs.declared.names.Class.{Class}
use Rattle.tm_base.specs.declared.names.CpuId.{CpuId}
use Rattle.wheel_core.specs.declared.item.Item.{Item}
use Rattle.cpu_bases.specs.declared.entry.Act.TheVariants.{Armed, MovedIn}
use Rattle.cpu_bases.specs.CpuBases.{CpuBases, IsConsistent, after_cancel, after_move_out, base_of}
use Rattle.cpu_bases.specs.CpuBases.{cancelled, class_in, found_in, handed_out, moved_in, armed}
use Rattle.cpu_bases.specs.CpuBases.{moved_out, oldest_in}
use Rattle.cpu_bases.specs.Journals.{MayHandOut}
use Rattle.cpu_bases.specs.Laws.{MayQueue}
use Rattle.cpu_bases.proofs.Keeping.{arming_keeps, cancelled_gone, cancelling_keeps}
use Rattle.cpu_bases.proofs.Keeping.{handing_out_keeps, moving_in_keeps, moving_out_keeps}
use Rattle.cpu_bases.proofs.Keeping.{oldest_found}
use Rattle.cpu_bases.proofs.Queued.{queued_once}
use Rattle.core_world.specs.World.{World, cpu_of}
use Rattle.core_laws.specs.Timers.Layer.{TimersFit}
use Rattle.core_laws.proofs.Timers.Fits.{FitsAt}
use Rattle.core_laws.proofs.Timers.Items.{Each, each_cancelled, each_handed_out, each_moved_out}
use Rattle.core_laws.proofs.Timers.Items.{each_other, each_queued, holds_in}

or_class : (m : Option Class) → (m ≡ None) ⊎ ((class : Class) × (m ≡ Some class))
or_class None = inl refl
or_class (Some class) = inr (class, refl)

module _ (w : World) (c : ℕ) (f : TimersFit w) where
  -- a timer that is queued here is queued nowhere else
  pub alone_here : (timer : ℕ) (class : Class) → class_in timer (cpu_of w c).bases ≡ Some class
      → (d : ℕ) → d ≢ c → class_in timer (cpu_of w d).bases ≡ None
  alone_here timer class is d ne = elim (or_class (class_in timer (cpu_of w d).bases)) [
    | inl none ↦ none
    | inr there ↦ absurd (ne (f.timers.one_cpu d c timer there.0 class there.1 is))
  ]

  -- where only timers go, what is queued was
  gone_alone : (new : CpuBases) → ((Q : ℕ → Type 0) → Each Q (cpu_of w c).bases → Each Q new)
      → (timer : ℕ) (class : Class) → class_in timer new ≡ Some class → (d : ℕ) → d ≢ c
      → class_in timer (cpu_of w d).bases ≡ None
  gone_alone new each timer class is = elim (or_class (class_in timer (cpu_of w c).bases)) [
    | inl none ↦ absurd (holds_in (λ id. id ≡ timer → ⊥) timer new class
        (each (λ id. id ≡ timer → ⊥) (each_other timer (cpu_of w c).bases
        (f.timers.consistent c) none)) is refl)
    | inr there ↦ alone_here timer there.0 there.1
  ]

  pub cancelled_fits : (timer line : ℕ) (by : CpuId)
      → FitsAt w c (cancelled w.clock timer line by (cpu_of w c).bases)
  cancelled_fits timer line by =
      let kept = cancelling_keeps w.clock timer line by (cpu_of w c).bases (f.timers.consistent c)
      in
      record {
        legal = kept.1.legal c (f.timers.legal c);
        consistent = kept.0;
        known = each_cancelled (λ id. id < w.timers) w.clock timer line by (cpu_of w c).bases
            (f.times.known c);
        alone = gone_alone (cancelled w.clock timer line by (cpu_of w c).bases)
            (λ Q. each_cancelled Q w.clock timer line by (cpu_of w c).bases);
      }

  pub handed_out_fits : (class : Class) (by : CpuId) → MayHandOut c class by.0
      → FitsAt w c (handed_out w.clock class by (cpu_of w c).bases)
  handed_out_fits class by may =
      let in_time = f.times.clock in
      let kept = handing_out_keeps w.clock class by (cpu_of w c).bases (omega arith)
      (f.timers.consistent c) in
      record {
        legal = kept.1.legal c may (f.timers.legal c);
        consistent = kept.0;
        known = each_handed_out (λ id. id < w.timers) w.clock class by (cpu_of w c).bases
            (f.times.known c);
        alone = gone_alone (handed_out w.clock class by (cpu_of w c).bases)
            (λ Q. each_handed_out Q w.clock class by (cpu_of w c).bases);
      }

  pub moved_out_fits : (class : Class) (by : CpuId) → FitsAt w c
      (moved_out w.clock class by (cpu_of w c).bases)
  moved_out_fits class by =
      let kept = moving_out_keeps w.clock class by (cpu_of w c).bases (f.timers.consistent c) in
      record {
        legal = kept.1.legal c (f.timers.legal c);
        consistent = kept.0;
        known = each_moved_out (λ id. id < w.timers) w.clock class by (cpu_of w c).bases
            (f.times.known c);
        alone = gone_alone (moved_out w.clock class by (cpu_of w c).bases)
            (λ Q. each_moved_out Q w.clock class by (cpu_of w c).bases);
      }

  -- a timer that is queued nowhere is then queued here alone
  more_alone : (timer : ℕ) (new : CpuBases) → ((Q : ℕ → Type 0) → Each Q (cpu_of w c).bases
      → Q timer → Each Q new)
      → ((d : ℕ) → d ≢ c → class_in timer (cpu_of w d).bases ≡ None) → (other : ℕ) (class : Class)
      → class_in other new ≡ Some class → (d : ℕ) → d ≢ c
      → class_in other (cpu_of w d).bases ≡ None
  more_alone timer new each nowhere other class is = elim (cases_eq other timer) [
    | inl same ↦ subst (λ n. (d : ℕ) → d ≢ c → class_in n (cpu_of w d).bases ≡ None) (sym same)
        nowhere
    | inr apart ↦ elim (or_class (class_in other (cpu_of w c).bases)) [
      | inl none ↦ absurd (holds_in (λ id. id ≡ other → ⊥) other new class
          (each (λ id. id ≡ other → ⊥) (each_other other (cpu_of w c).bases
          (f.timers.consistent c) none)
          (λ same. apart (sym same))) is refl)
      | inr there ↦ alone_here other there.0 there.1
    ]
  ]

  pub armed_fits : (class : Class) (timer expires job arg line : ℕ) (by : CpuId)
      → MayQueue w.clock class timer expires (cpu_of w c).bases → timer < w.timers
      → ((d : ℕ) → d ≢ c → class_in timer (cpu_of w d).bases ≡ None)
      → FitsAt w c (armed w.clock class timer expires job arg line by (cpu_of w c).bases)
  armed_fits class timer expires job arg line by may known nowhere =
      let kept = arming_keeps w.clock class timer expires job arg line by (cpu_of w c).bases
      (f.timers.consistent c) may in
      record {
        legal = kept.1.legal c (f.timers.legal c);
        consistent = kept.0;
        known = each_queued (λ id. id < w.timers) Armed line w.clock w.clock class timer expires job
            arg by (cpu_of w c).bases (f.times.known c) known;
        alone = more_alone timer (armed w.clock class timer expires job arg line by
            (cpu_of w c).bases) (λ Q. each_queued Q Armed line w.clock w.clock class timer expires
            job arg by (cpu_of w c).bases) nowhere;
      }

  pub moved_in_fits : (class : Class) (timer expires job arg : ℕ) (by : CpuId)
      → MayQueue w.clock class timer expires (cpu_of w c).bases → timer < w.timers
      → ((d : ℕ) → d ≢ c → class_in timer (cpu_of w d).bases ≡ None)
      → FitsAt w c (moved_in w.clock class timer expires job arg by (cpu_of w c).bases)
  moved_in_fits class timer expires job arg by may known nowhere =
      let kept = moving_in_keeps w.clock class timer expires job arg by (cpu_of w c).bases
      (f.timers.consistent c) may in
      record {
        legal = kept.1.legal c (f.timers.legal c);
        consistent = kept.0;
        known = each_queued (λ id. id < w.timers) MovedIn 0 w.clock (w.clock + 1) class timer
            expires job arg by (cpu_of w c).bases (f.times.known c) known;
        alone = more_alone timer (moved_in w.clock class timer expires job arg by
            (cpu_of w c).bases) (λ Q. each_queued Q MovedIn 0 w.clock (w.clock + 1) class timer
            expires job arg by (cpu_of w c).bases) nowhere;
      }

-- MOVING OUT: the item that goes was queued, and is then queued nowhere
pub oldest_queued : (cpu : CpuBases) (class : Class) (item : Item) → IsConsistent cpu
    → oldest_in (base_of class cpu).items ≡ Some item → found_in item.id cpu ≡ Some (class, item)
oldest_queued cpu class item consistent is = queued_once cpu item.id class item consistent
    (oldest_found (base_of class cpu).items item is)

pub moved_out_gone : (now : ℕ) (by : CpuId) (cpu : CpuBases) (class : Class) (item : Item)
    → IsConsistent cpu → oldest_in (base_of class cpu).items ≡ Some item
    → class_in item.id (moved_out now class by cpu) ≡ None
moved_out_gone now by cpu class item consistent is =
    ap (λ m. class_in item.id (after_move_out m now class by cpu)) is
    ∙ (ap (λ m. class_in item.id (after_cancel m now 0 by cpu))
    (sym (oldest_queued cpu class item consistent is))
    ∙ cancelled_gone now item.id 0 by cpu consistent)
