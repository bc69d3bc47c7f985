-- for crates above: a whole drain by steps, one hand-out at a time
use Rattle.std.proofs.Common.{◌≡◌, ◌⊎◌, ℕ, zero, suc, ◌≤◌, List, []}
use Rattle.std.proofs.Common.{length, Some, None, refl, sym, ap, ◌∙◌, subst, arith, inl, inr}
use Rattle.std.specs.Prelude.{option_map}
use Rattle.std.proofs.lemmas.List.{set-set}
use Rattle.tm_base.specs.declared.names.Class.{Class}
use Rattle.wheel_core.specs.declared.item.Item.{Item}
use Rattle.wheel_core.specs.PlainBase.{IsDue, OutIsDue, PlainBase, next_out, taken}
use Rattle.wheel_core.proofs.Plain.{due_out}
use Rattle.cpu_bases.specs.CpuBases.{CpuBases, IsConsistent, base_of, class_in, drained, handed_out}
use Rattle.cpu_bases.proofs.Drains.{one_fewer}
use Rattle.cpu_bases.proofs.Keeping.{or_item}
use Rattle.cpu_bases.proofs.Queued.{queued_once}
use Rattle.play_rules.specs.Interrupts.{cpu_id, timer_id}
use Rattle.play_rules.specs.Timers.{due_items}
use Rattle.core_world.specs.declared.step.Step.{Step}
use Rattle.core_world.specs.declared.step.Step.TheVariants as steps
use Rattle.core_world.specs.Enabled.{IsFree, MayHand, MayRun}
use Rattle.core_world.specs.Lists.{EachEnabled, after_all}
use Rattle.core_world.specs.Lawful.{IsLawful}
use Rattle.core_world.specs.Steps.{handed_of, stepped, with_bases}
use Rattle.core_world.specs.World.{CpuRecord, World, cpu_of}
use Rattle.core_facts.specs.core_laws.Laws.{StepsStayLawful}
use Rattle.step_play.specs.Rules.StepRules.{hands}
use Rattle.step_play.proofs.Bases.{drained_last, drained_more, due_last, due_more}
use Rattle.step_play.proofs.Bases.{handed_base}
use Rattle.step_play.proofs.Worlds.{own_is, put, put_count, put_same}

-- CPU c's bases become these
abbrev pub rebased : World → (c : ℕ) → CpuBases → World
rebased w c b = put w c (with_bases (cpu_of w c) b)

-- a lawful world of which the bases of one CPU are these
pub record Rebases (w : World) (c : ℕ) (b : CpuBases) (v : World) : Type 0 where
  pub lawful : IsLawful v
  pub is : v ≡ rebased w c b

module _ (law : StepsStayLawful) (home runner : ℕ) (class : Class) where
  -- what is due, and what is left
  abbrev pub after : ℕ → World → CpuBases
  after n w = drained n w.clock class (cpu_id runner) (cpu_of w home).bases

  abbrev pub base_at : World → PlainBase
  base_at w = base_of class (cpu_of w home).bases

  -- nothing more is due
  module _ (w : World) (lawful : IsLawful w) (free : IsFree w home)
      (may : MayRun w home class runner)
      (none : next_out w.clock (base_at w) ≡ None) where
    ticks : Rebases w home (handed_out w.clock class (cpu_id runner) (cpu_of w home).bases)
        (stepped w (steps.Ticked (cpu_id home) class (cpu_id runner)))
    ticks = record {
      lawful =
          law w (steps.Ticked (cpu_id home) class (cpu_id runner)) lawful
          (record { is_free = free; none_due = none; may_run = may });
      is = own_is w home _;
    }

    stops : (n : ℕ) (items : List Item) → items ≡ [] →
        Rebases w home (after n w) (after_all w (hands home class runner items))
    stops n items is = record {
      lawful =
          subst (λ xs. IsLawful (after_all w (hands home class runner xs))) (sym is) ticks.lawful;
      is =
          ap (λ xs. after_all w (hands home class runner xs)) is
          ∙ (ticks.is ∙ ap (rebased w home)
          (sym (drained_last w.clock class (cpu_id runner) (cpu_of w home).bases n none)));
    }

  -- an item goes out
  module _ (w : World) (lawful : IsLawful w) (free : IsFree w home)
      (may : MayRun w home class runner)
      (item : Item) (out : next_out w.clock (base_at w) ≡ Some item) where
    consistent : IsConsistent (cpu_of w home).bases
    consistent = lawful.timers.consistent home

    pub is_due : IsDue w.clock (base_at w).items item
    is_due = subst (OutIsDue w.clock (base_at w).items) out
        (due_out w.clock (base_at w) (consistent.fits class).sound)

    pub queued_here : class_in item.id (cpu_of w home).bases ≡ Some class
    queued_here = ap (option_map (λ found. found.0))
        (queued_once (cpu_of w home).bases item.id class item consistent is_due.queued)

    abbrev pub left : CpuBases
    left = handed_out w.clock class (cpu_id runner) (cpu_of w home).bases

    abbrev pub hand : Step
    hand = steps.Hand (cpu_id home) (timer_id item.id) (cpu_id runner)

    pub hand_is : stepped w hand ≡ rebased w home left
    hand_is =
        own_is w home _
        ∙ ap (λ o. rebased w home (handed_of w.clock o (cpu_id runner) (cpu_of w home).bases))
        queued_here

    pub may_hand : MayHand w home item.id runner
    may_hand = record {
      is_free = free;
      class = class;
      item = item;
      queued = queued_here;
      due = out;
      timers = refl;
      may_run = may;
    }

    hand_lawful : IsLawful (rebased w home left)
    hand_lawful = subst IsLawful hand_is (law w hand lawful may_hand)

    here : cpu_of (rebased w home left) home ≡ with_bases (cpu_of w home) left
    here = put_same w home (with_bases (cpu_of w home) left) free.in_range

    pub free_after : IsFree (rebased w home left) home
    free_after = record {
      in_range = (let low = free.in_range in
          omega (arith, low, put_count w home (with_bases (cpu_of w home) left) low));
      free = ap (λ (y : CpuRecord). y.walk) here ∙ free.free;
    }

    pub may_after : MayRun (rebased w home left) home class runner
    may_after = elim may [
      | inl mine ↦ inl (mine.0, ap (λ (y : CpuRecord). y.inside) here ∙ mine.1)
      | inr marked ↦ inr (marked.0, ap (λ (y : CpuRecord). y.mark) here ∙ marked.1)
    ]

    pub base_after : base_at (rebased w home left) ≡ taken w.clock (base_at w)
    base_after =
        ap (λ (y : CpuRecord). base_of class y.bases) here
        ∙ handed_base w.clock class (cpu_id runner) (cpu_of w home).bases item out

    pub fewer : (n : ℕ) → length (base_at w).items ≤ suc n →
        length (base_at (rebased w home left)).items ≤ n
    fewer n few =
        let less = one_fewer w.clock class (cpu_id runner) (cpu_of w home).bases item consistent out
        in
        let same = ap (λ (y : CpuRecord). length (base_of class y.bases).items) here in
        omega (arith, few, less, same)

    goes_on : (n : ℕ) →
        Rebases (rebased w home left) home (after n (rebased w home left))
        (after_all (rebased w home left) (hands home class runner
        (due_items n w.clock (base_at (rebased w home left))))) →
        Rebases w home (after (suc n) w)
        (after_all w (hands home class runner (due_items (suc n) w.clock (base_at w))))
    goes_on n rest =
        let first : after_all w (hands home class runner (due_items (suc n) w.clock (base_at w)))
        ≡ after_all (rebased w home left) (hands home class runner
        (due_items n w.clock (base_at (rebased w home left)))) =
        ap (λ xs. after_all w (hands home class runner xs))
        (due_more n w.clock (base_at w) item out)
        ∙ (ap (λ b. after_all (stepped w hand) (hands home class runner (due_items n w.clock b)))
        (sym base_after)
        ∙ ap (λ v. after_all v (hands home class runner
        (due_items n w.clock (base_at (rebased w home left))))) hand_is) in
        record {
          lawful = subst IsLawful (sym first) rest.lawful;
          is =
              first ∙ (rest.is
              ∙ (ap (λ (y : CpuRecord). put (rebased w home left) home
              (with_bases y (drained n w.clock class (cpu_id runner) y.bases))) here
              ∙ (ap (λ ys. record w { cpus = ys }) (set-set w.cpus home _ _)
              ∙ ap (rebased w home)
              (sym (drained_more w.clock class (cpu_id runner) (cpu_of w home).bases n item
              out)))));
        }

  -- A WHOLE DRAIN: each of its steps is enabled where it stands, and what they leave
  pub record DrainsOut (w : World) (left : CpuBases) (steps : List Step) : Type 0 where
    pub enabled : EachEnabled w steps
    pub rebases : Rebases w home left (after_all w steps)

  pub drains : (n : ℕ) (w : World) → IsLawful w → IsFree w home → MayRun w home class runner →
      length (base_at w).items ≤ n →
      DrainsOut w (after n w) (hands home class runner (due_items n w.clock (base_at w)))
  drains n w lawful free may few =
      by_out n w lawful free may few (or_item (next_out w.clock (base_at w)))
    where
      by_out : (n : ℕ) (w : World) → IsLawful w → IsFree w home → MayRun w home class runner →
          length (base_at w).items ≤ n →
          (next_out w.clock (base_at w) ≡ None)
          ⊎ ((item : Item) × (next_out w.clock (base_at w) ≡ Some item)) →
          DrainsOut w (after n w) (hands home class runner (due_items n w.clock (base_at w)))
      by_out n w lawful free may few (inl none) = record {
        enabled = subst (λ xs. EachEnabled w (hands home class runner xs))
            (sym (due_last n w.clock (base_at w) none))
            (record { is_free = free; none_due = none; may_run = may }, tt);
        rebases = stops w lawful free may none n (due_items n w.clock (base_at w))
            (due_last n w.clock (base_at w) none);
      }
      by_out zero w lawful free may few (inr there) =
          let less = one_fewer w.clock class (cpu_id runner) (cpu_of w home).bases there.0
          (lawful.timers.consistent home) there.1 in
          absurd (omega (arith, few, less))
      by_out (suc n) w lawful free may few (inr (item, out)) =
          let v = rebased w home (left w lawful free may item out) in
          let rest = by_out n v (hand_lawful w lawful free may item out)
          (free_after w lawful free may item out) (may_after w lawful free may item out)
          (fewer w lawful free may item out n few) (or_item (next_out v.clock (base_at v))) in
          record {
            enabled = subst (λ xs. EachEnabled w (hands home class runner xs))
                (sym (due_more n w.clock (base_at w) item out)) (
                  may_hand w lawful free may item out,
                  subst (λ u. EachEnabled u (hands home class runner
                      (due_items n w.clock (taken w.clock (base_at w)))))
                      (sym (hand_is w lawful free may item out))
                      (subst (λ b. EachEnabled v (hands home class runner
                      (due_items n w.clock b))) (base_after w lawful free may item out)
                      rest.enabled),
                );
            rebases = goes_on w lawful free may item out n rest.rebases;
          }
