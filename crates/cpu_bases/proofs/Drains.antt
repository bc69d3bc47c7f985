-- for crates above: a whole drain leaves nothing due
use Rattle.std.proofs.Common.{◌≡◌, ℕ, zero, suc, ◌+◌, ◌-◌, ◌<◌}
use Rattle.std.proofs.Common.{Some, None, length, ap, subst, sym, ◌∙◌, arith}
use Rattle.std.proofs.Common.{inl, inr}
use Rattle.std.specs.Prelude.{is_some, if◌then◌else◌}
use Rattle.tm_base.specs.declared.names.Class.{Class}
use Rattle.tm_base.specs.declared.names.CpuId.{CpuId}
use Rattle.tm_base.specs.declared.names.TheConstants.{TIME_LIMIT}
use Rattle.wheel_core.specs.declared.item.Item.{Item}
use Rattle.wheel_core.specs.PlainBase.{NoneDue, OutIsDue}
use Rattle.wheel_core.specs.PlainBase.{after_out, next_out}
use Rattle.wheel_core.specs.PlainBase.{taken}
use Rattle.wheel_core.proofs.Plain.{due_out}
use Rattle.wheel_core.proofs.Plain.{one_fewer_after_out}
use Rattle.cpu_bases.specs.CpuBases.{CpuBases, IsConsistent, after_hand_out}
use Rattle.cpu_bases.specs.CpuBases.{base_of, drained}
use Rattle.cpu_bases.specs.CpuBases.{handed_out}
use Rattle.cpu_bases.specs.Laws.{DrainIsWhole, DrainsAll}
use Rattle.cpu_bases.specs.Laws.{HandsOut}
use Rattle.cpu_bases.proofs.Classes.{of_class-with}
use Rattle.cpu_bases.proofs.Replays.{adds_both}
use Rattle.cpu_bases.proofs.Keeping.{behind_drained, handing_out_keeps, or_item}

-- A WHOLE DRAIN
hands_both : (now : ℕ) (class : Class) (by : ℕ) (old mid new : CpuBases)
    → HandsOut now class by old mid → HandsOut now class by mid new → HandsOut now class by old new
hands_both now class by old mid new first second = record {
  legal = λ number may upto. second.legal number may (first.legal number may upto);
  replay = adds_both old mid new first.replay second.replay;
  not_ahead = λ any ahead. second.not_ahead any (first.not_ahead any ahead);
  others = λ other apart. second.others other apart ∙ first.others other apart;
}

drain_stops : (now : ℕ) (class : Class) (by : CpuId) (cpu : CpuBases) → now < TIME_LIMIT - 1
    → IsConsistent cpu → next_out now (base_of class cpu) ≡ None
    → DrainsAll now class by.0 cpu (handed_out now class by cpu)
drain_stops now class by cpu in_time consistent none =
    let base = base_of class cpu in
    let kept = handing_out_keeps now class by cpu in_time consistent in
    let none_due = subst (OutIsDue now base.items) none
    (due_out now base (consistent.fits class).sound) in
    record {
      consistent = kept.0;
      hands_out = kept.1;
      none_due =
          subst (λ out. NoneDue now (base_of class (after_hand_out out now class by cpu)).items)
          (sym none) none_due;
      none_behind = behind_drained now class by cpu consistent none;
    }

pub one_fewer : (now : ℕ) (class : Class) (by : CpuId) (cpu : CpuBases) (item : Item)
    → IsConsistent cpu → next_out now (base_of class cpu) ≡ Some item
    → length (base_of class (handed_out now class by cpu)).items + 1
    ≡ length (base_of class cpu).items
one_fewer now class by cpu item consistent is =
    let base = base_of class cpu in
    let due = subst (OutIsDue now base.items) is (due_out now base (consistent.fits class).sound) in
    subst (λ out. length (base_of class (after_hand_out out now class by cpu)).items + 1
    ≡ length base.items) (sym is)
    (ap (λ b. length b.items + 1) (of_class-with class (taken now base) cpu.bases)
    ∙ (ap (λ out. length (after_out base out).items + 1) is
    ∙ one_fewer_after_out now base item due))

pub drain_is_whole : DrainIsWhole
drain_is_whole zero now class by cpu in_time consistent few =
    elim (or_item (next_out now (base_of class cpu))) [
      | inl none ↦ drain_stops now class by cpu in_time consistent none
      | inr there ↦
          let fewer = one_fewer now class by cpu there.0 consistent there.1 in absurd (omega arith)
    ]
drain_is_whole (suc most) now class by cpu in_time consistent few =
    let after = handed_out now class by cpu in
    elim (or_item (next_out now (base_of class cpu))) [
      | inl none ↦
          subst (λ out. DrainsAll now class by.0 cpu (if is_some out then drained most now class by
          after else after)) (sym none)
          (drain_stops now class by cpu in_time consistent none)
      | inr there ↦
          let fewer = one_fewer now class by cpu there.0 consistent there.1 in
          let kept = handing_out_keeps now class by cpu in_time consistent in
          let rest = drain_is_whole most now class by after in_time kept.0 (omega arith) in
          subst (λ out. DrainsAll now class by.0 cpu (if is_some out then drained most now class by
          after else after)) (sym there.1)
          (record {
            consistent = rest.consistent;
            hands_out =
                hands_both now class by.0 cpu after (drained most now class by after) kept.1
                rest.hands_out;
            none_due = rest.none_due;
            none_behind = λ near. rest.none_behind (kept.1.not_ahead class near);
          })
    ]
