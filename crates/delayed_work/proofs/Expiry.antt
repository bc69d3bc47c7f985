-- expiry, item by item
use Rattle.std.proofs.Common.{◌≡◌, ℕ, zero, suc, ◌-◌, ◌<◌, ◌≤◌, List}
use Rattle.std.proofs.Common.{[], ◌∷◌, Some, None, length, refl, sym, ap, ◌∙◌, subst, inl}
use Rattle.std.proofs.Common.{inr, arith}
use Rattle.std.specs.Prelude.{is_some, if◌then◌else◌}
use Rattle.std.proofs.lemmas.List.{length-set}
use Rattle.tm_base.specs.declared.names.TheConstants.{TIME_LIMIT}
use Rattle.tm_base.specs.declared.names.Class.TheVariants.{Global}
use Rattle.wheel_core.specs.declared.item.Item.{Item}
use Rattle.wheel_core.specs.PlainBase.{OutIsDue, after_out, item_of, next_out, without}
use Rattle.wheel_core.proofs.Plain.{due_out}
use Rattle.cpu_bases.specs.CpuBases.{CpuBases, IsConsistent, after_hand_out, base_of, drained}
use Rattle.cpu_bases.specs.CpuBases.{handed_out}
use Rattle.cpu_bases.proofs.Drains.{one_fewer}
use Rattle.cpu_bases.proofs.Keeping.{handing_out_keeps, or_item}
use Rattle.delayed_work.specs.declared.standing.Standing.TheVariants.{Waiting, Ready}
use Rattle.delayed_work.specs.Ledger.{IsLedgerSound, LedgerState, come_ready, ready_from}
use Rattle.delayed_work.specs.Ledger.{standing_of}
use Rattle.delayed_work.specs.Works.{all_ready, first_cpu, items_out, out_then}
use Rattle.delayed_work.proofs.Sound.{ready_sound}
use Rattle.delayed_work.proofs.Waits.{Waits, changes_at, waiting_is, waits_taken}
use Rattle.delayed_work.proofs.Waits.{waits_within}

abbrev pub queue_of : CpuBases → List Item
queue_of bases = (base_of Global bases).items

-- one hand-out
abbrev pub one_out : (now : ℕ) → CpuBases → CpuBases
one_out now bases = handed_out now Global first_cpu bases

pub out_queued : (now : ℕ) (bases : CpuBases) (item : Item) → IsConsistent bases
    → next_out now (base_of Global bases) ≡ Some item
    → item_of item.id (queue_of bases) ≡ Some item
out_queued now bases item consistent is =
    (subst (OutIsDue now (queue_of bases)) is
    (due_out now (base_of Global bases) (consistent.fits Global).sound)).queued

pub queue_less : (now : ℕ) (bases : CpuBases) (item : Item)
    → next_out now (base_of Global bases) ≡ Some item
    → queue_of (one_out now bases) ≡ without item.id (queue_of bases)
queue_less now bases item is =
    subst (λ out. queue_of (after_hand_out out now Global first_cpu bases) ≡ without item.id (queue_of bases))
    (sym is) (ap (λ out. (after_out (base_of Global bases) out).items) is)

pub queue_same : (now : ℕ) (bases : CpuBases) → next_out now (base_of Global bases) ≡ None
    → queue_of (one_out now bases) ≡ queue_of bases
queue_same now bases is =
    subst (λ out. queue_of (after_hand_out out now Global first_cpu bases) ≡ queue_of bases) (sym is) refl

pub drained_some : (most now : ℕ) (bases : CpuBases) (item : Item)
    → next_out now (base_of Global bases) ≡ Some item
    → drained (suc most) now Global first_cpu bases ≡ drained most now Global first_cpu (one_out now bases)
drained_some most now bases item is =
    let more = drained most now Global first_cpu (one_out now bases) in
    subst (λ out. (if is_some out then more else one_out now bases) ≡ more) (sym is) refl

pub drained_none : (most now : ℕ) (bases : CpuBases)
    → next_out now (base_of Global bases) ≡ None
    → drained most now Global first_cpu bases ≡ one_out now bases
drained_none zero now bases is = refl
drained_none (suc most) now bases is =
    let more = drained most now Global first_cpu (one_out now bases) in
    subst (λ out. (if is_some out then more else one_out now bases) ≡ one_out now bases) (sym is) refl

pub out_some : (most now : ℕ) (bases : CpuBases) (item : Item)
    → next_out now (base_of Global bases) ≡ Some item
    → items_out (suc most) now bases ≡ item ∷ items_out most now (one_out now bases)
out_some most now bases item is =
    let more = items_out most now (one_out now bases) in
    subst (λ out. out_then out more ≡ item ∷ more) (sym is) refl

pub out_none : (most now : ℕ) (bases : CpuBases)
    → next_out now (base_of Global bases) ≡ None → items_out most now bases ≡ []
out_none zero now bases is = refl
out_none (suc most) now bases is =
    let more = items_out most now (one_out now bases) in
    subst (λ out. out_then out more ≡ []) (sym is) refl

-- a ledger stays right of a queue as works become ready
pub record Fits (items : List Item) (ledger : LedgerState) (count : ℕ) : Type 0 where
  pub sound : IsLedgerSound ledger
  pub waits : Waits items ledger
  pub count_is : length ledger.standings ≡ count

-- one work becomes ready as its item goes out
pub come_fits : (bases : CpuBases) (ledger : LedgerState) (item : Item) (count : ℕ)
    → IsConsistent bases → Fits (queue_of bases) ledger count
    → item_of item.id (queue_of bases) ≡ Some item
    → Fits (without item.id (queue_of bases)) (come_ready item.id item.job item.arg ledger) count
come_fits bases ledger item count consistent fits queued =
    let is = sym (fits.waits item.id) ∙ ap is_some queued in
    let within = waits_within ledger item.id is in
    let (number, waits) = waiting_is (standing_of item.id ledger) is in
    let changes = changes_at ledger item.id (Ready number item.job item.arg)
    (ready_from (Waiting number) item.id item.job item.arg ledger).ready ledger.story within in
    let whole : Fits (without item.id (queue_of bases)) (ready_from (Waiting number) item.id item.job item.arg ledger) count = record {
      sound = ready_sound ledger item.id number item.job item.arg within waits fits.sound;
      waits = waits_taken (queue_of bases) ledger _ item.id (Ready number item.job item.arg)
          (consistent.fits Global).sound.distinct fits.waits refl changes;
      count_is = length-set ledger.standings item.id _ ∙ fits.count_is;
    } in
    subst (λ standing. Fits (without item.id (queue_of bases)) (ready_from standing item.id item.job item.arg ledger) count)
    (sym waits) whole

-- a whole drain
pub drain_fits : (most now : ℕ) (bases : CpuBases) (ledger : LedgerState) (count : ℕ)
    → now < TIME_LIMIT - 1 → IsConsistent bases → length (queue_of bases) ≤ most
    → Fits (queue_of bases) ledger count
    → Fits (queue_of (drained most now Global first_cpu bases))
    (all_ready (items_out most now bases) ledger) count
drain_fits zero now bases ledger count in_time consistent few fits =
    elim (or_item (next_out now (base_of Global bases))) [
      | inl none ↦ subst (λ items. Fits items ledger count) (sym (queue_same now bases none)) fits
      | inr there ↦
          let fewer = one_fewer now Global first_cpu bases there.0 consistent there.1 in absurd (omega arith)
    ]
drain_fits (suc most) now bases ledger count in_time consistent few fits =
    elim (or_item (next_out now (base_of Global bases))) [
      | inl none ↦
          rw (drained_none (suc most) now bases none, out_none (suc most) now bases none, queue_same now bases none) fits
      | inr there ↦
          let item = there.0 in
          let fewer = one_fewer now Global first_cpu bases item consistent there.1 in
          let queued = out_queued now bases item consistent there.1 in
          let come = come_fits bases ledger item count consistent fits queued in
          let moved = subst (λ items. Fits items (come_ready item.id item.job item.arg ledger) count)
          (sym (queue_less now bases item there.1)) come in
          let rest = drain_fits most now (one_out now bases) (come_ready item.id item.job item.arg ledger) count in_time
          (handing_out_keeps now Global first_cpu bases in_time consistent).0 (omega arith) moved in
          rw (drained_some most now bases item there.1, out_some most now bases item there.1) rest
    ]
