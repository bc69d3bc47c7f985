-- handing out, one item a round
use Rattle.std.proofs.Common.{◌≡◌, ℕ, suc, ◌+◌, ◌<◌, ◌≤◌, List, [], ◌∷◌, Some, length, refl}
use Rattle.std.proofs.Common.{sym, ap, ◌∙◌, subst, arith, length-append}
use Rattle.std.specs.Prelude.{All}
use Rattle.std.proofs.lemmas.List.{length-set}
use Rattle.tm_base.specs.declared.limits.TheConstants.{MOST_TIMERS}
use Rattle.tm_base.specs.declared.names.Class.TheVariants.{Global}
use Rattle.wheel_core.specs.declared.item.Item.{Item}
use Rattle.wheel_core.specs.PlainBase.{item_of, next_out}
use Rattle.wheel_core.proofs.Ids.{all_without, item_holds}
use Rattle.cpu_bases.specs.CpuBases.{CpuBases, RoomyBases, after_hand_out, base_of, drained, on_bases}
use Rattle.cpu_bases.specs.CpuBases.{entry_of, handed_out}
use Rattle.cpu_bases.specs.declared.entry.Act.TheVariants.{Handed}
use Rattle.delayed_work.specs.declared.standing.Standing.{Standing}
use Rattle.delayed_work.specs.declared.standing.Standing.TheVariants.{Free, Waiting, Ready}
use Rattle.delayed_work.specs.Ledger.{LedgerState, come_ready, ready_from, standing_of}
use Rattle.delayed_work.specs.Works.{all_ready, first_cpu, items_out}
use Rattle.delayed_work.proofs.Expiry.{drained_some, one_out, out_some, queue_less, queue_of}

-- what is left to hand out makes of what stands the same as at the start
pub record HandsOn (now : ℕ) (start : CpuBases) (first : LedgerState) (bases : RoomyBases)
    (ledger : LedgerState) : Type 0 where
  pub bases_same : drained (length (queue_of start)) now Global first_cpu start
      ≡ drained (length (queue_of bases.plain)) now Global first_cpu bases.plain
  pub ledger_same : all_ready (items_out (length (queue_of start)) now start) first
      ≡ all_ready (items_out (length (queue_of bases.plain)) now bases.plain) ledger
  pub room : length bases.plain.journal + length (queue_of bases.plain) < bases.room.entries
  pub within : All (λ item. item.id < length ledger.standings) (queue_of bases.plain)
  pub few : length ledger.standings ≤ MOST_TIMERS

pub count_from : (standing : Standing) (work job arg : ℕ) (ledger : LedgerState)
    → length (ready_from standing work job arg ledger).standings ≡ length ledger.standings
count_from Free work job arg ledger = refl
count_from (Waiting number) work job arg ledger = length-set ledger.standings work _
count_from (Ready number j a) work job arg ledger = refl

one_written : (now : ℕ) (bases : CpuBases) (item : Item)
    → next_out now (base_of Global bases) ≡ Some item
    → length (one_out now bases).journal ≡ length bases.journal + 1
one_written now bases item is =
    subst (λ out. length (after_hand_out out now Global first_cpu bases).journal ≡ length bases.journal + 1)
    (sym is) (omega (arith, length-append bases.journal (entry_of Handed 0 now Global item first_cpu ∷ [])))

-- the item that goes out is of a work that there is
pub out_within : (count : ℕ) (items : List Item) (item : Item)
    → All (λ item. item.id < count) items → item_of item.id items ≡ Some item → item.id < count
out_within count items item within queued = item_holds (λ i. i.id < count) item.id items item within queued

pub hands_on_more : (now : ℕ) (start : CpuBases) (first : LedgerState) (bases bases_now : RoomyBases)
    (ledger ledger_now : LedgerState) (item : Item) → HandsOn now start first bases ledger
    → next_out now (base_of Global bases.plain) ≡ Some item
    → bases_now ≡ on_bases (handed_out now Global first_cpu) bases
    → ledger_now ≡ come_ready item.id item.job item.arg ledger
    → length (queue_of bases_now.plain) + 1 ≡ length (queue_of bases.plain)
    → HandsOn now start first bases_now ledger_now
hands_on_more now start first bases bases_now ledger ledger_now item old is is_bases is_ledger fewer =
    let plain : bases_now.plain ≡ one_out now bases.plain = ap (λ b. b.plain) is_bases in
    let less : queue_of bases_now.plain ≡ queue_of (one_out now bases.plain) = ap queue_of plain in
    let rest = length (queue_of bases_now.plain) in
    let longer : length (queue_of bases.plain) ≡ suc rest = omega arith in
    let count : length ledger_now.standings ≡ length ledger.standings =
    ap (λ l. length l.standings) is_ledger
    ∙ count_from (standing_of item.id ledger) item.id item.job item.arg ledger in
    record {
      bases_same = old.bases_same
          ∙ ap (λ n. drained n now Global first_cpu bases.plain) longer
          ∙ drained_some rest now bases.plain item is
          ∙ ap (λ b. drained rest now Global first_cpu b) (sym plain);
      ledger_same = old.ledger_same
          ∙ ap (λ n. all_ready (items_out n now bases.plain) ledger) longer
          ∙ ap (λ items. all_ready items ledger) (out_some rest now bases.plain item is)
          ∙ ap (λ b. all_ready (items_out rest now b) (come_ready item.id item.job item.arg ledger)) (sym plain)
          ∙ ap (λ l. all_ready (items_out rest now bases_now.plain) l) (sym is_ledger);
      room =
          let written : length bases_now.plain.journal ≡ length bases.plain.journal + 1 =
          ap (λ b. length b.journal) plain ∙ one_written now bases.plain item is in
          let same : bases_now.room.entries ≡ bases.room.entries = ap (λ b. b.room.entries) is_bases in
          let before = old.room in
          omega arith;
      within =
          let without_it = all_without (λ i. i.id < length ledger.standings) item.id (queue_of bases.plain) old.within in
          subst (λ n. All (λ i. i.id < n) (queue_of bases_now.plain)) (sym count)
          (subst (λ items. All (λ i. i.id < length ledger.standings) items)
          (sym (less ∙ queue_less now bases.plain item is)) without_it);
      few = rw count old.few;
    }
