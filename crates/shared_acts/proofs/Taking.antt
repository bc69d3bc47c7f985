-- for crates above: a CPU is marked and its timers go out, or it is left alone, and the mark is let
-- go
use Rattle.std.proofs.Common.{◌≡◌, inr, ℕ, Bool, true, false, List, [], ◌∷◌, ◌++◌, Some}
use Rattle.std.proofs.Common.{length, refl, sym, ap, ◌∙◌, subst, arith, true≢false}
use Rattle.std.specs.Prelude.{◌||◌, not}
use Rattle.std.proofs.lemmas.List.{append-nil}
use Rattle.atomic_table.specs.Seated.{TableId}
use Rattle.tm_base.specs.declared.names.Class.TheVariants.{Global}
use Rattle.wheel_core.specs.declared.item.Item.{Item}
use Rattle.cpu_bases.specs.CpuBases.{CpuBases, Room, base_of}
use Rattle.walk_rules.specs.Hierarchy.{HasGroup}
use Rattle.core_world.specs.World.{World}
use Rattle.shared_timers.specs.core_state.Shown.{shown_cpu}
use Rattle.shared_timers.specs.shared_rule.declared.parts.BoxView.{BoxView}
use Rattle.shared_timers.specs.shared_rule.declared.parts.Deed.{Deed}
use Rattle.shared_timers.specs.shared_rule.declared.parts.Deed.TheVariants as deeds
use Rattle.shared_timers.specs.shared_rule.declared.parts.Did.{Did}
use Rattle.shared_timers.specs.shared_rule.declared.parts.PassView.{PassView}
use Rattle.shared_timers.specs.shared_rule.declared.parts.Receipt.{Receipt}
use Rattle.shared_timers.specs.shared_rule.Parts.{HeldPart}
use Rattle.shared_timers.specs.shared_rule.Passes.{HeldPass, IsPassIn, receipts_of}
use Rattle.shared_timers.specs.shared_rule.Plays.{Agree, PartFits}
use Rattle.shared_timers.specs.shared_rule.Turns.{MayRunOf}
use Rattle.shared_timers.specs.shared_rule.Whole.{own_word}
use Rattle.shared_looks.specs.shared_cpus.Pairs.{cpu_place}
use Rattle.shared_looks.specs.Marks.{IsTakable}
use Rattle.shared_acts.specs.Looks.{IsLeftAlone}
use Rattle.shared_acts.specs.Pieces.{PassGains, HandsOutItems, HasDrainRoom, Piece, deeds_of}
use Rattle.shared_acts.specs.Tries.{AtWork, HasLeftAlone, HasLetGo, HasMarked, HasTakenTimers, HasUnmarked}
use Rattle.shared_acts.specs.Tries.{with_marks}
use Rattle.shared_acts.proofs.Gaining as gaining
use Rattle.shared_acts.proofs.Served.{deeds_behind, still_at_work}
use Rattle.shared_acts.proofs.Trials.{IsNoted, closed_by_carrying, closed_by_release, gains_with}
use Rattle.shared_acts.proofs.Trials.{left_alone, let_go, shows_word}

-- a pass with other room is as it was
pub roomed_look : (table : TableId) (held mid after : HeldPass) (did : List Did)
    → mid.seated ≡ held.seated → mid.cpu ≡ held.cpu → Piece table mid after [] did 0
    → Piece table held after [] did 0
roomed_look table held mid after did same cpu piece = record {
  before = piece.before;
  later = piece.later;
  had = sym same ∙ piece.had;
  has = piece.has;
  cpu = piece.cpu ∙ cpu;
  gains = piece.gains;
}

-- LEFT ALONE
pub left_there : (table : TableId) (o : World) (b : BoxView) (held mid after : HeldPass)
    (was : AtWork table o [] 1 held) → mid.seated ≡ held.seated → mid.cpu ≡ held.cpu
    → was.pass.cpu ≡ held.cpu → PartFits b → Agree b was.pass → HasGroup o.tree b.cpu
    → (IsTakable b → ⊥) → IsNoted table b mid after → HasLeftAlone table o b.cpu held after
left_there table o b held mid after was same cpu own fits agree group kept n =
    let opening : b.opening ≡ o = sym agree.opening ∙ was.is.opening in
    record {
      did = n.did;
      piece = roomed_look table held mid after n.did same cpu n.piece;
      left =
          subst (λ c. IsLeftAlone o c b.cpu (deeds_of n.did)) own
          (left_alone o b was.pass opening fits agree was.marked
          (subst (λ (w : World). HasGroup w.tree b.cpu) (sym opening) group) kept (deeds_of n.did)
          n.rest n.seen n.leaf);
    }

-- and still at work after that look
pub looked_work : (table : TableId) (o : World) (marks : List ℕ) (b : BoxView)
    (held mid after : HeldPass) → AtWork table o marks 1 held → mid.seated ≡ held.seated
    → mid.cpu ≡ held.cpu → IsNoted table b mid after → AtWork table o marks 1 after
looked_work table o marks b held mid after was same cpu n =
    still_at_work table o marks 1 1 held after [] n.did 0 was
    (roomed_look table held mid after n.did same cpu n.piece) (omega arith)

-- MARKED, after the looks: the pass has the receipts that it had, and may take what is due
module _ (table : TableId) (b : BoxView) (d : ℕ) (held seen after : HeldPass)
    (n : IsNoted table b held seen) (marked : HasMarked table d seen after) where
  met : marked.before ≡ n.piece.later
  met = gaining.same_pass table seen marked.before n.piece.later marked.had n.piece.has

  same_receipts : receipts_of after.seated ≡ receipts_of held.seated
  same_receipts =
      ap receipts_of marked.has
      ∙ (marked.gains.receipts_are
      ∙ (append-nil marked.before.receipts
      ∙ (ap (λ (x : PassView). x.receipts) met
      ∙ (n.piece.gains.receipts_are
      ∙ (append-nil n.piece.before.receipts ∙ sym (ap receipts_of n.piece.had))))))

  -- there is still room for the drain
  pub still_roomy : (old new : HeldPart) (places : ℕ) → new.box.own.bases ≡ old.box.own.bases
      → new.room ≡ old.room → HasDrainRoom Global old held places
      → HasDrainRoom Global new after places
  still_roomy old new places bases room roomy =
      let journal : length new.box.own.bases.journal ≡ length old.box.own.bases.journal =
      ap (λ (x : CpuBases). length x.journal) bases in
      let items : length (base_of Global new.box.own.bases).items
      ≡ length (base_of Global old.box.own.bases).items =
      ap (λ (x : CpuBases). length (base_of Global x).items) bases in
      let entries : new.room.entries ≡ old.room.entries = ap (λ (x : Room). x.entries) room in
      let told : length (receipts_of after.seated) ≡ length (receipts_of held.seated) =
      ap length same_receipts in
      let same : after.room ≡ held.room = marked.room ∙ n.room in
      let enough = roomy.entries in
      let noted = roomy.receipts in
      let listed = roomy.listed in
      record {
        entries = omega (arith, enough, journal, items, entries);
        receipts = omega (arith, noted, told, items, same);
        listed = omega (arith, listed, items);
      }

  -- it has marked the CPU
  pub may_run_marked : (p q : PassView) (new : BoxView) → IsPassIn table held p
      → IsPassIn table after q → p.cpu ≡ held.cpu → new.own.mark ≡ Some seen.cpu
      → MayRunOf new Global q
  may_run_marked p q new is has own mark =
      let cpu : q.cpu ≡ seen.cpu =
      ap (λ (x : PassView). x.cpu) (gaining.same_pass table after q marked.later has marked.has)
      ∙ (marked.gains.cpu
      ∙ (ap (λ (x : PassView). x.cpu) met
      ∙ (n.piece.gains.cpu
      ∙ (ap (λ (x : PassView). x.cpu)
      (gaining.same_pass table held n.piece.before p n.piece.had is)
      ∙ (own ∙ sym n.piece.cpu))))) in
      inr (refl, mark ∙ ap (λ k. Some k) (sym cpu))

-- TAKEN: the loads, the mark and then the timers
pub taken : (table : TableId) (o : World) (d : ℕ) (items : List Item)
    (held seen mark after : HeldPass) (did : List Did) → Piece table held seen [] did 0
    → HasMarked table d seen mark
    → (receipts : List Receipt) × Piece table mark after receipts [] 0
    × HandsOutItems d mark.cpu Global items receipts → HasTakenTimers table o d items held after
taken table o d items held seen mark after did piece marked out =
    let hand = out.1 in
    let receipts = out.0 in
    let one = gains_with (d ∷ []) piece.before piece.later [] did 0 piece.gains in
    let first = gaining.same_pass table seen marked.before piece.later marked.had piece.has in
    let two = subst (λ (x : PassView). PassGains (with_marks (d ∷ []) x) marked.later [] marked.did 0)
    first marked.gains in
    let then = gaining.same_pass table mark hand.before marked.later hand.had marked.has in
    let three = subst (λ (x : PassView). PassGains x hand.later receipts [] 0) then hand.gains in
    let both = gaining.gains_then (with_marks (d ∷ []) piece.before)
    (with_marks (d ∷ []) piece.later) marked.later [] [] did marked.did 0 0 one two in
    record {
      before = piece.before;
      later = hand.later;
      had = piece.had;
      has = hand.has;
      cpu = hand.cpu ∙ (marked.cpu ∙ piece.cpu);
      receipts = receipts;
      did = (did ++ marked.did) ++ [];
      gains =
          gaining.gains_then (with_marks (d ∷ []) piece.before) marked.later hand.later [] receipts
          (did ++ marked.did) [] 0 0 both three;
      outs =
          subst (λ n. HandsOutItems d n Global items receipts) (marked.cpu ∙ piece.cpu) out.2;
      loads = deeds_of did;
      ends =
          ap deeds_of (append-nil (did ++ marked.did))
          ∙ (deeds_behind did marked.did
          ∙ ap (λ (l : List Deed). deeds_of did ++ l) marked.just);
    }

-- LET GO by carrying
pub let_go_carried : (table : TableId) (o : World) (b : BoxView) (d : ℕ)
    (held mid after : HeldPass) → d ≡ b.cpu → IsNoted table b held mid
    → (next : ℕ) × HasUnmarked table (deeds.Carried d next) mid after
    → HasLetGo table o b.cpu held after
let_go_carried table o b d held mid after is n gone =
    let un = subst (λ c. HasUnmarked table (deeds.Carried c gone.0) mid after) is gone.1 in
    let_go table o b held mid after (deeds.Carried b.cpu gone.0) n un
    (closed_by_carrying o b.cpu (deeds_of n.did) (deeds_of un.did) gone.0 un.just)

-- or by taking the mark back
pub let_go_released : (table : TableId) (o : World) (b : BoxView) (d : ℕ)
    (held mid after : HeldPass) → d ≡ b.cpu → b.opening ≡ o → PartFits b
    → (not b.own.online || not b.own.idle) ≡ true → IsNoted table b held mid
    → HasUnmarked table (deeds.Released d) mid after → HasLetGo table o b.cpu held after
let_go_released table o b d held mid after is opening fits awake n gone =
    let un = subst (λ c. HasUnmarked table (deeds.Released c) mid after) is gone in
    let_go table o b held mid after (deeds.Released b.cpu) n un
    (closed_by_release o b.cpu (deeds_of n.did) (deeds_of un.did) (own_word b.own)
    (shown_cpu b.own) n.rest
    (subst (λ (w : World). deeds_of n.did
    ≡ deeds.Saw (cpu_place w b.cpu) (own_word b.own) ∷ n.rest) opening n.seen) un.just
    (shows_word b fits) awake)

pub awake_by_line : (online idle : Bool) → online ≡ false → (not online || not idle) ≡ true
awake_by_line online idle off = ap (λ t. not t || not idle) off

pub awake_by_rest : (online idle : Bool) → online ≡ true → idle ≡ false
    → (not online || not idle) ≡ true
awake_by_rest online idle on off = λ i. not (on i) || not (off i)

-- a CPU that isn't marked can't be
pub not_takable : (b : BoxView) (taken : Bool) → taken ≡ false → (IsTakable b → taken ≡ true)
    → IsTakable b → ⊥
not_takable b taken is may can = absurd (true≢false (sym (may can) ∙ is))
