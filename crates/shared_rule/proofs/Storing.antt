-- for crates above: a walk that tells stores an event in its group
use Rattle.std.proofs.Common.{◌≡◌, ◌≢◌, ℕ, zero, suc, ◌<◌, cond, Bool, true, false, []}
use Rattle.std.proofs.Common.{◌∷◌, length, Option, Some, None, refl, sym, ap, ◌∙◌, subst}
use Rattle.std.specs.Prelude.{◌&&◌, nat_le, not, option_map, unwrap_or}
use Rattle.std.proofs.lemmas.Option.{same_Some}
use Rattle.event_queue.specs.declared.event.Event.{Event}
use Rattle.event_queue.specs.Word.{slot_word}
use Rattle.tree_plan.specs.Paths.{group_at_of}
use Rattle.walk_rules.specs.declared.walk.Walk.{Walk}
use Rattle.walk_rules.specs.declared.walk.Stage.TheVariants as stages
use Rattle.walk_rules.specs.Hierarchy.{at_top, side}
use Rattle.walk_rules.specs.Stages.{forget, is_remote, leaf_event, store_next, stored_event}
use Rattle.walk_rules.specs.Stages.{with_event}
use Rattle.core_world.specs.Enabled.{MayGoOn}
use Rattle.core_world.specs.Steps.{here, walked, walks_at, with_walk}
use Rattle.core_world.specs.World.{World, CpuRecord, cpu_of, group_of, is_reading, moved}
use Rattle.core_state.specs.core_facts.Exchanges.{stage_number}
use Rattle.shared_words.specs.Words.{word_of_slot}
use Rattle.shared_rule.specs.CoreLaws.{CoreLaws}
use Rattle.shared_rule.specs.Whole.{Whole, box_of, leaf_of, slot_at}
use Rattle.shared_rule.specs.Shows.{IsShown}
use Rattle.shared_rule.specs.Rule.{Goes, seat_of}
use Rattle.shared_rule.specs.Plays.{leaf_after, on_box, stored_box, stored_leaf, stored_walk}
use Rattle.shared_rule.specs.Laws.{StoreStays, walk_always}
use Rattle.shared_rule.proofs.Marking.{leaves_above, leaves_at, own_at}
use Rattle.shared_rule.proofs.Owing.{owes_kept}
use Rattle.shared_rule.proofs.Slotting.{slotted}
use Rattle.shared_rule.proofs.Walking.{at_walk, walk_is}

-- a walk that has stored
store_reads : (b : Bool) → is_reading (cond b (stages.First 0) stages.FreeGroup) ≡ false
store_reads true = refl
store_reads false = refl

store_past : (b : Bool)
    → nat_le 5 (stage_number (cond b (stages.First 0) stages.FreeGroup)) ≡ true
store_past true = refl
store_past false = refl

stored_forget : (level c : ℕ) (k : Walk) → stored_event level c (forget k) ≡ stored_event level c k
stored_forget zero c k = refl
stored_forget (suc l) c k = refl

no_stray : (e : Option Event) → word_of_slot false e ≡ slot_word e
no_stray None = refl
no_stray (Some e) = refl

-- what a walk stores at a level, and the slots that CPUs have in their leaves then
module _ (law : CoreLaws) (o : World) (s : Whole) (h : IsShown o s) (c g : ℕ)
    (in_range : g < length o.groups) (k : Walk) (y : CpuRecord) where
  abbrev made_at : ℕ → World
  made_at level =
      moved s.world g
      (with_event (group_of s.world g) (side s.world.tree c level) (stored_event level c k)) c y
      false

  leaf_stored : (level : ℕ) → group_at_of s.world.tree c level ≡ Some g
      → side s.world.tree c level < 8
      → leaf_after level (leaf_event c k.next) (leaf_of s.world c) ≡ leaf_of (made_at level) c
  leaf_stored zero path low =
      sym (own_at law o s h c g 0 in_range path low (leaf_event c k.next) y refl)
  leaf_stored (suc l) path low =
      sym (leaves_above law o s h c g (suc l) in_range path low (stored_event (suc l) c k) y l
      refl c)

  leaves_stored : (level : ℕ) → group_at_of s.world.tree c level ≡ Some g
      → side s.world.tree c level < 8
      → (d : ℕ) → d ≢ c → leaf_of (made_at level) d ≡ leaf_of s.world d
  leaves_stored zero path low d ne =
      leaves_at law o s h c g 0 in_range path low (leaf_event c k.next) y refl d ne
  leaves_stored (suc l) path low d ne =
      leaves_above law o s h c g (suc l) in_range path low (stored_event (suc l) c k) y l refl d

pub stores : (law : CoreLaws) (o : World) → StoreStays o
stores law o slots id g new b k ps low may new_is =
    at_walk law o slots id b k ps (slot_at g (side o.tree b.cpu k.level)) (λ n. new) (walk_always b.cpu)
    (λ z n v. v ≡ on_box stored_box (seat_of (z ∷ []) ps))
    stages.Store (λ l. l) g (may.group, low) may
    (λ s j is same q.
    let w = s.world in
    let c = b.cpu in
    let h = q.shown in
    let n = side w.tree c j.level in
    let e = stored_event j.level c j in
    let top = at_top o.tree c j.level in
    let first = top && (not j.on && not (is_remote j.kind)) in
    let to : Walk = store_next top j in
    let y : CpuRecord = with_walk (cpu_of w c) (Some to) in
    let lv : j.level ≡ k.level = ap (λ (z : Walk). z.level) same in
    let low' : n < 8 =
    subst (λ z. side z c j.level < 8) (sym h.same.tree)
    (subst (λ z. side o.tree c z < 8) (sym lv) low) in
    let at_g : here w c j ≡ g = ap (λ m. unwrap_or m 0) q.path in
    let word : new ≡ slot_word e
    = new_is
    ∙ (ap (λ (z : Walk). slot_word (stored_event z.level c z)) (sym same)
    ∙ ap slot_word (stored_forget j.level c j)) in
    subst
    (λ z. Goes o s (box_of o s c) ps (slot_at g (side o.tree c z)) (λ n. new) (walk_always c)
    (λ n v. v ≡ on_box stored_box (seat_of (box_of o s c ∷ []) ps))) lv
    (subst
    (λ z. Goes o s (box_of o s c) ps (slot_at g (side z c j.level)) (λ n. new) (walk_always c)
    (λ n v. v ≡ on_box stored_box (seat_of (box_of o s c ∷ []) ps))) h.same.tree
    (slotted law o s c g n e false j (Some to)
    (leaf_after j.level (leaf_event c j.next) (leaf_of w c)) ps (λ n. new)
    (λ n v. v ≡ on_box stored_box (seat_of (box_of o s c ∷ []) ps)) stages.Store j.level q
    (record {
      low = low';
      may = subst (MayGoOn w c j) (sym q.stage) tt;
      is =
          ap (walked w c j) q.stage
          ∙ (λ i. walks_at w c (at_g i) (with_event (group_of w (at_g i)) n e)
          (store_next (at_top (h.same.tree i) c j.level) j));
      kind = λ z u. ap (λ (x : Walk). x.kind) (sym (same_Some _ _ u));
      reads = λ z u.
          ap (λ (x : Walk). is_reading x.stage) (sym (same_Some _ _ u)) ∙ store_reads first;
      reeval = refl;
      owed = λ m.
          owes_kept o.tree m c to j refl refl
          (store_past first ∙ sym (ap (λ z. nat_le 5 (stage_number z)) q.stage));
      leaf_is = leaf_stored law o s h c g q.group j y j.level q.path low';
      leaves = leaves_stored law o s h c g q.group j y j.level q.path low';
      word = no_stray e ∙ sym word;
      told = λ i. seat_of (record (box_of o s c) {
        own = walk_is o s c j to stored_walk q.walk refl i;
        leaf = stored_leaf (box_of o s c) (option_map forget (sym q.walk i));
      } ∷ []) ps;
    }))))
