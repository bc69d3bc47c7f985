-- a part of which a pass has loaded words, and a CPU that may be marked
use Rattle.std.proofs.Common.{◌≡◌, inl, inr, ⊎_elim, ℕ, ◌≤◌, List, [], ◌∷◌, Option, Some, None}
use Rattle.std.proofs.Common.{refl, sym, ap, ◌∙◌, subst, true}
use Rattle.std.specs.Prelude.{false, is_some, option_map}
use Rattle.tm_base.specs.declared.names.GroupId.{GroupId}
use Rattle.event_queue.specs.declared.event.Event.{Event}
use Rattle.event_queue.specs.EventMap.{Counts}
use Rattle.event_queue.specs.Word.{slot_of}
use Rattle.tree_plan.specs.Paths.{group_at_of}
use Rattle.walk_rules.specs.Hierarchy.{HasGroup}
use Rattle.core_world.specs.World.{World}
use Rattle.shared_cpus.specs.core_state.Shown.{as_cpu}
use Rattle.shared_cpus.specs.shared_rule.declared.parts.BoxView.{BoxView}
use Rattle.shared_cpus.specs.shared_rule.declared.parts.PassView.{PassView}
use Rattle.shared_cpus.specs.shared_rule.Plays.{head_pass, seen_pass}
use Rattle.shared_cpus.specs.shared_rule.Whole.{own_word}
use Rattle.shared_cpus.specs.shared_rule.Parts.{HasGuest, HeldPart, without_guest}
use Rattle.shared_cpus.specs.Conditions.{IsDueThere}
use Rattle.shared_cpus.specs.Pairs.{HasOne, box_by, cpu_place, leaf_place, with_seen}
use Rattle.shared_looks.specs.Marks.{IsNoticed, cpu_word_seen, leaf_seen}

-- loads leave the box
same_box : (b : BoxView) (ps : List PassView) → box_by (λ b p. b) b ps ≡ b
same_box b [] = refl
same_box b (p ∷ ps) = refl

pub box_after : (word found : ℕ) (part : HeldPart) → (with_seen word found part).box ≡ part.box
box_after word found part = same_box part.box part.brought

pub off_after : (word found : ℕ) (part : HeldPart)
    → without_guest (with_seen word found part) ≡ without_guest part
off_after word found part =
    ap (λ (b : BoxView). record part { box = b; brought = []; receipts_room = 0 })
    (same_box part.box part.brought)

-- and the pass is still brought
pub one_after : (word found : ℕ) (part : HeldPart) → HasOne part → HasOne (with_seen word found part)
one_after word found part one =
    (seen_pass word found one.0, ap (head_pass (seen_pass word found)) one.1)

pub guest_after : (word found cpu : ℕ) (part : HeldPart) → HasGuest cpu part
    → HasGuest cpu (with_seen word found part)
guest_after word found cpu part one =
    (seen_pass word found one.0, ap (head_pass (seen_pass word found)) one.1, one.2)

-- a CPU that has no group, as its tree says
pub no_group : (o : World) (b : BoxView) (m : Option GroupId) → m ≡ None → b.opening ≡ o
    → option_map (λ (g : GroupId). g.0) m ≡ group_at_of o.tree b.cpu 0
    → group_at_of b.opening.tree b.cpu 0 ≡ None
no_group o b m none opening path =
    ap (λ (w : World). group_at_of w.tree b.cpu 0) opening
    ∙ (sym path ∙ ap (option_map (λ (g : GroupId). g.0)) none)

-- and one that has
pub has_group : (o : World) (b : BoxView) (m : Option GroupId) (g : GroupId) → m ≡ Some g
    → b.opening ≡ o → option_map (λ (g : GroupId). g.0) m ≡ group_at_of o.tree b.cpu 0
    → HasGroup b.opening.tree b.cpu
has_group o b m g some opening path = (
  g.0,
  ap (λ (w : World). group_at_of w.tree b.cpu 0) opening
      ∙ (sym path ∙ ap (option_map (λ (g : GroupId). g.0)) some),
)

-- one load, where the CPU has no group
pub noticed_alone : (part new : HeldPart) (word : ℕ)
    → new ≡ with_seen (cpu_place part.box.opening part.box.cpu) word part
    → word ≡ own_word part.box.own → group_at_of part.box.opening.tree part.box.cpu 0 ≡ None
    → IsNoticed part new
noticed_alone part new word same is none =
    record { word = word; word_is = is; then = inl (none, same) }

-- and two where it has one
pub noticed_both : (part mid new : HeldPart) (word slot : ℕ)
    → mid ≡ with_seen (cpu_place part.box.opening part.box.cpu) word part
    → word ≡ own_word part.box.own → HasGroup part.box.opening.tree part.box.cpu
    → new ≡ with_seen (leaf_place mid.box.opening mid.box.cpu) slot mid
    → slot_of slot ≡ mid.box.leaf → IsNoticed part new
noticed_both part mid new word slot same is group then leaf =
    let box : mid.box ≡ part.box = ap (λ (z : HeldPart). z.box) same
    ∙ box_after (cpu_place part.box.opening part.box.cpu) word part in
    record {
      word = word;
      word_is = is;
      then = inr (
        group,
        (
          slot,
          leaf ∙ ap (λ (b : BoxView). b.leaf) box,
          then
              ∙ ((λ i. with_seen (leaf_place (box i).opening (box i).cpu) slot mid)
              ∙ ap (with_seen (leaf_place part.box.opening part.box.cpu) slot) same),
        ),
      );
    }

-- a part of which words were loaded has its box, and its pass
pub noticed_off : (part new : HeldPart) → IsNoticed part new → without_guest new ≡ without_guest part
noticed_off part new noticed = ⊎_elim
    (λ (one : (group_at_of part.box.opening.tree part.box.cpu 0 ≡ None)
    × (new ≡ cpu_word_seen noticed.word part)).
    ap without_guest one.1
    ∙ off_after (cpu_place part.box.opening part.box.cpu) noticed.word part)
    (λ (two : HasGroup part.box.opening.tree part.box.cpu
    × ((slot : ℕ) × (slot_of slot ≡ part.box.leaf)
    × (new ≡ leaf_seen noticed.word slot part))).
    ap without_guest two.1.2
    ∙ (off_after (leaf_place part.box.opening part.box.cpu) two.1.0 (cpu_word_seen noticed.word part)
    ∙ off_after (cpu_place part.box.opening part.box.cpu) noticed.word part))
    noticed.then

pub noticed_guest : (cpu : ℕ) (part new : HeldPart) → HasGuest cpu part → IsNoticed part new
    → HasGuest cpu new
noticed_guest cpu part new guest noticed = ⊎_elim
    (λ (one : (group_at_of part.box.opening.tree part.box.cpu 0 ≡ None)
    × (new ≡ cpu_word_seen noticed.word part)).
    subst (HasGuest cpu) (sym one.1)
    (guest_after (cpu_place part.box.opening part.box.cpu) noticed.word cpu part guest))
    (λ (two : HasGroup part.box.opening.tree part.box.cpu
    × ((slot : ℕ) × (slot_of slot ≡ part.box.leaf)
    × (new ≡ leaf_seen noticed.word slot part))).
    subst (HasGuest cpu) (sym two.1.2)
    (guest_after (leaf_place part.box.opening part.box.cpu) two.1.0 cpu (cpu_word_seen noticed.word part)
    (guest_after (cpu_place part.box.opening part.box.cpu) noticed.word cpu part guest)))
    noticed.then

-- a CPU that is due in its leaf
pub due_there : (b : BoxView) (now : ℕ) (e : Event) → HasGroup b.opening.tree b.cpu
    → now ≡ b.opening.clock → b.leaf ≡ Some e → Counts e → e.expiry ≤ now → IsDueThere b
due_there b now e group is there counts come = record {
  leaf = group.0;
  event = e;
  path = group.1;
  there = there;
  counts = counts;
  come = subst (λ n. e.expiry ≤ n) is come;
}

-- the event of a CPU that is due in its leaf
pub due_event : (b : BoxView) (now : ℕ) (e : Event) → now ≡ b.opening.clock → b.leaf ≡ Some e
    → IsDueThere b → Counts e × (e.expiry ≤ now)
due_event b now e is there due =
    let same : due.event ≡ e = let other = due.there in cc (there, other) in (
      subst Counts same due.counts,
      subst (λ n. e.expiry ≤ n) (sym is)
          (subst (λ (x : Event). x.expiry ≤ b.opening.clock) same due.come),
    )

-- a CPU that has a group, as its tree answers
pub has_some_group : (o : World) (b : BoxView) (m : Option GroupId) → is_some m ≡ true
    → b.opening ≡ o → option_map (λ (g : GroupId). g.0) m ≡ group_at_of o.tree b.cpu 0
    → HasGroup b.opening.tree b.cpu
has_some_group o b None is opening path = cc
has_some_group o b (Some g) is opening path = has_group o b (Some g) g refl opening path

-- a CPU that shows no mark has none
pub unmarked : (m : Option ℕ) → is_some (option_map as_cpu m) ≡ false → m ≡ None
unmarked None is = refl
unmarked (Some c) is = cc
