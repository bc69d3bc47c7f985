-- a load of a slot by a pass finds the event of a CPU of the run that has a group, or none
use Rattle.std.proofs.Common.{◌≡◌, inl, inr, ℕ, ◌<◌, [], ◌∷◌, Some, length, refl, sym, ap, ◌∙◌}
use Rattle.std.proofs.Common.{subst, arith}
use Rattle.std.proofs.lemmas.Bool.{cases_eq}
use Rattle.std.proofs.lemmas.Option.{none-some}
use Rattle.tree_plan.specs.Laws.{PathLaws}
use Rattle.tree_plan.specs.Paths.{group_at_of, level_count_of}
use Rattle.tree_plan.specs.Shape.{Shape}
use Rattle.walk_rules.specs.Hierarchy.{HasGroup}
use Rattle.core_world.specs.World.{World}
use Rattle.shared_words.specs.Layout.{index_of}
use Rattle.shared_rule.specs.declared.parts.Deed.TheVariants as deeds
use Rattle.shared_rule.specs.declared.parts.PassView.{PassView}
use Rattle.shared_rule.specs.CoreLaws.{CoreLaws}
use Rattle.shared_rule.specs.Whole.{Whole, layout_of, slot_at, word_at}
use Rattle.shared_rule.specs.Shows.{IsShown}
use Rattle.shared_rule.specs.Rule.{seat_of}
use Rattle.shared_rule.specs.Plays.{on_pass, seen_pass}
use Rattle.shared_rule.proofs.Looking.{loads, looked}
use Rattle.shared_rule.proofs.Sights.{slot_shown}
use Rattle.shared_rule.specs.Slots.{HasEventOf, IsGrouped, SeeSlotStays}

-- a CPU that has a group at a level has a leaf
has_leaf : (t : Shape) (c l g : ℕ) → PathLaws t → group_at_of t c l ≡ Some g → HasGroup t c
has_leaf t c l g paths at =
    let some_level : 0 < level_count_of t = elim (cases_eq (level_count_of t) 0) [
      | inl is ↦
          absurd (none-some _ (sym (paths.beyond c l (omega (arith, is))) ∙ at))
      | inr ne ↦ omega (arith, ne)
    ] in
    paths.there c 0 (paths.cpu_placed c l g at) some_level

-- the event in a slot's word is that of a CPU of the run that has a group
names_cpu : (law : CoreLaws) (o : World) (s : Whole) (h : IsShown o s) (g child : ℕ) (q : PassView)
    → q ≡ s.pass q.cpu → HasEventOf (q ∷ []) (word_at s (slot_at g child))
names_cpu law o s h g child q known e at =
    let opened = ap (λ (z : PassView). z.opening) known ∙ h.opened q.cpu in
    let there = slot_shown law o s h g child ∙ at in
    let r = ((law.bounds s.world h.fits.lawful).group g).event child e there in
    let by = h.fits.lawful.event_origins.below g child e there in
    let leaf = has_leaf s.world.tree e.cpu.0 by.level g (law.paths s.world.tree h.fits.planned)
    by.into in
    subst (λ (w : World). IsGrouped w e.cpu.0) (sym opened) (
      omega (arith, r.cpu, h.same.cpus),
      subst (λ (t : Shape). HasGroup t e.cpu.0) h.same.tree leaf,
    )

pub sees_slot : (law : CoreLaws) (o : World) → SeeSlotStays o
sees_slot law o slots id g child q low in_range =
    let m = slot_at g child in
    loads o slots id q m
    (λ n v. (v ≡ on_pass (seen_pass (index_of (layout_of o) m) n) (seat_of [] (q ∷ [])))
    × HasEventOf (q ∷ []) n) (low, in_range)
    (λ s h known. record {
      did = record {
        held = length q.receipts;
        deed = deeds.Saw (index_of (layout_of o) m) (word_at s m);
      };
      right = looked law o s h q m (low, in_range) known;
      told = (refl, names_cpu law o s h g child q known);
    })
