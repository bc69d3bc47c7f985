-- all passes and all boxes in one seat, and the CPUs of the boxes
use Rattle.std.proofs.Common.{◌≡◌, ℕ, zero, suc, false, List, [], ◌∷◌, ◌++◌, length, map}
use Rattle.std.proofs.Common.{None, refl, sym, ap, ◌∙◌, subst}
use Rattle.std.proofs.lemmas.List.{append-nil}
use Rattle.atomic_table.specs.Seated.{TableId}
use Rattle.core_world.specs.World.{CpuRecord, World}
use Rattle.shared_rule.specs.declared.parts.PassView.{PassView}
use Rattle.shared_rule.specs.declared.parts.View.{View}
use Rattle.shared_rule.specs.Rule.{Each, Me, box_cpu, pass_cpu, seat_of, seen}
use Rattle.shared_table.specs.Endings.{HasAllParts, own_of}
use Rattle.shared_rule.specs.Parts.{HeldPart}
use Rattle.shared_rule.specs.Passes.{HeldPass, IsOfRun, passes_of}
use Rattle.shared_rule.specs.Starts.{IsFull}
use Rattle.shared_table.specs.Begun.{IsFree}
use Rattle.shared_table.specs.Ended.{AreAllPasses, AreCpusWhole, PassesFrom}
use Rattle.shared_table.specs.Joined.{boxes_of, owns_of, parts_of, with_boxes, with_passes}
use Rattle.shared_table.proofs.Behind.{nothing_behind}
use Rattle.shared_table.proofs.Ordered.{FromOn, full}

-- the parts of passes of the CPUs from k on
record PartsFrom (table : TableId) (k : ℕ) (ps : List HeldPass) : Type 0 where
  of_run : Each (IsOfRun table) ps
  order : FromOn pass_cpu k (parts_of ps)
  outside : Each (λ p. p.inside ≡ false) (parts_of ps)
  count : length (parts_of ps) ≡ length ps

parts_from : (table : TableId) (k : ℕ) (ps : List HeldPass) → PassesFrom table k ps
    → PartsFrom table k ps
parts_from table k [] h = record { of_run = tt; order = tt; outside = tt; count = refl }
parts_from table k (p ∷ ps) h =
    let a = h.0 in
    let e : passes_of p.seated ≡ a.part ∷ [] = ap passes_of a.seated in
    let r = parts_from table (suc k) ps h.1 in
    record {
      of_run = ((a.part, a.seated), r.of_run);
      order = subst (λ l. FromOn pass_cpu k (l ++ parts_of ps)) (sym e) (a.cpu, r.order);
      outside = subst (λ l. Each (λ (z : PassView). z.inside ≡ false) (l ++ parts_of ps)) (sym e)
          (a.outside, r.outside);
      count = ap (λ l. length (l ++ parts_of ps)) e ∙ ap suc r.count;
    }

module _ (table : TableId) (n : ℕ) (ps : List HeldPass) (all : AreAllPasses table n ps) where
  abbrev all_from : PartsFrom table 0 ps
  all_from = parts_from table 0 ps all.each

  -- all passes of a run are of the run
  pub are_of_run : Each (IsOfRun table) ps
  are_of_run = all_from.of_run

  -- their parts are one for each CPU
  pub passes_full : IsFull n pass_cpu (parts_of ps)
  passes_full = full pass_cpu n (parts_of ps) (all_from.count ∙ all.count) all_from.order

  pub passes_outside : Each (λ p. p.inside ≡ false) (parts_of ps)
  passes_outside = all_from.outside

-- boxes that lie behind their locks have no walk
walkless : (ps : List HeldPart) → Each IsFree ps → Each (λ b. b.own.walk ≡ None) (boxes_of ps)
walkless [] h = tt
walkless (p ∷ ps) h = (h.0.walkless, walkless ps h.1)

own_boxes : (ps : List HeldPart) → owns_of ps ≡ map own_of (boxes_of ps)
own_boxes [] = refl
own_boxes (p ∷ ps) = ap (λ l. p.box.own ∷ l) (own_boxes ps)

-- nor is any of their bases behind
pub all_whole : (ps : List HeldPart) → Each IsFree ps → AreCpusWhole (owns_of ps)
all_whole [] h c = nothing_behind
all_whole (p ∷ ps) h zero = h.0.whole
all_whole (p ∷ ps) h (suc c) = all_whole ps h.1 c

-- a seat without parts that takes in passes and then boxes
pub taken_in : (m k j : Me) (ps : List HeldPass) (bs : List HeldPart) → m ≡ seat_of [] []
    → k ≡ with_passes m ps → j ≡ with_boxes k bs → j ≡ seat_of (boxes_of bs) (parts_of ps)
taken_in m k j ps bs none first then =
    then ∙ (ap (λ (z : Me). with_boxes z bs) (first ∙ ap (λ (z : Me). with_passes z ps) none)
    ∙ ap (seat_of (boxes_of bs)) (append-nil (parts_of ps)))

-- it has all parts
pub has_all : (o : World) (v : View) (cpus : List CpuRecord) (ps : List HeldPass)
    (bs : List HeldPart) (table : TableId) → AreAllPasses table (length o.cpus) ps
    → IsFull (length o.cpus) box_cpu (boxes_of bs) → Each IsFree bs
    → v ≡ seen (boxes_of bs) (parts_of ps) → cpus ≡ owns_of bs → HasAllParts o v cpus
has_all o v cpus ps bs table all boxes free is owns =
    subst (λ (z : View). HasAllParts o z cpus) (sym is)
    (record {
      all = record {
        boxes = boxes;
        passes = passes_full table (length o.cpus) ps all;
        free = walkless bs free;
        outside = passes_outside table (length o.cpus) ps all;
      };
      cpus_are = owns ∙ own_boxes bs;
    })
