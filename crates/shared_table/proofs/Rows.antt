-- parts of CPUs in a row, which are cut off one by one
use Rattle.std.proofs.Common.{◌≡◌, ◌≢◌, ℕ, zero, suc, ◌+◌, ◌<◌, List, [], ◌∷◌, ◌++◌, length, map}
use Rattle.std.proofs.Common.{◌≤◌, refl, sym, ap, ◌∙◌, subst, arith}
use Rattle.std.specs.List.{range_with_len}
use Rattle.tree_plan.specs.Shape.{Shape}
use Rattle.tree_plan.specs.Paths.{cpu_count_of}
use Rattle.core_world.specs.World.{World}
use Rattle.shared_rule.specs.declared.parts.BoxView.{BoxView}
use Rattle.shared_rule.specs.declared.parts.PassView.{PassView}
use Rattle.shared_rule.specs.Rule.{Each, HasFirst, Me, box_cpu, pass_cpu, seat_of}
use Rattle.shared_rule.specs.Starts.{all_boxes, all_passes, first_pass_of, first_view, first_whole}
use Rattle.shared_table.specs.Begun.{boxes_from, first_box_of, passes_from}

module _ {X : Type 0} (f : ℕ → X) where
  -- the last of a row
  pub row_end : (from count : ℕ) → map f (range_with_len from (suc count))
      ≡ map f (range_with_len from count) ++ f (from + count) ∷ []
  row_end from zero = ap (λ c. f c ∷ []) (omega arith)
  row_end from (suc count) =
      ap (λ l. f from ∷ l) (row_end (from + 1) count
      ∙ ap (λ c. map f (range_with_len (from + 1) count) ++ f c ∷ []) (omega arith))

  module _ (cpu : X → ℕ) (named : (c : ℕ) → cpu (f c) ≡ c) where
    -- no part that comes later is that of an earlier CPU
    pub later : (from count c : ℕ) → c < from
        → Each (λ x. cpu x ≢ c) (map f (range_with_len from count))
    later from zero c low = tt
    later from (suc count) c low = (
      (λ same. absurd (let n = named from in omega (arith, low, n, same))),
      later (from + 1) count c (omega (arith, low)),
    )

    -- so the first of a row has no other of its CPU beside it
    pub row_first : (from count : ℕ)
        → HasFirst cpu (map f (range_with_len from (suc count)))
    row_first from count = each_here (later (from + 1) count from (omega arith))
      where
        each_here : Each (λ x. cpu x ≢ from) (map f (range_with_len (from + 1) count))
            → Each (λ x. cpu x ≢ cpu (f from)) (map f (range_with_len (from + 1) count))
        each_here h = subst (λ k. Each (λ x. cpu x ≢ k)
            (map f (range_with_len (from + 1) count))) (sym (named from)) h

-- all box parts of a core are a row, and so are all its pass parts
pub boxes_row : (o : World) (made n : ℕ)
    → all_boxes o (first_whole o made) n ≡ boxes_from o 0 n
boxes_row o made zero = refl
boxes_row o made (suc n) =
    ap (λ l. l ++ first_box_of o n ∷ []) (boxes_row o made n)
    ∙ (ap (λ c. boxes_from o 0 n ++ first_box_of o c ∷ []) (omega arith)
    ∙ sym (row_end (first_box_of o) 0 n))

pub passes_row : (o : World) (made n : ℕ)
    → all_passes (first_whole o made) n ≡ passes_from o made 0 n
passes_row o made zero = refl
passes_row o made (suc n) =
    ap (λ l. l ++ first_pass_of o made n ∷ []) (passes_row o made n)
    ∙ (ap (λ c. passes_from o made 0 n ++ first_pass_of o made c ∷ []) (omega arith)
    ∙ sym (row_end (first_pass_of o made) 0 n))

-- a row of box parts, or of pass parts, has one of the CPU of its first
pub first_box_alone : (o : World) (c rest : ℕ) (bs : List BoxView)
    → bs ≡ boxes_from o c (suc rest) → HasFirst box_cpu bs
first_box_alone o c rest bs is =
    subst (HasFirst box_cpu) (sym is) (row_first (first_box_of o) box_cpu (λ d. refl) c rest)

pub first_pass_alone : (o : World) (made c rest : ℕ) (ps : List PassView)
    → ps ≡ passes_from o made c (suc rest) → HasFirst pass_cpu ps
first_pass_alone o made c rest ps is =
    subst (HasFirst pass_cpu) (sym is)
    (row_first (first_pass_of o made) pass_cpu (λ d. refl) c rest)

-- the seat that knows all of a core has a row of boxes and a row of passes
pub begins_with : (o core : World) (made : ℕ) (me : Me) → core ≡ o
    → me ≡ (first_view core made, [])
    → me ≡ seat_of (boxes_from o 0 (length o.cpus)) (passes_from o made 0 (length o.cpus))
begins_with o core made me same knows =
    knows ∙ (ap (λ (w : World). seat_of (all_boxes w (first_whole w made) (length w.cpus))
    (all_passes (first_whole w made) (length w.cpus))) same ∙ (boxes ∙ passes))
  where
    boxes : seat_of (all_boxes o (first_whole o made) (length o.cpus))
        (all_passes (first_whole o made) (length o.cpus))
        ≡ seat_of (boxes_from o 0 (length o.cpus))
        (all_passes (first_whole o made) (length o.cpus))
    boxes = ap (λ bs. seat_of bs (all_passes (first_whole o made) (length o.cpus)))
        (boxes_row o made (length o.cpus))

    passes : seat_of (boxes_from o 0 (length o.cpus))
        (all_passes (first_whole o made) (length o.cpus))
        ≡ seat_of (boxes_from o 0 (length o.cpus)) (passes_from o made 0 (length o.cpus))
    passes = ap (seat_of (boxes_from o 0 (length o.cpus))) (passes_row o made (length o.cpus))

-- room for as many as a core's tree has CPUs is room for all CPUs of the world that it is
pub room_for_all : (o core : World) (tree : Shape) (count room : ℕ) → core ≡ o → tree ≡ core.tree
    → length core.cpus ≡ cpu_count_of core.tree → count ≡ cpu_count_of tree → count ≤ room
    → length o.cpus ≤ room
room_for_all o core tree count room same planted sized counted enough =
    let many = ap (λ (w : World). length w.cpus) same in
    let of_tree = counted ∙ ap cpu_count_of planted in
    omega (arith, many, sized, of_tree, enough)
