-- the lengths of the runs that rows are cut into, as the code makes them
use Rattle.std.proofs.Common.{◌≡◌, ℕ, zero, suc, ◌+◌, ◌-◌, ◌<◌, ◌≤◌, min, List, [], ◌∷◌, ◌++◌, length, map, refl, sym, ◌∙◌, ap, arith, add-one, append_assoc, get_or, drop}
use Rattle.std.specs.Prelude.{flat_map, Option, None, slice_get, if◌then◌else◌}
use Rattle.std.specs.FinSet.{contains}
use Rattle.std.proofs.lemmas.List.{append-nil, at_drop_more, at_drop_all, drop_all}
use Rattle.std.proofs.lemmas.List.FromFn.{map-range_with_len_more}
use Rattle.tree_plan.specs.declared.cutting.Link.{Link}
use Rattle.tree_plan.specs.declared.cutting.Group.{Group}
use Rattle.tm_base.specs.CpuSet.{Cpus}
use Rattle.tree_plan.specs.Shape.{placed_from}
use Rattle.tree_plan.specs.Store.{lengths_of, groups_for, run_lengths, listed, links_to, links_from, seat_link, seat_links}

pub groups_more : (m : ℕ) → 0 < m → groups_for m ≡ suc (groups_for (m - 8))
groups_more m h = omega arith

-- a row that isn't empty has one run of eight, or fewer, and the runs of what is left
pub run_more : (m : ℕ) → 0 < m → run_lengths m ≡ min 8 m ∷ run_lengths (m - 8)
unfolding lengths_of
run_more m h = ap (λ n. lengths_of n m) (groups_more m h)

pub length-lengths_of : (n m : ℕ) → length (lengths_of n m) ≡ n
unfolding lengths_of
length-lengths_of zero m = refl
length-lengths_of (suc n) m = ap suc (length-lengths_of n (m - 8))

-- the groups of a level from one run on, and then those of the runs behind it
pub listed-append : (level place : ℕ) (ns ms : List ℕ) →
    listed level place (ns ++ ms) ≡ listed level place ns ++ listed level (place + length ns) ms
unfolding listed
listed-append level place [] ms = ap (λ p. listed level p ms) (omega arith)
listed-append level place (n ∷ ns) ms =
    ap (λ gs. record { level = level; place = place; children = n } ∷ gs) (listed-append level (suc place) ns ms ∙ ap (λ p. listed level (suc place) ns ++ listed level p ms) (omega arith))

-- one more group of a row
pub row_more : (level place left children : ℕ) (old new : List Group) → 0 < left → children ≡ min left 8 →
    new ≡ old ++ (record { level = level; place = place; children = children } ∷ []) →
    new ++ listed level (place + 1) (run_lengths (left - children)) ≡ old ++ listed level place (run_lengths left)
unfolding listed
row_more level place left children old new some few added =
    let size : min 8 left ≡ children = omega arith in
    let left_over : left - 8 ≡ left - children = omega arith in
    let group : ℕ → Group = λ n. record { level = level; place = place; children = n } in
    let after : listed level place (run_lengths left) ≡ group children ∷ listed level (place + 1) (run_lengths (left - children)) =
    ap (listed level place) (run_more left some) ∙ rw (size, left_over, add-one) refl in
    ap (λ gs. gs ++ listed level (place + 1) (run_lengths (left - children))) added
    ∙ append_assoc old (group children ∷ []) (listed level (place + 1) (run_lengths (left - children)))
    ∙ ap (λ gs. old ++ gs) (sym after)

-- no more group of a row
pub row_done : (level place left : ℕ) (gs : List Group) → left ≡ 0 → gs ++ listed level place (run_lengths left) ≡ gs
unfolding listed lengths_of
row_done level place left gs none = ap (λ n. gs ++ listed level place (run_lengths n)) none ∙ append-nil gs

-- one more row of a level
pub level_more : (level place next i : ℕ) (rows : List ℕ) (old new : List Group) → i < length rows →
    new ≡ old ++ listed level place (run_lengths (get_or rows i 0)) → next ≡ place + groups_for (get_or rows i 0) →
    new ++ listed level next (flat_map run_lengths (drop (i + 1) rows)) ≡ old ++ listed level place (flat_map run_lengths (drop i rows))
level_more level place next i rows old new within added behind =
    let row = get_or rows i 0 in
    let rest = flat_map run_lengths (drop (i + 1) rows) in
    let all : flat_map run_lengths (drop i rows) ≡ run_lengths row ++ rest = at_drop_more (flat_map run_lengths) rows i 0 within in
    let at_next : place + length (run_lengths row) ≡ next = omega (arith, length-lengths_of (groups_for row) row) in
    let after : listed level place (flat_map run_lengths (drop i rows)) ≡ listed level place (run_lengths row) ++ listed level next rest =
    ap (listed level place) all ∙ (listed-append level place (run_lengths row) rest ∙ ap (λ p. listed level place (run_lengths row) ++ listed level p rest) at_next) in
    ap (λ gs. gs ++ listed level next rest) added
    ∙ (append_assoc old (listed level place (run_lengths row)) (listed level next rest) ∙ ap (λ gs. old ++ gs) (sym after))

-- no more row of a level
pub level_done : (level place i : ℕ) (rows : List ℕ) (gs : List Group) → length rows ≤ i →
    gs ++ listed level place (flat_map run_lengths (drop i rows)) ≡ gs
unfolding listed
level_done level place i rows gs done = ap (λ ns. gs ++ listed level place ns) (at_drop_all (flat_map run_lengths) rows i done) ∙ append-nil gs

pub links_none : (g : ℕ) (old : List Link) → old ≡ old ++ links_to g 0
unfolding links_to
links_none g old = sym (append-nil old)

-- one more link to a group
pub links_more : (g k : ℕ) (old now new : List Link) → now ≡ old ++ links_to g k →
    new ≡ now ++ (record { parent = record { 0 = g }; bit = k } ∷ []) → new ≡ old ++ links_to g (k + 1)
unfolding links_to
links_more g k old now new before added =
    let link : ℕ → Link = λ n. record { parent = record { 0 = g }; bit = n } in
    added ∙ (ap (λ ls. ls ++ (link k ∷ [])) before
    ∙ (append_assoc old (links_to g k) (link k ∷ []) ∙ ap (λ ls. old ++ ls) (sym (map-range_with_len_more link 0 k k (omega arith)))))

-- the links of one more group
pub group_links_more : (i : ℕ) (groups : List Group) (d : Group) (old new : List Link) → i < length groups →
    new ≡ old ++ links_to i ((get_or groups i d).children) →
    new ++ links_from (i + 1) (map (λ (g : Group). g.children) (drop (i + 1) groups)) ≡ old ++ links_from i (map (λ (g : Group). g.children) (drop i groups))
unfolding links_from
group_links_more i groups d old new within added =
    let sizes : List Group → List ℕ = λ gs. map (λ (g : Group). g.children) gs in
    let rest = links_from (i + 1) (sizes (drop (i + 1) groups)) in
    let here = links_to i ((get_or groups i d).children) in
    let after : links_from i (sizes (drop i groups)) ≡ here ++ rest =
    at_drop_more (λ gs. links_from i (sizes gs)) groups i d within ∙ ap (λ n. here ++ links_from n (sizes (drop (i + 1) groups))) (sym (add-one i)) in
    ap (λ ls. ls ++ rest) added ∙ (append_assoc old here rest ∙ ap (λ ls. old ++ ls) (sym after))

pub group_links_done : (i : ℕ) (groups : List Group) (ls : List Link) → length groups ≤ i →
    ls ++ links_from i (map (λ (g : Group). g.children) (drop i groups)) ≡ ls
unfolding links_from
group_links_done i groups ls done =
    ap (λ gs. ls ++ links_from i (map (λ (g : Group). g.children) gs)) (drop_all i groups done) ∙ append-nil ls

-- one CPU more
pub seats_more : (isolated : Cpus) (links : List Link) (cpu next : ℕ) (seat : Option Link) (old new : List (Option Link)) →
    next ≡ length (placed_from isolated 0 cpu) → old ≡ seat_links isolated links cpu →
    seat ≡ (if contains isolated cpu then None else slice_get links next) → new ≡ old ++ seat ∷ [] →
    new ≡ seat_links isolated links (cpu + 1)
seats_more isolated links cpu next seat old new count before here added =
    added ∙ ((λ i. before i ++ (here ∙ ap (λ n. if contains isolated cpu then None else slice_get links n) count) i ∷ [])
    ∙ sym (map-range_with_len_more (seat_link isolated links) 0 cpu cpu (omega arith)))
