-- lists of looks that grow by one at their end
use Rattle.std.proofs.Common.{◌≡◌, ℕ, suc, ◌+◌, false, List, [], ◌∷◌, ◌++◌, length}
use Rattle.std.proofs.Common.{refl, sym, ap, ◌∙◌, arith, length-append}
use Rattle.std.specs.List.{fold, list_any}
use Rattle.std.specs.Prelude.{◌||◌}
use Rattle.std.proofs.lemmas.List.Folds.{list_any-append}
use Rattle.event_queue.specs.Word.{slot_of}
use Rattle.walk_rules.specs.Stages.{first_of}
use Rattle.core_world.specs.World.{World}
use Rattle.shared_words.specs.Exchanges.{shows_migrator}
use Rattle.shared_walks.specs.Steps.{slot_place, state_place}
use Rattle.walk_inactive.specs.Looks.{first_by, group_looks, walk_slot_looks}

-- one more at the end
pub longer : {X : Type 0} (xs : List X) (x : X) → length (xs ++ x ∷ []) ≡ suc (length xs)
longer xs x = length-append xs (x ∷ []) ∙ omega arith

pub group_look_at_end : (o : World) (cpu level : ℕ) (xs : List ℕ) (x : ℕ)
    → group_looks o cpu level (xs ++ x ∷ [])
    ≡ group_looks o cpu level xs
    ++ record { word = state_place o cpu (length xs + level); found = x } ∷ []
group_look_at_end o cpu level [] x =
    let none : length {A = ℕ} [] + level ≡ level = omega arith in
    ap (λ l. record { word = state_place o cpu l; found = x } ∷ []) (sym none)
group_look_at_end o cpu level (y ∷ ys) x =
    let same : length ys + suc level ≡ suc (length ys) + level = omega arith in
    ap (λ z. record { word = state_place o cpu level; found = y } ∷ z)
    (group_look_at_end o cpu (suc level) ys x
    ∙ ap (λ l. group_looks o cpu (suc level) ys
    ++ record { word = state_place o cpu l; found = x } ∷ []) same)

pub slot_look_at_end : (o : World) (cpu level number : ℕ) (xs : List ℕ) (x : ℕ)
    → walk_slot_looks o cpu level number (xs ++ x ∷ [])
    ≡ walk_slot_looks o cpu level number xs
    ++ record { word = slot_place o cpu level (length xs + number); found = x } ∷ []
slot_look_at_end o cpu level number [] x =
    let none : length {A = ℕ} [] + number ≡ number = omega arith in
    ap (λ n. record { word = slot_place o cpu level n; found = x } ∷ []) (sym none)
slot_look_at_end o cpu level number (y ∷ ys) x =
    let same : length ys + suc number ≡ suc (length ys) + number = omega arith in
    ap (λ z. record { word = slot_place o cpu level number; found = y } ∷ z)
    (slot_look_at_end o cpu level (suc number) ys x
    ∙ ap (λ n. walk_slot_looks o cpu level (suc number) ys
    ++ record { word = slot_place o cpu level n; found = x } ∷ []) same)

fold_at_end : (h : ℕ → ℕ → ℕ) (init : ℕ) (xs : List ℕ) (x : ℕ)
    → fold h init (xs ++ x ∷ []) ≡ h (fold h init xs) x
fold_at_end h init [] x = refl
fold_at_end h init (y ∷ ys) x = fold_at_end h (h init y) ys x

pub first_at_end : (xs : List ℕ) (x : ℕ)
    → first_by (xs ++ x ∷ []) ≡ first_of (first_by xs) (slot_of x)
first_at_end xs x = fold_at_end _ _ xs x

-- one more that shows no migrator
pub still_none : (xs : List ℕ) (x : ℕ) → list_any shows_migrator xs ≡ false
    → shows_migrator x ≡ false → list_any shows_migrator (xs ++ x ∷ []) ≡ false
still_none xs x none idle =
    list_any-append shows_migrator xs (x ∷ [])
    ∙ (λ i. none i || (idle i || false))
